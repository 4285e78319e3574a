-- What the words of each format hold.
use Rattle.std.proofs.Common.{◌≡◌, ℕ, ◌+◌, ◌*◌, ◌<◌, ◌^◌, nat_eq, false, refl, option_map, arith}
use Rattle.std.proofs.lemmas.Bool.Decides.{nat_tests}
use Rattle.iop_isa.specs.declared.fields.Fields.{Fields}
use Rattle.iop_isa.specs.declared.opcode.Opcode.{Opcode}
use Rattle.iop_isa.specs.declared.opcode.Opcode.TheVariants.{Special, Regimm, Primary}
use Rattle.iop_isa.specs.Words.{opcode_of, rs_of, rt_of, rd_of, sa_of, function_of, n_of, imm_of, target_of, fields_of}
use Rattle.iop_isa.specs.Table.{rows, found, selected_by, row_of}
use Rattle.iop_isa.specs.Instructions.{inst_of, plain_word, row_inst, Holds}

module _ (word : ℕ) where
  held_by : (opcode : Opcode) (f : Fields)
      → selected_by word ≡ opcode → fields_of word ≡ f → Holds word opcode f
  unfolding inst_of plain_word row_of
  held_by opcode f s e =
      let inst : inst_of word ≡ option_map (row_inst f) (found rows opcode) = rw (← s, ← e) refl in
      (inst, rw (← s, ← e) refl)

  in_special : (function : ℕ)
      → opcode_of word ≡ 0 → function_of word ≡ function → selected_by word ≡ Special function
  in_special function o f = rw (o, f) refl

  in_regimm : (rt : ℕ)
      → opcode_of word ≡ 1 → rt_of word ≡ rt → selected_by word ≡ Regimm rt
  in_regimm rt o r = rw (o, r) refl

  in_primary : (opcode : ℕ)
      → 1 < opcode → opcode_of word ≡ opcode → selected_by word ≡ Primary opcode
  in_primary opcode some o =
      let other : nat_eq opcode 0 ≡ false = grind (arith, nat_tests) in
      let another : nat_eq opcode 1 ≡ false = grind (arith, nat_tests) in
      rw (o, other, another) refl

  pub registers_held : (function rs rt rd sa : ℕ)
      → function < 64 → rs < 32 → rt < 32 → rd < 32 → sa < 32
      → word ≡ rs * 2 ^ 21 + rt * 2 ^ 16 + rd * 2 ^ 11 + sa * 2 ^ 6 + function
      → Holds word (Special function)
      (record (fields_of word) { rs = rs; rt = rt; rd = rd; sa = sa })
  registers_held function rs rt rd sa f s t d a e =
      let in_rs : rs_of word ≡ rs = omega arith in
      let in_rt : rt_of word ≡ rt = omega arith in
      let in_rd : rd_of word ≡ rd = omega arith in
      let in_sa : sa_of word ≡ sa = omega arith in
      held_by (Special function) _ (in_special function (omega arith) (omega arith))
      (rw (in_rs, in_rt, in_rd, in_sa) refl)

  pub code_held : (function n : ℕ)
      → function < 64 → n < 2 ^ 20 → word ≡ n * 2 ^ 6 + function
      → Holds word (Special function) (record (fields_of word) { n = n })
  code_held function n f below e =
      let in_n : n_of word ≡ n = omega arith in
      held_by (Special function) _ (in_special function (omega arith) (omega arith))
      (rw in_n refl)

  pub regimm_held : (rt rs imm : ℕ)
      → rt < 32 → rs < 32 → imm < 2 ^ 16
      → word ≡ 2 ^ 26 + rs * 2 ^ 21 + rt * 2 ^ 16 + imm
      → Holds word (Regimm rt) (record (fields_of word) { rs = rs; imm = imm })
  regimm_held rt rs imm t s i e =
      let in_rs : rs_of word ≡ rs = omega arith in
      let in_imm : imm_of word ≡ imm = omega arith in
      held_by (Regimm rt) _ (in_regimm rt (omega arith) (omega arith)) (rw (in_rs, in_imm) refl)

  pub jump_held : (opcode target : ℕ)
      → 1 < opcode → opcode < 64 → target < 2 ^ 26
      → word ≡ opcode * 2 ^ 26 + target
      → Holds word (Primary opcode) (record (fields_of word) { target = target })
  jump_held opcode target some o t e =
      let in_target : target_of word ≡ target = omega arith in
      held_by (Primary opcode) _ (in_primary opcode some (omega arith)) (rw in_target refl)

  pub immediate_held : (opcode rs rt imm : ℕ)
      → 1 < opcode → opcode < 64 → rs < 32 → rt < 32 → imm < 2 ^ 16
      → word ≡ opcode * 2 ^ 26 + rs * 2 ^ 21 + rt * 2 ^ 16 + imm
      → Holds word (Primary opcode) (record (fields_of word) { rs = rs; rt = rt; imm = imm })
  immediate_held opcode rs rt imm some o s t i e =
      let in_rs : rs_of word ≡ rs = omega arith in
      let in_rt : rt_of word ≡ rt = omega arith in
      let in_imm : imm_of word ≡ imm = omega arith in
      held_by (Primary opcode) _ (in_primary opcode some (omega arith))
      (rw (in_rs, in_rt, in_imm) refl)
