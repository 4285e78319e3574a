-- The word of an opcode with operands of its format holds the instruction with these operands.
use Rattle.std.proofs.Common.{◌≡◌, ℕ, ◌<◌, nat_lt, Bool, true, false, ◌&&◌, ◌||◌, Some, List, refl, ap, ◌∙◌, arith}
use Rattle.std.specs.List.{list_all}
use Rattle.std.specs.Option.{option_map}
use Rattle.std.proofs.lemmas.Bool.{and_parts, ltb-true}
use Rattle.iop_isa.specs.declared.fields.Fields.{Fields}
use Rattle.iop_isa.specs.declared.opcode.Opcode.{Opcode}
use Rattle.iop_isa.specs.declared.opcode.Opcode.TheVariants.{Special, Regimm, Primary}
use Rattle.iop_isa.specs.declared.table.Operand.{Operand}
use Rattle.iop_isa.specs.declared.table.Operand.TheVariants.{Rd, Rs, Rt, Sa, Code, Signed, Bits, Label, Target}
use Rattle.iop_isa.specs.Table.{Row, rows, found}
use Rattle.iop_isa.specs.Words.{fields_of, zeros}
use Rattle.iop_isa.specs.Instructions.{number, row_inst, inst_of, word_with, Holds}
use Rattle.iop_isa.proofs.Formats.{registers_held, code_held, regimm_held, jump_held, immediate_held}
use Rattle.iop_asm.specs.Operands.{fields_with}
use Rattle.iop_asm.proofs.OperandFields.{is_apart, AreLow, Item, Lined, fold-apart, fold-low, inst_with-same, list_all-weaker, zeros_low}

-- the operands of each format
abbrev pub in_registers : Operand → Bool
in_registers o = is_apart Code o && is_apart Signed o && is_apart Target o

abbrev pub in_code : Operand → Bool
in_code o =
    is_apart Rs o && is_apart Rt o && is_apart Rd o && is_apart Sa o && is_apart Signed o
    && is_apart Target o

abbrev pub in_regimm : Operand → Bool
in_regimm o =
    is_apart Rt o && is_apart Rd o && is_apart Sa o && is_apart Code o && is_apart Target o

abbrev pub in_jump : Operand → Bool
in_jump o =
    is_apart Rs o && is_apart Rt o && is_apart Signed o && is_apart Rd o && is_apart Sa o
    && is_apart Code o

abbrev pub in_immediate : Operand → Bool
in_immediate o = is_apart Target o && is_apart Rd o && is_apart Sa o && is_apart Code o

-- the opcode and the operands of a row are of one format
abbrev pub is_formed : Opcode → List Operand → Bool
is_formed (Special function) operands =
    nat_lt function 64 && (list_all in_registers operands || list_all in_code operands)
is_formed (Regimm rt) operands = nat_lt rt 32 && list_all in_regimm operands
is_formed (Primary opcode) operands =
    (nat_lt 1 opcode && nat_lt opcode 64)
    && (list_all in_jump operands || list_all in_immediate operands)

-- fields that agree on the operands of a format
agree_registers : (f h : Fields) (o : Operand) → in_registers o ≡ true
    → number o (record h { rs = f.rs; rt = f.rt; rd = f.rd; sa = f.sa }) ≡ number o f
agree_registers f h Code t = absurd (cc)
agree_registers f h Signed t = absurd (cc)
agree_registers f h Bits t = absurd (cc)
agree_registers f h Label t = absurd (cc)
agree_registers f h Target t = absurd (cc)
agree_registers f h o t = refl

agree_code : (f h : Fields) (o : Operand) → in_code o ≡ true
    → number o (record h { n = f.n }) ≡ number o f
agree_code f h Code t = refl
agree_code f h o t = absurd (cc)

agree_regimm : (f h : Fields) (o : Operand) → in_regimm o ≡ true
    → number o (record h { rs = f.rs; imm = f.imm }) ≡ number o f
agree_regimm f h Rt t = absurd (cc)
agree_regimm f h Rd t = absurd (cc)
agree_regimm f h Sa t = absurd (cc)
agree_regimm f h Code t = absurd (cc)
agree_regimm f h Target t = absurd (cc)
agree_regimm f h o t = refl

agree_jump : (f h : Fields) (o : Operand) → in_jump o ≡ true
    → number o (record h { target = f.target }) ≡ number o f
agree_jump f h Target t = refl
agree_jump f h o t = absurd (cc)

agree_immediate : (f h : Fields) (o : Operand) → in_immediate o ≡ true
    → number o (record h { rs = f.rs; rt = f.rt; imm = f.imm }) ≡ number o f
agree_immediate f h Target t = absurd (cc)
agree_immediate f h Rd t = absurd (cc)
agree_immediate f h Sa t = absurd (cc)
agree_immediate f h Code t = absurd (cc)
agree_immediate f h o t = refl

-- what an operand of a format is not
registers_far : (o : Operand) → in_registers o ≡ true → is_apart Code o ≡ true
registers_far o t = (and_parts _ _ (and_parts _ _ t).0).0

code_far : (o : Operand) → in_code o ≡ true
    → (is_apart Rs o ≡ true) × (is_apart Rt o ≡ true) × (is_apart Rd o ≡ true)
    × (is_apart Sa o ≡ true)
code_far o t =
    let sa = and_parts _ _ (and_parts _ _ (and_parts _ _ t).0).0 in
    let rd = and_parts _ _ sa.0 in
    let rt = and_parts _ _ rd.0 in
    (rt.0, rt.1, rd.1, sa.1)

jump_far : (o : Operand) → in_jump o ≡ true
    → (is_apart Rs o ≡ true) × (is_apart Rt o ≡ true) × (is_apart Signed o ≡ true)
jump_far o t =
    let imm = and_parts _ _ (and_parts _ _ (and_parts _ _ (and_parts _ _ t).0).0).0 in
    let rt = and_parts _ _ imm.0 in
    (rt.0, rt.1, imm.1)

immediate_far : (o : Operand) → in_immediate o ≡ true → is_apart Target o ≡ true
immediate_far o t = (and_parts _ _ (and_parts _ _ (and_parts _ _ t).0).0).0

either : (b c : Bool) (A : Type 0) → (b || c) ≡ true → (b ≡ true → A) → (c ≡ true → A) → A
either true c A t first second = first refl
either false c A t first second = second t

-- the operands are read in their order, and fit
module _ (r : Row) (values : List Item) (lined : Lined r.operands values) where
  abbrev pub fields : Fields
  fields = fields_with values

  low : AreLow fields
  low = fold-low r.operands values zeros lined zeros_low

  -- what no operand of the format stands in is 0
  zero_by : (p : Operand) (test : Operand → Bool)
      → ((o : Operand) → test o ≡ true → is_apart p o ≡ true)
      → list_all test r.operands ≡ true → number p fields ≡ number p zeros
  zero_by p test apart all =
      fold-apart r.operands values zeros p lined
      (list_all-weaker test (is_apart p) apart r.operands all)

  -- a word that holds an opcode with the fields
  abbrev pub Makes : Opcode → Type 0
  Makes opcode = inst_of (word_with opcode fields) ≡ Some (row_inst fields r)

  made_by : (opcode : Opcode) (g : Fields) (test : Operand → Bool)
      → found rows opcode ≡ Some r → Holds (word_with opcode fields) opcode g
      → ((o : Operand) → test o ≡ true → number o g ≡ number o fields)
      → list_all test r.operands ≡ true → Makes opcode
  made_by opcode g test is held agree all =
      held.0 ∙ ap (option_map (row_inst g)) is
      ∙ ap Some (inst_with-same r.operands r.inst fields g test agree all)

  by_registers : (function : ℕ) → found rows (Special function) ≡ Some r → function < 64
      → list_all in_registers r.operands ≡ true → Makes (Special function)
  by_registers function is small all =
      let n = zero_by Code in_registers registers_far all in
      let word : ℕ = word_with (Special function) fields in
      let held : Fields = record (fields_of word) {
        rs = fields.rs;
        rt = fields.rt;
        rd = fields.rd;
        sa = fields.sa;
      } in
      made_by (Special function) held in_registers is
      (registers_held word function fields.rs fields.rt fields.rd fields.sa small (low Rs) (low Rt)
      (low Rd) (low Sa) (omega (arith, n)))
      (agree_registers fields (fields_of word)) all

  by_code : (function : ℕ) → found rows (Special function) ≡ Some r → function < 64
      → list_all in_code r.operands ≡ true → Makes (Special function)
  by_code function is small all =
      let rs = zero_by Rs in_code (λ o t. (code_far o t).0) all in
      let rt = zero_by Rt in_code (λ o t. (code_far o t).1) all in
      let rd = zero_by Rd in_code (λ o t. (code_far o t).2) all in
      let sa = zero_by Sa in_code (λ o t. (code_far o t).3) all in
      let word : ℕ = word_with (Special function) fields in
      made_by (Special function) (record (fields_of word) { n = fields.n }) in_code is
      (code_held word function fields.n small (low Code) (omega (arith, rs, rt, rd, sa)))
      (agree_code fields (fields_of word)) all

  by_regimm : (rt : ℕ) → found rows (Regimm rt) ≡ Some r → rt < 32
      → list_all in_regimm r.operands ≡ true → Makes (Regimm rt)
  by_regimm rt is small all =
      let word : ℕ = word_with (Regimm rt) fields in
      let held : Fields = record (fields_of word) { rs = fields.rs; imm = fields.imm } in
      made_by (Regimm rt) held in_regimm is
      (regimm_held word rt fields.rs fields.imm small (low Rs) (low Bits) refl)
      (agree_regimm fields (fields_of word)) all

  by_jump : (opcode : ℕ) → found rows (Primary opcode) ≡ Some r → 1 < opcode → opcode < 64
      → list_all in_jump r.operands ≡ true → Makes (Primary opcode)
  by_jump opcode is some small all =
      let rs = zero_by Rs in_jump (λ o t. (jump_far o t).0) all in
      let rt = zero_by Rt in_jump (λ o t. (jump_far o t).1) all in
      let imm = zero_by Signed in_jump (λ o t. (jump_far o t).2) all in
      let word : ℕ = word_with (Primary opcode) fields in
      made_by (Primary opcode) (record (fields_of word) { target = fields.target }) in_jump is
      (jump_held word opcode fields.target some small (low Target) (omega (arith, rs, rt, imm)))
      (agree_jump fields (fields_of word)) all

  by_immediate : (opcode : ℕ) → found rows (Primary opcode) ≡ Some r → 1 < opcode → opcode < 64
      → list_all in_immediate r.operands ≡ true → Makes (Primary opcode)
  by_immediate opcode is some small all =
      let target = zero_by Target in_immediate immediate_far all in
      let word : ℕ = word_with (Primary opcode) fields in
      let held : Fields = record (fields_of word) {
        rs = fields.rs;
        rt = fields.rt;
        imm = fields.imm;
      } in
      made_by (Primary opcode) held in_immediate is
      (immediate_held word opcode fields.rs fields.rt fields.imm some small (low Rs) (low Rt)
      (low Bits) (omega (arith, target)))
      (agree_immediate fields (fields_of word)) all

  -- by its format
  pub by_format : (opcode : Opcode) → found rows opcode ≡ Some r
      → is_formed opcode r.operands ≡ true → Makes opcode
  by_format (Special function) is formed =
      let parts = and_parts _ _ formed in
      let small = ltb-true function 64 parts.0 in
      either _ _ (Makes (Special function)) parts.1 (by_registers function is small)
      (by_code function is small)
  by_format (Regimm rt) is formed =
      let parts = and_parts _ _ formed in by_regimm rt is (ltb-true rt 32 parts.0) parts.1
  by_format (Primary opcode) is formed =
      let parts = and_parts _ _ formed in
      let bounds = and_parts _ _ parts.0 in
      let some = ltb-true 1 opcode bounds.0 in
      let small = ltb-true opcode 64 bounds.1 in
      either _ _ (Makes (Primary opcode)) parts.1 (by_jump opcode is some small)
      (by_immediate opcode is some small)
