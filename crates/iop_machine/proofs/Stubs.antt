-- A live stub that a thread or a handler executes, and the instruction behind it.
use Rattle.std.proofs.Common.{◌≡◌, ℕ, ◌+◌, ◌*◌, ◌/◌, ◌%◌, ◌^◌, ◌<◌, ◌≤◌, nat_lt, Bool, true, false, cond, ◌&&◌, ◌||◌, not, Some, None, length, refl, ap, ◌∙◌, subst, arith, inl, inr}
use Rattle.std.specs.Prelude.{option_map, is_some, Contains}
use Rattle.std.proofs.lemmas.Bool.{le-leb}
use Rattle.std.proofs.lemmas.Bool.Decides.{nat_tests}
use Rattle.std.proofs.lemmas.List.Elements.{All-contains}
use Rattle.iop_base.specs.Numbers.{number_at, wrapped}
use Rattle.iop_base.specs.Places.{IsRamSize, is_mapped, phys, load_at}
use Rattle.iop_base.specs.declared.guest_fault.GuestFault.TheVariants.{BranchInSlot}
use Rattle.iop_base.specs.declared.width.Width.TheVariants.{Word}
use Rattle.iop_exec.specs.Processors.{IsStraight}
use Rattle.iop_exec.specs.Processors.{standing_at, position_after_jump}
use Rattle.iop_exec.specs.Row.{Row, Goes, Faults, effect_of, inst_row, jumps, at_next, after_write_back, row, word_row}
use Rattle.iop_exec.proofs.WritingBack.{position-after_write_back, pending-after_write_back, after_write_back-none}
use Rattle.iop_exec.specs.declared.cpu.Cpu.{Cpu}
use Rattle.iop_exec.proofs.Rows.{row_some}
use Rattle.iop_isa.specs.Instructions.{inst_of}
use Rattle.iop_isa.specs.Table.{row_of}
use Rattle.iop_isa.specs.Targets.{jump_target}
use Rattle.iop_isa.specs.Words.{opcode_of, rs_of, rt_of, imm_of, target_of}
use Rattle.iop_isa.specs.declared.instruction.Inst.TheVariants.{Addiu, J}
use Rattle.iop_kernel.specs.Deliveries.{may_deliver, delivers}
use Rattle.iop_kernel.specs.System.{Core, in_handler}
use Rattle.iop_kernel_laws.proofs.Keeping.Settled.{settled_later}
use Rattle.iop_kernel.proofs.Order.Nothing.{delivers_some, none_of}
use Rattle.iop_stubs.specs.Binding.{IsBound, IsSound}
use Rattle.iop_stubs.specs.Stubs.{Memory}
use Rattle.iop_stubs.specs.declared.live_stub.Stub.{Stub}
use Rattle.iop_stubs.proofs.Storing.{number_at-live}
use Rattle.iop_machine.specs.Iop.{Iop, silent, with_state, core_of}
use Rattle.iop_machine.specs.Looking.{takes_events}
use Rattle.iop_machine.specs.Services.{faults_with}
use Rattle.iop_machine.specs.Stepping.{performs, step, steps}
use Rattle.iop_machine.specs.StubLaws.{StubsReachTheirFunctions, stub_row, stub_target, IsFollowed, ExecutesStub, StubsAreFollowed, behind_stub}
use Rattle.iop_machine.specs.World.{World, booted, beginning}
use Rattle.iop_machine.proofs.Landing.{runs_stay_sound}
use Rattle.iop_machine.proofs.LookingLemmas.{taken_irqs, taken_active, taken_core, dispatches_taken}
use Rattle.iop_machine.proofs.LinesAside.{dispatched_with}
use Rattle.iop_machine.proofs.Stepping.{IsToExecute, executes_so, executes_booted, next_performs}

-- an option that is there only if a test passes has no other value
pub chosen : (b : Bool) (x y : ℕ) → cond b (Some x) None ≡ Some y → x ≡ y
chosen true x y e = cc e
chosen false x y e = absurd (cc e)

-- and the test passes where it is there
passes : (b : Bool) (x y : ℕ) → cond b (Some x) None ≡ Some y → b ≡ true
passes true x y e = refl
passes false x y e = absurd (cc e)

-- an address that is seen through one of the segments has the place of its rest
phys_of : (size at : ℕ) → (is_mapped (at / 0x20000000) && nat_lt (at % 0x20000000) size) ≡ true
    → phys size at ≡ Some (at % 0x20000000)
phys_of size at test = rw test refl

-- the segments end below the last address
low_segment : (segment rest size : ℕ) → (is_mapped segment && nat_lt rest size) ≡ true
    → segment ≤ 5
low_segment segment rest size test = grind (arith, nat_tests, test)

-- another rest of the same segment
same_segment : (segment rest other size : ℕ) → (is_mapped segment && nat_lt rest size) ≡ true
    → other < size → (is_mapped segment && nat_lt other size) ≡ true
same_segment segment rest other size test small = grind (arith, nat_tests, test, small)

-- memory is small beside a segment
below_segment : (size : ℕ) → IsRamSize size → size < 0x20000000
below_segment size (inl e) = omega (arith, e)
below_segment size (inr e) = omega (arith, e)

-- whether it stands in a slot alone decides
by_slot : (b : Bool) (x y : Row) → cond (b && true) x y ≡ cond b x y
by_slot true x y = refl
by_slot false x y = refl

-- a live stub at the place of the processor: its word is a jump to its function
module _ (memory : Memory) (stub : Stub) (c : Cpu) (sound : IsSound memory)
    (has : Contains memory.live stub) (place : phys (length memory.ram) c.pc ≡ Some stub.at) where
  bound : IsBound memory.ram stub
  bound = All-contains (IsBound memory.ram) memory.live stub sound.bound has

  at_is : c.pc % 0x20000000 ≡ stub.at
  at_is = chosen _ _ _ place

  word_is : load_at memory.ram c.pc Word ≡ Some (number_at memory.ram stub.at 4)
  word_is =
      let aligned : c.pc % 4 ≡ 0 = omega (arith, at_is, bound.aligned) in
      let fits = le-leb (stub.at + 4) (length memory.ram) (omega (arith, bound.inside, sound.sized))
      in
      rw (aligned, place, fits) refl

  inst_is : inst_of (number_at memory.ram stub.at 4) ≡ Some (J (stub.target / 4))
  unfolding inst_of row_of
  inst_is =
      let word = number_at memory.ram stub.at 4 in
      let jump = number_at-live memory.ram stub bound in
      let in_opcode : opcode_of word ≡ 2 = omega (arith, jump, bound.target_near) in
      let in_target : target_of word ≡ stub.target / 4 = omega (arith, jump, bound.target_near) in
      rw (in_opcode, in_target) refl

  target_is : jump_target c.pc (stub.target / 4) ≡ stub_target c.pc stub
  target_is =
      let whole : stub.target / 4 * 4 ≡ stub.target = omega (arith, bound.target_aligned) in
      ap (λ t. wrapped (c.pc + 4) / 2 ^ 28 * 2 ^ 28 + t) whole

  reaches : row memory.ram c ≡ stub_row c stub
  unfolding effect_of word_row
  reaches =
      row_some memory.ram c (number_at memory.ram stub.at 4) word_is
      ∙ ap (λ i. inst_row i memory.ram c) inst_is
      ∙ by_slot c.in_slot (Faults BranchInSlot) (jumps c (jump_target c.pc (stub.target / 4)))
      ∙ ap (λ t. cond c.in_slot (Faults BranchInSlot) (jumps c t)) target_is
      ∙ ap (λ p. cond c.in_slot (Faults BranchInSlot)
      (Goes (standing_at (position_after_jump p (stub_target c.pc stub)) (after_write_back c)) None))
      (position-after_write_back c)

  -- behind it stands its second word
  abbrev pub behind_at : ℕ
  behind_at = wrapped (c.pc + 4)

  test : (is_mapped (c.pc / 0x20000000) && nat_lt (c.pc % 0x20000000) (length memory.ram)) ≡ true
  test = passes _ _ _ place

  second_place : phys (length memory.ram) behind_at ≡ Some (stub.at + 4)
  second_place =
      let size = length memory.ram in
      let low = low_segment (c.pc / 0x20000000) (c.pc % 0x20000000) size test in
      let small = below_segment size sound.sized in
      let segment : behind_at / 0x20000000 ≡ c.pc / 0x20000000 =
      omega (arith, at_is, bound.inside, small, low) in
      let rest : behind_at % 0x20000000 ≡ stub.at + 4 =
      omega (arith, at_is, bound.inside, small, low) in
      let inside : behind_at % 0x20000000 < size = omega (arith, rest, bound.inside) in
      let same = same_segment (c.pc / 0x20000000) (c.pc % 0x20000000) (behind_at % 0x20000000) size
      test inside in
      phys_of size behind_at
      (ap (λ n. is_mapped n && nat_lt (behind_at % 0x20000000) size) segment ∙ same)
      ∙ ap Some rest

  second_word : load_at memory.ram behind_at Word ≡ Some (number_at memory.ram (stub.at + 4) 4)
  second_word =
      let aligned : behind_at % 4 ≡ 0 = omega (arith, at_is, bound.aligned) in
      let fits = le-leb (stub.at + 4 + 4) (length memory.ram) (omega (arith, bound.inside)) in
      rw (aligned, second_place, fits) refl

  -- which is addiu $0, $0, index
  second_inst : inst_of (number_at memory.ram (stub.at + 4) 4) ≡ Some (Addiu 0 0 stub.index)
  unfolding inst_of row_of
  second_inst =
      let word = number_at memory.ram (stub.at + 4) 4 in
      let in_opcode : opcode_of word ≡ 9 = omega (arith, bound.index, bound.index_small) in
      let in_rs : rs_of word ≡ 0 = omega (arith, bound.index, bound.index_small) in
      let in_rt : rt_of word ≡ 0 = omega (arith, bound.index, bound.index_small) in
      let in_imm : imm_of word ≡ stub.index = omega (arith, bound.index, bound.index_small) in
      rw (in_opcode, in_rs, in_rt, in_imm) refl

  -- a processor that stands there in a slot, with nothing pending, goes on and changes nothing else
  second_row : (d : Cpu) → d.pc ≡ behind_at → d.in_slot ≡ true → d.pending ≡ None
      → row memory.ram d ≡ Goes (at_next d) None
  unfolding effect_of word_row
  second_row d at slot none =
      row_some memory.ram d (number_at memory.ram (stub.at + 4) 4)
      (ap (λ pc. load_at memory.ram pc Word) at ∙ second_word)
      ∙ ap (λ i. inst_row i memory.ram d) second_inst
      ∙ ap (λ b. cond (b && false) (Faults BranchInSlot) (Goes (at_next (after_write_back d)) None))
      slot
      ∙ ap (λ x. Goes (at_next x) None) (after_write_back-none d none)

pub stubs_reach_their_functions : StubsReachTheirFunctions
stubs_reach_their_functions = λ memory stub c sound has place. reaches memory stub c sound has place

-- the step of a thread that runs or a handler that is active
performs_as : (s : Iop) (r : Row) → IsToExecute s
    → (let v = takes_events s in row v.memory.ram v.cpu ≡ r)
    → step (booted s) ≡ with_state booted (performs (takes_events s) r)
performs_as s r h e =
    (next_performs s 1 h.over h.looks (omega arith)).step_is
    ∙ ap (λ x. with_state booted (performs (takes_events s) x)) e

-- in a slot nothing may be delivered to a thread that runs, and to a handler nothing may ever
closed_by : (interrupts handler running slot : Bool) → (handler || running) ≡ true → slot ≡ true
    → (interrupts && not handler && not (running && slot)) ≡ false
closed_by interrupts handler running slot active is = grind (arith, nat_tests)

-- so nothing is
closed_delivers : (c : Core) → may_deliver c ≡ false → delivers c ≡ None
closed_delivers c closed = none_of (delivers c) (delivers_some c ∙ rw closed refl)

module _ (s : Iop) (stub : Stub) (h : IsToExecute s) (sound : IsSound s.memory)
    (has : Contains s.memory.live stub) (place : phys (length s.memory.ram) s.cpu.pc ≡ Some stub.at)
  where
    -- in a slot it faults
    faults : s.cpu.in_slot ≡ true
        → step (booted s) ≡ silent (booted (faults_with (takes_events s) BranchInSlot))
    faults inside =
        performs_as s (Faults BranchInSlot) h
        (reaches s.memory stub s.cpu sound has place
        ∙ ap (λ b. cond b (Faults BranchInSlot) (Goes (behind_stub s stub).cpu None)) inside)

    module _ (straight : IsStraight s.cpu) (out : s.cpu.in_slot ≡ false) where
      abbrev behind : Iop
      behind = behind_stub (takes_events s) stub

      goes : row s.memory.ram s.cpu ≡ Goes behind.cpu None
      goes =
          reaches s.memory stub s.cpu sound has place
          ∙ ap (λ b. cond b (Faults BranchInSlot) (Goes behind.cpu None)) out

      -- the same executes in the slot, where nothing is delivered or dispatched
      goes_on : IsToExecute behind
      goes_on = record {
        over = h.over;
        looks = record {
          delivery_is = closed_delivers (core_of (takes_events behind))
              (ap may_deliver (taken_core behind)
              ∙ closed_by behind.kernel.interrupts (in_handler behind.kernel)
              (is_some behind.kernel.threads.running) true h.looks.active_is refl);
          dispatch_is = dispatches_taken behind
              ∙ ap (option_map (dispatched_with (taken_irqs behind)))
              (settled_later (core_of (takes_events s)) ((takes_events s).kernel.clock + 1)
              behind.cpu h.looks.dispatch_is);
          active_is = taken_active behind ∙ h.looks.active_is;
        };
      }

      -- the second word goes on, and changes nothing else
      abbrev onward : Row
      onward = Goes (at_next behind.cpu) None

      followed : IsFollowed (booted s) stub
      followed = record {
        slot = performs_as s (Goes behind.cpu None) h goes;
        between = (next_performs behind 1 goes_on.over goes_on.looks (omega arith)).executing_is;
        target = performs_as behind onward goes_on
            (second_row s.memory stub s.cpu sound has place behind.cpu (straight out) refl
            (pending-after_write_back s.cpu));
      }

-- in each state that a run reaches
pub stubs_are_followed : StubsAreFollowed
stubs_are_followed = λ size modules events k stub sized e has place.
    let w = (steps k (beginning size modules events)).state in
    let h = executes_so w e in
    let holds = runs_stay_sound size modules events k sized in
    subst (λ (w : World). ExecutesStub w stub) (executes_booted w e) (record {
      goes = λ out.
          followed w.iop stub h holds.whole.sound has place holds.core.steady.straight out;
      faults = λ inside. faults w.iop stub h holds.whole.sound has place inside;
    })
