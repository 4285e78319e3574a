-- What a row leaves of a processor: what lasts over the writing of registers, and holds where the
-- processor has moved on.
use Rattle.std.proofs.Common.{◌≡◌, ℕ, ◌==◌, Bool, true, false, cond, Option, Some, None, List, refl, subst, ◌∙◌, arith}
use Rattle.std.specs.Prelude.{⊤, slice_set}
use Rattle.std.proofs.lemmas.Bool.{cond_both}
use Rattle.std.proofs.lemmas.Bool.Decides.{nat_tests}
use Rattle.std.proofs.lemmas.List.{length-set, get_or-set_other}
use Rattle.iop_base.specs.Places.{load_at}
use Rattle.iop_base.specs.declared.guest_fault.GuestFault.TheVariants.{BranchInSlot}
use Rattle.iop_base.specs.declared.width.Width.TheVariants.{Word}
use Rattle.iop_isa.specs.declared.instruction.Inst.{Inst}
use Rattle.iop_isa.specs.Instructions.{inst_of}
use Rattle.iop_exec.specs.declared.cpu.Cpu.{Cpu}
use Rattle.iop_exec.specs.declared.cpu.Pending.{Pending}
use Rattle.iop_exec.specs.Laws.{Leaves, IsSteady, RowsGoToNext, RowsStayStraight, RowsStaySteady, cpu_after}
use Rattle.iop_exec.specs.Processors.{IsStraight}
use Rattle.iop_exec.proofs.RowPairs.{holding, gone_on, RowPairs, effect_pair}
use Rattle.iop_exec.proofs.WritingBack.{after_write_back-regs}
use Rattle.iop_exec.specs.Row.{behind_syscall, Row, Goes, Serves, Faults, at_next, after_jump, with_reg, with_pending, writes_back, after_write_back, effect_of, inst_row, word_row, row_of, row}

-- P lasts while registers are written, and Q holds once the processor has moved on
pub record RowKeeps (P Q : Cpu → Type 0) : Type 0 where
  pub writes : (c : Cpu) (n value : ℕ) → (n == 0) ≡ false → P c
      → P (record c { regs = slice_set c.regs n value })
  pub pairs : (c : Cpu) (hi lo : ℕ) → P c → P (record c { hi = hi; lo = lo })
  pub drops : (c : Cpu) → P c → P (record c { pending = None })
  pub pends : (c : Cpu) (n value : ℕ) → (n == 0) ≡ false → P c
      → P (record c { pending = Some (record { reg = n; value = value }) })
  pub moves : (c : Cpu) → P c → Q (at_next c)
  pub jumps : (c : Cpu) (target : ℕ) → P c → Q (after_jump c target)

-- so does a write to any register
pub written : {P Q : Cpu → Type 0} → RowKeeps P Q → (c : Cpu) (n value : ℕ) → P c
    → P (with_reg c n value)
written {P} {Q} h c n value has =
    cond_both (n == 0) c _ P (λ zero. has) (λ other. h.writes c n value other has)

-- and what is loaded
pub pended : {P Q : Cpu → Type 0} → RowKeeps P Q → (c : Cpu) (n value : ℕ) → P c
    → P (with_pending c n value)
pended {P} {Q} h c n value has =
    cond_both (n == 0) c _ P (λ zero. has) (λ other. h.pends c n value other has)

back_by : {P Q : Cpu → Type 0} → RowKeeps P Q → (c : Cpu) (o : Option Pending) → P c
    → P (writes_back o c)
back_by h c None has = has
back_by h c (Some load) has = h.drops _ (written h c load.reg load.value has)

-- and the writing of what is pending
pub back : {P Q : Cpu → Type 0} → RowKeeps P Q → (c : Cpu) → P c → P (after_write_back c)
back h c has = back_by h c c.pending has

-- and what holds once the processor has gone on
gone : {P Q : Cpu → Type 0} → RowKeeps P Q → (to : Option ℕ) (c : Cpu) → P c → Q (gone_on to c)
gone h None c has = h.moves c has
gone h (Some target) c has = h.jumps c target has

-- so it does where the registers are those of now, whatever the instruction does then
leaving : {P Q : Cpu → Type 0} → RowKeeps P Q → (c : Cpu) (now : List ℕ) → P (holding now c)
    → Q (behind_syscall c) → RowPairs c now (λ written brought r s. Leaves Q c r)
leaving h c now has behind = record {
  moves = λ to storing. gone h to _ has;
  pairs = λ hi lo. h.moves _ (h.pairs _ hi lo has);
  writes = λ to n value. gone h to _ (written h _ n value has);
  brings = λ n value other. h.moves _ (pended h _ n value has);
  serves = λ code. behind;
  faults = λ written brought fault. tt;
}

module _ {P Q : Cpu → Type 0} (h : RowKeeps P Q) (memory : List ℕ) (c : Cpu) (has : P c) where
  had : P (after_write_back c)
  had = back h c has

  effect_leaves : (inst : Inst) → Leaves Q c (effect_of inst memory c)
  effect_leaves inst =
      effect_pair (leaving h c _ (subst P (after_write_back-regs c) had) (h.moves _ had))
      (after_write_back-regs c) memory inst

  fault_or : (b : Bool) (r : Row) → Leaves Q c r → Leaves Q c (cond b (Faults BranchInSlot) r)
  fault_or true r leaves = tt
  fault_or false r leaves = leaves

  inst_leaves : (inst : Option Inst) → Leaves Q c (inst_row inst memory c)
  inst_leaves None = tt
  inst_leaves (Some inst) = fault_or _ _ (effect_leaves inst)

  word_leaves : (word : Option ℕ) → Leaves Q c (row_of word memory c)
  unfolding word_row
  word_leaves None = tt
  word_leaves (Some word) = inst_leaves (inst_of word)

  row_leaves : Leaves Q c (row memory c)
  unfolding row
  row_leaves = word_leaves (load_at memory c.pc Word)

-- where it faults the processor stays
kept_after : (Q : Cpu → Type 0) (c : Cpu) (r : Row) → Q c → Leaves Q c r → Q (cpu_after c r)
kept_after Q c (Goes after storing) was is = is
kept_after Q c (Serves code) was is = is
kept_after Q c (Faults fault) was is = was

-- a row goes to the next instruction
goes_to : (c : Cpu) → RowKeeps (λ d. d.next ≡ c.next) (λ d. d.pc ≡ c.next)
goes_to c = record {
  writes = λ d n value other is. is;
  pairs = λ d hi lo is. is;
  drops = λ d is. is;
  pends = λ d n value other is. is;
  moves = λ d is. is;
  jumps = λ d target is. is;
}

pub rows_go_to_next : RowsGoToNext
rows_go_to_next memory c = row_leaves (goes_to c) memory c refl

-- whatever stood there, the processor is straight
straightens : RowKeeps (λ c. ⊤) IsStraight
straightens = record {
  writes = λ c n value other is. tt;
  pairs = λ c hi lo is. tt;
  drops = λ c is. tt;
  pends = λ c n value other is. tt;
  moves = λ c is out. refl;
  jumps = λ c target is out. absurd (cc out);
}

pub rows_stay_straight : RowsStayStraight
rows_stay_straight memory c straight =
    kept_after IsStraight c (row memory c) straight (row_leaves straightens memory c tt)

-- a steady one stays so
pub steadies : RowKeeps IsSteady IsSteady
steadies = record {
  writes = λ c n value other is. record {
    straight = is.straight;
    registers = length-set c.regs n value ∙ is.registers;
    zero = get_or-set_other c.regs n 0 value 0 (λ none. grind (arith, nat_tests, other, none))
        ∙ is.zero;
    pending = is.pending;
  };
  pairs = λ c hi lo is. record {
    straight = is.straight;
    registers = is.registers;
    zero = is.zero;
    pending = is.pending;
  };
  drops = λ c is. record {
    straight = is.straight;
    registers = is.registers;
    zero = is.zero;
    pending = tt;
  };
  pends = λ c n value other is. record {
    straight = is.straight;
    registers = is.registers;
    zero = is.zero;
    pending = λ none. grind (arith, nat_tests, other, none);
  };
  moves = λ c is. record {
    straight = λ out. refl;
    registers = is.registers;
    zero = is.zero;
    pending = is.pending;
  };
  jumps = λ c target is. record {
    straight = λ out. absurd (cc out);
    registers = is.registers;
    zero = is.zero;
    pending = is.pending;
  };
}

pub rows_stay_steady : RowsStaySteady
rows_stay_steady memory c steady =
    kept_after IsSteady c (row memory c) steady (row_leaves steadies memory c steady)
