-- A processor stays as it can be read over each instruction: what is pending of a load is for one
-- of the 32 registers.
use Rattle.std.proofs.Common.{◌≡◌, ℕ, ◌<◌, Bool, true, false, cond, Option, Some, None, IfSome, List, [], ◌∷◌, refl, ap, sym, ◌∙◌, subst, arith}
use Rattle.std.specs.Prelude.{option_map, option_and_then, ◌==◌}
use Rattle.std.proofs.lemmas.Bool.{cond_both}
use Rattle.std.proofs.lemmas.Option.{same_Some}
use Rattle.iop_base.specs.Places.{load_at}
use Rattle.iop_base.specs.declared.width.Width.TheVariants.{Word}
use Rattle.iop_exec.specs.Laws.{Leaves, cpu_after}
use Rattle.iop_exec.specs.LoadDelays.{Begins, LoadsBegin, LoadsArrive, arrives_behind, brings, inst_at, number_for, writes}
use Rattle.iop_exec.specs.Row.{Row, Goes, Serves, Faults, behind_syscall, word_row, row}
use Rattle.iop_exec.specs.declared.cpu.Cpu.{Cpu}
use Rattle.iop_exec.specs.declared.cpu.Pending.{Pending}
use Rattle.iop_exec.proofs.RowKeeps.{rows_stay_steady}
use Rattle.iop_exec.proofs.WritingBack.{pending-after_write_back}
use Rattle.iop_isa.specs.Instructions.{inst_of, row_inst}
use Rattle.iop_isa.specs.Table as table
use Rattle.iop_isa.specs.Table.{rows, found, same}
use Rattle.iop_isa.specs.Words.{fields_of}
use Rattle.iop_isa.specs.declared.fields.Fields.{Fields}
use Rattle.iop_isa.specs.declared.instruction.Inst.{Inst}
use Rattle.iop_isa.specs.declared.opcode.Opcode.{Opcode}
use Rattle.iop_saved_kernel.specs.Laws.{IsReadable}

-- what is pending is for one of the 32 registers
abbrev IsSmall : Option Pending → Type 0
IsSmall o = IfSome o (λ load. load.reg < 32)

-- a number for one of them
small_number : (n : ℕ) → n < 32 → (o : Option ℕ) → IsSmall (number_for n o)
small_number n small None = tt
small_number n small (Some number) = cond_both (n == 0) None _ IsSmall (λ zero. tt) (λ other. small)

-- an instruction brings what is for one of them
abbrev BringsSmall : Inst → Type 0
BringsSmall inst = (memory read merged : List ℕ) → IsSmall (brings inst memory read merged)

module _ (f : Fields) (memory read merged : List ℕ) where
  -- so does that of a row of the table, with these fields
  abbrev IsGood : table.Row → Type 0
  IsGood r = IsSmall (brings (row_inst f r) memory read merged)

  abbrev AreGood : List table.Row → Type 0
  AreGood [] = Unit {0}
  AreGood (r ∷ rest) = IsGood r × AreGood rest

  -- where `rt` is one of the registers, that of each row does
  all_good : f.rt < 32 → AreGood rows
  all_good small = search (small_number f.rt small)

  -- and that of one that is found among such
  found_good : (rs : List table.Row) → AreGood rs → (opcode : Opcode) (r : table.Row)
      → found rs opcode ≡ Some r → IsGood r
  found_good [] all opcode r is = absurd (cc is)
  found_good (first ∷ rest) all opcode r is =
      by (same opcode first.opcode) is (found_good rest all.1 opcode r)
    where
      by : (b : Bool) → cond b (Some first) (found rest opcode) ≡ Some r
          → (found rest opcode ≡ Some r → IsGood r) → IsGood r
      by true is later = subst IsGood (same_Some _ r is) all.0
      by false is later = later is

-- so it is for each word
row_brings : (word : ℕ) (inst : Inst) (o : Option table.Row) → table.row_of word ≡ o
    → option_map (row_inst (fields_of word)) o ≡ Some inst → BringsSmall inst
unfolding table.row_of
row_brings word inst None at is = absurd (cc is)
row_brings word inst (Some r) at is =
    subst BringsSmall (same_Some (row_inst (fields_of word) r) inst is)
    (λ memory read merged.
    let f = fields_of word in
    let small : f.rt < 32 = omega arith in
    found_good f memory read merged rows (all_good f memory read merged small)
    (table.selected_by word) r at)

word_brings : (word : ℕ) (inst : Inst) → inst_of word ≡ Some inst → BringsSmall inst
unfolding inst_of
word_brings word inst is = row_brings word inst (table.row_of word) refl is

module _ (begin : LoadsBegin) (arrive : LoadsArrive) (memory : List ℕ) (c : Cpu)
    (h : IsReadable c) where
  abbrev Small : Cpu → Type 0
  Small d = IsSmall d.pending

  -- behind a `syscall` nothing is pending
  none_behind : Small (behind_syscall c)
  none_behind = subst IsSmall (sym (pending-after_write_back c)) tt

  begun_small : (written : Option ℕ) (brought : Option Pending) → IsSmall brought → (r : Row)
      → Leaves (Begins brought written c) c r → Leaves Small c r
  begun_small written brought small (Goes after storing) begun =
      subst IsSmall (sym begun.pending) small
  begun_small written brought small (Serves code) begun = none_behind
  begun_small written brought small (Faults fault) begun = tt

  arrived_small : (load : Pending) (written : Option ℕ) (brought : Option Pending)
      → IsSmall brought → (r : Row) → Leaves Small c (arrives_behind load written brought r)
  arrived_small load written brought small (Goes after storing) = small
  arrived_small load written brought small (Serves code) = none_behind
  arrived_small load written brought small (Faults fault) = tt

  -- by what is pending before
  by_pending : (inst : Inst) → inst_at memory c ≡ Some inst → BringsSmall inst
      → (o : Option Pending) → c.pending ≡ o → Leaves Small c (row memory c)
  by_pending inst at small None is =
      begun_small (writes inst) _ (small memory c.regs c.regs) (row memory c)
      (begin memory c inst at is)
  by_pending inst at small (Some load) is =
      subst (Leaves Small c) (sym (arrive memory c load inst at is (above is)))
      (arrived_small load (writes inst) _ (small memory _ _) (row memory (record c {
        pending = None;
      })))
    where
      above : c.pending ≡ Some load → load.reg ≡ 0 → ⊥
      above is = subst (λ o. IfSome o (λ (load : Pending). load.reg ≡ 0 → ⊥)) is h.steady.pending

  -- by the instruction that stands there
  by_inst : (word : ℕ) → load_at memory c.pc Word ≡ Some word → (o : Option Inst)
      → inst_of word ≡ o → Leaves Small c (row memory c)
  unfolding row word_row
  by_inst word at None is = rw (at, is) tt
  by_inst word at (Some inst) is =
      by_pending inst (ap (option_and_then inst_of) at ∙ is) (word_brings word inst is) c.pending
      refl

  -- by the word at pc
  by_word : (word : Option ℕ) → load_at memory c.pc Word ≡ word → Leaves Small c (row memory c)
  unfolding row
  by_word None at = rw at tt
  by_word (Some word) at = by_inst word at (inst_of word) refl

  small_after : (r : Row) → Leaves Small c r → Small (cpu_after c r)
  small_after (Goes after storing) small = small
  small_after (Serves code) small = small
  small_after (Faults fault) small = h.register

  -- whatever it is
  pub stays_readable : IsReadable (cpu_after c (row memory c))
  stays_readable = record {
    steady = rows_stay_steady memory c h.steady;
    register = small_after (row memory c) (by_word (load_at memory c.pc Word) refl);
  }
