-- The forms of processors are lawful.
use Rattle.std.proofs.Common.{◌≡◌, ℕ, ◌+◌, ◌-◌, ◌≤◌, Bool, true, false, not, ◌&&◌, cond, eqb, ltb, Option, Some, None, List, [], ◌∷◌, ◌++◌, length, get_or, take, refl, sym, ap, ◌∙◌, arith}
use Rattle.std.specs.Prelude.{option_map}
use Rattle.std.proofs.lemmas.Bool.{and_parts, eqb-true}
use Rattle.std.proofs.lemmas.Option.{same_Some}
use Rattle.std.proofs.lemmas.List.{take_at, get_or-append_right, length-append, take-append-drop}
use Rattle.iop_base.specs.Numbers.{one_if}
use Rattle.iop_exec.specs.declared.cpu.Cpu.{Cpu}
use Rattle.iop_exec.specs.declared.cpu.Pending.{Pending}
use Rattle.iop_snapshot.specs.Flags.{flag_of}
use Rattle.iop_snapshot.specs.Forms.{IsLawful, item, tested}
use Rattle.iop_snapshot.specs.Items.{fits_item}
use Rattle.iop_snapshot.specs.declared.widths.TheConstants.{CPU}
use Rattle.iop_snapshot.proofs.Combining.{item_lawful, seen_tested_lawful, then_some, map_some}
use Rattle.iop_snapshot.proofs.Flags.{flag_again, flag_is}
use Rattle.iop_snapshot.proofs.Numbers.{numbers_from-all, fits_long}
use Rattle.iop_saved_threads.specs.Processors.{pending_register, pending_value, pending_of, cpu_numbers, cpu_with, cpu_of, is_for_register, is_steady, cpu_form, steady_form, is_kept, kept_form}

not_true : (b : Bool) → not b ≡ true → b ≡ false
not_true true e = absurd cc
not_true false e = refl

pending_again : (p : Option Pending) → is_for_register p ≡ true
    → pending_of (pending_register p) (pending_value p) ≡ Some p
pending_again None h = refl
pending_again (Some load) h =
    let parts = and_parts (not (eqb load.reg 0)) (ltb load.reg 32) h in
    rw (not_true (eqb load.reg 0) parts.0, parts.1) refl

-- what is pending has these numbers
record HasNumbers (p : Option Pending) (reg val : ℕ) : Type 0 where
  pub register : pending_register p ≡ reg
  pub value : pending_value p ≡ val

pending_is : (register value : ℕ) (p : Option Pending) → pending_of register value ≡ Some p
    → HasNumbers p register value
pending_is register value p e =
    by_tests (eqb register 0) (eqb value 0) (ltb register 32) (eqb-true register 0)
    (eqb-true value 0) e
  where
    load : Option Pending
    load = Some (record { reg = register; value = value })

    by_tests : (a b c : Bool) → (a ≡ true → register ≡ 0) → (b ≡ true → value ≡ 0)
        → cond a (cond b (Some None) None) (cond c (Some load) None) ≡ Some p
        → HasNumbers p register value
    by_tests true true c f g e =
        let same = same_Some None p e in record {
          register = ap pending_register (sym same) ∙ sym (f refl);
          value = ap pending_value (sym same) ∙ sym (g refl);
        }
    by_tests true false c f g e = absurd cc
    by_tests false b true f g e =
        let same = same_Some load p e in record {
          register = ap pending_register (sym same);
          value = ap pending_value (sym same);
        }
    by_tests false b false f g e = absurd cc

cpu_of-with : (ns : List ℕ) (in_slot : Bool) (pending : Option Pending)
    → flag_of (get_or ns 36 0) ≡ Some in_slot
    → pending_of (get_or ns 37 0) (get_or ns 38 0) ≡ Some pending
    → cpu_of ns ≡ Some (cpu_with ns in_slot pending)
cpu_of-with ns in_slot pending flag load = rw (flag, load) refl

-- a processor is seen in its own numbers
module _ (c : Cpu) (long : length c.regs ≡ 32) where
  abbrev rest : List ℕ
  rest =
      c.hi ∷ c.lo ∷ c.pc ∷ c.next ∷ one_if c.in_slot ∷ pending_register c.pending
      ∷ pending_value c.pending ∷ []

  at : (k : ℕ) → get_or (c.regs ++ rest) (32 + k) 0 ≡ get_or rest k 0
  at k =
      let inside : 32 ≤ 32 + k = omega arith in
      let left : 32 + k - 32 ≡ k = omega arith in
      get_or-append_right c.regs rest 32 (32 + k) 0 long inside
      ∙ ap (λ n. get_or rest n 0) left

  front : take 32 (c.regs ++ rest) ≡ c.regs
  front = take_at c.regs rest 32 long

  with_own : cpu_with (c.regs ++ rest) c.in_slot c.pending ≡ c
  with_own = rw (front, at 0, at 1, at 2, at 3) refl

  again : is_for_register c.pending ≡ true → cpu_of (cpu_numbers c) ≡ Some c
  again pending =
      cpu_of-with (c.regs ++ rest) c.in_slot c.pending
      (ap flag_of (at 4) ∙ flag_again c.in_slot)
      (rw (at 5, at 6) (pending_again c.pending pending))
      ∙ ap Some with_own

-- and numbers are those of the processor that is seen in them
back : (ns : List ℕ) (c : Cpu) → length ns ≡ 39 → cpu_of ns ≡ Some c → cpu_numbers c ≡ ns
back ns c long e =
    let one = then_some (flag_of (get_or ns 36 0))
    (λ in_slot. option_map (cpu_with ns in_slot) (pending_of (get_or ns 37 0) (get_or ns 38 0)))
    c e in
    let two = map_some (pending_of (get_or ns 37 0) (get_or ns 38 0)) (cpu_with ns one.0) c
    one.2 in
    let flag = flag_is (get_or ns 36 0) one.0 one.1 in
    let pending = pending_is (get_or ns 37 0) (get_or ns 38 0) two.0 two.1 in
    let rest = numbers_from-all 32 7 ns long in
    ap cpu_numbers (sym two.2)
    ∙ rw (flag, pending.register, pending.value) (ap (λ (l : List ℕ). take 32 ns ++ l) rest)
    ∙ take-append-drop 32 ns

module _ (test : Cpu → Bool) (steady : (c : Cpu) → test c ≡ true → is_steady c ≡ true) where
  long : (c : Cpu) → fits_item CPU (cpu_numbers c) ≡ true → length c.regs ≡ 32
  long c fits =
      let all : length (cpu_numbers c) ≡ 39 = fits_long CPU (cpu_numbers c) fits in
      let rest = c.hi ∷ c.lo ∷ c.pc ∷ c.next ∷ one_if c.in_slot ∷ pending_register c.pending
      ∷ pending_value c.pending ∷ [] in
      omega (arith, all, length-append c.regs rest)

  pub lawful_where : IsLawful (tested cpu_form test)
  unfolding cpu_form item
  lawful_where = seen_tested_lawful (item CPU) cpu_of cpu_numbers test (item_lawful CPU)
      (λ c fits passes.
      let parts = and_parts (eqb (get_or c.regs 0 0) 0 && _) (is_for_register c.pending)
      (steady c passes) in
      again c (long c fits) parts.1)
      (λ ns c fits e. back ns c (fits_long CPU ns fits) e)

pub steady_lawful : IsLawful steady_form
steady_lawful = lawful_where is_steady (λ c h. h)

pub kept_lawful : IsLawful kept_form
kept_lawful =
    lawful_where is_kept (λ c h. (and_parts (is_steady c) (not c.in_slot) h).0)
