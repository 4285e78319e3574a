-- What a copy refuses, and the bytes that it stores.
use Rattle.std.proofs.Common.{◌≡◌, ℕ, ◌+◌, ◌≤◌, ◌==◌, Bool, true, false, cond, Option, Some, None, option_and_then, Err, List, length, drop, refl, ap, arith}
use Rattle.std.specs.List.{All}
use Rattle.std.specs.Option.{ok_or}
use Rattle.std.proofs.lemmas.List.{length-take-le, length-drop}
use Rattle.std.proofs.lemmas.List.Elements.{All-take, All-drop}
use Rattle.iop_base.specs.Numbers.{IsByte}
use Rattle.iop_base.specs.Output.{Output, Gives}
use Rattle.iop_base.proofs.Giving.{gives_none}
use Rattle.iop_stubs.specs.Stubs.{Memory, range_place, store_lines}
use Rattle.iop_stubs.specs.Copying.{copy_place}
use Rattle.iop_stubs.specs.Lending.{range_bytes}

-- what was not found is none
none_of : {E : Type 0} (found : Option ℕ) (x y : E) → Err y ≡ ok_or found x → found ≡ None
none_of None x y e = refl
none_of (Some place) x y e = cc

none_then : (found place : Option ℕ) → place ≡ None
    → option_and_then (λ (source : ℕ). place) found ≡ None
none_then None place none = refl
none_then (Some source) place none = none

module _ {E : Type 0} (seen : Output) (t : ℕ) (memory : Memory) (to from len : ℕ) (x y : E) where
  no_lines : (b : Bool) (place : Option ℕ) → place ≡ None
      → Gives seen seen (store_lines t memory (cond b None place) len)
  no_lines true place none = gives_none seen
  no_lines false place none = rw none (gives_none seen)

  -- a copy that is refused has no line: one of its ranges is not in RAM
  pub copy_lines-no_source : Err y ≡ ok_or (range_place memory from len) x
      → Gives seen seen (store_lines t memory (copy_place memory to from len) len)
  copy_lines-no_source e =
      no_lines (len == 0) _
      (ap (option_and_then (λ (source : ℕ). range_place memory to len))
      (none_of (range_place memory from len) x y e))

  pub copy_lines-no_place : Err y ≡ ok_or (range_place memory to len) x
      → Gives seen seen (store_lines t memory (copy_place memory to from len) len)
  copy_lines-no_place e =
      no_lines (len == 0) _
      (none_then (range_place memory from len) (range_place memory to len)
      (none_of (range_place memory to len) x y e))

-- the bytes of a range that lies in RAM
module _ (ram : List ℕ) (place len : ℕ) where
  pub length-range_bytes : place + len ≤ length ram → length (range_bytes ram (Some place) len) ≡ len
  length-range_bytes inside =
      length-take-le len (drop place ram) (omega (arith, length-drop place ram))

  pub All-range_bytes : All IsByte ram → All IsByte (range_bytes ram (Some place) len)
  All-range_bytes bytes = All-take IsByte len (drop place ram) (All-drop IsByte place ram bytes)
