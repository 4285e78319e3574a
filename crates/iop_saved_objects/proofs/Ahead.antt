-- What is still to be written of a list.
use Rattle.std.proofs.Common.{◌≡◌, ℕ, zero, suc, ◌+◌, Some, None, Result, Ok, Err, List, [], ◌∷◌, drop, sym, ◌∙◌, subst, arith}
use Rattle.std.specs.Prelude.{slice_get}
use Rattle.std.specs.Result.{IsErr}
use Rattle.std.proofs.lemmas.Bool.{and_from}
use Rattle.std.proofs.lemmas.Option.{none-some, same_Some}
use Rattle.iop_base.specs.declared.write_fault.WriteFault.{WriteFault}
use Rattle.iop_snapshot.specs.Forms.{Form, spell_list, fits_list}
use Rattle.iop_snapshot.specs.Writing.{Place, Writes}
use Rattle.iop_snapshot.proofs.Saving.{if_ok}
use Rattle.iop_snapshot.proofs.Sending.{writes_exit, writes_then}
use Rattle.iop_saved_objects.specs.Lists.{list_of, with_list}
use Rattle.iop_saved_objects.specs.Saved.{IsSaved}

-- the item at a place, and those behind it
first_at : {X : Type 0} (k : ℕ) (xs : List X) (x : X) (rest : List X)
    → drop k xs ≡ x ∷ rest → (slice_get xs k ≡ Some x) × (drop (suc k) xs ≡ rest)
first_at zero (y ∷ xs) x rest e = (cc, cc)
first_at zero [] x rest e = absurd cc
first_at (suc k) [] x rest e = absurd cc
first_at (suc k) (y ∷ xs) x rest e = first_at k xs x rest e

pub at_front : {X : Type 0} (k : ℕ) (xs : List X) (x : X) (rest : List X)
    → drop k xs ≡ x ∷ rest → (slice_get xs k ≡ Some x) × (drop (k + 1) xs ≡ rest)
at_front k xs x rest e =
    let one : k + 1 ≡ suc k = omega arith in
    let first = first_at k xs x rest e in
    (first.0, rw one first.1)

-- it is the one that stands there
pub front_is : {X : Type 0} (k : ℕ) (xs : List X) (x y : X) (rest : List X)
    → drop k xs ≡ x ∷ rest → slice_get xs k ≡ Some y → y ≡ x
front_is k xs x y rest e there = same_Some y x (sym there ∙ (at_front k xs x rest e).0)

-- and there is one
pub none_at : {X : Type 0} (k : ℕ) (xs : List X) (x : X) (rest : List X) → drop k xs ≡ x ∷ rest
    → slice_get xs k ≡ None → ⊥
none_at k xs x rest e there = none-some x (sym there ∙ (at_front k xs x rest e).0)

-- a write that failed is one, by whatever tells it
pub failed : (r : Result Unit WriteFault) {f : WriteFault} {bytes : List ℕ} {p q : Place}
    → IsErr r → Writes (Err f) bytes p q → Writes r bytes p q
failed (Err g) e w = w
failed (Ok u) e w = absurd cc

-- what was written of a value, by whatever tells it
pub saved_as : {X : Type 0} {form : Form X} {x y : X} {r : Result Unit WriteFault} {p q : Place}
    → IsSaved form x r p q → x ≡ y → IsSaved form y r p q
saved_as {form = form} {r = r} {p = p} {q = q} saved e =
    subst (λ z. IsSaved form z r p q) e saved

-- a value with a list behind it was written, from what was written of each
module _ {H X : Type 0} (form : Form H) (item : Form X) (x : H) (xs : List X) {p q : Place} where
  pub short_saved : (r : Result Unit WriteFault) {f : WriteFault} → IsErr r
      → IsSaved form x (Err f) p q → IsSaved (with_list form item) (x, xs) r p q
  short_saved (Err g) e saved =
      record { written = writes_exit (Err g) (spell_list item xs) e saved.written; fits = tt }
  short_saved (Ok u) e saved = absurd cc

  pub both_saved : {s : Place} (r : Result Unit WriteFault) (u : Unit {0})
      → IsSaved form x (Ok u) p q → IsSaved (list_of item) xs r q s
      → IsSaved (with_list form item) (x, xs) r p s
  both_saved r u first second = record {
    written = writes_then first.written second.written;
    fits = if_ok r
        (λ fits. and_from (form.fits x) (fits_list (λ _. item) xs) first.fits fits)
        second.fits;
  }
