-- One value more is put back behind others.
use Rattle.std.proofs.Common.{◌≡◌, ℕ, Option, Some, None, is_some, Result, Ok, Err, List, [], ◌∷◌, ◌++◌, refl, sym, ap, subst, ◌∙◌, Bool, true, false, if◌then◌else◌}
use Rattle.std.specs.Prelude.{MatchResult, option_and_then}
use Rattle.iop_snapshot.specs.declared.fault.SnapFault.{SnapFault}
use Rattle.iop_snapshot.specs.Forms.{Form, IsLawful, IsSeries, tested}
use Rattle.iop_snapshot.specs.Reading.{GivesNone}
use Rattle.iop_snapshot.specs.Putting.{put_all, may_put, may_follow, next_form, PutsOne}
use Rattle.iop_snapshot.proofs.Combining.{tested_lawful}

module _ {T X : Type 0} (put : T → X → Option T) where
  -- one behind the others
  pub put_more : (table : T) (xs : List X) (x : X)
      → put_all put table (xs ++ x ∷ [])
      ≡ option_and_then (λ left. put left x) (put_all put table xs)
  put_more table [] x = by (put table x)
    where
      by : (o : Option T) → option_and_then (λ left. put_all put left []) o ≡ o
      by None = refl
      by (Some left) = refl
  put_more table (y ∷ xs) x = by (put table y) (λ left. put_more left xs x)
    where
      by : (o : Option T)
          → ((left : T) → put_all put left (xs ++ x ∷ [])
          ≡ option_and_then (λ done. put done x) (put_all put left xs))
          → option_and_then (λ left. put_all put left (xs ++ x ∷ [])) o
          ≡ option_and_then (λ left. put left x) (option_and_then (λ left. put_all put left xs) o)
      by None later = refl
      by (Some left) later = later left

  module _ (form : Form X) where
    -- behind others the table takes what it takes as they leave it
    pub same_next : (base now : T) (xs : List X) → put_all put base xs ≡ Some now
        → (bytes : List ℕ) → (next_form put form base xs).read bytes
        ≡ (tested form (may_put put now)).read bytes
    same_next base now xs there bytes =
        ap (λ (o : Option T).
        (tested form (λ x. is_some (option_and_then (λ left. put left x) o))).read bytes) there

    -- what is read of the next one is read behind all others
    pub puts_more : (base old new : T) (xs : List X) (result : Result Unit SnapFault)
        (before rest : List ℕ) → put_all put base xs ≡ Some old
        → PutsOne put form old new result before rest
        → MatchResult result
        (λ _. (x : X) × (put_all put base (xs ++ x ∷ []) ≡ Some new)
        × ((next_form put form base xs).read before ≡ Some (x, rest)))
        (GivesNone ((next_form put form base xs).read before))
    puts_more base old new xs (Ok u) before rest there one = (
      one.0,
      put_more base xs one.0 ∙ rw there one.1,
      same_next base old xs there before ∙ one.2,
    )
    puts_more base old new xs (Err fault) before rest there one =
        subst (λ read. GivesNone read fault) (sym (same_next base old xs there before)) one

    -- the values that a table takes are a lawful list
    pub next_series : IsLawful form → (base : T) → IsSeries form (next_form put form base)
    next_series law base = record {
      lawful = λ before. tested_lawful form (may_follow put base before) law;
      same = λ before x. refl;
    }

-- what puts one value after the other, each where it may be put, is the same in any words
module _ {T X : Type 0} (may : T → X → Bool) (with_last : T → X → T)
    (all : T → List X → Option T) (nothing : (table : T) → all table [] ≡ Some table)
    (more : (table : T) (x : X) (xs : List X) → all table (x ∷ xs)
    ≡ (if may table x then all (with_last table x) xs else None)) where
  abbrev put_if : T → X → Option T
  put_if table x = if may table x then Some (with_last table x) else None

  pub puts_each : (table : T) (xs : List X) → put_all put_if table xs ≡ all table xs
  puts_each table [] = sym (nothing table)
  puts_each table (x ∷ xs) =
      by (may table x) (puts_each (with_last table x) xs) ∙ sym (more table x xs)
    where
      by : (b : Bool) → put_all put_if (with_last table x) xs ≡ all (with_last table x) xs
          → option_and_then (λ left. put_all put_if left xs)
          (if b then Some (with_last table x) else None)
          ≡ (if b then all (with_last table x) xs else None)
      by true same = same
      by false same = refl
