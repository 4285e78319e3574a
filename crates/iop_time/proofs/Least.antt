-- The first of some turns is the least of those that come.
use Rattle.std.proofs.Common.{◌≡◌, Bool, true, false, cond, Option, Some, None, MatchOption, List, [], ◌∷◌, fold, suc, zero, refl, subst, sym, arith}
use Rattle.std.specs.List.{All, Contains}
use Rattle.std.proofs.lemmas.List.Elements.{All-nil, All-cons, All-weaker}
use Rattle.iop_time.specs.Turns.{comes, is_before, sooner, first_with}
use Rattle.iop_time.specs.declared.turn.Turn.{Turn}
use Rattle.iop_time.proofs.Comparing.{before-asym, before-irrefl, not_before-trans}
use Rattle.iop_time.proofs.Firsts.{fold-moved}

abbrev pub NeverComes : Turn → Type 0
NeverComes turn = comes turn ≡ false

-- another that comes does not come before this one
abbrev pub IsBehind : Turn → Turn → Type 0
IsBehind turn other = comes other ≡ true → is_before other turn ≡ false

pub record IsLeast (xs : List Turn) (turn : Turn) : Type 0 where
  pub stands : Contains xs turn
  pub comes : comes turn ≡ true
  pub least : All (IsBehind turn) xs

abbrev pub IsFirst : List Turn → Option Turn → Type 0
IsFirst xs first = MatchOption first (All NeverComes xs) (IsLeast xs)

module _ (x : Turn) (xs : List Turn) where
  behind : (turn : Turn) → Contains xs turn → Contains (x ∷ xs) turn
  behind turn (k, below, at) = (suc k, omega arith, at)

  keeps : (turn : Turn) → IsBehind turn x → IsLeast xs turn → IsLeast (x ∷ xs) turn
  keeps turn later h = record {
    stands = behind turn h.stands;
    comes = h.comes;
    least = All-cons (IsBehind turn) x xs later h.least;
  }

  takes : comes x ≡ true → All (IsBehind x) xs → IsLeast (x ∷ xs) x
  takes come all = record {
    stands = (zero, omega arith, refl);
    comes = come;
    least = All-cons (IsBehind x) x xs (λ again. before-irrefl x) all;
  }

  chooses : (turn : Turn) (b : Bool) → is_before turn x ≡ b → comes x ≡ true → IsLeast xs turn
      → IsLeast (x ∷ xs) (cond b turn x)
  chooses turn true before come h = keeps turn (λ again. before-asym turn x before) h
  chooses turn false before come h =
      takes come (All-weaker (IsBehind turn) (IsBehind x)
      (λ y later again. not_before-trans y turn x (later again) before) xs h.least)

  one_comes : (first : Option Turn) → comes x ≡ true → IsFirst xs first
      → IsLeast (x ∷ xs) (sooner first x)
  one_comes None come none =
      takes come (All-weaker NeverComes (IsBehind x) (λ y never again. cc) xs none)
  one_comes (Some turn) come h = chooses turn (is_before turn x) refl come h

  never_comes : (first : Option Turn) → comes x ≡ false → IsFirst xs first → IsFirst (x ∷ xs) first
  never_comes None never none = All-cons NeverComes x xs never none
  never_comes (Some turn) never h = keeps turn (λ again. cc) h

  one_more : (first : Option Turn) (b : Bool) → comes x ≡ b → IsFirst xs first
      → IsFirst (x ∷ xs) (cond b (Some (sooner first x)) first)
  one_more first true come h = one_comes first come h
  one_more first false never h = never_comes first never h

pub first_is_least : (xs : List Turn) → IsFirst xs (fold first_with None xs)
first_is_least [] = All-nil NeverComes
first_is_least (x ∷ xs) =
    subst (IsFirst (x ∷ xs)) (sym (fold-moved None x xs))
    (one_more x xs (fold first_with None xs) (comes x) refl (first_is_least xs))
