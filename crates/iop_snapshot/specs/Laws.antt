-- What the laws of forms say.
use Rattle.std.specs.Prelude.{◌≡◌, ◌↔◌, ℕ, Bool, true, ◌&&◌, Option, Some, All, List, [], ◌++◌}
use Rattle.std.specs.List.{list_all}
use Rattle.iop_base.specs.Numbers.{IsByte}
use Rattle.iop_snapshot.specs.Forms.{Form, IsLawful, IsSeries, item, bytes, both, seen_as, tested, present, series, following, fits_items, all_follow, read_whole}

pub record ItemsAreLawful : Type 0 where
  pub items : (widths : List ℕ) → IsLawful (item widths)
  pub raw : (count : ℕ) → IsLawful (bytes count)

abbrev pub BothIsLawful : (X Y : Type 0) → Type 0
BothIsLawful X Y =
    (form : Form X) (next : X → Form Y) → IsLawful form → ((x : X) → IsLawful (next x))
    → IsLawful (both form next)

-- each value that has a spelling is seen as itself, and goes back to what it was seen from
abbrev pub SeenIsLawful : (X Y : Type 0) → Type 0
SeenIsLawful X Y =
    (form : Form X) (seen : X → Option Y) (back : Y → X) → IsLawful form
    → ((y : Y) → form.fits (back y) ≡ true → seen (back y) ≡ Some y)
    → ((x : X) (y : Y) → form.fits x ≡ true → seen x ≡ Some y → back y ≡ x)
    → IsLawful (seen_as form seen back)

-- the same of the values that pass a test, where those alone are seen as themselves
abbrev pub SeenTestedIsLawful : (X Y : Type 0) → Type 0
SeenTestedIsLawful X Y =
    (form : Form X) (seen : X → Option Y) (back : Y → X) (test : Y → Bool) → IsLawful form
    → ((y : Y) → form.fits (back y) ≡ true → test y ≡ true → seen (back y) ≡ Some y)
    → ((x : X) (y : Y) → form.fits x ≡ true → seen x ≡ Some y → back y ≡ x)
    → IsLawful (tested (seen_as form seen back) test)

abbrev pub TestedIsLawful : (X : Type 0) → Type 0
TestedIsLawful X = (form : Form X) (test : X → Bool) → IsLawful form → IsLawful (tested form test)

abbrev pub PresentIsLawful : (X : Type 0) → Type 0
PresentIsLawful X =
    (there : Bool) (form : Form X) → IsLawful form → IsLawful (present there form)

abbrev pub SeriesIsLawful : (X : Type 0) → Type 0
SeriesIsLawful X =
    (form : Form X) (next : List X → Form X) → IsSeries form next → IsLawful (series form next)

-- a form's items with a test that runs along them make a list, which fits exactly where each item
-- fits and passes
pub record FollowsOn {X : Type 0} (form : Form X) (may : List X → X → Bool) : Type 0 where
  pub series : IsSeries form (following form may)
  pub fits : (before items : List X) → fits_items (following form may) before items
      ≡ (list_all form.fits items && all_follow may before items)

abbrev pub FollowingIsSeries : (X : Type 0) → Type 0
FollowingIsSeries X = (form : Form X) (may : List X → X → Bool) → IsLawful form → FollowsOn form may

-- no spelling is the front of another, nor of itself with bytes behind it
abbrev pub NoneBeginsAnother : (X : Type 0) → Type 0
NoneBeginsAnother X =
    (form : Form X) → IsLawful form → (x y : X) (rest : List ℕ)
    → form.fits x ≡ true → form.fits y ≡ true → form.spell y ≡ form.spell x ++ rest
    → (x ≡ y) × (rest ≡ [])

-- bytes are read as a whole as a value exactly where they are the spelling of it, and it fits
abbrev pub WholeIsExact : (X : Type 0) → Type 0
WholeIsExact X =
    (form : Form X) → IsLawful form → (all : List ℕ) (x : X) → All IsByte all
    → (read_whole form all ≡ Some x) ↔ ((all ≡ form.spell x) × (form.fits x ≡ true))

-- lawful forms of one spelling, by which the same values fit, read the same
abbrev pub LawfulFormsAgree : (X : Type 0) → Type 0
LawfulFormsAgree X =
    (form other : Form X) → IsLawful form → IsLawful other
    → ((x : X) → form.spell x ≡ other.spell x) → ((x : X) → form.fits x ≡ other.fits x)
    → (all : List ℕ) → All IsByte all → form.read all ≡ other.read all
