-- What was read has a spelling.
use Rattle.std.proofs.Common.{◌≡◌, ℕ, ◌^◌, ◌<◌, true, Some, List, get_or, subst}
use Rattle.std.proofs.lemmas.List.Elements.{All-from_get_or}
use Rattle.iop_base.specs.Numbers.{IsByte}
use Rattle.iop_snapshot.specs.Forms.{Form, IsLawful}

pub read_fits : {X : Type 0} (form : Form X) (start bytes rest : List ℕ) (x : X) → IsLawful form
    → start ≡ bytes → ((i : ℕ) → get_or bytes i 0 < 2 ^ 8) → form.read start ≡ Some (x, rest)
    → form.fits x ≡ true
read_fits form start bytes rest x law from small read =
    (law.spells_read bytes x rest (All-from_get_or IsByte bytes 0 (λ i inside. small i))
    (subst (λ (l : List ℕ). form.read l ≡ Some (x, rest)) from read)).fits
