-- Where the image of a module lies.
use Rattle.std.proofs.Common.{◌≡◌, ℕ, ◌≤◌, List, length, Option, Some, None, subst, arith, length-drop}
use Rattle.std.specs.Prelude.{Ok}
use Rattle.std.proofs.lemmas.List.{length-take}
use Rattle.iop_base.specs.declared.illegal.Illegal.{Illegal}
use Rattle.irx_elf.specs.Parts.{Parts, parts_of, parts_or_rule}
use Rattle.irx_elf.specs.Rules.{ok_unless, unmet_rule, bytes_at}

-- what is given where no rule is unmet is the whole
all_given : (o : Option Illegal) (all parts : Parts) → ok_unless o all ≡ Ok parts → all ≡ parts
all_given None all parts e = cc
all_given (Some illegal) all parts e = absurd (cc)

-- a range of a file is not longer than the file
length-bytes_at : (file : List ℕ) (offset size : ℕ)
    → length (bytes_at file offset size) ≤ length file
length-bytes_at file offset size = grind (arith, length-take, length-drop)

-- the image of a module lies in its file
pub image_within : (file : List ℕ) (parts : Parts) → parts_or_rule file ≡ Ok parts
    → length parts.image ≤ length file
image_within file parts e =
    let P : Parts → Type 0 = λ p. length p.image ≤ length file in
    subst P (all_given (unmet_rule file) (parts_of file) parts e) (length-bytes_at file _ _)
