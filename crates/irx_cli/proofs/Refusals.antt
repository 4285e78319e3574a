-- A file that the loader refuses breaks a rule.
use Rattle.std.proofs.Common.{◌≡◌, ℕ, Option, Some, None, List, is_some, refl}
use Rattle.std.specs.Prelude.{Result, Ok, Err, IsErr, if◌then◌else◌}
use Rattle.iop_base.specs.declared.code.Code.{Code}
use Rattle.iop_base.specs.declared.code.TheConstants.Code.{ILLEGAL_OBJECT}
use Rattle.iop_base.specs.declared.illegal.Illegal.{Illegal}
use Rattle.irx_elf.specs.Parts.{Parts, parts_or_rule}
use Rattle.irx_elf.specs.Rules.{ok_unless}
use Rattle.iop_modload.specs.Modules.{module_of_parts, module_of_file}
use Rattle.irx_view.specs.Modules.{fitting_or_rule, module_or_rule}

by_entry : (entry : Option Illegal) (parts : Parts) (code : Code)
    → (if is_some entry then Err ILLEGAL_OBJECT else Ok parts) ≡ Err code
    → IsErr (ok_unless entry parts)
by_entry None parts code e = absurd (cc)
by_entry (Some illegal) parts code e = refl

by_parts : (r : Result Parts Illegal) (code : Code) → module_of_parts r ≡ Err code
    → IsErr (fitting_or_rule r)
by_parts (Err illegal) code e = refl
by_parts (Ok parts) code e = by_entry _ parts code e

pub breaks_rule : (file : List ℕ) (code : Code) → module_of_file file ≡ Err code
    → IsErr (module_or_rule file)
unfolding module_of_file
breaks_rule file code e = by_parts (parts_or_rule file) code e
