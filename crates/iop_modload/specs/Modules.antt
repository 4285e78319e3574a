-- What a module's file says for loading (ELF TIS 1.2; ps2sdk's IRX files). That the rules of the file
-- come before those of its relocation entries is this project's profile.
use Rattle.std.specs.Prelude.{ℕ, ◌-◌, if◌then◌else◌, is_some, Result, Ok, Err, List, ◌++◌, length, replicate}
use Rattle.iop_base.specs.declared.code.Code.{Code}
use Rattle.iop_base.specs.declared.code.TheConstants.Code.{ILLEGAL_OBJECT}
use Rattle.iop_base.specs.declared.illegal.Illegal.{Illegal}
use Rattle.irx_elf.specs.Parts.{Parts, parts_or_rule}
use Rattle.irx_reloc.specs.Entries.{all_entries}
use Rattle.irx_reloc.specs.Fitting.{misfit}
use Rattle.irx_reloc.specs.Relocating.{relocated_image}

-- the image's bytes in the file, and zeros up to its length
abbrev pub padded_bytes : Parts → List ℕ
padded_bytes parts = parts.image ++ replicate (parts.length - length parts.image) 0

-- the image, relocated for a base
unfoldable pub image_at : Parts → (base : ℕ) → List ℕ
image_at parts base = relocated_image (padded_bytes parts) (all_entries parts.lists) base

-- the parts, if the relocation entries fit the image
abbrev pub module_of_parts : Result Parts Illegal → Result Parts Code
module_of_parts (Err illegal) = Err ILLEGAL_OBJECT
module_of_parts (Ok parts) =
    if is_some (misfit parts.length (all_entries parts.lists)) then Err ILLEGAL_OBJECT else Ok parts

-- the parts of a file that can be loaded, or the code with which it is refused
unfoldable pub module_of_file : List ℕ → Result Parts Code
module_of_file file = module_of_parts (parts_or_rule file)
