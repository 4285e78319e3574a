-- The text of a module, looked at as it stands in the file, before any relocation entry is applied.
use Rattle.std.specs.Prelude.{ℕ, ◌-◌, Option, List, ◌++◌, length, replicate}
use Rattle.irx_elf.specs.Parts.{Parts}
use Rattle.irx_tables.specs.Imports.{tables_of}
use Rattle.irx_view.specs.declared.limits.TheConstants.{MOST_IMAGE}

-- memory that holds an image from 0 on, and zeros behind it
unfoldable pub image_memory : List ℕ → List ℕ
image_memory image = image ++ replicate (MOST_IMAGE - length image) 0

-- the place of the bad import table of a module's text
abbrev pub bad_import : Parts → Option ℕ
bad_import parts = (tables_of (image_memory parts.image) 0 parts.info.text_size).bad
