-- Which files are modules: those that meet the rules of IRX files, and whose relocation entries
-- meet theirs. That the rules of the file come before those of its entries is this project's
-- profile.
use Rattle.std.specs.Prelude.{ℕ, Result, Ok, Err, List}
use Rattle.iop_base.specs.declared.illegal.Illegal.{Illegal}
use Rattle.irx_elf.specs.Parts.{Parts, parts_or_rule}
use Rattle.irx_elf.specs.Rules.{ok_unless}
use Rattle.irx_reloc.specs.Entries.{all_entries}
use Rattle.irx_reloc.specs.Fitting.{misfit}

-- the parts, if the relocation entries fit the image
abbrev pub fitting_or_rule : Result Parts Illegal → Result Parts Illegal
fitting_or_rule (Err illegal) = Err illegal
fitting_or_rule (Ok parts) = ok_unless (misfit parts.length (all_entries parts.lists)) parts

-- the parts of a module's file, or the first rule that the file breaks, and its place
abbrev pub module_or_rule : List ℕ → Result Parts Illegal
module_or_rule file = fitting_or_rule (parts_or_rule file)
