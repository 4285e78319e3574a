-- The types of relocation entries as the code tells them apart.
use Rattle.std.specs.Prelude.{ℕ, Bool, false, true}
use Rattle.irx_reloc.specs.declared.kind.Kind.{Kind}
use Rattle.irx_reloc.specs.declared.kind.Kind.TheVariants.{Nothing, Word, Jump, High, Low, Other}
use Rattle.iop_base.specs.declared.relocation_types.TheConstants.{R_MIPS_NONE, R_MIPS_32, R_MIPS_26, R_MIPS_HI16, R_MIPS_LO16}

-- the type of a kind
abbrev pub type_of : Kind → ℕ
type_of Nothing = R_MIPS_NONE
type_of Word = R_MIPS_32
type_of Jump = R_MIPS_26
type_of High = R_MIPS_HI16
type_of Low = R_MIPS_LO16
type_of (Other number) = number

-- whether it is one of the five
abbrev pub is_named : Kind → Bool
is_named Nothing = true
is_named Word = true
is_named Jump = true
is_named High = true
is_named Low = true
is_named (Other number) = false
