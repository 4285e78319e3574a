-- What a module consists of before it is written to a file. Places count in bytes from the first of
-- the text, and the data follows the text.
use Rattle.std.specs.Prelude.{ℕ, List}
use Rattle.iop_asm.specs.declared.relocation.Relocation.{Relocation}

pub record ModuleUnit : Type 0 where
  pub name : List ℕ
  pub version : ℕ
  pub entry : ℕ
  pub gp : ℕ
  pub text : List ℕ
  pub «data» : List ℕ
  pub bss : ℕ
  -- in the order of their sites
  pub relocations : List Relocation
