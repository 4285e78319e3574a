-- The modules that a command names: this project's own profile.
use Rattle.std.specs.Prelude.{ℕ, List}

-- a module as the command names it
pub record NamedFile : Type 0 where
  -- its word of the command line
  pub name : List ℕ
  -- the bytes of its file
  pub file : List ℕ
