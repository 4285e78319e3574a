-- The first line of a script tells its version.
use Rattle.std.proofs.Common.{ℕ, Option, Some, None, List, [], ◌∷◌, refl}
use Rattle.std.specs.Prelude.{unwrap_or, slice_get}
use Rattle.std.specs.Option.{IsSome}
use Rattle.std.specs.Result.{IsOk}
use Rattle.iop_script.specs.Reading.{read_behind, read_all, script_of}
use Rattle.iop_script.specs.Texts.{line_feed, parts}
use Rattle.iop_script.specs.Versions.{version_of}
use Rattle.iop_script.specs.declared.version.Version.{Version}
use Rattle.irx_view.specs.Scripts.{line_of}

behind : (v : Option Version) (rest : List (List ℕ)) → IsOk (read_behind v rest) → IsSome v
behind None rest ok = absurd (cc)
behind (Some version) rest ok = refl

first : (lines : List (List ℕ)) → IsOk (read_all lines)
    → IsSome (version_of (unwrap_or (slice_get lines 0) []))
first [] ok = absurd (cc)
first (line ∷ rest) ok = behind (version_of line) rest ok

pub versioned : (text : List ℕ) → IsOk (script_of text) → IsSome (version_of (line_of text 1))
unfolding script_of
versioned text ok = first (parts line_feed text) ok
