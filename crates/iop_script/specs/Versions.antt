-- The versions of the script's form: this project's own profile.
use Rattle.std.specs.Prelude.{ℕ, Bool, true, false, if◌then◌else◌, Option, Some, None, codes, List}
use Rattle.std.specs.Str.{bytes_eq}
use Rattle.iop_script.specs.declared.version.Version.{Version}
use Rattle.iop_script.specs.declared.version.Version.TheVariants.{One, Two}

-- the first line of each version
abbrev pub first_line : Version → List ℕ
first_line One = codes "script 1"
first_line Two = codes "script 2"

-- the version that a first line tells, if it tells one
abbrev pub version_of : List ℕ → Option Version
version_of first =
    if bytes_eq first (codes "script 1") then Some One
    else if bytes_eq first (codes "script 2") then Some Two else None

-- whether lines can be released, and words stand for a name
abbrev pub allows_more : Version → Bool
allows_more One = false
allows_more Two = true
