-- What files tell of themselves, and what an opening and a read make of it.
use Rattle.std.specs.Prelude.{◌≡◌, ℕ, ◌<◌, ◌≤◌, Bool, is_some, if◌then◌else◌, Option, Some, None, unwrap_or, List, [], length, take, drop}
use Rattle.iop_base.specs.Counts.{risen}

-- the name of the last opening: none before any opening and after one of a name that the content
-- does not have; some files do not tell it
pub data Asked : Type 0 where
  Untold : Asked
  NoName : Asked
  Named : (name : List ℕ) → Asked

pub record FilesTold : Type 0 where
  -- the bytes of a file, by its name
  pub content : List ℕ → Option (List ℕ)
  -- the name last asked for
  pub asked : Asked
  -- what is left to be read of the open file: nothing where none is open
  pub left : List ℕ
  -- how many openings named a file that the content does not have
  pub strays : ℕ
  -- the count of faults that stood before the last opening, and 0 before any
  pub faults_before : ℕ

abbrev pub name_found : List ℕ → Option (List ℕ) → Asked
name_found name None = NoName
name_found name (Some bytes) = Named name

-- the name last asked for, after an opening of this name
abbrev pub asked_next : Asked → List ℕ → Option (List ℕ) → Asked
asked_next Untold name file = Untold
asked_next NoName name file = name_found name file
asked_next (Named other) name file = name_found name file

-- after an opening of this name that succeeded or failed, before which so many faults stood
abbrev pub after_opening : List ℕ → Bool → ℕ → FilesTold → FilesTold
after_opening name succeeded faults files = record {
  content = files.content;
  asked = asked_next files.asked name (files.content name);
  left = if succeeded then unwrap_or (files.content name) [] else [];
  strays = if is_some (files.content name) then files.strays else risen files.strays;
  faults_before = faults;
}

-- after a read of so many bytes
abbrev pub after_reading : ℕ → FilesTold → FilesTold
after_reading n files = record files { left = drop n files.left }

-- the n bytes that a read put into the front of a buffer are the next ones, and they are none in a
-- buffer that has room only where none is left
pub record Reads (n : ℕ) (buf left : List ℕ) : Type 0 where
  pub within : n ≤ length left
  pub bytes : take n buf ≡ take n left
  pub at_end : 0 < length buf → n ≡ 0 → left ≡ []

-- a name is the one last asked for, or that is none since there is no such file
abbrev pub IsAskedName : Asked → List ℕ → Option (List ℕ) → Type 0
IsAskedName Untold name file = Unit {0}
IsAskedName NoName name file = file ≡ None
IsAskedName (Named other) name file = other ≡ name
