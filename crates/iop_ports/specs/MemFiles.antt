-- Files in memory whose listed calls fail. This project's own profile.
use Rattle.std.specs.Prelude.{ℕ, Bool, ◌||◌, not, if◌then◌else◌, Option, Some, None, List}
use Rattle.iop_base.specs.Counts.{risen}
use Rattle.iop_ports.specs.Calls.{Calls, no_calls, is_listed, with_call}
use Rattle.iop_ports.specs.Files.{Asked, NoName, Named, FilesTold}
use Rattle.iop_ports.specs.Shelf as shelf
use Rattle.iop_ports.specs.Shelf.{Shelf, empty_shelf, after_add, file_of, is_there, after_close, read_count}

pub record MemFiles : Type 0 where
  pub shelf : Shelf
  pub calls : Calls
  -- how many openings named a file that is not there
  pub strays : ℕ
  -- the count of faults that stood before the last opening, and 0 before any
  pub faults_before : ℕ

-- no file, before the first call; the calls with these numbers fail
abbrev pub no_files : List ℕ → MemFiles
no_files fail = record {
  shelf = empty_shelf;
  calls = no_calls fail;
  strays = 0;
  faults_before = 0;
}

-- after a file was added
abbrev pub with_file : (name bytes : List ℕ) → MemFiles → MemFiles
with_file name bytes files = record files { shelf = after_add name bytes files.shelf }

-- after the fault of an opening
abbrev pub after_failed_opening : MemFiles → MemFiles
after_failed_opening files = record files {
  shelf = after_close files.shelf;
  calls = record files.calls { faults = risen files.calls.faults };
}

-- an opening fails where its number is listed or the name is a stray
abbrev pub opening_fails : List ℕ → MemFiles → Bool
opening_fails name files = is_listed files.calls || not (is_there name files.shelf)

-- after an opening of this name
abbrev pub after_open : List ℕ → MemFiles → MemFiles
after_open name files = record {
  shelf =
      if opening_fails name files
      then after_close (shelf.after_open name files.shelf) else shelf.after_open name files.shelf;
  calls = with_call (opening_fails name files) files.calls;
  strays = if is_there name files.shelf then files.strays else risen files.strays;
  faults_before = files.calls.faults;
}

-- after a read into a buffer of this length, which fails where its number is listed
abbrev pub after_read : ℕ → MemFiles → MemFiles
after_read room files = record files {
  shelf =
      if is_listed files.calls
      then files.shelf else shelf.after_read (read_count room files.shelf) files.shelf;
  calls = with_call (is_listed files.calls) files.calls;
}

abbrev pub asked_of : Option (List ℕ) → Asked
asked_of None = NoName
asked_of (Some name) = Named name

-- they tell everything
abbrev pub told_of : MemFiles → FilesTold
told_of files = record {
  content = file_of files.shelf.files;
  asked = asked_of files.shelf.asked;
  left = files.shelf.left;
  strays = files.strays;
  faults_before = files.faults_before;
}
