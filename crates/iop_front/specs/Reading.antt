-- What reading a file does to the files, where they tell, and what it puts into a buffer.
use Rattle.std.specs.Prelude.{◌≡◌, ℕ, ◌≤◌, min, Bool, true, if◌then◌else◌, Option, Some, None, Result, Ok, Err, unwrap_or, List}
use Rattle.std.specs.Prelude.{[], length, take, drop}
use Rattle.iop_ports.specs.Files.{FilesTold, after_opening}
use Rattle.iop_ports.specs.declared.ports.Failed.{Failed}

-- the bytes of a file; a name that the content does not have counts as an empty file
abbrev pub file_named : FilesTold → List ℕ → List ℕ
file_named files name = unwrap_or (files.content name) []

-- what is left to be read after an opening that succeeded or failed and a read of so many bytes
abbrev pub left_after : List ℕ → Bool → ℕ → FilesTold → List ℕ
left_after name succeeded taken files =
    drop taken (if succeeded then file_named files name else [])

-- the files after an opening that succeeded or failed, with this left to be read
abbrev pub opened_with : List ℕ → Bool → ℕ → List ℕ → FilesTold → FilesTold
opened_with name succeeded faults left files =
    record (after_opening name succeeded faults files) { left = left }

-- a file was opened and read whole, or as far as the buffer has room
abbrev pub HasRead : List ℕ → ℕ → ℕ → Result ℕ Failed → List ℕ → Option FilesTold
    → Option FilesTold → Type 0
HasRead name room faults result buf None new = new ≡ None
HasRead name room faults (Ok len) buf (Some files) new =
    (len ≡ min room (length (file_named files name)))
    × (take len buf ≡ take room (file_named files name))
    × (new ≡ Some (opened_with name true faults (drop room (file_named files name)) files))
HasRead name room faults (Err failed) buf (Some files) new =
    (opens : Bool) × (taken : ℕ) × (taken ≤ room)
    × (new ≡ Some (opened_with name opens faults (left_after name opens taken files) files))
