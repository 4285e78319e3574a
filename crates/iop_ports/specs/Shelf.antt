-- Named files in memory, one of which can be open. This project's own profile. A name is its bytes.
use Rattle.std.specs.Prelude.{ℕ, Bool, if◌then◌else◌, is_some, unwrap_or, Option, Some, None, List, [], ◌∷◌, length, min, drop}
use Rattle.std.specs.Str.{bytes_eq}

pub record Shelf : Type 0 where
  -- each file's name and its bytes
  pub files : List (List ℕ × List ℕ)
  -- the name last asked for: none before any opening and after one of a name that no file has
  pub asked : Option (List ℕ)
  -- what is left to be read of the open file: nothing where none is open
  pub left : List ℕ

abbrev pub empty_shelf : Shelf
empty_shelf = record { files = []; asked = None; left = [] }

-- the bytes of the first file with this name
abbrev pub file_of : List (List ℕ × List ℕ) → List ℕ → Option (List ℕ)
file_of [] name = None
file_of (file ∷ files) name = if bytes_eq file.0 name then Some file.1 else file_of files name

-- the files with these bytes in the first file of this name, or else in a new one at the end
abbrev pub with_file : List (List ℕ × List ℕ) → List ℕ → List ℕ → List (List ℕ × List ℕ)
with_file [] name bytes = (name, bytes) ∷ []
with_file (file ∷ files) name bytes =
    if bytes_eq file.0 name then (file.0, bytes) ∷ files else file ∷ with_file files name bytes

-- after a file was added, which closes the open one
abbrev pub after_add : List ℕ → List ℕ → Shelf → Shelf
after_add name bytes shelf = record shelf { files = with_file shelf.files name bytes; left = [] }

abbrev pub is_there : List ℕ → Shelf → Bool
is_there name shelf = is_some (file_of shelf.files name)

-- after an opening of this name
abbrev pub after_open : List ℕ → Shelf → Shelf
after_open name shelf = record shelf {
  asked = if is_there name shelf then Some name else None;
  left = unwrap_or (file_of shelf.files name) [];
}

-- with no file open
abbrev pub after_close : Shelf → Shelf
after_close shelf = record shelf { left = [] }

-- how many bytes a read into a buffer of this length gives
abbrev pub read_count : ℕ → Shelf → ℕ
read_count room shelf = min room (length shelf.left)

-- after a read of so many bytes
abbrev pub after_read : ℕ → Shelf → Shelf
after_read count shelf = record shelf { left = drop count shelf.left }
