-- Files in memory that never fail. This project's own profile.
use Rattle.std.specs.Prelude.{unwrap_or, Some, []}
use Rattle.iop_ports.specs.Files.{Untold, FilesTold}
use Rattle.iop_ports.specs.Shelf.{Shelf, file_of}

-- a name that was not added is an empty file; the name last asked for is not told, and there are no
-- strays and no faults
abbrev pub told_of : Shelf → FilesTold
told_of shelf = record {
  content = λ name. Some (unwrap_or (file_of shelf.files name) []);
  asked = Untold;
  left = shelf.left;
  strays = 0;
  faults_before = 0;
}
