use Rattle.std.proofs.Common.{◌≡◌, ◌++◌, take}
use Rattle.std.specs.List.{flat_map}
use Rattle.irx_build.specs.Files.{entry_bytes}
use Rattle.irx_build.proofs.accepted_unit.push_entries.Given as goal

abbrev pub invariant-loop-entry : goal.invariant-loop-entry
invariant-loop-entry l =
    l.file.items ≡ l.initial.file.items ++ flat_map entry_bytes (take l.entry-index l.entries)
