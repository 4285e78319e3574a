use Rattle.std.proofs.Common.{◌≡◌, ◌≤◌, All, length, map, take, string_bytes, vec_capacity}
use Rattle.iop_front.specs.Inputs.{seen, HasTaken, IsShort}
use Rattle.iop_front.specs.Outcome.{read_limit}
use Rattle.iop_front.specs.Named.{AsModule}
use Rattle.iop_front.proofs.modules.read_modules.Given as goal

abbrev pub invariant-loop-text : goal.invariant-loop-text
invariant-loop-text g l = record {
  buffer : length l.buffer ≡ read_limit;
  room : length l.words.texts.now ≤ vec_capacity l.modules;
  count : length l.modules.items ≡ l.text-index;
  short : All IsShort l.modules.items;
  taken : HasTaken AsModule (map string_bytes (take l.text-index l.words.texts.now)) l.modules.items
      (seen g.F.Files.told g.F.Files.faults l.fn.files)
      (seen g.F.Files.told g.F.Files.faults l.files);
}
