use Rattle.std.proofs.Common.{◌≡◌, length}
use Rattle.std.specs.Option.{option_copied}
use Rattle.iop_script.specs.Reading.{next_number, read_lines, script_of}
use Rattle.iop_script.specs.Texts.{line_feed, parts_behind}
use Rattle.iop_script.proofs.parsing.parse.Given as goal

abbrev pub invariant-loop-left : goal.invariant-loop-left
invariant-loop-left l =
    script_of l.bytes
    ≡ read_lines l.version (next_number l.number) l.script
    (parts_behind line_feed (option_copied l.left))

abbrev pub decreases-loop-left : goal.decreases-loop-left
decreases-loop-left l = length (parts_behind line_feed (option_copied l.left))
