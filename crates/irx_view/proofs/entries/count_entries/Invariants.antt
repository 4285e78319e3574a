use Rattle.std.proofs.Common.{◌≡◌, ◌+◌, ◌-◌, ◌^◌, ◌≤◌, min, length}
use Rattle.irx_reloc.specs.Entries.{all_entries}
use Rattle.irx_view.specs.Types.{number_of, count_of_all}
use Rattle.irx_view.proofs.entries.count_entries.Given as goal

abbrev pub invariant-loop-section : goal.invariant-loop-section
invariant-loop-section l = record {
  sum : min (l.count + count_of_all (number_of l.kind) (all_entries l.lists)) (2 ^ 64 - 1)
      ≡ min (count_of_all (number_of l.kind) (all_entries l.initial.lists)) (2 ^ 64 - 1);
  small : l.count ≤ 2 ^ 64 - 1;
}

abbrev pub decreases-loop-section : goal.decreases-loop-section
decreases-loop-section l = length l.lists
