use Rattle.std.proofs.Common.{ℕ, ◌≤◌}
use Rattle.iop_sysmem.specs.Placing.{IsFree}
use Rattle.iop_sysmem.proofs.Walking.{Walk}
use Rattle.iop_sysmem.proofs.blocks.Blocks.first_free.Given as goal

abbrev pub invariant-loop-next : goal.invariant-loop-next
invariant-loop-next l =
    Walk (record { size = l.self-inside.size; used = l.next-items }) l.next-index l.start
    × ((q : ℕ) → IsFree (record { size = l.self-inside.size; used = l.next-items }) l.len q →
    l.start ≤ q)
