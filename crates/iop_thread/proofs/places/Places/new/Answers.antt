use Rattle.std.proofs.Common.{refl, ap, rules}
use Rattle.std.proofs.Common.{Option, Some, List, set}
use Rattle.iop_ready.specs.declared.slot.TheConstants.{MOST_THREADS}
use Rattle.iop_thread.specs.declared.thread.Thread.{Thread}
use Rattle.iop_thread.proofs.PlaceLists.{has_alone}
use Rattle.iop_thread.proofs.places.Places.new.Goals as goal

pub returns : goal.returns
returns c = let h = c.in_ok-places.ensures in
    has_alone MOST_THREADS (Some c.args.first) _
    (ap (λ (l : List (Option Thread)). set l 0 (Some c.args.first))
    (h.items_if_clones_equal (search rules))) refl
