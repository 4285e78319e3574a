use Rattle.std.proofs.Common.{◌≡◌, ◌+◌, length, drop}
use Rattle.iop_snapshot.specs.Items.{item_size}
use Rattle.iop_snapshot.proofs.decoder.have_room.Given as goal

abbrev pub invariant-loop-width : goal.invariant-loop-width
invariant-loop-width l =
    l.left + item_size l.widths ≡ length l.bytes + item_size (drop l.width-index l.widths)
