use Rattle.std.proofs.Common.{◌≡◌}
use Rattle.iop_ports.specs.Sinks.{after_taking}
use Rattle.iop_disasm.specs.Listings.{listing_bytes}
use Rattle.iop_disasm.proofs.lines.listing.Given as goal

abbrev pub invariant-loop-n : goal.invariant-loop-n
invariant-loop-n g l =
    g.S.Sink.told l.sink ≡ after_taking (listing_bytes l.ram l.from l.n) (g.S.Sink.told l.fn.sink)
