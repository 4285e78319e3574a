use Rattle.std.proofs.Common.{refl}
use Rattle.iop_thread.proofs.PuttingBack.{holds_none, placed_none}
use Rattle.iop_thread.proofs.restored_threads.RestoredThreads.new.Goals as goal

pub returns : goal.returns
returns g c =
    rw c.idle-threads.ensures (record {
      place = λ id. 0;
      holds = holds_none g.R.Ready.stands _ c.in_ok-places.ensures c.requires.none refl refl;
      placed = placed_none;
    })
