use Rattle.std.proofs.Common.{Some, refl, subst}
use Rattle.iop_thread.specs.declared.thread.Thread.{Thread}
use Rattle.iop_thread.specs.ThreadPlaces.{HasAlone}
use Rattle.iop_thread.proofs.Coming.{opens}
use Rattle.iop_thread.proofs.Placed.{placed_opening}
use Rattle.iop_thread.proofs.threads.Threads.new.Goals as goal

pub returns : goal.returns
returns g c =
    let places = c.in_ok-places.places in
    let alone =
    subst (λ (t : Thread). HasAlone (Some t) places) c.loader.ensures c.in_ok-places.ensures in
    rw c.idle.ensures (record {
      place = λ id. 0;
      holds = opens g.R.Ready.stands _ alone c.requires.none refl refl;
      placed = placed_opening;
    })
