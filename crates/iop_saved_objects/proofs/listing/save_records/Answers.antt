use Rattle.std.proofs.Common.{refl}
use Rattle.iop_snapshot.proofs.Saving.{if_ok}
use Rattle.iop_saved_objects.specs.Lists.{ahead_in}
use Rattle.iop_saved_objects.proofs.listing.save_records.Goals as goal

pub returns : goal.returns
returns g c =
    let all = ahead_in g.I.Items.ahead c.args.items in record {
      written = c.save_list.ensures.written all refl;
      fits = if_ok c.save_list.result (λ fits. fits all refl) c.save_list.ensures.fits;
    }
