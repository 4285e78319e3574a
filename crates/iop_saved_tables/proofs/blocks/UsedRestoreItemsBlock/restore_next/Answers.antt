use Rattle.iop_snapshot.proofs.Putting.{puts_more}
use Rattle.iop_saved_tables.specs.Opened.{opened}
use Rattle.iop_saved_tables.specs.Records.{block_form}
use Rattle.iop_saved_tables.specs.Tables.{put_used}
use Rattle.iop_saved_tables.proofs.blocks.UsedRestoreItemsBlock.restore_next.Goals as goal

pub returns : goal.returns
returns c =
    λ base xs u there.
    puts_more put_used block_form (opened base) (opened c.args.self.now) (opened c.put_next.new.self)
    xs c.put_next.result c.args.decoder.now c.put_next.new.decoder there c.put_next.ensures
