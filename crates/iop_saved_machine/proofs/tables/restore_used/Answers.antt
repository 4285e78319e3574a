use Rattle.iop_saved_machine.proofs.Readings.{used_reads, used_is_back}
use Rattle.iop_saved_machine.proofs.tables.restore_used.Goals as goal

pub returns-clause-read : goal.returns-clause-read
returns-clause-read c =
    used_reads c.args.size c.in_ok-blocks.blocks c.in_ok-blocks.ensures c.args.decoder.now
    c.restore_blocks.new.decoder c.restore_blocks.result c.restore_blocks.ensures

pub returns-clause-back : goal.returns-clause-back
returns-clause-back c =
    used_is_back c.args.size c.in_ok-blocks.blocks c.in_ok-blocks.ensures c.args.decoder.now
    c.restore_blocks.new.decoder c.restore_blocks.result c.restore_blocks.ensures
