use Rattle.std.proofs.Common.{◌≡◌, [], refl}
use Rattle.iop_saved_tables.specs.Opened.{opened}
use Rattle.iop_saved_tables.proofs.Opening.{none_came}
use Rattle.iop_saved_tables.proofs.blocks.restore_blocks.Goals as goal

pub returns-else-used : goal.returns-else-used
returns-else-used c =
    let (used, put, read) = c.in_ok-restore_list.ensures in
    let none : used ≡ [] =
    none_came c.args.blocks used (opened c.restore_list.new.table) put c.if-used.false in
    rw (read, none) refl
