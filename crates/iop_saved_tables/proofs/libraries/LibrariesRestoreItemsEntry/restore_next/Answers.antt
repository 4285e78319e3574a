use Rattle.iop_snapshot.proofs.Putting.{puts_more}
use Rattle.iop_saved_tables.specs.Records.{library_form}
use Rattle.iop_saved_tables.specs.Tables.{put_library}
use Rattle.iop_saved_tables.proofs.libraries.LibrariesRestoreItemsEntry.restore_next.Goals as goal

pub returns : goal.returns
returns c =
    λ base xs u there.
    puts_more put_library library_form base.registry c.args.self.now.registry c.put_library.new.registry xs
    c.put_library.result c.args.decoder.now c.put_library.new.decoder there c.put_library.ensures
