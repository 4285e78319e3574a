use Rattle.std.proofs.Common.{sym}
use Rattle.irx_reloc.proofs.Rows.{length-entries_of}
use Rattle.irx_view.proofs.entries.Entry.count.Goals as goal

pub returns : goal.returns
returns c = sym (length-entries_of c.args.section.now)
