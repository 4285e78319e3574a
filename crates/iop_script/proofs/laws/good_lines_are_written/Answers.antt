use Rattle.iop_script.proofs.GoodLinesWritten.{good_are_written}
use Rattle.iop_script.proofs.laws.good_lines_are_written.Goals as goal

pub returns : goal.returns
returns c = good_are_written
