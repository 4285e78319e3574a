use Rattle.iop_event.proofs.Settling.{met_one_by_one, none_overdue}
use Rattle.iop_event.proofs.SettingBits.{bits_set, bits_cleared}
use Rattle.iop_event.proofs.laws.flags_are_met.Goals as goal

pub returns : goal.returns
returns c = record {
  one_by_one = met_one_by_one;
  none_overdue = none_overdue;
  set = bits_set;
  cleared = bits_cleared;
}
