use Rattle.std.proofs.Common.{◌≡◌, ◌≤◌, ◌++◌, true, length, take, drop}
use Rattle.std.specs.List.{list_all}
use Rattle.iop_snapshot.specs.Items.{is_width, item_size, numbers_in}
use Rattle.iop_snapshot.proofs.decoder.fill.Given as goal

abbrev pub invariant-loop-index : goal.invariant-loop-index
invariant-loop-index l =
    let left = drop l.index l.widths in record {
      as_many : length l.values ≡ length l.widths;
      widths : list_all is_width left ≡ true;
      filled : numbers_in l.widths l.bytes ≡ take l.index l.values ++ numbers_in left l.rest;
      behind : drop (item_size l.widths) l.bytes ≡ drop (item_size left) l.rest;
      room : item_size left ≤ length l.rest;
    }
