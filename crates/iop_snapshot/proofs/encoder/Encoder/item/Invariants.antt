use Rattle.std.proofs.Common.{◌≡◌, true, drop}
use Rattle.std.specs.List.{list_all}
use Rattle.iop_snapshot.specs.Items.{is_width, fits_item, spell_item}
use Rattle.iop_snapshot.specs.Writing.{place_of}
use Rattle.iop_snapshot.proofs.Sending.{Continues}
use Rattle.iop_snapshot.proofs.encoder.Encoder.item.Given as goal

abbrev pub invariant-loop-index : goal.invariant-loop-index
invariant-loop-index g l =
    let left = drop l.index l.widths in
    let numbers = drop l.index l.values in record {
      widths : list_all is_width left ≡ true;
      fits : fits_item left numbers ≡ true;
      goes_on : Continues (spell_item l.widths l.values) (spell_item left numbers)
          (place_of g.S.Sink.told l.fn.self) (place_of g.S.Sink.told l.self);
    }
