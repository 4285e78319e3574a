use Rattle.std.proofs.Common.{refl}
use Rattle.iop_machine.proofs.LoadingLemmas.{reset_stands}
use Rattle.iop_machine.proofs.iop.Iop.new.Goals as goal

pub new-requires-2 : goal.new-requires-2
new-requires-2 c = record { none = c.in_ok-new.ensures }

pub returns : goal.returns
returns c =
    reset_stands c.args.size _ (record {
      kernel = c.in_ok-new-2.ensures;
      cpu = c.registers_at.ensures;
      zero = c.in_ok-new-3.ensures.zero;
      none = c.in_ok-new-3.ensures.none;
      sized = c.in_ok-new-3.ensures.sized;
      map = c.in_ok-new-4.ensures.map;
      registry = c.in_ok-new-5.ensures.libraries;
      begun = refl;
      over = refl;
    })
