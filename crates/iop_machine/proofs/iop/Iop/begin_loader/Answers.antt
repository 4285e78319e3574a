use Rattle.std.proofs.Common.{◌∙◌, sym}
use Rattle.iop_machine.proofs.LoadingLemmas.{stands_started, stands_unstarted}
use Rattle.iop_machine.proofs.iop.Iop.begin_loader.Goals as goal

pub begin-requires : goal.begin-requires
begin-requires c = record { sound = (_, c.requires.sound.1.kernel) }

pub returns-then-is_some : goal.returns-then-is_some
returns-then-is_some c =
    stands_started c.args.self.now c.begin.new.self c.begin.ensures
    (sym c.is_some.ensures ∙ c.if-is_some.true)

pub returns-else-is_some : goal.returns-else-is_some
returns-else-is_some c =
    stands_unstarted c.args.self.now (sym c.is_some.ensures ∙ c.if-is_some.false)
