use Rattle.std.proofs.Common.{Some, None}
use Rattle.iop_machine.proofs.ServiceLemmas.{returns_takes, stands_ended}
use Rattle.iop_machine.proofs.StandingLemmas.{silent_takes}
use Rattle.iop_machine.proofs.iop.Iop.return_module.Goals as goal

pub end_running-requires : goal.end_running-requires
end_running-requires g c = record { sound = (_, c.requires.sound.1.kernel) }

pub returns-in-Some : goal.returns-in-Some
returns-in-Some g c =
    returns_takes (Some c.in-Some.begun) c.args.value c.in-Some.is c.end_module.ensures

pub returns-in-None : goal.returns-in-None
returns-in-None g c =
    returns_takes None c.args.value c.in-None.is (λ s h. silent_takes _
    (stands_ended c.args.self.now c.end_running.new.self c.end_running.ensures s h))
