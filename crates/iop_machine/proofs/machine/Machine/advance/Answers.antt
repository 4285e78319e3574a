use Rattle.std.proofs.Common.{refl, ap, ◌∙◌}
use Rattle.iop_machine.specs.Iop.{Iop}
use Rattle.iop_machine.specs.Standing.{StandsForWorld}
use Rattle.iop_machine.specs.World.{booted}
use Rattle.iop_machine.proofs.Progressing.{progresses_booted, boots_less}
use Rattle.iop_machine.proofs.Reaching.{stops_at_once, one_step}
use Rattle.iop_machine.proofs.Stepping.{stop_over, next_boots}
use Rattle.iop_machine.proofs.StandingLemmas.{goes_on, takes_with}
use Rattle.iop_machine.proofs.machine.Machine.advance.Goals as goal

pub returns-in-Some-clause-progresses : goal.returns-in-Some-clause-progresses
returns-in-Some-clause-progresses g c = λ w h machine.
    stops_at_once w c.args.budget c.in-Some.stop c.args.self.now _ h c.requires.well
    (stop_over w c.args.budget c.in-Some.stop (ap (λ (s : Iop). s.over) h.iop.rest ∙ c.in-Some.is))

pub returns-then-self-clause-progresses : goal.returns-then-self-clause-progresses
returns-then-self-clause-progresses g c = λ w h machine.
    let boots = next_boots w c.args.budget (goes_on h.iop c.in_default.is)
    (h.is_new ∙ c.if-self.true) in (
      0,
      one_step c.args.self.now h c.requires.well boots
          (takes_with (c.boot.ensures w.iop h.iop) StandsForWorld booted _
          (λ k. record { is_new = refl; iop = k })),
    )

pub returns-then-self-clause-less : goal.returns-then-self-clause-less
returns-then-self-clause-less g c =
    let r = c.requires.sound in
    rw (c.in_default.is, c.if-self.true)
    (boots_less c.args.budget r.1.iop (c.boot.ensures _ r.1.iop).state _)

pub returns-else-self-clause-progresses : goal.returns-else-self-clause-progresses
returns-else-self-clause-progresses g c = λ w h machine.
    progresses_booted c.args.self.now c.advance.new.self c.advance.result c.args.budget _ _
    c.if-self.false w h (c.advance.ensures.progresses w.iop h.iop)
