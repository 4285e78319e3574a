use Rattle.std.proofs.Common.{ℕ, List, ◌∙◌, subst}
use Rattle.iop_ports.specs.Sinks.{Sends}
use Rattle.iop_front.proofs.refusing.refuse_bad_script.Goals as goal

pub returns-clause-sent : goal.returns-clause-sent
returns-clause-sent g c =
    let sent = c.refuse.ensures.sent in (
      sent.0,
      subst (λ (line : List ℕ). Sends sent.0 line (g.T.Sink.told c.args.trace.now)
          (g.T.Sink.told c.refuse.new.trace)) (c.deref.ensures.0 ∙ c.bad_script.ensures) sent.1,
    )
