use Rattle.std.proofs.Common.{◌≡◌, false, suc, refl, sym, ◌∙◌, ap, rules}
use Rattle.iop_base.proofs.Giving.{gives_none}
use Rattle.iop_machine.specs.Standing.{StandsForWorld}
use Rattle.iop_machine.specs.declared.progress.Progress.TheVariants.{Stopped, Advanced}
use Rattle.iop_machine.proofs.Advancing.{progress_names, same_sinks, finished, faulted}
use Rattle.iop_machine.proofs.Progressing.{noted_progresses, reached_machine, then_progresses, progressed_sound, advances_time, less_of}
use Rattle.iop_machine.proofs.Reaching.{reached_none, reached_more}
use Rattle.iop_machine.proofs.StandingLemmas.{noted, noted_sound}
use Rattle.iop_machine.proofs.machine.Machine.run.Goals as goal

pub steps-init : goal.steps-init
steps-init g c = record {
  time = c.requires.time;
  at_budget = refl;
  reached = λ w h machine. (
    0,
    reached_none w c.args.budget (record c.args.self.now { at_budget = false }) _ _ (noted false h)
        (gives_none _)
        c.new-out.ensures.failed,
  );
}

pub advance-requires-clause-sound : goal.advance-requires-clause-sound
advance-requires-clause-sound g c =
    let r = c.requires.sound in
    let i = c.steps.invariant.reached r.0 r.1 r.2 in
    (_, i.1.state, reached_machine i.1 r.2)

pub returns-in-Stopped-clause-sound : goal.returns-in-Stopped-clause-sound
returns-in-Stopped-clause-sound g c =
    let r = c.requires.sound in
    let i = c.steps.invariant.reached r.0 r.1 r.2 in
    noted_sound c.advance.new.self _
    (progressed_sound (Stopped c.in-Stopped.stop) r.0 c.args.budget c.advance.new.self _ _ r.2
    (then_progresses i.1 r.2 (Stopped c.in-Stopped.stop) c.advance.new.self _
    c.in-Stopped.ensures.progresses))

pub returns-in-Stopped-clause-whole : goal.returns-in-Stopped-clause-whole
returns-in-Stopped-clause-whole g c = λ w h machine.
    let i = c.steps.invariant.reached w h machine in
    let all = then_progresses i.1 machine (Stopped c.in-Stopped.stop) c.advance.new.self _
    c.in-Stopped.ensures.progresses in
    let names = progress_names StandsForWorld (Stopped c.in-Stopped.stop) w c.args.budget
    c.advance.new.self _ _ all in
    let console : c.new-out.result.console.ghost_name ≡ c.advance.new.out.console.ghost_name =
    cc names in
    let trace : c.new-out.result.trace.ghost_name ≡ c.advance.new.out.trace.ghost_name = cc names in
    finished
    (same_sinks (sym (ap g.C.Sink.told c.new-out.ensures.console))
    (sym (ap g.T.Sink.told c.new-out.ensures.trace)))
    (record {
      console = search (rules, console);
      trace = search (rules, trace);
      console_faults = search (rules, console);
      trace_faults = search (rules, trace);
    })
    (noted_progresses (Stopped c.in-Stopped.stop) w c.args.budget c.advance.new.self _ _ _ all).1
    c.new-out.ensures.failed

pub returns-in-Advanced-clause-sound : goal.returns-in-Advanced-clause-sound
returns-in-Advanced-clause-sound g c =
    let r = c.requires.sound in
    let i = c.steps.invariant.reached r.0 r.1 r.2 in
    progressed_sound (Advanced c.in-Advanced.field-0) r.0 c.args.budget c.advance.new.self _ _ r.2
    (then_progresses i.1 r.2 (Advanced c.in-Advanced.field-0) c.advance.new.self _
    c.in-Advanced.ensures.progresses)

pub returns-in-Advanced-clause-fault : goal.returns-in-Advanced-clause-fault
returns-in-Advanced-clause-fault g c = λ w h machine.
    let i = c.steps.invariant.reached w h machine in
    let all = then_progresses i.1 machine (Advanced c.in-Advanced.field-0) c.advance.new.self _
    c.in-Advanced.ensures.progresses in
    let names = progress_names StandsForWorld (Advanced c.in-Advanced.field-0) w c.args.budget
    c.advance.new.self _ _ all in
    let console : c.new-out.result.console.ghost_name ≡ c.advance.new.out.console.ghost_name =
    cc names in
    let trace : c.new-out.result.trace.ghost_name ≡ c.advance.new.out.trace.ghost_name = cc names in
    faulted
    (same_sinks (sym (ap g.C.Sink.told c.new-out.ensures.console))
    (sym (ap g.T.Sink.told c.new-out.ensures.trace)))
    (record {
      console = search (rules, console);
      trace = search (rules, trace);
      console_faults = search (rules, console);
      trace_faults = search (rules, trace);
    })
    all.1 c.new-out.ensures.failed (sym c.failed.ensures ∙ c.if-failed.true)

pub steps-preserved : goal.steps-preserved
steps-preserved g c = record {
  time =
      let r = c.requires.sound in
      let i = c.steps.invariant.reached r.0 r.1 r.2 in
      let next = c.in-Advanced.ensures.progresses _ i.1.state (reached_machine i.1 r.2) in
      advances_time (reached_machine i.1 r.2) i.1.state next.1 c.steps.invariant.time;
  at_budget = c.advance.ensures.at_budget ∙ c.steps.invariant.at_budget;
  reached = λ w h machine.
      let i = c.steps.invariant.reached w h machine in
      let all = then_progresses i.1 machine (Advanced c.in-Advanced.field-0) c.advance.new.self _
      c.in-Advanced.ensures.progresses in
      (suc all.0, reached_more all.1 (sym c.failed.ensures ∙ c.if-failed.false));
}

pub steps-smaller : goal.steps-smaller
steps-smaller g c =
    less_of c.in-Advanced.field-0 _ _ _ _ (sym c.failed.ensures ∙ c.if-failed.false)
    c.in-Advanced.ensures.less
