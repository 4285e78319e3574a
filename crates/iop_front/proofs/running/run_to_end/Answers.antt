use Rattle.std.proofs.Common.{true, false, sym, ◌∙◌, refl, subst}
use Rattle.iop_machine.specs.Stepping.{steps}
use Rattle.iop_options.specs.Commands.{Command}
use Rattle.iop_options.specs.Held.{command_held}
use Rattle.iop_front.specs.Keeping.{Keeps, written}
use Rattle.iop_front.specs.Outcome.{Comes, TraceLeaves, ending_of, kept_of, outcome_from}
use Rattle.iop_front.specs.declared.status.Status.TheVariants.{SinkFault}
use Rattle.iop_front.proofs.RunLemmas.{cut_run, cut_ending, in_time, whole_run}
use Rattle.iop_front.proofs.running.run_to_end.Goals as goal
use Rattle.iop_front.proofs.running.run_to_end.Goals.{else-write_ending-via-then-write_ending+else-keep_end, else-write_ending-via-else-write_ending}

pub run-requires-clause-time : goal.run-requires-clause-time
run-requires-clause-time g c =
    in_time _ _ c.requires.early c.options.invariant.budget

pub returns-then-keep_end-clause-comes : goal.returns-then-keep_end-clause-comes
returns-then-keep_end-clause-comes g c = λ w stands machine.
    let seen = written g.K.Sink.told g.C.Sink.told g.T.Sink.told in
    let held = c.options.inside in
    let options = c.args.options.now in
    let old = seen c.args.keep.now c.args.console.now c.args.trace.now in
    let mid = seen c.args.keep.now c.run.new.console c.run.new.trace in
    let new = seen c.keep_end.new.keep c.run.new.console c.write_ending.new.trace in
    let ran = c.in-Ok.ensures.whole w stands machine in
    let at_budget = c.in-Ok.ensures.at_budget in
    let last = (steps ran.0 w).state in
    let ending = subst
    (λ b. TraceLeaves b (g.T.Sink.told c.run.new.trace) (g.T.Sink.told c.write_ending.new.trace)
    (ending_of held.dump last c.in-Ok.stop)) c.if-write_ending.true
    (c.write_ending.ensures last ran.1) in
    let keeps = subst
    (λ b. Keeps (kept_of options.save last c.in-Ok.stop) b old.keep new.keep) c.if-keep_end.true
    (c.keep_end.ensures.kept last c.in-Ok.stop ran.1 at_budget) in
    subst (λ (o : Command). Comes (outcome_from o w) c.from.result old new) c.options.view_is
    (whole_run w machine held.budget held.dump _ old.output old.keep true ran.0 c.in-Ok.stop
    c.from.result mid.output new.output new.keep c.from.ensures ran.2
    (ending (g.C.Sink.told c.run.new.console))
    (subst (λ (o : Command). Keeps (kept_of o.save last c.in-Ok.stop) true old.keep new.keep)
    (sym c.options.view_is) keeps))

pub returns-else-write_ending-clause-comes : goal.returns-else-write_ending-clause-comes
returns-else-write_ending-clause-comes g c = λ w stands machine.
    let seen = written g.K.Sink.told g.C.Sink.told g.T.Sink.told in
    let held = c.options.inside in
    let options = c.args.options.now in
    let old = seen c.args.keep.now c.args.console.now c.args.trace.now in
    let mid = seen c.args.keep.now c.run.new.console c.run.new.trace in
    let new = seen c.else-write_ending.keep c.run.new.console c.write_ending.new.trace in
    let ran = c.in-Ok.ensures.whole w stands machine in
    let at_budget = c.in-Ok.ensures.at_budget in
    let last = (steps ran.0 w).state in
    let ending = c.write_ending.ensures last ran.1 in
    subst (λ (o : Command). Comes (outcome_from o w) SinkFault old new) c.options.view_is
    (elim c.else-write_ending.branch [
      | else-write_ending-via-then-write_ending+else-keep_end v ↦
          let keeps = subst
          (λ b. Keeps (kept_of options.save last c.in-Ok.stop) b old.keep
          (g.K.Sink.told v.keep_end.new.keep)) v.if-keep_end.false
          (v.keep_end.ensures.kept last c.in-Ok.stop ran.1 at_budget) in
          whole_run w machine held.budget held.dump _ old.output old.keep false ran.0 c.in-Ok.stop
          SinkFault mid.output new.output new.keep refl ran.2
          (subst
          (λ b. TraceLeaves b (g.T.Sink.told c.run.new.trace)
          (g.T.Sink.told c.write_ending.new.trace) (ending_of held.dump last c.in-Ok.stop))
          v.if-write_ending.true ending (g.C.Sink.told c.run.new.console))
          (subst (λ (o : Command). Keeps (kept_of o.save last c.in-Ok.stop) false old.keep new.keep)
          (sym c.options.view_is)
          (subst (λ keep. Keeps (kept_of options.save last c.in-Ok.stop) false old.keep
          (g.K.Sink.told keep)) (sym v.keep-is) keeps))
      | else-write_ending-via-else-write_ending v ↦
          subst (λ keep. Comes (outcome_from (command_held held) w) SinkFault old
          (record { output = new.output; keep = g.K.Sink.told keep })) (sym v.keep-is)
          (cut_ending w machine held.budget held.dump _ old.output old.keep ran.0 c.in-Ok.stop
          SinkFault mid.output new.output refl ran.2
          (subst
          (λ b. TraceLeaves b (g.T.Sink.told c.run.new.trace)
          (g.T.Sink.told c.write_ending.new.trace) (ending_of held.dump last c.in-Ok.stop))
          v.if-write_ending.false ending (g.C.Sink.told c.run.new.console)))
    ])

pub returns-else-write_ending-clause-uncalled : goal.returns-else-write_ending-clause-uncalled
returns-else-write_ending-clause-uncalled g c = record {
  unsaved = λ e. elim c.else-write_ending.branch [
    | else-write_ending-via-then-write_ending+else-keep_end v ↦
        v.keep-is ∙ v.keep_end.ensures.unsaved e
    | else-write_ending-via-else-write_ending v ↦ v.keep-is
  ];
  ended = λ late cut. absurd (cut refl);
}

pub returns-in-Err-clause-comes : goal.returns-in-Err-clause-comes
returns-in-Err-clause-comes g c = λ w stands machine.
    let seen = written g.K.Sink.told g.C.Sink.told g.T.Sink.told in
    let held = c.options.inside in
    let old = seen c.args.keep.now c.args.console.now c.args.trace.now in
    let new = seen c.args.keep.now c.run.new.console c.run.new.trace in
    let cut = c.in-Err.ensures.fault w stands machine in
    subst (λ (o : Command). Comes (outcome_from o w) SinkFault old new) c.options.view_is
    (cut_run w machine held.budget held.dump _ old.output old.keep cut.0 SinkFault new.output refl
    cut.2)
