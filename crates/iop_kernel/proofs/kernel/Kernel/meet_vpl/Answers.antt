use Rattle.std.proofs.Common.{◌<◌, ◌∙◌, ap, length, subst, sym}
use Rattle.iop_base.specs.declared.code.TheConstants.Code.{OK}
use Rattle.iop_exec.specs.Row.{with_reg}
use Rattle.iop_objects.specs.Objects.{waiters_of}
use Rattle.iop_pools.specs.VariablePools.{VariablePools}
use Rattle.iop_kernel.specs.Standing.{core}
use Rattle.iop_kernel.specs.System.{Core, code_word}
use Rattle.iop_kernel.proofs.Bodies.Pools.{meeting_begins, meeting_holds, meeting_goes_on, meeting_fewer, meeting_ends}
use Rattle.iop_kernel.proofs.Walk.Meeting.{all_met}
use Rattle.iop_kernel.proofs.kernel.Kernel.meet_vpl.Goals as goal

pub loop-met-init : goal.loop-met-init
loop-met-init g c = λ k h. meeting_begins g.R.Ready.stands c.args.id c.args.cpu.now k _ h

pub wake_with-requires : goal.wake_with-requires
wake_with-requires g c =
    let k = c.requires.sound.0 in
    let meeting = c.loop-met.invariant k c.requires.sound.1 in
    record { sound = (_, meeting_holds meeting c.next_met.new.self) }

pub loop-met-smaller : goal.loop-met-smaller
loop-met-smaller g c =
    let meeting = c.loop-met.invariant c.requires.sound.0 c.requires.sound.1 in
    let woken =
    c.wake_with.ensures _ c.args.cpu.now (meeting_holds meeting c.next_met.new.self) in
    subst (λ (s : VariablePools). length (waiters_of s c.args.id)
    < length (waiters_of c.loop-met.self.variable_pools c.args.id)) woken.variable_pools
    (meeting_fewer meeting c.next_met.new.self c.in-Some.met c.in-Some.ensures.answer
    c.in-Some.ensures.left)

pub loop-met-preserved : goal.loop-met-preserved
loop-met-preserved g c = λ k h.
    let meeting = c.loop-met.invariant k h in
    meeting_goes_on meeting c.next_met.new.self c.in-Some.met c.in-Some.ensures.answer
    c.in-Some.ensures.left c.wake_with.new.self
    (c.wake_with.ensures _ c.args.cpu.now (meeting_holds meeting c.next_met.new.self))

pub returns : goal.returns
returns g c = λ k h. record {
  answer = c.answer.ensures.after;
  kernel = meeting_ends (c.loop-met.invariant k h) c.next_met.new.self
      c.in_default.ensures.answer c.in_default.ensures.left;
  processor = c.answer.ensures.processor
      ∙ ap (λ (d : Core). with_reg d.cpu 2 (code_word OK))
      (sym (all_met c.args.id (core k c.args.cpu.now)).core);
}
