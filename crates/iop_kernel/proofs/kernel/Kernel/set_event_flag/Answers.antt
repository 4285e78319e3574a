use Rattle.std.proofs.Common.{refl, ap, ◌∙◌}
use Rattle.iop_base.specs.declared.code.Code.{Code}
use Rattle.iop_exec.specs.Row.{with_reg}
use Rattle.iop_kernel.specs.Standing.{board}
use Rattle.iop_kernel.specs.System.{code_word}
use Rattle.iop_kernel.proofs.Bodies.Meetings.{found_live, set_answers, meeting_begins, meeting_goes_on, meeting_fewer, meeting_ends}
use Rattle.iop_kernel.proofs.Bodies.Standing.{kernel_of, over, holds_flags}
use Rattle.iop_kernel.proofs.kernel.Kernel.set_event_flag.Goals as goal

pub loop-met-init : goal.loop-met-init
loop-met-init g c = over g.R.Ready.stands _ (λ t h.
    let flags = c.args.self.now.event_flags in
    let id = c.args.id in
    let b = board (kernel_of c.args.self.now t) c.args.cpu.now c.args.guest.now in
    let found = found_live flags id c.get.result c.get.ensures.flag c.if-is_none.ensures in
    meeting_begins g.R.Ready.stands b id c.args.bits found.0 found.1 c.get.ensures.objects.ids
    (record c.args.self.now { event_flags = c.set-code.new.self })
    (holds_flags g.R.Ready.stands h refl) c.set-code.ensures.left
    (g.L.Lines.output c.args.lines.now))

pub meet-requires : goal.meet-requires
meet-requires g c =
    let meeting = c.loop-met.invariant c.requires.sound.0 c.requires.sound.1 in
    record { sound = (_, holds_flags g.R.Ready.stands meeting.holds refl) }

pub loop-met-smaller : goal.loop-met-smaller
loop-met-smaller g c =
    let meeting = c.loop-met.invariant c.requires.sound.0 c.requires.sound.1 in
    let woken = c.meet.ensures.kernel _ c.args.cpu.now
    (holds_flags g.R.Ready.stands meeting.holds refl) in
    meeting_fewer meeting c.next_met.new.self c.in-Some.ensures.left c.in-Some.met
    c.in-Some.ensures.answer c.meet.new.self woken.event_flags

pub loop-met-preserved : goal.loop-met-preserved
loop-met-preserved g c = λ k h.
    let meeting = c.loop-met.invariant k h in
    let held = holds_flags g.R.Ready.stands meeting.holds refl in
    meeting_goes_on meeting c.next_met.new.self c.in-Some.ensures.left c.in-Some.met
    c.in-Some.ensures.answer c.meet.new.self c.meet.new.guest (g.L.Lines.output c.meet.new.lines)
    (c.meet.ensures.kernel _ c.args.cpu.now held) (c.meet.ensures.memory _ c.args.cpu.now held)
    (c.meet.ensures.lines _ c.args.cpu.now held)

pub returns : goal.returns
returns g c = λ k h.
    let code = c.set-code.ensures.answer
    ∙ set_answers c.args.self.now.event_flags c.args.id c.get.result c.get.ensures.flag c.args.bits
    c.if-is_none.ensures in
    meeting_ends (c.loop-met.invariant k h) c.next_met.new.self c.in_default.ensures.left
    c.in_default.ensures.answer c.answer-2.result c.answer-2.new.cpu c.answer-2.ensures.after
    (c.answer-2.ensures.processor
    ∙ ap (λ (code : Code). with_reg c.args.cpu.now 2 (code_word code)) code)
