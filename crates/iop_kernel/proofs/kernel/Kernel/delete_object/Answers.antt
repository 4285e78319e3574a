use Rattle.std.proofs.Common.{◌<◌, length, ap, subst, ◌∙◌}
use Rattle.iop_objects.specs.Objects.{waiters_of}
use Rattle.iop_kernel.specs.Kinds.{Table, table, is_by_priority}
use Rattle.iop_kernel.specs.ObjectServices.{removes}
use Rattle.iop_kernel.specs.Standing.{core, held}
use Rattle.iop_kernel.proofs.Bodies.Deletions.{chosen_of, waking_begins, holds_others, objects_stay, waking_goes_on, deletion_is, taken_out, none_taken_out, all_are_woken}
use Rattle.iop_kernel.proofs.kernel.Kernel.delete_object.Goals as goal

pub loop-thread-init : goal.loop-thread-init
loop-thread-init g c = λ k h. waking_begins g.R.Ready.stands c.args.kind c.args.id k _ h

pub wake-requires : goal.wake-requires
wake-requires g c =
    let k = c.requires.sound.0 in
    let waking = c.loop-thread.invariant k c.requires.sound.1 in
    record { sound = (_, c.pop_waiter.ensures.rest _ waking.holds) }

pub loop-thread-smaller : goal.loop-thread-smaller
loop-thread-smaller g c =
    let kind = c.args.kind in
    let id = c.args.id in
    let k = c.requires.sound.0 in
    let before = held kind c.loop-thread.self in
    let out = c.pop_waiter.new.self in
    let waking = c.loop-thread.invariant k c.requires.sound.1 in
    let gone = taken_out (is_by_priority kind before id) before (held kind out) id c.in-Some.thread
    c.in-Some.ensures.answer c.in-Some.ensures.left in
    let holds = holds_others g.R.Ready.stands kind id k waking.threads c.loop-thread.self out
    (c.pop_waiter.ensures.rest _ waking.holds) in
    let same = objects_stay g.R.Ready.stands kind id k _ out c.wake.new.self
    (c.wake.ensures _ c.args.cpu.now holds) in
    subst (λ (s : Table kind). length (waiters_of s id) < length (waiters_of before id)) same
    gone.fewer

pub loop-thread-preserved : goal.loop-thread-preserved
loop-thread-preserved g c = λ k h.
    let kind = c.args.kind in
    let id = c.args.id in
    let out = c.pop_waiter.new.self in
    let waking = c.loop-thread.invariant k h in
    let holds = holds_others g.R.Ready.stands kind id k waking.threads c.loop-thread.self out
    (c.pop_waiter.ensures.rest _ waking.holds) in
    waking_goes_on g.R.Ready.stands kind id k c.in-Some.thread c.loop-thread.self out
    c.wake.new.self waking c.in-Some.ensures.answer c.in-Some.ensures.left
    (c.wake.ensures _ c.args.cpu.now holds)

pub remove-code-requires : goal.remove-code-requires
remove-code-requires g c =
    let kind = c.args.kind in
    let id = c.args.id in
    let before = held kind c.loop-thread.self in
    let none = none_taken_out (is_by_priority kind before id) before
    (held kind c.pop_waiter.new.self) id c.in_default.ensures.answer c.in_default.ensures.left in
    record { none = ap (λ (s : Table kind). waiters_of s id) none.0 ∙ none.1 }

pub returns : goal.returns
returns g c = λ k h.
    let kind = c.args.kind in
    let id = c.args.id in
    let before = held kind c.loop-thread.self in
    let out = c.pop_waiter.new.self in
    let left = c.remove-code.new.self in
    let waking = c.loop-thread.invariant k h in
    let none = none_taken_out (is_by_priority kind before id) before (held kind out) id
    c.in_default.ensures.answer c.in_default.ensures.left in
    let woken = all_are_woken (is_by_priority kind before id) waking.threads k.threads
    (chosen_of kind (table kind k) id) before id none.1 waking.order in
    let same = ap (λ (s : Table kind). removes kind s id) none.0 ∙ waking.deletes in
    let told = c.remove-code.ensures in
    let holds = holds_others g.R.Ready.stands kind id k waking.threads c.loop-thread.self out
    (c.pop_waiter.ensures.rest _ waking.holds) in
    rw (deletion_is kind (core k c.args.cpu.now) id waking.threads woken c.remove-code.result
    (held kind left) (told.answer ∙ ap (λ d. d.0) same) (told.left ∙ ap (λ d. d.1) same))
    (record {
      answer = c.answer.ensures.after;
      kernel = holds_others g.R.Ready.stands kind id k waking.threads out left (told.rest _ holds);
      processor = c.answer.ensures.processor;
    })
