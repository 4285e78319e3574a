use Rattle.std.proofs.Common.{refl, ap, sym, ◌∙◌}
use Rattle.iop_time.specs.Taking.{takes_due}
use Rattle.iop_kernel.specs.Standing.{core}
use Rattle.iop_kernel.proofs.Bodies.Standing.{holds_timers}
use Rattle.iop_kernel.proofs.Order.DeliveryCalls.{delay_delivered}
use Rattle.iop_kernel.proofs.kernel.Kernel.deliver_due.Goals as goal

pub wake-requires : goal.wake-requires
wake-requires g c =
    record { sound = (_, holds_timers g.R.Ready.stands c.requires.sound.1.holds refl) }

pub returns-in-Some-Delay : goal.returns-in-Some-Delay
returns-in-Some-Delay g c = λ k h.
    let cpu = c.args.cpu.now in
    let arm = c.in-Some-Delay in
    let same = ap (λ timers. takes_due timers k.clock) h.holds.timers
    ∙ ap (takes_due c.args.self.now.timers) h.holds.clock in
    let taken = rw arm.field-0-is at arm.ensures.due in
    let left = ap (λ d. d.1) same ∙ sym arm.ensures.timers in
    let taken_out = holds_timers g.R.Ready.stands h.holds left in
    delay_delivered g.R.Ready.stands (core k cpu) h.placed c.wake.new.self cpu
    (g.L.Lines.output c.args.lines.now) (g.L.Lines.output c.line-in-Some-Delay.new.self) arm.delay
    (taken ∙ sym (ap (λ d. d.0) same))
    (c.wake.ensures (record k { timers = (takes_due k.timers k.clock).1 }) cpu taken_out) refl
    (rw h.holds.clock c.line-in-Some-Delay.ensures)
