-- Whether something is delivered, and what a delivery makes of the kernel.
use Rattle.std.proofs.Common.{◌≡◌, ℕ, true, Option, Some, List, [], ◌∷◌, refl, ap, sym, subst}
use Rattle.iop_base.specs.Output.{Output, Gives}
use Rattle.iop_base.specs.Piece.{Traced}
use Rattle.iop_base.specs.Text.{line_bytes}
use Rattle.iop_base.specs.declared.code.TheConstants.Code.{OK}
use Rattle.iop_base.specs.declared.line.Line.TheVariants as lines
use Rattle.iop_exec.specs.declared.cpu.Cpu.{Cpu}
use Rattle.iop_intr.specs.InterruptLines.{line_of, delivering}
use Rattle.iop_intr.specs.declared.handler.Handler.{Handler}
use Rattle.iop_ready.specs.declared.entry.Entry.{Entry}
use Rattle.iop_time.specs.Taking.{takes_due}
use Rattle.iop_time.specs.Timers.{Timers}
use Rattle.iop_time.specs.declared.delay.Delay.{Delay}
use Rattle.iop_time.specs.declared.due.Due.{Due}
use Rattle.iop_time.specs.declared.due.Due.TheVariants as due_variants
use Rattle.iop_kernel.specs.Deliveries.{Delivered, delivers_line, delivers_due}
use Rattle.iop_kernel.specs.Handlers.{begins_handler, handler_registers}
use Rattle.iop_kernel.specs.Placing.{IsPlaced}
use Rattle.iop_kernel.specs.Standing.{Holds, Delivers}
use Rattle.iop_kernel.specs.System.{Core, with_irqs, with_timers}
use Rattle.iop_kernel.specs.Waits.{wakes_with}
use Rattle.iop_kernel.specs.declared.active_handler.Cause.TheVariants as causes
use Rattle.iop_kernel.specs.declared.kernel.Kernel.{Kernel as Program}
use Rattle.iop_kernel.proofs.Placing.Steps.{due_delivered_places}

-- what is taken now, and what is left
abbrev taken_now : Core → Option Due × Timers
taken_now c = takes_due c.kernel.timers c.kernel.clock

module _ {R : Type 0} (stands_for : R → List Entry → Type 0) (c : Core) (placed : IsPlaced c.kernel)
    (now : Program R) (cpu : Cpu) (a b : Output) where
  -- a line was delivered
  pub line_delivered : (line : ℕ) (handler : Handler)
      → (line_of c.kernel.irqs line).handler ≡ Some handler
      → Holds stands_for now (begins_handler (with_irqs c (delivering c.kernel.irqs line))
      (causes.Line line) handler).kernel
      → cpu ≡ handler_registers handler
      → Gives a b (Traced (line_bytes c.kernel.clock (lines.Irq line)) ∷ [])
      → Delivers stands_for c (delivers_line c line (line_of c.kernel.irqs line).handler) true now
      cpu a b
  line_delivered line handler its holds is gives = rw its (
    refl,
    record {
      holds = holds;
      placed = record {
        threads = placed.threads;
        objects = placed.objects;
        delays = placed.delays;
      };
    },
    is,
    gives,
  )

  -- a delay was
  pub delay_delivered : (delay : Delay) → Some (due_variants.Delay delay) ≡ (taken_now c).0
      → Holds stands_for now
      (wakes_with (with_timers c (taken_now c).1) delay.thread OK).kernel
      → cpu ≡ c.cpu
      → Gives a b (Traced (line_bytes c.kernel.clock (lines.Due delay.thread)) ∷ [])
      → Delivers stands_for c (delivers_due c (taken_now c)) true now cpu a b
  delay_delivered delay taken holds same gives =
      let left : Delivered = record {
        core = wakes_with (with_timers c (taken_now c).1) delay.thread OK;
        line = Traced (line_bytes c.kernel.clock (lines.Due delay.thread));
      } in
      let is : delivers_due c (taken_now c) ≡ Some left =
      ap (λ (o : Option Due). delivers_due c (o, (taken_now c).1)) (sym taken) in
      subst (λ (o : Option Delivered). Delivers stands_for c o true now cpu a b) (sym is) (
        refl,
        record { holds = holds; placed = due_delivered_places c placed left is },
        same,
        gives,
      )
