-- What is delivered: the lowest line, else the alarm or the delay that comes next; and what a
-- delivery keeps.
use Rattle.std.proofs.Common.{◌≡◌, true, Some, None, is_some, refl, ap, arith}
use Rattle.std.proofs.lemmas.Bool.Decides.{nat_tests}
use mathlib.Core.Logic.{inl, inr}
use Rattle.iop_base.specs.Piece.{Piece}
use Rattle.iop_base.specs.declared.code.TheConstants.Code.{OK}
use Rattle.iop_intr.specs.InterruptLines.{deliverable}
use Rattle.iop_intr.specs.Laws.{IsLowest}
use Rattle.iop_intr.proofs.Keeping.{delivering-lines}
use Rattle.iop_thread.proofs.Waits.{moves_waits}
use Rattle.iop_time.specs.Laws.{IsNext, IsTaken, moment_of, number_of}
use Rattle.iop_time.specs.Taking.{without_due, takes_due}
use Rattle.iop_time.specs.declared.due.Due.{Due}
use Rattle.iop_time.specs.declared.due.Due.TheVariants as due
use Rattle.iop_time.proofs.Leaving.{each_call_leaves}
use Rattle.iop_time.proofs.Results.{taken_is_next}
use Rattle.iop_kernel.specs.Deliveries.{may_deliver}
use Rattle.iop_kernel.specs.DeliveryLaws.{IsOpenToDelivery, DeliveryKeeps, DeliveriesAreInOrder}
use Rattle.iop_kernel.specs.Laws.{IsCore}
use Rattle.iop_kernel.specs.System.{Kernel, Core, code_word}
use Rattle.iop_kernel.proofs.Keeping.Steps.{core_steps}
use Rattle.iop_kernel.proofs.Order.Nothing.{none_of, lowest_is, no_line_comes, no_line, no_moment, none_before_look}
use Rattle.iop_kernel.proofs.Walk.Steps.{DueComes, Deliveries, delivers_goes}

-- when something may be delivered
open_by : (c : Core) → may_deliver c ≡ true → IsOpenToDelivery c
open_by c may = record {
  interrupts = grind (arith, nat_tests, may);
  handler = none_of c.kernel.handler (grind (arith, nat_tests, may));
  slot = λ r runs.
      let some : is_some c.kernel.threads.running ≡ true = ap is_some runs in
      grind (arith, nat_tests, may, some);
}

module _ (c : Core) (core : IsCore c) where
  abbrev k : Kernel
  k = c.kernel

  -- what a delivery that leaves this, and gives this line, keeps
  abbrev Keeps : Core → Piece → Type 0
  Keeps d line = DeliveryKeeps c (record { core = d; line = line })

  -- what is taken is what comes next, and leaves what it is to
  taken_first : (x : Due) → (takes_due k.timers k.clock).0 ≡ Some x
      → IsNext k.timers k.clock (moment_of x) (number_of x)
      × IsTaken k.timers (without_due k.timers (Some x)) x
  taken_first x taken = (
    rw taken at (taken_is_next k.timers core.placed.delays.kept k.clock),
    rw taken at ((each_call_leaves k.timers core.placed.delays.kept).takes_due k.clock),
  )

  module _ (may : may_deliver c ≡ true) where
    -- an alarm or a delay is delivered, where no line can be
    due_first : deliverable k.irqs ≡ None → DueComes Keeps c
    due_first none =
        let allowed = open_by c may in
        let steps = (core_steps core).delivers.due none in
        let no_line = no_line_comes k (lowest_is k.irqs None none) in
        record {
          begins_alarm = λ alarm taken. let first = taken_first (due.Alarm alarm) taken in record {
            allowed = allowed;
            first = inr (inl (
              alarm,
              record {
                no_line = no_line;
                irqs = refl;
                next = first.0;
                taken = first.1;
                begins = record { active = refl; registers = refl; threads = refl };
                told = refl;
              },
            ));
            core = steps.begins_alarm alarm taken;
            kernel = refl;
            running = refl;
          };
          wakes = λ delay taken. let first = taken_first (due.Delay delay) taken in record {
            allowed = allowed;
            first = inr (inr (
              delay,
              record {
                no_line = no_line;
                irqs = refl;
                next = first.0;
                taken = first.1;
                handler = allowed.handler;
                processor = refl;
                woken = refl;
                told = refl;
              },
            ));
            core = steps.wakes delay taken;
            kernel = refl;
            running = ((moves_waits k.threads core.placed.threads).wakes delay.thread
                (code_word OK)).running;
          };
        }

    -- what is delivered comes first
    delivers_first : Deliveries Keeps c
    delivers_first = record {
      begins_line = λ line handler found has.
          let lowest : IsLowest k.irqs line = lowest_is k.irqs (Some line) found in record {
            allowed = open_by c may;
            first = inl (
              line,
              record {
                lowest = lowest;
                lowered = delivering-lines k.irqs line lowest.below;
                timers = refl;
                handler = handler;
                registered = has;
                begins = record { active = refl; registers = refl; threads = refl };
                told = refl;
              },
            );
            core = (core_steps core).delivers.begins_line line handler found has;
            kernel = refl;
            running = refl;
          };
      due = due_first;
    }

-- deliveries are in order
pub deliveries_are_in_order : DeliveriesAreInOrder
deliveries_are_in_order = record {
  delivered = λ c d core made. delivers_goes (Keeps c core) c (delivers_first c core) d made;
  no_line = no_line;
  no_moment = no_moment;
  look = λ c moment cpu none after same before.
      none_before_look c moment cpu none after same before;
}
