-- The kernel and its processor are put back where all parts are.
use Rattle.std.proofs.Common.{◌≡◌, ℕ, true, false, cond, Option, Some, None, List, refl, ◌&&◌}
use Rattle.std.specs.Prelude.{option_and_then}
use Rattle.iop_intr.specs.declared.irq_line.IrqLine.{IrqLine}
use Rattle.iop_kernel.specs.System.{Core}
use Rattle.iop_saved_tables.specs.Lines.{lines_form}
use Rattle.iop_saved_threads.specs.Processors.{steady_form, kept_form}
use Rattle.iop_snapshot.specs.Forms.{Form, both}
use Rattle.iop_snapshot.specs.Reading.{GivesNone}
use Rattle.iop_snapshot.specs.declared.fault.SnapFault.{SnapFault}
use Rattle.iop_snapshot.specs.declared.fault.SnapFault.TheVariants.{Bad}
use Rattle.iop_thread.specs.ThreadTable.{ThreadTable}
use Rattle.iop_time.specs.Timers.{Timers}
use Rattle.iop_saved_kernel.specs.Executing.{executing_form}
use Rattle.iop_saved_kernel.specs.Heads.{read_head}
use Rattle.iop_saved_kernel.specs.Next.{next_form}
use Rattle.iop_saved_kernel.specs.ObjectLists.{ObjectLists, ObjectTables, objects_form, objects_back}
use Rattle.iop_saved_kernel.specs.Parts.{Nest, parts_with, nest_of, nest_form, parts_form, steady_form_of_parts, kernel_with, core_with, core_back}
use Rattle.iop_saved_kernel.specs.Restoring.{that_go_back, IsBack}
use Rattle.iop_saved_kernel.specs.ThreadLists.{ThreadLists, read_threads, threads_back, priorities_in, priority_among}
use Rattle.iop_saved_kernel.specs.TimerLists.{TimerLists, timers_form, timers_back}
use Rattle.iop_saved_kernel.specs.declared.executing.Executing.{Executing}
use Rattle.iop_saved_kernel.specs.declared.next.Next.{Next}
use Rattle.iop_saved_kernel.proofs.Stages.{unread, refused, first_fails, second_fails, both_back, back_both, seen_fails, seen_back}

-- the parts from one on
from_lines : Form (List IrqLine × Next)
from_lines = both lines_form (λ _. next_form)

from_timers : Form (TimerLists × (List IrqLine × Next))
from_timers = both timers_form (λ _. from_lines)

from_objects : Form (ObjectLists × (TimerLists × (List IrqLine × Next)))
from_objects = both objects_form (λ _. from_timers)

from_threads : Form (ThreadLists × (ObjectLists × (TimerLists × (List IrqLine × Next))))
from_threads = both read_threads (λ _. from_objects)

abbrev first : Form Executing
first = executing_form read_head steady_form kept_form

all_parts : Form Nest
all_parts = both first (λ _. from_threads)

-- how they are put back behind those before them
next_back : Executing → ThreadTable → ObjectTables → Timers → List IrqLine → Next
    → Option Core
next_back e t o m irqs next = core_with e next (kernel_with e t o m irqs)

lines_back : Executing → ThreadTable → ObjectTables → Timers → List IrqLine × Next
    → Option Core
lines_back e t o m =
    back_both {S = List IrqLine} lines_form next_form Some (λ xs irqs. next_back e t o m irqs)

timers_on : Executing → ThreadTable → ObjectTables
    → TimerLists × (List IrqLine × Next) → Option Core
timers_on e t o = back_both timers_form from_lines timers_back (λ xs m. lines_back e t o m)

abbrev own_objects_back : ThreadTable → ObjectLists → Option ObjectTables
own_objects_back t = objects_back (priority_among (priorities_in t.live))

objects_on : Executing → ThreadTable
    → ObjectLists × (TimerLists × (List IrqLine × Next)) → Option Core
objects_on e t = back_both objects_form from_timers (own_objects_back t) (λ xs o. timers_on e t o)

threads_on : Executing
    → ThreadLists × (ObjectLists × (TimerLists × (List IrqLine × Next))) → Option Core
threads_on e =
    back_both read_threads from_objects (threads_back e.head.running)
    (λ xs t. objects_on e t)

all_on : Nest → Option Core
all_on = back_both {S = Executing} first from_threads Some (λ x e. threads_on e)

module _ (before : List ℕ) where
  abbrev NoneGoBack : SnapFault → Type 0
  NoneGoBack fault = GivesNone ((that_go_back steady_form_of_parts core_back).read before) fault

  seen : (fault : SnapFault)
      → GivesNone ((that_go_back all_parts all_on).read before) fault → NoneGoBack fault
  unfolding core_back parts_form all_parts from_threads from_objects from_timers from_lines all_on threads_on objects_on timers_on lines_back next_back
  seen fault = seen_fails all_parts parts_with nest_of core_back before fault

  -- where no processors are read
  pub executing_fails : first.read before ≡ None → NoneGoBack Bad
  unfolding all_parts all_on
  executing_fails none =
      seen Bad (first_fails first from_threads Some (λ e s. threads_on s) before Bad
      (unread first Some before Bad none))

  module _ (e : Executing) (one : List ℕ) (is_e : first.read before ≡ Some (e, one)) where
    e_back : IsBack first Some e e before one
    e_back = record { is_read = is_e; is_back = refl }

    behind_e : (fault : SnapFault)
        → GivesNone ((that_go_back from_threads (threads_on e)).read one) fault → NoneGoBack fault
    unfolding all_parts all_on
    behind_e fault none =
        seen fault (second_fails first from_threads Some (λ e s. threads_on s) e e before one e_back
        fault none)

    -- where the threads behind them cannot be put back
    pub threads_fail : (fault : SnapFault)
        → GivesNone ((that_go_back read_threads
        (threads_back e.head.running)).read one) fault
        → NoneGoBack fault
    unfolding from_threads threads_on
    threads_fail fault none =
        behind_e fault (first_fails read_threads from_objects
        (threads_back e.head.running) (λ xs t. objects_on e t) one fault none)

    module _ (ts : ThreadLists) (t : ThreadTable) (two : List ℕ)
        (t_back : IsBack read_threads (threads_back e.head.running) ts t one two) where
      behind_t : (fault : SnapFault)
          → GivesNone ((that_go_back from_objects (objects_on e t)).read two) fault
          → NoneGoBack fault
      unfolding from_threads threads_on
      behind_t fault none =
          behind_e fault (second_fails read_threads from_objects
          (threads_back e.head.running) (λ xs u. objects_on e u) ts t one two t_back fault none)

      -- where the objects cannot
      pub objects_fail : (fault : SnapFault)
          → GivesNone ((that_go_back objects_form (own_objects_back t)).read two) fault
          → NoneGoBack fault
      unfolding from_objects objects_on
      objects_fail fault none =
          behind_t fault (first_fails objects_form from_timers (own_objects_back t)
          (λ xs o. timers_on e t o) two fault none)

      module _ (os : ObjectLists) (o : ObjectTables) (three : List ℕ)
          (o_back : IsBack objects_form (own_objects_back t) os o two three) where
        behind_o : (fault : SnapFault)
            → GivesNone ((that_go_back from_timers (timers_on e t o)).read three) fault
            → NoneGoBack fault
        unfolding from_objects objects_on
        behind_o fault none =
            behind_t fault (second_fails objects_form from_timers (own_objects_back t)
            (λ xs p. timers_on e t p) os o two three o_back fault none)

        -- where the alarms and delays cannot
        pub timers_fail : (fault : SnapFault)
            → GivesNone ((that_go_back timers_form timers_back).read three) fault
            → NoneGoBack fault
        unfolding from_timers timers_on
        timers_fail fault none =
            behind_o fault (first_fails timers_form from_lines timers_back
            (λ xs m. lines_back e t o m) three fault none)

        module _ (ms : TimerLists) (m : Timers) (four : List ℕ)
            (m_back : IsBack timers_form timers_back ms m three four) where
          behind_m : (fault : SnapFault)
              → GivesNone ((that_go_back from_lines (lines_back e t o m)).read four) fault
              → NoneGoBack fault
          unfolding from_timers timers_on
          behind_m fault none =
              behind_o fault (second_fails timers_form from_lines timers_back
              (λ xs n. lines_back e t o n) ms m three four m_back fault none)

          -- where no lines are read
          pub lines_fail : lines_form.read four ≡ None → NoneGoBack Bad
          unfolding from_lines lines_back
          lines_fail none =
              behind_m Bad (first_fails lines_form next_form Some
              (λ xs irqs. next_back e t o m irqs) four Bad (unread lines_form Some four Bad none))

          module _ (irqs : List IrqLine) (five : List ℕ)
              (is_irqs : lines_form.read four ≡ Some (irqs, five)) where
            irqs_back : IsBack lines_form Some irqs irqs four five
            irqs_back = record { is_read = is_irqs; is_back = refl }

            behind_irqs :
                GivesNone ((that_go_back next_form (next_back e t o m irqs)).read five) Bad
                → NoneGoBack Bad
            unfolding from_lines lines_back
            behind_irqs none =
                behind_m Bad (second_fails lines_form next_form Some
                (λ xs lines. next_back e t o m lines) irqs irqs four five irqs_back Bad none)

            -- where what is given out next is not
            pub next_fails : next_form.read five ≡ None → NoneGoBack Bad
            next_fails none =
                behind_irqs (unread next_form (next_back e t o m irqs) five Bad none)

            module _ (next : Next) (rest : List ℕ)
                (is_next : next_form.read five ≡ Some (next, rest)) where
              -- or is refused
              pub next_refused : core_with e next (kernel_with e t o m irqs) ≡ None
                  → NoneGoBack Bad
              unfolding next_back
              next_refused none =
                  behind_irqs (refused next_form (next_back e t o m irqs) next five rest is_next none)

              module _ (c : Core)
                  (is : core_with e next (kernel_with e t o m irqs) ≡ Some c) where
                next_here : IsBack next_form (next_back e t o m irqs) next c five rest
                unfolding next_back
                next_here = record { is_read = is_next; is_back = is }

                lines_here : IsBack from_lines (lines_back e t o m) (irqs, next) c four rest
                unfolding from_lines lines_back
                lines_here =
                    both_back lines_form next_form Some (λ xs lines. next_back e t o m lines) irqs
                    irqs four five irqs_back next c rest next_here

                timers_here : IsBack from_timers (timers_on e t o) (ms, (irqs, next)) c three rest
                unfolding from_timers timers_on
                timers_here =
                    both_back timers_form from_lines timers_back (λ xs n. lines_back e t o n) ms m
                    three four m_back (irqs, next) c rest lines_here

                objects_here : IsBack from_objects (objects_on e t) (os, (ms, (irqs, next))) c two rest
                unfolding from_objects objects_on
                objects_here =
                    both_back objects_form from_timers (own_objects_back t)
                    (λ xs p. timers_on e t p) os o two three o_back (ms, (irqs, next)) c rest
                    timers_here

                threads_here :
                    IsBack from_threads (threads_on e) (ts, (os, (ms, (irqs, next)))) c one rest
                unfolding from_threads threads_on
                threads_here =
                    both_back read_threads from_objects (threads_back e.head.running)
                    (λ xs u. objects_on e u) ts t one two t_back (os, (ms, (irqs, next))) c rest
                    objects_here

                all_here : IsBack all_parts all_on (e, (ts, (os, (ms, (irqs, next))))) c before rest
                unfolding all_parts all_on
                all_here =
                    both_back first from_threads Some (λ x s. threads_on s) e e before one e_back
                    (ts, (os, (ms, (irqs, next)))) c rest threads_here

                -- else all are back
                pub core_is_back : IsBack steady_form_of_parts core_back
                    (parts_with (e, (ts, (os, (ms, (irqs, next)))))) c before rest
                unfolding core_back parts_form all_parts from_threads from_objects from_timers from_lines all_on threads_on objects_on timers_on lines_back next_back
                core_is_back =
                    seen_back all_parts parts_with nest_of core_back
                    (e, (ts, (os, (ms, (irqs, next))))) c before rest all_here
