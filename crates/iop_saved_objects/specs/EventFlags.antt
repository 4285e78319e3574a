-- How event flags are spelled, and put back. This project's own profile.
use Rattle.std.specs.Prelude.{ℕ, if◌then◌else◌, Option, Some, None, List, [], ◌∷◌, slice_index, map}
use Rattle.iop_event.specs.EventFlags.{EventFlags}
use Rattle.iop_event.specs.Restoring.{may_follow, may_wait}
use Rattle.iop_event.specs.declared.event_flag.EventFlag.{EventFlag}
use Rattle.iop_event.specs.declared.wanted.Wanted.{Wanted}
use Rattle.iop_objects.specs.Objects.{Object, waits}
use Rattle.iop_objects.specs.Restoring.{with_last}
use Rattle.iop_objects.specs.declared.waiter.Waiter.{Waiter}
use Rattle.iop_queues.specs.declared.queued.Queued.{Queued}
use Rattle.iop_snapshot.specs.Forms.{Form, item, seen_as}
use Rattle.iop_snapshot.specs.declared.widths.TheConstants.{EVENT_FLAG}
use Rattle.iop_saved_objects.specs.Lists.{with_list, put_with_list}
use Rattle.iop_saved_objects.specs.Waiters.{flag_form, saved_waiters, put_waiter}
use Rattle.iop_saved_objects.specs.declared.head.Head.{Head}

-- an event flag, and the threads that wait for it, in order of their arrival
abbrev pub SavedFlag : Type 0
SavedFlag = Head EventFlag × List (Waiter Wanted)

abbrev pub saved_flag : Object EventFlag Wanted → SavedFlag
saved_flag o = (record { id = o.id; state = o.state }, saved_waiters o.waiters)

abbrev pub saved_flags : EventFlags → List SavedFlag
saved_flags s = map saved_flag s.live

abbrev pub flag_head_numbers : Head EventFlag → List ℕ
flag_head_numbers head =
    let x = head.state in head.id ∷ x.attr ∷ x.option ∷ x.first ∷ x.pattern ∷ []

abbrev pub flag_head_of : List ℕ → Option (Head EventFlag)
flag_head_of ns = Some (record {
  id = slice_index ns 0;
  state = record {
    attr = slice_index ns 1;
    option = slice_index ns 2;
    first = slice_index ns 3;
    pattern = slice_index ns 4;
  };
})

unfoldable pub flag_head : Form (Head EventFlag)
flag_head = seen_as (item EVENT_FLAG) flag_head_of flag_head_numbers

unfoldable pub event_flag_form : Form SavedFlag
event_flag_form = with_list flag_head flag_form

-- an event flag for which no thread waits is put back behind all others
abbrev pub put_head : EventFlags → Head EventFlag → Option EventFlags
put_head s head =
    if may_follow s head.id head.state then Some (with_last s head.id head.state) else None

-- a thread waits for the event flag of an id again, behind all others
abbrev pub put_queued : ℕ → EventFlags → Queued (Waiter Wanted) → Option EventFlags
put_queued id s queued =
    if may_wait s id queued.item.wants then Some (waits s id queued) else None

-- with the priority that it has
abbrev pub put_thread : (priorities : ℕ → Option ℕ) → Head EventFlag → EventFlags
    → Waiter Wanted → Option EventFlags
put_thread priorities head = put_waiter (put_queued head.id) priorities

-- an event flag is put back with those that waited for it, where threads have these priorities
abbrev pub put_event_flag : (priorities : ℕ → Option ℕ) → EventFlags → SavedFlag
    → Option EventFlags
put_event_flag priorities s saved = put_with_list put_head (put_thread priorities) s saved
