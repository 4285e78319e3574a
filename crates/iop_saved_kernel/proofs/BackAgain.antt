-- What was put back can be put back again.
use Rattle.std.proofs.Common.{◌≡◌, ℕ, ◌<◌, ◌^◌, Bool, true, false, ◌&&◌, Option, Some, None, is_some, List, refl, sym, ap, subst, ◌∙◌, arith, cond}
use Rattle.std.specs.Prelude.{option_map, option_and_then, nat_lt, IfSome}
use Rattle.std.proofs.lemmas.Bool.{and_parts, ltb-true, leb-true}
use Rattle.iop_exec.specs.declared.cpu.Cpu.{Cpu}
use Rattle.iop_intr.specs.declared.irqs.TheConstants.{IRQ_LINES}
use Rattle.iop_kernel.specs.System.{Core}
use Rattle.iop_kernel.specs.declared.active_handler.Cause.{Cause}
use Rattle.iop_kernel.specs.declared.active_handler.Cause.TheVariants.{Line, Alarm}
use Rattle.iop_objects.specs.Objects.{no_objects}
use Rattle.iop_objects.specs.Restoring as objects
use Rattle.iop_saved_objects.proofs.TellingBack.{tables_tell}
use Rattle.iop_saved_tables.specs.Lines.{lines_form}
use Rattle.iop_saved_tables.specs.Tables.{put_alarm, put_delay}
use Rattle.iop_saved_threads.specs.Processors.{steady_form, kept_form}
use Rattle.iop_snapshot.proofs.Combining.{then_some}
use Rattle.iop_snapshot.proofs.Numbers.{fits_at}
use Rattle.iop_snapshot.specs.Forms.{Form, fits_where, item}
use Rattle.iop_snapshot.specs.Putting.{put_all}
use Rattle.iop_snapshot.specs.declared.widths.TheConstants.{NEXT}
use Rattle.iop_thread.proofs.OnlyPlaced.{restored_only}
use Rattle.iop_thread.specs.Placing.{IsPlaced}
use Rattle.iop_thread.specs.Restoring as threads
use Rattle.iop_thread.specs.States.{zeroed_at}
use Rattle.iop_thread.specs.ThreadTable.{ThreadTable}
use Rattle.iop_time.proofs.PuttingBack.{next-keeps}
use Rattle.iop_time.specs.Timers.{Timers, AreTimers, no_timers}
use Rattle.iop_saved_kernel.specs.Executing.{executing_form, head_in, had, handler_with}
use Rattle.iop_saved_kernel.specs.Heads.{has_id, is_cause, executes, read_head}
use Rattle.iop_saved_kernel.specs.Laws.{CanHaveBegun, CoresTellWhatWasPut, TablesCanBeBack}
use Rattle.iop_saved_kernel.specs.Next.{next_form, next_numbers}
use Rattle.iop_saved_kernel.specs.ObjectLists.{objects_form}
use Rattle.iop_saved_kernel.specs.Parts.{Parts, parts_form, steady_form_of_parts, may_be_next, had_number}
use Rattle.iop_saved_kernel.specs.ThreadLists.{ThreadLists, read_threads, thread_lists, threads_back, priorities_in, priority_among}
use Rattle.iop_saved_kernel.specs.TimerLists.{TimerLists, timers_form, timers_back}
use Rattle.iop_saved_kernel.specs.declared.executing.Executing.{Executing}
use Rattle.iop_saved_kernel.specs.declared.next.Next.{Next}
use Rattle.iop_saved_kernel.proofs.KeptTables.{TablesStay, alarms_keep, delays_keep, event_flags_keep, fixed_pools_keep, mailboxes_keep, semaphores_keep, variable_pools_keep}
use Rattle.iop_saved_kernel.proofs.TablesBack.{threads_same}
use Rattle.iop_saved_kernel.proofs.Telling.{ExecutingFits, WerePut, executing_fits, head_is, made, ordered, parts_are, threads_tell, were_put}

-- threads that were put back are placed
threads_placed : (running : Option ℕ) (lists : ThreadLists) (t : ThreadTable) (next : ℕ)
    → threads_back running lists ≡ Some t → threads.may_be_next t next ≡ true
    → IsPlaced (threads.with_next t next)
threads_placed running lists t next is may =
    let s = threads.with_next t next in
    let tell = threads_tell running lists t is in
    let again : threads_back s.running (thread_lists s) ≡ Some t =
    ap (λ r. threads_back r (thread_lists t)) tell.runs
    ∙ ap (threads_back running) tell.lists_are ∙ is in
    let before = λ (ready : List ℕ). option_and_then (λ u. threads.with_running_back u s.running)
    (option_and_then (λ u. threads.with_ready_back u ready)
    (threads.with_threads_back threads.no_threads s.live)) in
    let all : threads.restored s ≡ Some s =
    ap (option_and_then (λ u. threads.with_next_back u next))
    (ap (λ (u : ThreadTable). before u.ready) (sym tell.ordered) ∙ sym (threads_same s) ∙ again)
    ∙ ap (λ b. cond b (Some s) None) may in
    (restored_only s s all).1

-- alarms and delays that were put back stand as they can
timers_sound : AreTimers no_timers → (lists : TimerLists) (t : Timers)
    → timers_back lists ≡ Some t → AreTimers t
unfolding timers_back
timers_sound none lists t is =
    let one = then_some (put_all put_alarm no_timers lists.alarms)
    (λ u. put_all put_delay u lists.delays) t is in
    delays_keep one.0 lists.delays t (alarms_keep no_timers lists.alarms one.0 none one.1) one.2

-- a handler was begun for a cause of a head that can be read
has_begun : (next : ℕ) (kept : Option Cpu) (cause : Option Cause) → is_cause cause ≡ true
    → had_number next cause ≡ true
    → IfSome (option_map (handler_with kept) cause) (λ handler. CanHaveBegun next handler.cause)
has_begun next kept None is number = tt
has_begun next kept (Some (Line line)) is number = ltb-true line IRQ_LINES is
has_begun next kept (Some (Alarm alarm)) is number =
    let both = and_parts (nat_lt 0 alarm) (nat_lt alarm next) number in
    (ltb-true 0 alarm both.0, ltb-true alarm next both.1)

-- registers that nobody has are zero
none_had : (there : Bool) (form : Form Cpu) (cpu : Option Cpu) → fits_where there form cpu ≡ true
    → there ≡ false → had cpu ≡ zeroed_at 0
none_had there form None fits off = refl
none_had true form (Some cpu) fits off = absurd cc
none_had false form (Some cpu) fits off = absurd cc

none_kept : (running : Option ℕ) (cause : Option Cause) (kept : Option Cpu)
    → fits_where (is_some running && is_some cause) kept_form kept ≡ true → running ≡ None
    → IfSome (option_map (handler_with kept) cause) (λ handler. handler.kept ≡ zeroed_at 0)
none_kept running None kept fits none = tt
none_kept None (Some cause) kept fits none = none_had false kept_form kept fits refl
none_kept (Some id) (Some cause) kept fits none = absurd cc

-- what is given out next has room in its width
next_small : (n : Next) → next_form.fits n ≡ true → n.timer < 2 ^ 64
unfolding next_form item
next_small n fits = fits_at NEXT (next_numbers n) 6 fits (omega arith)

-- all of it, put together
module _ (laws : TablesStay) (p : Parts) (c : Core) (were : WerePut p c) where
  tables_sound : p.next.timer < 2 ^ 64 → TablesCanBeBack (made p c were).kernel
  tables_sound small =
      let priorities = priority_among (priorities_in were.threads.live) in
      let lists = p.objects in
      let o = were.objects in
      let put = were.objects_were in
      let tell = tables_tell priorities in
      let timers = and_parts _ _ were.may_be in
      let fixed = and_parts _ _ timers.0 in
      let variable = and_parts _ _ fixed.0 in
      let boxes = and_parts _ _ variable.0 in
      let flags = and_parts _ _ boxes.0 in
      let first = and_parts (threads.may_be_next were.threads p.next.thread)
      (objects.may_be_next o.semaphores p.next.semaphore) flags.0 in
      record {
        threads = threads_placed p.executing.head.running p.threads were.threads p.next.thread
            were.threads_were first.0;
        semaphores = (
          (laws.semaphores.calls o.semaphores (semaphores_keep laws priorities no_objects
              lists.semaphores o.semaphores laws.semaphores.opening put.semaphores)).with_next
              p.next.semaphore first.1,
          (tell.semaphores lists.semaphores o.semaphores put.semaphores).1,
        );
        event_flags = (
          (laws.event_flags.calls o.event_flags (event_flags_keep laws priorities no_objects
              lists.event_flags o.event_flags laws.event_flags.opening put.event_flags)).with_next
              p.next.event_flag flags.1,
          (tell.event_flags lists.event_flags o.event_flags put.event_flags).1,
        );
        mailboxes = (
          (laws.mailboxes.calls o.mailboxes (mailboxes_keep laws priorities no_objects
              lists.mailboxes o.mailboxes laws.mailboxes.opening put.mailboxes)).with_next
              p.next.mailbox boxes.1,
          (tell.mailboxes lists.mailboxes o.mailboxes put.mailboxes).1,
        );
        variable_pools = (
          (laws.pools.variable_calls o.variable_pools (variable_pools_keep laws priorities
              no_objects lists.variable_pools o.variable_pools laws.pools.no_variable
              put.variable_pools)).with_next p.next.variable_pool variable.1,
          (tell.variable_pools lists.variable_pools o.variable_pools put.variable_pools).1,
        );
        fixed_pools = (
          (laws.pools.fixed_calls o.fixed_pools (fixed_pools_keep laws priorities no_objects
              lists.fixed_pools o.fixed_pools laws.pools.no_fixed put.fixed_pools)).with_next
              p.next.fixed_pool fixed.1,
          (tell.fixed_pools lists.fixed_pools o.fixed_pools put.fixed_pools).1,
        );
        timers = next-keeps were.timers p.next.timer
            (timers_sound laws.timers.opening p.timers were.timers were.timers_were)
            (leb-true _ _ timers.1);
        numbers = small;
      }

-- registers that nobody has, of what was put back
module _ (p : Parts) (c : Core) (were : WerePut p c) (fits : ExecutingFits p.executing) where
  abbrev e : Executing
  e = p.executing

  pub cpu_is_bare : executes (head_in c.kernel) ≡ false → c.cpu ≡ zeroed_at 0
  cpu_is_bare =
      subst (λ (d : Core). executes (head_in d.kernel) ≡ false → d.cpu ≡ zeroed_at 0) were.is
      (λ none. none_had (executes e.head) steady_form e.cpu fits.cpu
      (sym (ap executes (head_is p c were)) ∙ none))

  pub kept_is_bare : c.kernel.threads.running ≡ None
      → IfSome c.kernel.handler (λ handler. handler.kept ≡ zeroed_at 0)
  kept_is_bare =
      subst (λ (d : Core). d.kernel.threads.running ≡ None
      → IfSome d.kernel.handler (λ handler. handler.kept ≡ zeroed_at 0)) were.is
      (λ none. none_kept e.head.running e.head.cause e.kept fits.kept
      (sym (threads_tell e.head.running p.threads were.threads were.threads_were).runs ∙ none))

-- parts that fit, of which some are looked at
pub record PartsFit (p : Parts) : Type 0 where
  pub executing : ExecutingFits p.executing
  pub next : next_form.fits p.next ≡ true

pub parts_fit : (p : Parts) → steady_form_of_parts.fits p ≡ true → PartsFit p
unfolding parts_form
parts_fit p fits =
    let one = and_parts ((executing_form read_head steady_form kept_form).fits p.executing) _
    fits in
    let threads = and_parts (read_threads.fits p.threads) _ one.1 in
    let objects = and_parts (objects_form.fits p.objects) _ threads.1 in
    let timers = and_parts (timers_form.fits p.timers) _ objects.1 in
    let lines = and_parts (lines_form.fits p.irqs) (next_form.fits p.next) timers.1 in
    record { executing = executing_fits p.executing one.0; next = lines.1 }

pub cores_tell : TablesStay → CoresTellWhatWasPut
cores_tell laws = record {
  parts = λ p c fits is. parts_are p c (were_put p c is) (parts_fit p fits).executing;
  order = λ p c is. ordered p c (were_put p c is);
  sound = λ p c fits is.
      let were = were_put p c is in
      let fit = parts_fit p fits in
      let e = p.executing in
      record {
        tables = subst (λ (d : Core). TablesCanBeBack d.kernel) were.is
            (tables_sound laws p c were (next_small p.next fit.next));
        cause = subst (λ (d : Core).
            IfSome d.kernel.handler (λ handler. CanHaveBegun d.kernel.timers.next handler.cause))
            were.is (has_begun p.next.timer e.kept e.head.cause
            (and_parts (has_id e.head.running) (is_cause e.head.cause) fit.executing.head).1
            were.number);
        cpu = cpu_is_bare p c were fit.executing;
        kept = kept_is_bare p c were fit.executing;
      };
}
