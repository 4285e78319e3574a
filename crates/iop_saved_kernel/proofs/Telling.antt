-- What was put back has the parts that were put back.
use Rattle.std.proofs.Common.{◌≡◌, ℕ, Bool, true, false, ◌&&◌, Option, Some, None, List, ◌++◌, is_some, cond, refl, sym, ap, subst, ◌∙◌, arith}
use Rattle.std.specs.Prelude.{option_map, nat_eq}
use Rattle.std.specs.Option.{option_eq}
use Rattle.std.proofs.lemmas.Bool.{and_parts}
use Rattle.std.proofs.lemmas.Bool.Decides.{nat_tests}
use Rattle.std.proofs.lemmas.Option.{same_Some, cond_some}
use Rattle.iop_exec.specs.declared.cpu.Cpu.{Cpu}
use Rattle.iop_kernel.specs.System.{Core}
use Rattle.iop_kernel.specs.declared.active_handler.Cause.{Cause}
use Rattle.iop_saved_objects.proofs.TellingBack as saved_objects
use Rattle.iop_saved_objects.specs.Laws.{TablesTellWhatWasPut}
use Rattle.iop_saved_tables.proofs.Telling as saved_tables
use Rattle.iop_saved_tables.specs.Tables.{put_alarm, put_delay}
use Rattle.iop_saved_threads.proofs.Telling as saved_threads
use Rattle.iop_saved_threads.specs.Laws.{WerePutBack}
use Rattle.iop_saved_threads.specs.Processors.{steady_form, kept_form}
use Rattle.iop_saved_threads.specs.Tables.{put_thread, put_ready}
use Rattle.iop_snapshot.proofs.Combining.{then_some}
use Rattle.iop_snapshot.specs.Forms.{fits_where}
use Rattle.iop_snapshot.specs.Putting.{put_all}
use Rattle.iop_thread.specs.Ordering.{in_order}
use Rattle.iop_thread.specs.Restoring.{no_threads, is_complete, are_listed}
use Rattle.iop_thread.specs.ThreadTable.{ThreadTable}
use Rattle.iop_time.specs.Timers.{Timers, no_timers}
use Rattle.iop_time.specs.declared.delay.Delay.{Delay}
use Rattle.iop_saved_kernel.specs.Executing.{executing_form, executing_with, head_in, had, if_there, kept_for, handler_with, cause_in}
use Rattle.iop_saved_kernel.specs.Heads.{head_form, read_head, is_head, executes, has_interrupted}
use Rattle.iop_saved_kernel.specs.Laws.{core_in_order}
use Rattle.iop_saved_kernel.specs.ObjectLists.{ObjectLists, ObjectTables, object_lists, objects_back, semaphores_back, event_flags_back, mailboxes_back, variable_pools_back, fixed_pools_back}
use Rattle.iop_saved_kernel.specs.Parts.{Parts, parts_in, core_back, kernel_with, with_next, may_be_next, had_number}
use Rattle.iop_saved_kernel.specs.ThreadLists.{ThreadLists, thread_lists, threads_back, ready_back, priorities_in, priority_among}
use Rattle.iop_saved_kernel.specs.TimerLists.{TimerLists, timer_lists, timers_back}
use Rattle.iop_saved_kernel.specs.declared.executing.Executing.{Executing}
use Rattle.iop_saved_kernel.specs.declared.head.KernelHead.{KernelHead}

-- ids that are equal by their test are equal
same_running : (running id : Option ℕ) → option_eq nat_eq running id ≡ true → running ≡ id
same_running None None is = refl
same_running None (Some id) is = absurd cc
same_running (Some one) None is = absurd cc
same_running (Some one) (Some id) is =
    let same : one ≡ id = grind (arith, nat_tests, is) in ap Some same

-- threads that were put back
pub record TellThreads (running : Option ℕ) (lists : ThreadLists) (t : ThreadTable) : Type 0 where
  pub runs : t.running ≡ running
  pub lists_are : thread_lists t ≡ lists
  pub ordered : in_order t ≡ t

pub threads_tell : (running : Option ℕ) (lists : ThreadLists) (t : ThreadTable)
    → threads_back running lists ≡ Some t → TellThreads running lists t
unfolding threads_back
threads_tell running lists t is =
    let one = then_some (put_all put_thread no_threads lists.live)
    (λ u. ready_back running u lists.ready) t is in
    let two = then_some (put_all put_ready one.0 lists.ready)
    (λ u. cond (is_complete u running) (Some u) None) t one.2 in
    let complete = cond_some (is_complete two.0 running) two.0 t two.2 in
    let parts = and_parts (are_listed two.0) (option_eq nat_eq two.0.running running) complete.0 in
    let were : WerePutBack lists.live lists.ready two.0 = record {
      between = one.0;
      threads_were = one.1;
      ready_were = two.1;
    } in
    let law = saved_threads.threads_tell in
    let live = law.live lists.live lists.ready two.0 were in
    let ready = law.ready lists.live lists.ready two.0 were in
    let order = law.order lists.live lists.ready two.0 were in
    subst (TellThreads running lists) complete.1 (record {
      runs = same_running two.0.running running parts.1;
      lists_are = λ i. record {
        live = live i;
        ready = (ap (λ (u : ThreadTable). u.ready) order ∙ ready) i;
      };
      ordered = order;
    })

-- the objects of each kind were put back
pub record ObjectsWerePut (priorities : ℕ → Option ℕ) (lists : ObjectLists) (o : ObjectTables)
    : Type 0 where
  pub semaphores : semaphores_back priorities lists.semaphores ≡ Some o.semaphores
  pub event_flags : event_flags_back priorities lists.event_flags ≡ Some o.event_flags
  pub mailboxes : mailboxes_back priorities lists.mailboxes ≡ Some o.mailboxes
  pub variable_pools : variable_pools_back priorities lists.variable_pools ≡ Some o.variable_pools
  pub fixed_pools : fixed_pools_back priorities lists.fixed_pools ≡ Some o.fixed_pools

pub objects_were : (priorities : ℕ → Option ℕ) (lists : ObjectLists) (o : ObjectTables)
    → objects_back priorities lists ≡ Some o → ObjectsWerePut priorities lists o
unfolding objects_back
objects_were priorities lists o is =
    let s = then_some (semaphores_back priorities lists.semaphores) _ o is in
    let e = then_some (event_flags_back priorities lists.event_flags) _ o s.2 in
    let m = then_some (mailboxes_back priorities lists.mailboxes) _ o e.2 in
    let v = then_some (variable_pools_back priorities lists.variable_pools) _ o m.2 in
    let f = then_some (fixed_pools_back priorities lists.fixed_pools) _ o v.2 in
    subst (ObjectsWerePut priorities lists) (same_Some _ o f.2) (record {
      semaphores = s.1;
      event_flags = e.1;
      mailboxes = m.1;
      variable_pools = v.1;
      fixed_pools = f.1;
    })

objects_tell : (priorities : ℕ → Option ℕ) (lists : ObjectLists) (o : ObjectTables)
    → ObjectsWerePut priorities lists o → object_lists o ≡ lists
objects_tell priorities lists o were =
    let law : TablesTellWhatWasPut priorities = saved_objects.tables_tell priorities in
    λ i. record {
      semaphores = (law.semaphores lists.semaphores o.semaphores were.semaphores).0 i;
      event_flags = (law.event_flags lists.event_flags o.event_flags were.event_flags).0 i;
      mailboxes = (law.mailboxes lists.mailboxes o.mailboxes were.mailboxes).0 i;
      variable_pools =
          (law.variable_pools lists.variable_pools o.variable_pools were.variable_pools).0 i;
      fixed_pools = (law.fixed_pools lists.fixed_pools o.fixed_pools were.fixed_pools).0 i;
    }

-- alarms and delays that were put back
timers_tell : (lists : TimerLists) (t : Timers) → timers_back lists ≡ Some t
    → timer_lists t ≡ lists
unfolding timers_back
timers_tell lists t is =
    let one = then_some (put_all put_alarm no_timers lists.alarms)
    (λ u. put_all put_delay u lists.delays) t is in
    let law = saved_tables.tables_tell in
    let alarms = law.alarms no_timers one.0 lists.alarms one.1 in
    let delays = law.delays one.0 t lists.delays one.2 in
    λ i. record {
      alarms = (delays.alarms ∙ alarms.alarms) i;
      delays = (delays.delays ∙ ap (λ (d : List Delay). d ++ lists.delays) alarms.delays) i;
    }

-- the processors of a head, which are there exactly where somebody has them
there_is : (there : Bool) (cpu : Option Cpu) → fits_where there steady_form cpu ≡ true
    → if_there there (had cpu) ≡ cpu
there_is true None h = absurd cc
there_is true (Some cpu) h = refl
there_is false None h = refl
there_is false (Some cpu) h = absurd cc

kept_is : (running : Option ℕ) (cause : Option Cause) (kept : Option Cpu)
    → fits_where (is_some running && is_some cause) kept_form kept ≡ true
    → kept_for running (option_map (handler_with kept) cause) ≡ kept
kept_is None cause None h = refl
kept_is None cause (Some cpu) h = absurd cc
kept_is (Some id) None None h = refl
kept_is (Some id) None (Some cpu) h = absurd cc
kept_is (Some id) (Some cause) None h = absurd cc
kept_is (Some id) (Some cause) (Some cpu) h = refl

cause_is : (kept : Option Cpu) (cause : Option Cause)
    → cause_in (option_map (handler_with kept) cause) ≡ cause
cause_is kept None = refl
cause_is kept (Some cause) = refl

-- a head that can be read, with the processors that somebody has
pub record ExecutingFits (e : Executing) : Type 0 where
  pub head : is_head e.head ≡ true
  pub cpu : fits_where (executes e.head) steady_form e.cpu ≡ true
  pub kept : fits_where (has_interrupted e.head) kept_form e.kept ≡ true

pub executing_fits : (e : Executing)
    → (executing_form read_head steady_form kept_form).fits e ≡ true → ExecutingFits e
unfolding executing_form
executing_fits e fits =
    let one = and_parts (read_head.fits e.head) _ fits in
    let two = and_parts (fits_where (executes e.head) steady_form e.cpu)
    (fits_where (has_interrupted e.head) kept_form e.kept) one.1 in
    record {
      head = (and_parts (head_form.fits e.head) (is_head e.head) one.0).1;
      cpu = two.0;
      kept = two.1;
    }

-- what tables that were put back make, with the other parts
abbrev pub with_tables : Parts → ThreadTable → ObjectTables → Timers → Core
with_tables p threads objects timers = record {
  kernel = with_next (kernel_with p.executing threads objects timers p.irqs) p.next;
  cpu = had p.executing.cpu;
}

-- all parts were put back: first the tables, then what is given out next
pub record WerePut (p : Parts) (c : Core) : Type 0 where
  pub threads : ThreadTable
  pub objects : ObjectTables
  pub timers : Timers
  pub threads_were : threads_back p.executing.head.running p.threads ≡ Some threads
  pub objects_were : ObjectsWerePut (priority_among (priorities_in threads.live)) p.objects objects
  pub timers_were : timers_back p.timers ≡ Some timers
  pub number : had_number p.next.timer p.executing.head.cause ≡ true
  pub may_be : may_be_next (kernel_with p.executing threads objects timers p.irqs) p.next ≡ true
  pub is : with_tables p threads objects timers ≡ c

pub were_put : (p : Parts) (c : Core) → core_back p ≡ Some c → WerePut p c
unfolding core_back
were_put p c is =
    let e = p.executing in
    let one = then_some (threads_back e.head.running p.threads) _ c is in
    let priorities = priority_among (priorities_in one.0.live) in
    let two = then_some (objects_back priorities p.objects) _ c one.2 in
    let three = then_some (timers_back p.timers) _ c two.2 in
    let k = kernel_with e one.0 two.0 three.0 p.irqs in
    let four = cond_some (had_number p.next.timer e.head.cause && may_be_next k p.next)
    (with_tables p one.0 two.0 three.0) c three.2 in
    let both = and_parts (had_number p.next.timer e.head.cause) (may_be_next k p.next) four.0 in
    record {
      threads = one.0;
      objects = two.0;
      timers = three.0;
      threads_were = one.1;
      objects_were = objects_were priorities p.objects two.0 two.1;
      timers_were = three.1;
      number = both.0;
      may_be = both.1;
      is = four.1;
    }

module _ (p : Parts) (c : Core) (were : WerePut p c) where
  abbrev pub made : Core
  made = with_tables p were.threads were.objects were.timers

  threads_are : TellThreads p.executing.head.running p.threads were.threads
  threads_are = threads_tell p.executing.head.running p.threads were.threads were.threads_were

  pub ordered : core_in_order c ≡ c
  ordered =
      subst (λ (d : Core). core_in_order d ≡ d) were.is
      (λ i. record made {
        kernel = record made.kernel {
          threads = record (threads_are.ordered i) { next = p.next.thread };
        };
      })

  pub head_is : head_in made.kernel ≡ p.executing.head
  head_is = λ i. record p.executing.head {
    running = threads_are.runs i;
    cause = cause_is p.executing.kept p.executing.head.cause i;
  }

  module _ (fits : ExecutingFits p.executing) where
    executing_is : executing_with (head_in made.kernel) made.cpu made.kernel.handler ≡ p.executing
    executing_is =
        ap (λ (h : KernelHead). executing_with h made.cpu made.kernel.handler) head_is
        ∙ (λ i. record {
          head = p.executing.head;
          cpu = there_is (executes p.executing.head) p.executing.cpu fits.cpu i;
          kept = kept_is p.executing.head.running p.executing.head.cause p.executing.kept
              fits.kept i;
        })

    pub parts_are : parts_in c ≡ p
    parts_are = ap parts_in (sym were.is) ∙ (λ i. record {
      executing = executing_is i;
      threads = threads_are.lists_are i;
      objects = objects_tell (priority_among (priorities_in were.threads.live)) p.objects
          were.objects were.objects_were i;
      timers = timers_tell p.timers were.timers were.timers_were i;
      irqs = p.irqs;
      next = p.next;
    })
