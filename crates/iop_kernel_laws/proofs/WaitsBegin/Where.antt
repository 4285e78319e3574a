-- Where the thread that calls a service does not go on.
use Rattle.std.proofs.Common.{◌≡◌, ℕ, Bool, false, true, option_map, unwrap_or, option_and_then, Option, Some, None, [], refl, ap, sym, ◌∙◌, subst}
use Rattle.std.specs.Prelude.{⊤}
use Rattle.std.proofs.lemmas.Bool.{eq-eqb, ne_eqb}
use mathlib.Core.Logic.{◌⊎◌, inl, inr}
use Rattle.iop_mbx.specs.Mailboxes.{messages_by_priority}
use Rattle.iop_queues.specs.Queue.{chooses}
use Rattle.iop_ready.specs.Priorities.{priority_of as priority_of_word}
use Rattle.iop_services.specs.declared.service.Service.TheVariants.{Thbase, Thsemap, Thevent, Thmsgbx}
use Rattle.iop_services.specs.declared.thbase_service.ThbaseService.TheVariants.{RotateThreadReadyQueue, SleepThread, DelayThread}
use Rattle.iop_services.specs.declared.thevent_service.TheventService.TheVariants.{WaitEventFlag}
use Rattle.iop_services.specs.declared.thmsgbx_service.ThmsgbxService.TheVariants.{ReceiveMbx}
use Rattle.iop_services.specs.declared.thsemap_service.ThsemapService.TheVariants.{WaitSema}
use Rattle.iop_thread.specs.ThreadTable.{thread_of, has_priority, running_thread}
use Rattle.iop_thread.specs.declared.thread.Thread.{Thread}
use Rattle.iop_kernel.specs.EventFlags.{serves_thevent}
use Rattle.iop_kernel.specs.Mailboxes.{serves_thmsgbx}
use Rattle.iop_kernel.specs.Priorities.{rotates_to, rotates_own, rotates_by}
use Rattle.iop_kernel.specs.Semaphores.{serves_thsemap}
use Rattle.iop_kernel.specs.Serving.{serves}
use Rattle.iop_kernel.specs.System.{Core, argument}
use Rattle.iop_kernel.specs.Thbase.{serves_thbase}
use Rattle.iop_kernel_laws.specs.WaitingLaws.{MayStop, StopsWhere, IsZero, IsUnmet, IsEmpty}
use Rattle.iop_kernel.specs.declared.after.After.TheVariants.{Switch}
use Rattle.iop_kernel.proofs.Keeping.RunningThread.{caller_runs}

-- the thread that calls is the one that is found to run
found : (c : Core) (thread : ℕ) (t : Thread) → MayStop c thread t
    → running_thread c.kernel.threads ≡ Some t
found c thread t h =
    ap (option_and_then (thread_of c.kernel.threads.live)) (caller_runs c thread h.calls) ∙ h.live

pub thread_sleeps : StopsWhere (Thbase SleepThread) (λ s t. t.wakeups ≡ 0)
unfolding serves serves_thbase
thread_sleeps s thread t h none = rw (h.may, found s.core thread t h, none) refl

pub thread_delays : StopsWhere (Thbase DelayThread) (λ s t. ⊤)
unfolding serves serves_thbase
thread_delays s thread t h any = rw (h.may, h.calls) refl

-- it gives way to those of its priority
module _ (c : Core) (thread : ℕ) (t : Thread) (h : MayStop c thread t) where
  gives_way : (rotates_to c t.priority).after ≡ Switch
  gives_way =
      let own : has_priority t.priority (running_thread c.kernel.threads) ≡ true =
      ap (has_priority t.priority) (found c thread t h) ∙ eq-eqb t.priority t.priority refl in
      rw (own, h.may, h.calls) refl

  own_given : (rotates_own c (Some thread)).after ≡ Switch
  own_given =
      ap (λ (o : Option Thread).
      (rotates_to c (unwrap_or (option_map (λ t. t.priority) o) 0)).after) h.live
      ∙ gives_way

  rotates_given : (word : ℕ) → (word ≡ 0) ⊎ (priority_of_word word ≡ Some t.priority)
      → (rotates_by c word (priority_of_word word)).after ≡ Switch
  rotates_given word (inl zero) =
      subst (λ (w : ℕ). (rotates_by c w (priority_of_word w)).after ≡ Switch) (sym zero)
      (ap (λ (o : Option ℕ). (rotates_own c o).after) h.calls ∙ own_given)
  rotates_given word (inr is) =
      ap (λ (o : Option ℕ). (rotates_by c word o).after) is ∙ gives_way

pub thread_rotates : StopsWhere (Thbase RotateThreadReadyQueue)
    (λ s t. (argument s.core 0 ≡ 0) ⊎ (priority_of_word (argument s.core 0) ≡ Some t.priority))
unfolding serves serves_thbase
thread_rotates s thread t h is = rotates_given s.core thread t h (argument s.core 0) is

pub thread_takes : StopsWhere (Thsemap WaitSema) (λ s t. IsZero s)
unfolding serves serves_thsemap
thread_takes s thread t h is = rw (h.may, is.known, is.zero, h.calls) refl

pub thread_tests : StopsWhere (Thevent WaitEventFlag) (λ s t. IsUnmet s)
unfolding serves serves_thevent
thread_tests s thread t h is =
    let bits = ne_eqb (argument s.core 1) 0 is.some in
    rw (is.good, h.may, is.known, bits, is.free, is.unmet, h.calls) refl

-- of no messages none is chosen
none_chosen : (by_priority : Bool) → chooses {T = ℕ} by_priority [] ≡ None
none_chosen true = refl
none_chosen false = refl

pub thread_receives : StopsWhere (Thmsgbx ReceiveMbx) (λ s t. IsEmpty s)
unfolding serves serves_thmsgbx
thread_receives s thread t h is =
    let by = messages_by_priority is.x.attr in
    let nothing : chooses by is.x.messages ≡ None =
    ap (chooses by) is.empty ∙ none_chosen by in
    rw (is.good, h.may, is.known, nothing, h.calls) refl
