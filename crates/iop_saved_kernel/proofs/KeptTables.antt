-- Tables into which something was put back can be put back again.
use Rattle.std.proofs.Common.{◌≡◌, ℕ, ◌<◌, Bool, true, false, not, if◌then◌else◌, Option, Some, None, sym, ap, subst, ◌∙◌}
use Rattle.std.specs.Prelude.{option_map, unwrap_or}
use Rattle.std.proofs.lemmas.Bool.{and_parts, ltb-true, not-true}
use Rattle.std.proofs.lemmas.Option.{cond_some}
use Rattle.iop_event.specs.EventFlags.{is_taken}
use Rattle.iop_event.specs.Restoring as event_flags
use Rattle.iop_event.specs.Restoring.{EventFlagsStayRestorable}
use Rattle.iop_mbx.specs.Mailboxes.{has_room}
use Rattle.iop_mbx.specs.Restoring as mailboxes
use Rattle.iop_mbx.specs.Restoring.{MailboxesStayRestorable}
use Rattle.iop_objects.specs.Objects.{Objects, state_of, waiting, waits}
use Rattle.iop_objects.specs.Restoring.{may_wait, with_last}
use Rattle.iop_objects.specs.declared.objects.TheConstants.{MOST_WAITERS}
use Rattle.iop_objects.specs.declared.waiter.Waiter.{Waiter}
use Rattle.iop_pools.specs.FixedRestoring as fixed_pools
use Rattle.iop_pools.specs.RegularLaws.{PoolsStayRegular}
use Rattle.iop_pools.specs.Restoring.{may_be_out, with_out_last}
use Rattle.iop_pools.specs.VariableRestoring as variable_pools
use Rattle.iop_queues.specs.declared.queued.Queued.{Queued}
use Rattle.iop_saved_objects.proofs.LastObject.{all_put, with_list_holds}
use Rattle.iop_saved_objects.specs.EventFlags as flags
use Rattle.iop_saved_objects.specs.FixedPools as fixed
use Rattle.iop_saved_objects.specs.Lists.{put_with_list}
use Rattle.iop_saved_objects.specs.Mailboxes as boxes
use Rattle.iop_saved_objects.specs.Semaphores as counts
use Rattle.iop_saved_objects.specs.VariablePools as variable
use Rattle.iop_saved_objects.specs.Waiters.{put_waiter}
use Rattle.iop_saved_tables.specs.Tables.{put_alarm, put_delay}
use Rattle.iop_sema.specs.Restoring as semaphores
use Rattle.iop_sema.specs.Restoring.{SemaphoresStayRestorable}
use Rattle.iop_snapshot.proofs.Combining.{then_some}
use Rattle.iop_snapshot.specs.Putting.{put_all}
use Rattle.iop_time.proofs.PuttingBack.{last_alarm-keeps, last_delay-keeps}
use Rattle.iop_time.specs.Laws.{NumbersRise}
use Rattle.iop_time.specs.Restoring.{alarm_may_follow, delay_may_follow, with_last_alarm, with_last_delay}
use Rattle.iop_time.specs.Timers.{AreTimers}

-- putting a value leaves what holds of a table
abbrev pub Keeps : {T X : Type 0} → (T → Type 0) → (T → X → Option T) → Type 0
Keeps {T} {X} P put = (old : T) (x : X) (now : T) → P old → put old x ≡ Some now → P now

module _ {T : Type 0} (P : T → Type 0) where
  -- so does putting one where it may be
  put_keeps : {X : Type 0} (may : T → X → Bool) (left : T → X → T)
      → ((t : T) (x : X) → P t → may t x ≡ true → P (left t x))
      → Keeps P (λ t x. if may t x then Some (left t x) else None)
  put_keeps may left keeps old x now h e =
      let put = cond_some (may old x) (left old x) now e in subst P put.1 (keeps old x h put.0)

  -- and putting all of a list
  pub all_keep : {X : Type 0} (put : T → X → Option T) → Keeps P put → Keeps P (put_all put)
  all_keep put keeps old xs now h e =
      all_put put (λ done t. P t) (λ done x t u h e. keeps t x u h e) xs old now h e

  -- and a value with a list behind it
  list_keeps : {H X : Type 0} (put : T → H → Option T) (put_item : H → T → X → Option T)
      → Keeps P put → ((head : H) → Keeps P (put_item head))
      → Keeps P (put_with_list put put_item)
  list_keeps put put_item first one old value now h e =
      with_list_holds put put_item (λ done t. P t) old now value
      (λ middle e. first old value.0 middle h e) (λ done x t u h e. one value.0 t x u h e) e

  -- and one that waits, with its priority
  waiter_keeps : {W : Type 0} (priorities : ℕ → Option ℕ)
      (put : T → Queued (Waiter W) → Option T) → Keeps P put → Keeps P (put_waiter put priorities)
  waiter_keeps priorities put keeps old waiter now h e =
      let one = then_some (priorities waiter.thread)
      (λ priority. put old (record { priority = priority; item = waiter })) now e in
      keeps old (record { priority = one.0; item = waiter }) now h one.2

-- where one more thread may wait, there is room for it
has_place : {A W : Type 0} (s : Objects A W) (id : ℕ) → may_wait s id ≡ true
    → waiting s < MOST_WAITERS
has_place s id may = ltb-true (waiting s) MOST_WAITERS (and_parts _ _ may).1

-- a test that an object passes is passed by what is known of it
known_passes : {A : Type 0} (test : A → Bool) (o : Option A) (x : A)
    → unwrap_or (option_map test o) false ≡ true → o ≡ Some x → test x ≡ true
known_passes test o x passes known =
    sym (ap (λ p. unwrap_or (option_map test p) false) known) ∙ passes

-- the laws of the tables
pub record TablesStay : Type 0 where
  pub semaphores : SemaphoresStayRestorable
  pub event_flags : EventFlagsStayRestorable
  pub mailboxes : MailboxesStayRestorable
  pub pools : PoolsStayRegular
  pub timers : NumbersRise

module _ (laws : TablesStay) (priorities : ℕ → Option ℕ) where
  pub semaphores_keep : Keeps semaphores.CanBeRestored (put_all (counts.put_semaphore priorities))
  semaphores_keep =
      let P = semaphores.CanBeRestored in
      all_keep P (counts.put_semaphore priorities)
      (list_keeps P counts.put_head (counts.put_thread priorities)
      (put_keeps P (λ t head. semaphores.may_follow t head.id head.state)
      (λ t head. with_last t head.id head.state)
      (λ t head h may. (laws.semaphores.calls t h).puts head.id head.state may))
      (λ head. waiter_keeps P priorities (counts.put_queued head.id)
      (put_keeps P (λ t queued. may_wait t head.id) (λ t queued. waits t head.id queued)
      (λ t queued h may. (laws.semaphores.calls t h).waits head.id queued.item.thread
      queued.priority (has_place t head.id may)))))

  pub event_flags_keep : Keeps event_flags.CanBeRestored (put_all (flags.put_event_flag priorities))
  event_flags_keep =
      let P = event_flags.CanBeRestored in
      all_keep P (flags.put_event_flag priorities)
      (list_keeps P flags.put_head (flags.put_thread priorities)
      (put_keeps P (λ t head. event_flags.may_follow t head.id head.state)
      (λ t head. with_last t head.id head.state)
      (λ t head h may. (laws.event_flags.calls t h).puts head.id head.state may))
      (λ head. waiter_keeps P priorities (flags.put_queued head.id)
      (put_keeps P (λ t queued. event_flags.may_wait t head.id queued.item.wants)
      (λ t queued. waits t head.id queued)
      (λ t queued h may.
      let both = and_parts _ (may_wait t head.id) may in
      let opened = and_parts _ (event_flags.is_open t head.id) both.0 in
      (laws.event_flags.calls t h).waits head.id queued.item.thread queued.priority
      queued.item.wants (has_place t head.id both.1) opened.0
      (λ x known. not-true (is_taken t head.id x)
      (known_passes (λ y. not (is_taken t head.id y)) (state_of t head.id) x opened.1 known))))))

  pub mailboxes_keep : Keeps mailboxes.CanBeRestored (put_all (boxes.put_mailbox priorities))
  mailboxes_keep =
      let P = mailboxes.CanBeRestored in
      all_keep P (boxes.put_mailbox priorities)
      (list_keeps P (boxes.put_waited priorities) boxes.put_message_in
      (list_keeps P boxes.put_head (boxes.put_thread priorities)
      (put_keeps P (λ t head. mailboxes.may_follow t head.id head.state)
      (λ t head. mailboxes.with_last t head.id head.state)
      (λ t head h may. (laws.mailboxes.calls t h).with_last head.id head.state may))
      (λ head. waiter_keeps P priorities (boxes.put_queued head.id)
      (put_keeps P (λ t queued. may_wait t head.id) (λ t queued. waits t head.id queued)
      (λ t queued h may. (laws.mailboxes.calls t h).waits head.id queued.item.thread
      queued.priority queued.item.wants (has_place t head.id may)))))
      (λ waited.
      let id = waited.0.id in
      put_keeps P (λ t message. mailboxes.may_queue t id message.priority)
      (λ t message. mailboxes.with_message t id message)
      (λ t message h may. (laws.mailboxes.calls t h).puts id message.item message.priority
      (λ x known. known_passes (λ y. mailboxes.can_have y.attr message.priority) (state_of t id) x
      (and_parts _ (has_room t) may).0 known))))

  pub variable_pools_keep : Keeps variable_pools.AreRegular
      (put_all (variable.put_variable_pool priorities))
  variable_pools_keep =
      let P = variable_pools.AreRegular in
      let calls = laws.pools.variable_calls in
      all_keep P (variable.put_variable_pool priorities)
      (list_keeps P variable.put_taken (variable.put_thread priorities)
      (list_keeps P variable.put_head variable.put_range_of
      (put_keeps P (λ t head. variable_pools.may_put t head.id head.state)
      (λ t head. variable_pools.puts t head.id head.state)
      (λ t head h may. (calls t h).puts head.id head.state may))
      (λ head. put_keeps P (λ t range. may_be_out t head.id range.start range.size)
      (λ t range. with_out_last t head.id range.start range.size)
      (λ t range h may. (calls t h).puts_range head.id range.start range.size may)))
      (λ pool.
      let id = pool.0.id in
      waiter_keeps P priorities (variable.put_queued id)
      (put_keeps P (λ t queued. variable_pools.may_put_waiter t id queued.item.wants)
      (λ t queued.
      variable_pools.puts_waiter t id queued.item.thread queued.priority queued.item.wants)
      (λ t queued h may. (calls t h).puts_waiter id queued.item.thread queued.priority
      queued.item.wants may))))

  pub fixed_pools_keep : Keeps fixed_pools.AreRegular (put_all (fixed.put_fixed_pool priorities))
  fixed_pools_keep =
      let P = fixed_pools.AreRegular in
      let calls = laws.pools.fixed_calls in
      all_keep P (fixed.put_fixed_pool priorities)
      (list_keeps P fixed.put_taken (fixed.put_thread priorities)
      (list_keeps P fixed.put_head fixed.put_block_of
      (put_keeps P (λ t head. fixed_pools.may_put t head.id head.state)
      (λ t head. fixed_pools.puts t head.id head.state)
      (λ t head h may. (calls t h).puts head.id head.state may))
      (λ head. put_keeps P (λ t block. fixed_pools.may_put_block t head.id block)
      (λ t block. fixed_pools.puts_block t head.id block)
      (λ t block h may. (calls t h).puts_block head.id block may)))
      (λ pool.
      let id = pool.0.id in
      waiter_keeps P priorities (fixed.put_queued id)
      (put_keeps P (λ t queued. may_wait t id) (λ t queued. waits t id queued)
      (λ t queued h may. (calls t h).puts_waiter id queued.item.thread queued.priority may))))

pub alarms_keep : Keeps AreTimers (put_all put_alarm)
alarms_keep =
    all_keep AreTimers put_alarm
    (put_keeps AreTimers (λ timers alarm. alarm_may_follow timers.alarms timers.delays alarm)
    with_last_alarm (λ timers alarm h may. last_alarm-keeps timers alarm h may))

pub delays_keep : Keeps AreTimers (put_all put_delay)
delays_keep =
    all_keep AreTimers put_delay
    (put_keeps AreTimers (λ timers delay. delay_may_follow timers.alarms timers.delays delay)
    with_last_delay (λ timers delay h may. last_delay-keeps timers delay h may))
