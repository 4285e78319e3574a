-- What was saved of a table is put back as the table itself is.
use Rattle.std.proofs.Common.{◌≡◌, ℕ, Bool, true, false, cond, Option, Some, None, List, [], ◌∷◌, map, All, refl, sym, ap, ◌∙◌}
use Rattle.std.specs.Prelude.{⊤, option_and_then}
use Rattle.std.proofs.lemmas.List.Elements.{All-head, All-tail}
use Rattle.iop_event.specs.EventFlags.{EventFlags}
use Rattle.iop_event.specs.Restoring as event_flags
use Rattle.iop_event.specs.declared.event_flag.EventFlag.{EventFlag}
use Rattle.iop_event.specs.declared.wanted.Wanted.{Wanted}
use Rattle.iop_event.proofs.Restored as restored_flags
use Rattle.iop_mbx.specs.Mailboxes.{Mailbox, Mailboxes, without_messages}
use Rattle.iop_mbx.specs.Restoring as mailboxes
use Rattle.iop_mbx.proofs.Restored as restored_mailboxes
use Rattle.iop_objects.specs.Objects.{Object, Objects, no_objects}
use Rattle.iop_objects.specs.Restoring as objects
use Rattle.iop_objects.specs.Restoring.{with_next_back}
use Rattle.iop_objects.specs.declared.waiter.Waiter.{Waiter}
use Rattle.iop_pools.specs.FixedPools.{FixedPools}
use Rattle.iop_pools.specs.FixedRestoring as fixed_pools
use Rattle.iop_pools.specs.Pools.{Pool}
use Rattle.iop_pools.specs.Restoring as pools
use Rattle.iop_pools.specs.VariablePools.{VariablePools}
use Rattle.iop_pools.specs.VariableRestoring as variable_pools
use Rattle.iop_pools.proofs.RegularPools as regular
use Rattle.iop_queues.specs.declared.queued.Queued.{Queued}
use Rattle.iop_sema.specs.Restoring as semaphores
use Rattle.iop_sema.specs.Semaphores.{Semaphores}
use Rattle.iop_sema.specs.declared.semaphore.Semaphore.{Semaphore}
use Rattle.iop_sema.proofs.Restored as restored_semaphores
use Rattle.iop_snapshot.specs.Putting.{put_all}
use Rattle.iop_saved_objects.specs.EventFlags as flags
use Rattle.iop_saved_objects.specs.FixedPools as fixed
use Rattle.iop_saved_objects.specs.Laws.{AllHavePriorities, ComesBack, TablesComeBack}
use Rattle.iop_saved_objects.specs.Mailboxes as boxes
use Rattle.iop_saved_objects.specs.Semaphores as counts
use Rattle.iop_saved_objects.specs.VariablePools as variable
use Rattle.iop_saved_objects.specs.Waiters.{put_waiter, saved_waiters, HavePriorities}

-- values that are put one behind the other, each in one of two ways that leave the same
module _ {T O X : Type 0} (put : T → X → Option T) (saved : O → X) (back : T → O → Option T)
    (all : T → List O → Option T) (none : (t : T) → all t [] ≡ Some t)
    (more : (t : T) (o : O) (os : List O)
    → all t (o ∷ os) ≡ option_and_then (λ u. all u os) (back t o)) where
  module _ (P : O → Type 0) (same : (t : T) (o : O) → P o → put t (saved o) ≡ back t o) where
    put_back : (os : List O) → All P os → (t : T) → put_all put t (map saved os) ≡ all t os
    put_back [] h t = sym (none t)
    put_back (o ∷ os) h t =
        ap (option_and_then (λ u. put_all put u (map saved os))) (same t o (All-head P o os h))
        ∙ by (back t o) (put_back os (All-tail P o os h)) ∙ sym (more t o os)
      where
        by : (left : Option T) → ((u : T) → put_all put u (map saved os) ≡ all u os)
            → option_and_then (λ u. put_all put u (map saved os)) left
            ≡ option_and_then (λ u. all u os) left
        by None later = refl
        by (Some u) later = later u

module _ {T : Type 0} where
  -- what goes on where a test holds
  if_goes_on : (b : Bool) (t : T) (f g : T → Option T) → ((u : T) → f u ≡ g u)
      → option_and_then f (cond b (Some t) None) ≡ cond b (g t) None
  if_goes_on true t f g same = same t
  if_goes_on false t f g same = refl

  if_goes_on_twice : (b : Bool) (t : T) (f g h k : T → Option T) → ((u : T) → f u ≡ g u)
      → ((u : T) → h u ≡ k u)
      → option_and_then h (option_and_then f (cond b (Some t) None))
      ≡ cond b (option_and_then k (g t)) None
  if_goes_on_twice true t f g h k same also = ap (option_and_then h) (same t) ∙ by (g t)
    where
      by : (o : Option T) → option_and_then h o ≡ option_and_then k o
      by None = refl
      by (Some u) = also u
  if_goes_on_twice false t f g h k same also = refl

  if_then : (b : Bool) (t : T) (f : T → Option T)
      → cond b (f t) None ≡ option_and_then f (cond b (Some t) None)
  if_then true t f = refl
  if_then false t f = refl

module _ {T W : Type 0} (priorities : ℕ → Option ℕ) (put : T → Queued (Waiter W) → Option T)
    (all : T → List (Queued (Waiter W)) → Option T) (none : (t : T) → all t [] ≡ Some t)
    (more : (t : T) (w : Queued (Waiter W)) (ws : List (Queued (Waiter W)))
    → all t (w ∷ ws) ≡ option_and_then (λ u. all u ws) (put t w)) where
  -- those that wait are put back, each with the priority that it has
  waiters_back : (ws : List (Queued (Waiter W))) → HavePriorities priorities ws → (t : T)
      → put_all (put_waiter put priorities) t (saved_waiters ws) ≡ all t ws
  waiters_back =
      put_back (put_waiter put priorities) (λ w. w.item) put all none more
      (λ w. priorities w.item.thread ≡ Some w.priority) (λ t w known. rw known refl)

-- values that are put as they are
values_back : {T X : Type 0} (put : T → X → Option T) (all : T → List X → Option T)
    → ((t : T) → all t [] ≡ Some t)
    → ((t : T) (x : X) (xs : List X) → all t (x ∷ xs) ≡ option_and_then (λ u. all u xs) (put t x))
    → (xs : List X) (t : T) → put_all put t xs ≡ all t xs
values_back put all none more [] t = sym (none t)
values_back {T} {X} put all none more (x ∷ xs) t =
    by (put t x) (values_back put all none more xs) ∙ sym (more t x xs)
  where
    by : (left : Option T) → ((u : T) → put_all put u xs ≡ all u xs)
        → option_and_then (λ u. put_all put u xs) left ≡ option_and_then (λ u. all u xs) left
    by None later = refl
    by (Some u) later = later u

module _ (priorities : ℕ → Option ℕ) where
  semaphore_back : (s : Semaphores) (o : Object Semaphore ⊤)
      → HavePriorities priorities o.waiters
      → counts.put_semaphore priorities s (counts.saved_semaphore o)
      ≡ semaphores.with_semaphore_back s o
  semaphore_back s o known =
      if_goes_on (semaphores.may_follow s o.id o.state) _ _
      (λ u. objects.with_waiters_back u o.id o.waiters)
      (waiters_back priorities (counts.put_queued o.id)
      (λ t ws. objects.with_waiters_back t o.id ws) (λ t. refl)
      (λ t w ws. if_then (objects.may_wait t o.id) _ _) o.waiters known)

  flag_back : (s : EventFlags) (o : Object EventFlag Wanted) → HavePriorities priorities o.waiters
      → flags.put_event_flag priorities s (flags.saved_flag o) ≡ event_flags.with_flag_back s o
  flag_back s o known =
      if_goes_on (event_flags.may_follow s o.id o.state) _ _
      (λ u. event_flags.with_waiters_back u o.id o.waiters)
      (waiters_back priorities (flags.put_queued o.id)
      (λ t ws. event_flags.with_waiters_back t o.id ws) (λ t. refl)
      (λ t w ws. if_then (event_flags.may_wait t o.id w.item.wants) _ _) o.waiters known)

  mailbox_back : (s : Mailboxes) (o : Object Mailbox ℕ) → HavePriorities priorities o.waiters
      → boxes.put_mailbox priorities s (boxes.saved_mailbox o) ≡ mailboxes.with_mailbox_back s o
  mailbox_back s o known =
      if_goes_on_twice (mailboxes.may_follow s o.id (without_messages o.state)) _ _
      (λ u. objects.with_waiters_back u o.id o.waiters) _
      (λ u. mailboxes.with_messages_back u o.id o.state.messages)
      (waiters_back priorities (boxes.put_queued o.id)
      (λ t ws. objects.with_waiters_back t o.id ws) (λ t. refl)
      (λ t w ws. if_then (objects.may_wait t o.id) _ _) o.waiters known)
      (values_back (boxes.put_message o.id) (λ t ms. mailboxes.with_messages_back t o.id ms)
      (λ t. refl) (λ t m ms. if_then (mailboxes.may_queue t o.id m.priority) _ _)
      o.state.messages)

  variable_back : (s : VariablePools) (o : Object Pool ℕ) → HavePriorities priorities o.waiters
      → variable.put_variable_pool priorities s (variable.saved_pool o)
      ≡ variable_pools.with_pool_back s o
  variable_back s o known =
      if_goes_on_twice (variable_pools.may_put s o.id (variable_pools.layout_of o.state)) _ _
      (λ u. pools.with_ranges_back u o.id o.state.ranges) _
      (λ u. variable_pools.with_waiters_back u o.id o.waiters)
      (values_back (variable.put_range o.id) (λ t rs. pools.with_ranges_back t o.id rs)
      (λ t. refl) (λ t r rs. if_then (pools.may_be_out t o.id r.start r.size) _ _)
      o.state.ranges)
      (waiters_back priorities (variable.put_queued o.id)
      (λ t ws. variable_pools.with_waiters_back t o.id ws) (λ t. refl)
      (λ t w ws. if_then (variable_pools.may_put_waiter t o.id w.item.wants) _ _) o.waiters
      known)

  fixed_back : (s : FixedPools) (o : Object Pool ⊤) → HavePriorities priorities o.waiters
      → fixed.put_fixed_pool priorities s (fixed.saved_pool o) ≡ fixed_pools.with_pool_back s o
  fixed_back s o known =
      let blocks = fixed_pools.blocks_in o.state.ranges in
      if_goes_on_twice (fixed_pools.may_put s o.id (fixed_pools.layout_of o.state)) _ _
      (λ u. fixed_pools.with_blocks_back u o.id blocks) _
      (λ u. objects.with_waiters_back u o.id o.waiters)
      (values_back (fixed.put_block o.id) (λ t bs. fixed_pools.with_blocks_back t o.id bs)
      (λ t. refl) (λ t b bs. if_then (fixed_pools.may_put_block t o.id b) _ _) blocks)
      (waiters_back priorities (fixed.put_queued o.id)
      (λ t ws. objects.with_waiters_back t o.id ws) (λ t. refl)
      (λ t w ws. if_then (objects.may_wait t o.id) _ _) o.waiters known)

  module _ {A W : Type 0} where
    abbrev Known : Object A W → Type 0
    Known o = HavePriorities priorities o.waiters

    -- a whole table, from each of its objects
    table_back : {X : Type 0} (put : Objects A W → X → Option (Objects A W))
        (saved : Object A W → X) (back : Objects A W → Object A W → Option (Objects A W))
        (all : Objects A W → List (Object A W) → Option (Objects A W))
        → ((t : Objects A W) → all t [] ≡ Some t)
        → ((t : Objects A W) (o : Object A W) (os : List (Object A W))
        → all t (o ∷ os) ≡ option_and_then (λ u. all u os) (back t o))
        → ((t : Objects A W) (o : Object A W) → Known o → put t (saved o) ≡ back t o)
        → (s : Objects A W) → AllHavePriorities priorities s
        → option_and_then (λ t. with_next_back t s.next) (all no_objects s.live) ≡ Some s
        → ComesBack put (λ t. map saved t.live) s
    table_back put saved back all none more same s known restored =
        ap (option_and_then (λ t. with_next_back t s.next))
        (put_back put saved back all none more Known same s.live known no_objects)
        ∙ restored

  pub tables_back : TablesComeBack priorities
  tables_back = record {
    semaphores = λ s can known.
        table_back (counts.put_semaphore priorities) counts.saved_semaphore
        semaphores.with_semaphore_back semaphores.with_semaphores_back (λ t. refl)
        (λ t o os. refl) semaphore_back s known (restored_semaphores.are_restored s can);
    event_flags = λ s can known.
        table_back (flags.put_event_flag priorities) flags.saved_flag event_flags.with_flag_back
        event_flags.with_flags_back (λ t. refl) (λ t o os. refl) flag_back s known
        (restored_flags.are_restored s can);
    mailboxes = λ s can known.
        table_back (boxes.put_mailbox priorities) boxes.saved_mailbox mailboxes.with_mailbox_back
        mailboxes.with_mailboxes_back (λ t. refl) (λ t o os. refl) mailbox_back s known
        (restored_mailboxes.are_restored s can);
    variable_pools = λ s can known.
        table_back (variable.put_variable_pool priorities) variable.saved_pool
        variable_pools.with_pool_back (pools.with_pools_back variable_pools.with_pool_back)
        (λ t. refl) (λ t o os. refl) variable_back s known (regular.restored.variable s can);
    fixed_pools = λ s can known.
        table_back (fixed.put_fixed_pool priorities) fixed.saved_pool fixed_pools.with_pool_back
        (pools.with_pools_back fixed_pools.with_pool_back) (λ t. refl) (λ t o os. refl) fixed_back
        s known (regular.restored.fixed s can);
  }
