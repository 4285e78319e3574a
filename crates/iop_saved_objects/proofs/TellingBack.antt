-- What was put back into a table of none is what would be saved of it.
use Rattle.std.proofs.Common.{◌≡◌, ℕ, ◌*◌, ◌/◌, Bool, true, if◌then◌else◌, Option, Some, None, List, [], ◌∷◌, ◌++◌, map, refl, sym, ap, ◌∙◌, mul-div_cancel, mul_comm}
use Rattle.std.specs.Prelude.{◌&&◌, ⊤}
use Rattle.std.proofs.lemmas.Bool.{and_parts, ltb-true}
use Rattle.std.proofs.lemmas.List.{map_push}
use Rattle.std.proofs.lemmas.Option.{cond_some}
use Rattle.iop_base.specs.declared.code.Code.{Code}
use Rattle.iop_base.specs.declared.code.TheConstants.Code.{OK, NO_MEMORY}
use Rattle.iop_event.specs.EventFlags.{is_attribute}
use Rattle.iop_event.specs.Restoring as event_flags
use Rattle.iop_mbx.specs.Mailboxes.{Mailbox, Mailboxes, has_room, puts_it, with_messages, without_messages}
use Rattle.iop_mbx.specs.Restoring as mailboxes
use Rattle.iop_mbx.specs.declared.mailbox.Mailbox as declared
use Rattle.iop_objects.specs.Objects.{Object, Objects, with_state}
use Rattle.iop_objects.specs.Restoring.{may_follow, may_wait, with_last}
use Rattle.iop_objects.specs.declared.waiter.Waiter.{Waiter}
use Rattle.iop_pools.specs.FixedPools.{FixedPools}
use Rattle.iop_pools.specs.FixedRestoring as fixed_pools
use Rattle.iop_pools.specs.Pools.{Pool}
use Rattle.iop_pools.specs.Restoring.{may_be_out, with_last_range, with_out_last}
use Rattle.iop_pools.specs.Standing.{pool_with}
use Rattle.iop_pools.specs.VariablePools.{VariablePools}
use Rattle.iop_pools.specs.VariableRestoring as variable_pools
use Rattle.iop_pools.specs.declared.fixed_layout.FixedLayout.{FixedLayout}
use Rattle.iop_pools.specs.declared.range.Range.{Range}
use Rattle.iop_pools.specs.declared.variable_layout.VariableLayout.{VariableLayout}
use Rattle.iop_queues.specs.declared.queued.Queued.{Queued}
use Rattle.iop_sema.specs.Restoring as semaphores
use Rattle.iop_saved_objects.specs.FixedPools as fixed
use Rattle.iop_saved_objects.specs.Laws.{TablesTellWhatWasPut, TellsWhatWasPut}
use Rattle.iop_saved_objects.specs.Lists.{put_with_list}
use Rattle.iop_saved_objects.specs.Mailboxes as boxes
use Rattle.iop_saved_objects.specs.VariablePools as variable
use Rattle.iop_saved_objects.specs.Waiters.{put_waiter, saved_waiters}
use Rattle.iop_saved_objects.specs.declared.head.Head.{Head}
use Rattle.iop_saved_objects.proofs.LastObject.{StandsLast, head_put, last_known, last_saved, state_put, tells_all, waiter_put, waits_if, with_list_holds}

module _ (priorities : ℕ → Option ℕ) where
  -- semaphores and event flags: all that is known of one is told, and those that wait for it
  module _ {A W : Type 0} (sound : A → Bool)
      (may : ℕ → Objects A W → Queued (Waiter W) → Bool) where
    abbrev Saved : Type 0
    Saved = Head A × List (Waiter W)

    -- what is saved of an object of which so much is known
    abbrev spelled : ℕ → A → List (Waiter W) → Saved
    spelled id state waiters = (record { id = id; state = state }, waiters)

    abbrev saved : Object A W → Saved
    saved o = spelled o.id o.state (saved_waiters o.waiters)

    -- it is put back where it is sound and may follow all others
    abbrev put_head : Objects A W → Head A → Option (Objects A W)
    put_head s head =
        if sound head.state && may_follow s head.id
        then Some (with_last s head.id head.state) else None

    -- a thread waits for it again, where it may
    abbrev put_thread : Head A → Objects A W → Waiter W → Option (Objects A W)
    put_thread head = put_waiter (waits_if (may head.id) head.id) priorities

    -- what was put back is what would be saved
    plain_tells : TellsWhatWasPut (put_with_list put_head put_thread) (λ t. map saved t.live)
        priorities
    plain_tells =
        tells_all priorities (λ (y : A). y) saved spelled (λ o. refl)
        (put_with_list put_head put_thread)
        (λ xs x s t before e.
        last_saved priorities (λ (y : A). y) saved spelled (λ o. refl) before
        (with_list_holds put_head put_thread
        (StandsLast priorities (λ (y : A). y) s x.0.id x.0.state) s t x
        (λ middle put. head_put priorities (λ (y : A). y) s middle x.0.id x.0.state x.0.state
        (sound x.0.state) before.given (λ sure. refl) put)
        (λ ws w old new h put. waiter_put priorities (λ (y : A). y) h (may x.0.id) w put) e))

  -- of a mailbox its messages are told too
  abbrev mailbox_tells : Mailbox → declared.Mailbox × List (Queued ℕ)
  mailbox_tells x = (without_messages x, x.messages)

  -- what is saved of one of which so much is told
  abbrev mailbox_spelled : ℕ → declared.Mailbox × List (Queued ℕ) → List (Waiter ℕ)
      → boxes.SavedMailbox
  mailbox_spelled id told waiters = ((record { id = id; state = told.0 }, waiters), told.1)

  -- one stands last of which so much is told
  abbrev MailboxStands : (s : Mailboxes) (id : ℕ) (told : declared.Mailbox × List (Queued ℕ))
      (waiting : List (Waiter ℕ)) (t : Mailboxes) → Type 0
  MailboxStands = StandsLast priorities mailbox_tells

  -- what sending a message leaves, where there is room for it
  abbrev sent : (queued old : Mailboxes) → Bool → Code × Mailboxes
  sent queued old room = if room then (OK, queued) else (NO_MEMORY, old)

  -- a message more is told of it
  message_put : {s old new : Mailboxes} {id : ℕ} {x : declared.Mailbox} {ms : List (Queued ℕ)}
      {ws : List (Waiter ℕ)} (h : MailboxStands s id (x, ms) ws old) (m : Queued ℕ)
      → boxes.put_message id old m ≡ Some new → MailboxStands s id (x, ms ++ m ∷ []) ws new
  message_put {old = old} {new = new} {id = id} h m e =
      let put = cond_some (mailboxes.may_queue old id m.priority)
      (mailboxes.with_message old id m) new e in
      let room = and_parts _ (has_room old) put.0 in
      let more = with_messages h.state (h.state.messages ++ m ∷ []) in
      let queued : mailboxes.with_message old id m ≡ with_state old id more =
      ap (λ (y : Option Mailbox). (puts_it old id m y).1) (last_known priorities mailbox_tells h)
      ∙ ap (λ (b : Bool). (sent (with_state old id more) old b).1) room.1 in
      state_put priorities mailbox_tells h (λ y. more) _
      (ap (λ (y : declared.Mailbox × List (Queued ℕ)). (y.0, y.1 ++ m ∷ [])) h.same_state)
      (sym queued ∙ put.1)

  mailboxes_tell : TellsWhatWasPut (boxes.put_mailbox priorities) boxes.saved_mailboxes priorities
  mailboxes_tell =
      tells_all priorities mailbox_tells boxes.saved_mailbox mailbox_spelled (λ o. refl)
      (boxes.put_mailbox priorities)
      (λ xs x s t before e.
      let head = x.0.0 in
      last_saved priorities mailbox_tells boxes.saved_mailbox mailbox_spelled (λ o. refl) before
      (with_list_holds (boxes.put_waited priorities) boxes.put_message_in
      (λ ms. MailboxStands s head.id (head.state, ms) x.0.1) s t x
      (λ middle. with_list_holds boxes.put_head (boxes.put_thread priorities)
      (MailboxStands s head.id (head.state, [])) s middle x.0
      (λ first put. head_put priorities mailbox_tells s first head.id
      (mailboxes.empty_mailbox head.state) (head.state, []) _ before.given (λ sound. refl) put)
      (λ ws w old new h put. waiter_put priorities mailbox_tells h
      (λ table queued. may_wait table head.id) w put))
      (λ ms m old new h put. message_put h m put) e))

  -- what is saved of a pool of which its layout is told and what is out of it
  abbrev pool_spelled : {L R W : Type 0} → ℕ → L × List R → List (Waiter W)
      → (Head L × List R) × List (Waiter W)
  pool_spelled id told waiters = ((record { id = id; state = told.0 }, told.1), waiters)

  -- of a variable pool, ranges
  abbrev variable_tells : Pool → VariableLayout × List Range
  variable_tells x = (variable_pools.layout_of x, x.ranges)

  -- a range more is out of it
  range_put : {s old new : VariablePools} {id : ℕ} {x : VariableLayout} {rs : List Range}
      {ws : List (Waiter ℕ)} (h : StandsLast priorities variable_tells s id (x, rs) ws old)
      (r : Range) → variable.put_range id old r ≡ Some new
      → StandsLast priorities variable_tells s id (x, rs ++ r ∷ []) ws new
  range_put {old = old} {new = new} {id = id} h r e =
      let put = cond_some (may_be_out old id r.start r.size)
      (with_out_last old id r.start r.size) new e in
      state_put priorities variable_tells h (with_last_range r.start r.size) _
      (ap (λ (y : VariableLayout × List Range). (y.0, y.1 ++ r ∷ [])) h.same_state) put.1

  variable_pools_tell : TellsWhatWasPut (variable.put_variable_pool priorities)
      variable.saved_pools priorities
  variable_pools_tell =
      tells_all priorities variable_tells variable.saved_pool pool_spelled (λ o. refl)
      (variable.put_variable_pool priorities)
      (λ xs x s t before e.
      let head = x.0.0 in
      last_saved priorities variable_tells variable.saved_pool pool_spelled (λ o. refl) before
      (with_list_holds variable.put_taken (variable.put_thread priorities)
      (StandsLast priorities variable_tells s head.id (head.state, x.0.1)) s t x
      (λ middle. with_list_holds variable.put_head variable.put_range_of
      (λ rs. StandsLast priorities variable_tells s head.id (head.state, rs) []) s middle x.0
      (λ first put. head_put priorities variable_tells s first head.id
      (pool_with (variable_pools.layout_for head.state) []) (head.state, []) _ before.given
      (λ sound. refl) put)
      (λ rs r old new h put. range_put h r put))
      (λ ws w old new h put. waiter_put priorities variable_tells h
      (λ table queued. variable_pools.may_put_waiter table head.id queued.item.wants) w put) e))

  -- of a fixed pool, blocks
  abbrev fixed_tells : Pool → FixedLayout × List ℕ
  fixed_tells x = (fixed_pools.layout_of x, fixed_pools.blocks_in x.ranges)

  -- a block more is out of it
  block_put : {s old new : FixedPools} {id : ℕ} {x : FixedLayout} {bs : List ℕ}
      {ws : List (Waiter ⊤)} (h : StandsLast priorities fixed_tells s id (x, bs) ws old)
      (b : ℕ) → fixed.put_block id old b ≡ Some new
      → StandsLast priorities fixed_tells s id (x, bs ++ b ∷ []) ws new
  block_put {old = old} {new = new} {id = id} h b e =
      let size = fixed_pools.block_size old id in
      let put = cond_some (may_be_out old id b size) (with_out_last old id b size) new e in
      state_put priorities fixed_tells h (with_last_range b size) _
      (ap (λ (bs : List ℕ). (fixed_pools.layout_of h.state, bs))
      (map_push (λ (r : Range). r.start) h.state.ranges (record { start = b; size = size }))
      ∙ ap (λ (y : FixedLayout × List ℕ). (y.0, y.1 ++ b ∷ [])) h.same_state)
      put.1

  -- so many blocks of one size are as many as they were
  layout_again : (x : FixedLayout) → fixed_pools.may_stand x ≡ true
      → fixed_tells (pool_with (fixed_pools.layout_for x) []) ≡ (x, [])
  layout_again x stands =
      let ends = and_parts _ _ stands in
      let few = and_parts _ _ ends.0 in
      let some = and_parts _ _ few.0 in
      let units = and_parts _ _ some.0 in
      let least = and_parts _ _ units.0 in
      let size = and_parts _ _ least.0 in
      let again : x.size * x.count / x.size ≡ x.count =
      ap (λ n. n / x.size) (mul_comm x.size x.count)
      ∙ mul-div_cancel x.count (ltb-true _ _ size.1) in
      ap (λ n. (record x { count = n }, [])) again

  fixed_pools_tell : TellsWhatWasPut (fixed.put_fixed_pool priorities) fixed.saved_pools
      priorities
  fixed_pools_tell =
      tells_all priorities fixed_tells fixed.saved_pool pool_spelled (λ o. refl)
      (fixed.put_fixed_pool priorities)
      (λ xs x s t before e.
      let head = x.0.0 in
      last_saved priorities fixed_tells fixed.saved_pool pool_spelled (λ o. refl) before
      (with_list_holds fixed.put_taken (fixed.put_thread priorities)
      (StandsLast priorities fixed_tells s head.id (head.state, x.0.1)) s t x
      (λ middle. with_list_holds fixed.put_head fixed.put_block_of
      (λ bs. StandsLast priorities fixed_tells s head.id (head.state, bs) []) s middle x.0
      (λ first put. head_put priorities fixed_tells s first head.id
      (pool_with (fixed_pools.layout_for head.state) []) (head.state, []) _ before.given
      (layout_again head.state) put)
      (λ bs b old new h put. block_put h b put))
      (λ ws w old new h put. waiter_put priorities fixed_tells h
      (λ table queued. may_wait table head.id) w put) e))

  -- so it is of all tables
  pub tables_tell : TablesTellWhatWasPut priorities
  tables_tell = record {
    semaphores = plain_tells semaphores.is_sound (λ id table queued. may_wait table id);
    event_flags =
        plain_tells (λ x. is_attribute x.attr)
        (λ id table queued. event_flags.may_wait table id queued.item.wants);
    mailboxes = mailboxes_tell;
    variable_pools = variable_pools_tell;
    fixed_pools = fixed_pools_tell;
  }
