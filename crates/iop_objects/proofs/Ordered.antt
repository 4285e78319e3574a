-- Where the threads wait once one of them waits no more, or with another priority.
use Rattle.std.proofs.Common.{◌≡◌, ◌≢◌, ℕ, Option, Some, None, not, option_map, List, [], ◌∷◌, ◌++◌, map, filter, refl, ap, ◌∙◌}
use Rattle.std.specs.List.{All}
use Rattle.std.proofs.lemmas.Bool.{eq-eqb, ne_eqb}
use Rattle.std.proofs.lemmas.List.{map-append}
use Rattle.std.proofs.lemmas.List.Elements.{All-head, All-tail, filter-append}
use Rattle.iop_objects.specs.Laws.{IsAmong, WaitersKeepOrder}
use Rattle.iop_objects.specs.Objects.{Object, object_of, waiters_in}
use Rattle.iop_objects.specs.WaiterQueues.{in_place, is_thread, moved_last, with_priority, without}
use Rattle.iop_objects.specs.declared.waiter.Waiter.{Waiter}
use Rattle.iop_queues.specs.declared.queued.Queued.{Queued}
use Rattle.iop_objects.proofs.Changes.{waiters_of-with_waiters}

module _ {W : Type 0} (thread priority : ℕ) where
  abbrev IsOther : Queued (Waiter W) → Type 0
  IsOther y = y.item.thread ≢ thread

  others_stay : (ys : List (Queued (Waiter W))) → All IsOther ys → without thread ys ≡ ys
  others_stay [] all = refl
  others_stay (y ∷ ys) all =
      rw (ne_eqb y.item.thread thread (All-head IsOther y ys all))
      (ap (λ zs. y ∷ zs) (others_stay ys (All-tail IsOther y ys all)))

  none_is : (ys : List (Queued (Waiter W))) → All IsOther ys → filter (is_thread thread) ys ≡ []
  none_is [] all = refl
  none_is (y ∷ ys) all =
      rw (ne_eqb y.item.thread thread (All-head IsOther y ys all))
      (none_is ys (All-tail IsOther y ys all))

  none_changes : (ys : List (Queued (Waiter W))) → All IsOther ys
      → in_place thread priority ys ≡ ys
  none_changes [] all = refl
  none_changes (y ∷ ys) all =
      rw (ne_eqb y.item.thread thread (All-head IsOther y ys all))
      (ap (λ zs. y ∷ zs) (none_changes ys (All-tail IsOther y ys all)))

  module _ (waiters : List (Queued (Waiter W))) (h : IsAmong thread waiters) where
    abbrev x : Queued (Waiter W)
    x = h.one

    left : without thread waiters ≡ h.before ++ h.behind
    left =
        ap (without thread) h.waiters_are
        ∙ filter-append (λ y. not (is_thread thread y)) h.before (x ∷ h.behind)
        ∙ ap (λ ys. ys ++ without thread (x ∷ h.behind)) (others_stay h.before h.others_before)
        ∙ ap (λ ys. h.before ++ ys)
        (rw (eq-eqb x.item.thread thread h.is_thread) (others_stay h.behind h.others_behind))

    own : filter (is_thread thread) waiters ≡ x ∷ []
    own =
        ap (filter (is_thread thread)) h.waiters_are
        ∙ filter-append (is_thread thread) h.before (x ∷ h.behind)
        ∙ ap (λ ys. ys ++ filter (is_thread thread) (x ∷ h.behind))
        (none_is h.before h.others_before)
        ∙ rw (eq-eqb x.item.thread thread h.is_thread)
        (ap (λ ys. x ∷ ys) (none_is h.behind h.others_behind))

    last : moved_last thread priority waiters
        ≡ h.before ++ h.behind ++ with_priority priority x ∷ []
    last =
        ap (λ ys. ys ++ map (with_priority priority) (filter (is_thread thread) waiters)) left
        ∙ ap (λ ys. h.before ++ h.behind ++ map (with_priority priority) ys) own

    placed : in_place thread priority waiters
        ≡ h.before ++ with_priority priority x ∷ h.behind
    placed =
        ap (in_place thread priority) h.waiters_are
        ∙ map-append _ h.before (x ∷ h.behind)
        ∙ ap (λ ys. ys ++ in_place thread priority (x ∷ h.behind))
        (none_changes h.before h.others_before)
        ∙ ap (λ ys. h.before ++ ys)
        (rw (eq-eqb x.item.thread thread h.is_thread)
        (ap (λ ys. with_priority priority x ∷ ys) (none_changes h.behind h.others_behind)))

module _ {A W : Type 0} where
  -- an object that has waiters is live
  state_from : (o : Option (Object A W)) (before behind : List (Queued (Waiter W)))
      (x : Queued (Waiter W)) → waiters_in o ≡ before ++ x ∷ behind
      → (y : A) × (option_map (λ p. p.state) o ≡ Some y)
  state_from None [] behind x e = cc
  state_from None (y ∷ before) behind x e = cc
  state_from (Some o) before behind x e = (o.state, refl)

  pub keep_order : WaitersKeepOrder A W
  keep_order s id thread priority h =
      let live = state_from (object_of s.live id) h.before h.behind h.one h.waiters_are in
      let waiters = waiters_in (object_of s.live id) in
      record {
        dropped = waiters_of-with_waiters s id live.0 live.1 _ ∙ left thread priority waiters h;
        last = waiters_of-with_waiters s id live.0 live.1 _ ∙ last thread priority waiters h;
        placed = waiters_of-with_waiters s id live.0 live.1 _ ∙ placed thread priority waiters h;
      }
