-- What is known of each live object and of its waiters, when one of a table changes, comes or goes.
use Rattle.std.proofs.Common.{◌≡◌, ℕ, ◌==◌, if◌then◌else◌, Option, Some, None, option_map, Result, List, [], ◌∷◌, refl, ap, sym, ◌∙◌, subst, arith}
use Rattle.std.specs.Option.{option_or}
use Rattle.std.proofs.lemmas.Bool.{cond_both}
use Rattle.std.proofs.lemmas.Bool.Decides.{nat_tests}
use Rattle.std.proofs.lemmas.List.Folds.{find-append}
use Rattle.std.proofs.lemmas.Option.{same_Some}
use Rattle.iop_base.specs.declared.code.Code.{Code}
use Rattle.iop_objects.specs.Objects.{Object, Objects, object_of, state_of, waiters_in, waiters_of, has_room, creates, deletes, changes, with_state, with_waiters}
use Rattle.iop_queues.specs.declared.queued.Queued.{Queued}
use Rattle.iop_objects.specs.Restoring.{with_last}
use Rattle.iop_objects.specs.declared.waiter.Waiter.{Waiter}
use Rattle.iop_objects.proofs.Others.{changed, object_of_id, object_of_changed, object_of_without}

module _ {A W : Type 0} (Q : A → List (Queued (Waiter W)) → Type 0) where
  -- a fact of what is known of an object and of those that wait for it holds of each one
  abbrev pub HoldsOfEach : Objects A W → Type 0
  HoldsOfEach s = (id : ℕ) (x : A) → state_of s id ≡ Some x → Q x (waiters_of s id)

  -- it holds of this one
  abbrev pub HoldsOf : Object A W → Type 0
  HoldsOf o = Q o.state o.waiters

  -- it holds of each where it holds of each one that is found
  pub each_from_found : (s : Objects A W)
      → ((id : ℕ) (o : Object A W) → object_of s.live id ≡ Some o → HoldsOf o) → HoldsOfEach s
  each_from_found s all id x is = by (object_of s.live id) refl is
    where
      by : (o : Option (Object A W)) → object_of s.live id ≡ o
          → option_map (λ o. o.state) o ≡ Some x → Q x (waiters_in o)
      by None found is = cc
      by (Some o) found is = subst (λ x. Q x o.waiters) (same_Some o.state x is) (all id o found)

module _ {A W : Type 0} (Q : A → List (Queued (Waiter W)) → Type 0) (s : Objects A W)
    (h : HoldsOfEach Q s) where
  -- it holds of one that is found
  pub found_holds : (id : ℕ) (o : Object A W) → object_of s.live id ≡ Some o → HoldsOf Q o
  found_holds id o found =
      subst (Q o.state) (ap waiters_in found) (h id o.state (ap (option_map (λ o. o.state)) found))

  -- one object changes
  pub each_changes : (n : ℕ) (change : Object A W → Object A W)
      → ((o : Object A W) → (change o).id ≡ o.id)
      → ((o : Object A W) → object_of s.live n ≡ Some o → HoldsOf Q (change o))
      → HoldsOfEach Q (changes s n change)
  each_changes n change keeps now =
      each_from_found Q (changes s n change)
      (λ id o found. by id o (object_of s.live id) refl
      (sym (object_of_changed n change keeps s.live id) ∙ found))
    where
      by : (id : ℕ) (o : Object A W) (p : Option (Object A W)) → object_of s.live id ≡ p
          → option_map (changed n change keeps) p ≡ Some o → HoldsOf Q o
      by id o None was is = cc
      by id o (Some p) was is =
          subst (HoldsOf Q) (same_Some (changed n change keeps p) o is)
          (cond_both (p.id == n) (change p) p (HoldsOf Q)
          (λ it.
          let own = object_of_id s.live id p was in
          let here : id ≡ n = grind (arith, nat_tests, own, it) in
          now p (subst (λ id. object_of s.live id ≡ Some p) here was))
          (λ other. found_holds id p was))

  -- its waiters are others
  pub each_with_waiters : (n : ℕ) (ws : List (Queued (Waiter W)))
      → ((x : A) → state_of s n ≡ Some x → Q x (waiters_of s n) → Q x ws)
      → HoldsOfEach Q (with_waiters s n ws)
  each_with_waiters n ws now =
      each_changes n (λ o. record o { waiters = ws }) (λ o. refl)
      (λ o found. let known = ap (option_map (λ o. o.state)) found in
      now o.state known (h n o.state known))

  -- something else is known of it
  pub each_with_state : (n : ℕ) (state : A) → Q state (waiters_of s n)
      → HoldsOfEach Q (with_state s n state)
  each_with_state n state now =
      each_changes n (λ o. record o { state = state }) (λ o. refl)
      (λ o found. subst (Q state) (ap waiters_in found) now)

  -- one comes behind all others, of which it holds
  module _ (n : ℕ) (state : A) (first : Q state []) where
    abbrev last : Object A W
    last = record { id = n; state = state; waiters = [] }

    pub each_with_last : HoldsOfEach Q (with_last s n state)
    each_with_last =
        each_from_found Q (with_last s n state) (λ id o found. by id o (object_of s.live id) refl
        (sym (find-append (λ o. o.id == id) s.live (last ∷ [])) ∙ found))
      where
        by : (id : ℕ) (o : Object A W) (p : Option (Object A W)) → object_of s.live id ≡ p
            → option_or p (if last.id == id then Some last else None) ≡ Some o → HoldsOf Q o
        by id o (Some p) was = λ is. found_holds id o (was ∙ is)
        by id o None was =
            cond_both (last.id == id) _ None (λ found. found ≡ Some o → HoldsOf Q o)
            (λ it is. subst (HoldsOf Q) (same_Some last o is) first) (λ other is. cc)

  -- so where one is made
  pub each_creates : (state : A) → Q state [] → HoldsOfEach Q (creates s state).1
  each_creates state first =
      cond_both (has_room s) _ _ (λ (r : Result ℕ Code × Objects A W). HoldsOfEach Q r.1)
      (λ room. each_with_last s.next state first) (λ full. h)

  -- one is deleted
  pub each_deletes : (n : ℕ) → HoldsOfEach Q (deletes s n)
  each_deletes n =
      each_from_found Q (deletes s n) (λ id o found.
      cond_both (id == n) None (object_of s.live id) (λ p. p ≡ Some o → HoldsOf Q o)
      (λ it is. cc) (λ other is. found_holds id o is)
      (sym (object_of_without s.live n id) ∙ found))
