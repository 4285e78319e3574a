-- The object at a place of a table.
use Rattle.std.proofs.Common.{◌≡◌, ℕ, zero, suc, ◌<◌, Option, Some, None, List, [], ◌∷◌, length, map, AllPairs, refl, sym, ap, ◌∙◌, arith}
use Rattle.std.specs.Prelude.{option_map, slice_get, unwrap_or}
use Rattle.std.proofs.lemmas.Bool.{eq-eqb, ne_eqb}
use Rattle.std.proofs.lemmas.List.{length-map}
use Rattle.std.proofs.lemmas.Option.{same_Some, slice_get-map, slice_get_within, get_or_from_slice_get}
use Rattle.iop_base.proofs.Searching.{AllPairs-tail}
use Rattle.iop_objects.specs.Objects.{Object, Objects, AreObjects, object_of, waiters_in, waiters_of}
use Rattle.iop_objects.specs.declared.waiter.Waiter.{Waiter}
use Rattle.iop_queues.specs.declared.queued.Queued.{Queued}
use Rattle.iop_saved_objects.specs.Lists.{ahead_in}
use Rattle.iop_saved_objects.specs.Waiters.{saved_waiters}

module _ {A W : Type 0} where
  -- where ids rise, the object at a place is the one of its id
  found_at : (live : List (Object A W)) (k : ℕ) (o : Object A W)
      → AllPairs (λ a b. a.id < b.id) live → slice_get live k ≡ Some o
      → object_of live o.id ≡ Some o
  found_at [] k o rise is = absurd cc
  found_at (q ∷ live) zero o rise is =
      let same : q ≡ o = same_Some q o is in
      rw (eq-eqb q.id o.id (ap (λ p. p.id) same)) is
  found_at (q ∷ live) (suc k) o rise is =
      let inside = slice_get_within live k o is in
      let less = rise 0 (suc k) o (omega arith) (omega (arith, inside)) in
      let there = ap (λ p. p.id) (get_or_from_slice_get live k o o is) in
      rw (ne_eqb q.id o.id (λ e. omega (arith, less, there, e)))
      (found_at live k o (AllPairs-tail (λ a b. a.id < b.id) q live rise) is)

  -- what is written of the object at a place, from what is known of it
  pub told_at : {X B : Type 0} (saved : Object A W → X) (known : A → B) (by : ℕ → B → X)
      (s : Objects A W) → AreObjects s
      → ((o : Object A W) → object_of s.live o.id ≡ Some o → saved o ≡ by o.id (known o.state))
      → (place : ℕ) (result : Option (ℕ × B))
      → result ≡ option_map (λ o. (o.id, known o.state)) (slice_get s.live place)
      → slice_get (map saved s.live) place ≡ option_map (λ told. by told.0 told.1) result
  told_at {B = B} saved known by s are same place result e =
      slice_get-map saved s.live place ∙ each (slice_get s.live place) refl
      ∙ sym (ap (option_map (λ (told : ℕ × B). by told.0 told.1)) e)
    where
      each : (o : Option (Object A W)) → slice_get s.live place ≡ o
          → option_map saved o
          ≡ option_map (λ (told : ℕ × B). by told.0 told.1)
          (option_map (λ p. (p.id, known p.state)) o)
      each None is = refl
      each (Some o) is = ap Some (same o (found_at s.live place o are.ids is))

  -- those that wait for an object, if there is one, as they are ahead of a walk over them
  pub waiters_ahead : (o : Option (Object A W)) (walk : Option (List (Queued (Waiter W))))
      → walk ≡ option_map (λ p. p.waiters) o
      → ahead_in saved_waiters walk ≡ saved_waiters (waiters_in o)
  waiters_ahead None walk e = ap (ahead_in saved_waiters) e
  waiters_ahead (Some o) walk e = ap (ahead_in saved_waiters) e

  -- and how many they are
  pub waiters_counted : (s : Objects A W) (id count : ℕ)
      (walk : Option (List (Queued (Waiter W)))) → count ≡ length (waiters_of s id)
      → walk ≡ option_map (λ p. p.waiters) (object_of s.live id)
      → count ≡ length (ahead_in saved_waiters walk)
  waiters_counted s id count walk counted e =
      counted ∙ sym (ap length (waiters_ahead (object_of s.live id) walk e)
      ∙ length-map (waiters_of s id) (λ queued. queued.item))

-- what stands with an object, if there is one, as it is ahead of a walk over it
pub content_ahead : {A Y : Type 0} (content : A → List Y) (o : Option A)
    (walk : Option (List Y)) → walk ≡ option_map content o
    → ahead_in (λ ys. ys) walk ≡ ahead_in content o
content_ahead {Y = Y} content o walk e =
    ap (λ (ys : Option (List Y)). unwrap_or ys []) (all walk ∙ e)
  where
    all : (ys : Option (List Y)) → option_map (λ zs. zs) ys ≡ ys
    all None = refl
    all (Some ys) = refl

-- and how much it is
pub content_counted : {A Y : Type 0} (content : A → List Y) (o : Option A) (count : ℕ)
    (walk : Option (List Y)) → count ≡ length (ahead_in content o) → walk ≡ option_map content o
    → count ≡ length (ahead_in (λ ys. ys) walk)
content_counted content o count walk counted e =
    counted ∙ sym (ap length (content_ahead content o walk e))
