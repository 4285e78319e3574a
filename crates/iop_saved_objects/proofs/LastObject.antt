-- The object that was put back last stands behind others whose ids are lower, so that what is put
-- back of its id is put into it alone.
use Rattle.std.proofs.Common.{◌≡◌, ℕ, ◌+◌, ◌<◌, ◌≤◌, Bool, true, if◌then◌else◌, Option, Some, None, List, [], ◌∷◌, ◌++◌, append-nil, append_assoc, map, All, refl, sym, ap, subst, ◌∙◌, arith}
use Rattle.std.specs.Prelude.{◌&&◌, option_map}
use Rattle.std.proofs.lemmas.Bool.{and_parts, eq-eqb, leb-true, ne_eqb}
use Rattle.std.proofs.lemmas.List.{map_push}
use Rattle.std.proofs.lemmas.List.Elements.{All-nil, All-push, All-weaker}
use Rattle.std.proofs.lemmas.List.Folds.{map_fixed}
use Rattle.std.proofs.lemmas.Option.{cond_some, same_Some}
use Rattle.iop_objects.specs.Objects.{Object, Objects, no_objects, changes, state_of, waiters_in, waits}
use Rattle.iop_objects.specs.Restoring.{may_follow, with_last}
use Rattle.iop_objects.specs.declared.objects.TheConstants.{FIRST_ID}
use Rattle.iop_objects.specs.declared.waiter.Waiter.{Waiter}
use Rattle.iop_objects.proofs.Apart.{made_found}
use Rattle.iop_objects.proofs.Tables.{changed, table_of}
use Rattle.iop_queues.specs.declared.queued.Queued.{Queued}
use Rattle.iop_snapshot.specs.Putting.{put_all}
use Rattle.iop_snapshot.proofs.Combining.{then_some}
use Rattle.iop_saved_objects.specs.Laws.{AllHavePriorities, TellsWhatWasPut}
use Rattle.iop_saved_objects.specs.Lists.{put_with_list}
use Rattle.iop_saved_objects.specs.Waiters.{HavePriorities, put_waiter, saved_waiters}

-- what holds of a table and of the values that were put into it, and still holds of one value more
module _ {T X : Type 0} (put : T → X → Option T) (Holds : List X → T → Type 0)
    (one : (xs : List X) (x : X) (t u : T) → Holds xs t → put t x ≡ Some u
    → Holds (xs ++ x ∷ []) u) where
  -- it holds of those that were put and of all that are
  behind : (done xs : List X) (t u : T) → Holds done t → put_all put t xs ≡ Some u
      → Holds (done ++ xs) u
  behind done [] t u holds e =
      subst (λ l. Holds l u) (sym (append-nil done)) (subst (Holds done) (same_Some t u e) holds)
  behind done (x ∷ xs) t u holds e =
      let first = then_some (put t x) (λ left. put_all put left xs) u e in
      subst (λ l. Holds l u) (append_assoc done (x ∷ []) xs)
      (behind (done ++ x ∷ []) xs first.0 u (one done x t first.0 holds first.1) first.2)

  -- so it holds of all
  pub all_put : (xs : List X) (t u : T) → Holds [] t → put_all put t xs ≡ Some u → Holds xs u
  all_put xs t u holds e = behind [] xs t u holds e

-- the same where a value was put first
pub with_list_holds : {T H X : Type 0} (put : T → H → Option T) (put_item : H → T → X → Option T)
    (Holds : List X → T → Type 0) (t u : T) (value : H × List X)
    → ((middle : T) → put t value.0 ≡ Some middle → Holds [] middle)
    → ((xs : List X) (x : X) (old new : T) → Holds xs old → put_item value.0 old x ≡ Some new
    → Holds (xs ++ x ∷ []) new)
    → put_with_list put put_item t value ≡ Some u → Holds value.1 u
with_list_holds put put_item Holds t u value first one e =
    let head = then_some (put t value.0) (λ left. put_all (put_item value.0) left value.1) u e in
    all_put (put_item value.0) Holds one value.1 head.0 u (first head.0 head.1) head.2

module _ {A W : Type 0} where
  -- an object of which so much is known
  abbrev pub object : ℕ → A → List (Queued (Waiter W)) → Object A W
  object id state waiters = record { id = id; state = state; waiters = waiters }

  -- a thread waits for the object of an id, where it may
  abbrev pub waits_if : (Objects A W → Queued (Waiter W) → Bool) → ℕ → Objects A W
      → Queued (Waiter W) → Option (Objects A W)
  waits_if may id table queued = if may table queued then Some (waits table id queued) else None

  -- what is known of an object changes
  abbrev pub to_state : (A → A) → Object A W → Object A W
  to_state change o = record o { state = change o.state }

  -- a table that ends with an object whose id is behind those of the others
  module _ (live : List (Object A W)) (last : Object A W) (next : ℕ)
      (older : All (λ o. o.id < last.id) live) where
    abbrev ending : Object A W → Objects A W
    ending o = table_of (live ++ o ∷ []) next

    -- it alone changes
    last_changes : (change : Object A W → Object A W)
        → changes (ending last) last.id change ≡ ending (change last)
    last_changes change =
        ap (λ l. table_of l next)
        (map_push (changed last.id change) live last
        ∙ ap (λ l. l ++ changed last.id change last ∷ [])
        (map_fixed (changed last.id change) live
        (All-weaker (λ o. o.id < last.id) (λ o. changed last.id change o ≡ o)
        (λ o less. ap (λ b. if b then change o else o)
        (ne_eqb o.id last.id (λ e. omega (arith, less, e))))
        live older))
        ∙ ap (λ b. live ++ (if b then change last else last) ∷ []) (eq-eqb last.id last.id refl))

    -- a thread waits for it, behind all others
    last_waits : (queued : Queued (Waiter W))
        → waits (ending last) last.id queued
        ≡ ending (record last { waiters = last.waiters ++ queued ∷ [] })
    last_waits queued =
        ap (λ o. changes (ending last) last.id
        (λ p. record p { waiters = waiters_in o ++ queued ∷ [] })) (made_found last live older)
        ∙ last_changes (λ p. record p { waiters = last.waiters ++ queued ∷ [] })

module _ {A W B : Type 0} (priorities : ℕ → Option ℕ) (tells : A → B) where
  -- behind the objects of a table stands one of which so much is told, and for which these wait,
  -- each with the priority of its thread
  pub record StandsLast (s : Objects A W) (id : ℕ) (told : B) (waiting : List (Waiter W))
      (t : Objects A W) : Type 0 where
    pub state : A
    pub waiters : List (Queued (Waiter W))
    pub is : t ≡ table_of (s.live ++ object id state waiters ∷ []) (id + 1)
    pub older : All (λ o. o.id < id) s.live
    pub known : HavePriorities priorities waiters
    pub same_state : tells state ≡ told
    pub same_waiters : saved_waiters waiters ≡ waiting

  -- it was put back without its lists
  pub head_put : (s t : Objects A W) (id : ℕ) (state : A) (told : B) (sound : Bool)
      → All (λ o. o.id < s.next) s.live → (sound ≡ true → tells state ≡ told)
      → (if sound && may_follow s id then Some (with_last s id state) else None) ≡ Some t
      → StandsLast s id told [] t
  head_put s t id state told sound given same e =
      let put = cond_some (sound && may_follow s id) (with_last s id state) t e in
      let may = and_parts sound (may_follow s id) put.0 in
      let ahead : s.next ≤ id = leb-true _ _ (and_parts _ _ (and_parts _ _ may.1).0).0 in
      record {
        state = state;
        waiters = [];
        is = sym put.1;
        older = All-weaker (λ o. o.id < s.next) (λ o. o.id < id)
            (λ o less. omega (arith, less, ahead)) s.live given;
        known = All-nil (λ queued. priorities queued.item.thread ≡ Some queued.priority);
        same_state = same may.0;
        same_waiters = refl;
      }

  module _ {s t : Objects A W} {id : ℕ} {told : B} {waiting : List (Waiter W)}
      (h : StandsLast s id told waiting t) where
    abbrev last : Object A W
    last = object id h.state h.waiters

    -- it is the one of its id
    pub last_known : state_of t id ≡ Some h.state
    last_known =
        ap (λ (t : Objects A W). state_of t id) h.is
        ∙ ap (option_map (λ o. o.state)) (made_found last s.live h.older)

    -- a thread more waits for it
    pub waiter_put : {u : Objects A W} (may : Objects A W → Queued (Waiter W) → Bool)
        (waiter : Waiter W) → put_waiter (waits_if may id) priorities t waiter ≡ Some u
        → StandsLast s id told (waiting ++ waiter ∷ []) u
    waiter_put {u = u} may waiter e =
        let live = then_some (priorities waiter.thread)
        (λ priority. waits_if may id t (record { priority = priority; item = waiter })) u e in
        let queued : Queued (Waiter W) = record { priority = live.0; item = waiter } in
        let waits_now = cond_some (may t queued) (waits t id queued) u live.2 in
        record {
          state = h.state;
          waiters = h.waiters ++ queued ∷ [];
          is = sym waits_now.1 ∙ ap (λ (t : Objects A W). waits t id queued) h.is
              ∙ last_waits s.live last (id + 1) h.older queued;
          older = h.older;
          known = All-push (λ queued. priorities queued.item.thread ≡ Some queued.priority)
              h.waiters queued h.known live.1;
          same_state = h.same_state;
          same_waiters = map_push (λ queued. queued.item) h.waiters queued
              ∙ ap (λ l. l ++ waiter ∷ []) h.same_waiters;
        }

    -- more is told of it
    pub state_put : {u : Objects A W} (change : A → A) (more : B) → tells (change h.state) ≡ more
        → changes t id (to_state change) ≡ u
        → StandsLast s id more waiting u
    state_put change more same e = record {
      state = change h.state;
      waiters = h.waiters;
      is = sym e ∙ ap (λ (t : Objects A W). changes t id (to_state change)) h.is
          ∙ last_changes s.live last (id + 1) h.older (to_state change);
      older = h.older;
      known = h.known;
      same_state = same;
      same_waiters = h.same_waiters;
    }

  module _ {X : Type 0} (saved : Object A W → X) (spelled : ℕ → B → List (Waiter W) → X)
      (same : (o : Object A W) → saved o ≡ spelled o.id (tells o.state) (saved_waiters o.waiters))
    where
      -- this would be saved of a table, in which all wait with the priorities of their threads,
      -- and no object has an id that is still to be given
      pub record IsSavedAs (xs : List X) (t : Objects A W) : Type 0 where
        pub is : map saved t.live ≡ xs
        pub known : AllHavePriorities priorities t
        pub given : All (λ o. o.id < t.next) t.live

      -- and this with the object that stands last
      pub last_saved : {xs : List X} {s t : Objects A W} {id : ℕ} {told : B}
          {waiting : List (Waiter W)} → IsSavedAs xs s → StandsLast s id told waiting t
          → IsSavedAs (xs ++ spelled id told waiting ∷ []) t
      last_saved {xs = xs} {s = s} {id = id} {told = told} {waiting = waiting} before h =
          let last = object id h.state h.waiters in
          let spelled_so : saved last ≡ spelled id told waiting =
          same last ∙ ap (λ y. spelled id y (saved_waiters h.waiters)) h.same_state
          ∙ ap (spelled id told) h.same_waiters in
          subst (IsSavedAs (xs ++ spelled id told waiting ∷ [])) (sym h.is) (record {
            is = map_push saved s.live last ∙ ap (λ l. l ++ saved last ∷ []) before.is
                ∙ ap (λ x. xs ++ x ∷ []) spelled_so;
            known = All-push (λ o. HavePriorities priorities o.waiters) s.live last before.known
                h.known;
            given = All-push (λ o. o.id < id + 1) s.live last
                (All-weaker (λ o. o.id < id) (λ o. o.id < id + 1)
                (λ o less. omega (arith, less)) s.live h.older)
                (omega arith);
          })

      -- so what was put into a table of none is what would be saved of it
      pub tells_all : (put : Objects A W → X → Option (Objects A W))
          → ((xs : List X) (x : X) (s t : Objects A W) → IsSavedAs xs s → put s x ≡ Some t
          → IsSavedAs (xs ++ x ∷ []) t)
          → TellsWhatWasPut put (λ t. map saved t.live) priorities
      tells_all put one xs s e =
          let all = all_put put IsSavedAs one xs no_objects s (record {
            is = refl;
            known = All-nil (λ o. HavePriorities priorities o.waiters);
            given = All-nil (λ o. o.id < FIRST_ID);
          }) e in
          (all.is, all.known)
