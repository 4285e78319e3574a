-- An object is deleted after those that wait for it were woken, one after the other, in the order
-- in which they are chosen.
use Rattle.std.proofs.Common.{◌≡◌, ℕ, true, Option, Some, None, List, refl, ap, sym, subst, ◌∙◌, ◌<◌, Bool, false, [], ◌∷◌, length, map, filter, arith}
use Rattle.std.specs.Prelude.{option_map, is_some, ◌==◌, not, if◌then◌else◌}
use Rattle.std.proofs.lemmas.Bool.Decides.{nat_tests}
use Rattle.iop_base.specs.declared.code.Code.{Code}
use Rattle.iop_base.specs.declared.code.TheConstants.Code.{OK, OBJECT_DELETED}
use Rattle.iop_objects.specs.Objects as objects
use Rattle.iop_objects.specs.Objects.{object_of, waiters_in, waiters_of, takes_next, Object, Objects, state_of, takes, with_waiters, deletes}
use Rattle.iop_queues.specs.Queue.{in_order, Choice, chooses}
use Rattle.iop_queues.specs.declared.queued.Queued.{Queued}
use Rattle.iop_objects.specs.declared.waiter.Waiter.{Waiter}
use Rattle.iop_objects.proofs.Changes.{object_of-changed}
use Rattle.iop_objects.proofs.Others.{object_of_id, waiters_leave_states}
use Rattle.iop_queues.proofs.Choosing.{queues_chosen}
use Rattle.iop_ready.specs.declared.entry.Entry.{Entry}
use Rattle.iop_thread.specs.Operations.{wakes}
use Rattle.iop_thread.specs.ThreadTable.{ThreadTable}
use Rattle.iop_thread.specs.declared.kind.Kind.{Kind}
use Rattle.iop_kernel.specs.Kinds.{Live, Table, table, with_table, with_objects, waits_by_priority, is_by_priority}
use Rattle.iop_kernel.specs.ObjectServices as deleting
use Rattle.iop_kernel.specs.ObjectServices.{removes_it, removes, deletes_object, delete_object}
use Rattle.iop_kernel.specs.Standing.{Holds, held}
use Rattle.iop_kernel.specs.System.{Kernel, Core, with_threads, answers, code_word}
use Rattle.iop_kernel.specs.Waits.{threads_of, wakes_all}
use Rattle.iop_kernel.specs.declared.kernel.Kernel.{Kernel as Program}
use Rattle.iop_kernel.proofs.Bodies.KindTables.{own_table, table_twice, same_table, order_stays, by_priority_known}
use Rattle.iop_kernel.proofs.Bodies.Standing.{holds_table}
use Rattle.iop_kernel.proofs.Placing.Queues.{none_chosen}

-- the threads after those were woken that waited for an object that is deleted
abbrev pub woken_by_deletion : ThreadTable → List ℕ → ThreadTable
woken_by_deletion threads ids = wakes_all threads ids (code_word OBJECT_DELETED)

-- in order none is none
none_in_order : {T : Type 0} (by : Bool) (queue : List (Queued T)) → queue ≡ []
    → in_order by queue ≡ []
none_in_order true queue none = ap (in_order true) none
none_in_order false queue none = none

module _ {A W : Type 0} where
  abbrev to_waiters : List (Queued (Waiter W)) → Object A W → Object A W
  to_waiters waiters o = record o { waiters = waiters }

  -- the threads that wait for an object, in the order in which they are chosen: by priority, where
  -- it is said so, or by arrival
  abbrev pub chosen_in_order : Bool → Objects A W → ℕ → List ℕ
  chosen_in_order by s id = threads_of (in_order by (waiters_of s id))

  -- what is left of the one that is taken out, and of those behind it
  pub record IsTakenOut (by : Bool) (s t : Objects A W) (id thread : ℕ) : Type 0 where
    pub live : is_some (object_of s.live id) ≡ true
    pub known : state_of t id ≡ state_of s id
    pub order : chosen_in_order by s id ≡ thread ∷ chosen_in_order by t id
    pub deletes : deletes t id ≡ deletes s id
    pub fewer : length (waiters_of t id) < length (waiters_of s id)

  module _ (id : ℕ) (waiters : List (Queued (Waiter W))) where
    -- a deletion does not look at the waiters
    left_after : (live : List (Object A W))
        → filter (λ p. not (p.id == id))
        (map (λ o. if o.id == id then to_waiters waiters o else o) live)
        ≡ filter (λ p. not (p.id == id)) live
    left_after [] = refl
    left_after (o ∷ live) = grind (arith, nat_tests, left_after live)

  -- one is chosen of those that wait for an object, which then has the others
  is_there : (by : Bool) (c : Choice (Waiter W)) (o : Option (Object A W))
      → chooses by (waiters_in o) ≡ Some c
      → (is_some o ≡ true) × (waiters_in (option_map (to_waiters c.others) o) ≡ c.others)
  is_there by c None e = absurd (none_chosen by c e)
  is_there by c (Some o) e = (refl, refl)

  -- one is taken out
  one_taken : (by : Bool) (s t : Objects A W) (id : ℕ) (c : Choice (Waiter W))
      → chooses by (waiters_of s id) ≡ Some c → t ≡ with_waiters s id c.others
      → IsTakenOut by s t id c.one.item.thread
  one_taken by s t id c chosen is =
      let there = is_there by c (object_of s.live id) chosen in
      let waiters : waiters_of t id ≡ c.others =
      ap (λ r. waiters_of r id) is
      ∙ ap waiters_in (object_of-changed id (to_waiters c.others) (λ o. refl) s.live)
      ∙ there.1 in
      let order = queues_chosen.order by (waiters_of s id) c chosen in
      let size = queues_chosen.size by (waiters_of s id) in
      let size_left = queues_chosen.size by c.others in
      record {
        live = there.0;
        known = ap (λ r. state_of r id) is ∙ waiters_leave_states id c.others s id;
        order = ap threads_of order
            ∙ ap (λ q. c.one.item.thread ∷ threads_of q) (sym (ap (in_order by) waiters));
        deletes = ap (λ r. deletes r id) is
            ∙ ap (λ (l : List (Object A W)). record { live = l; next = s.next })
            (left_after id c.others s.live);
        fewer = omega (arith, ap length order, ap length waiters, size, size_left);
      }

  -- the thread that is taken out was the next one
  pub taken_out : (by : Bool) (s t : Objects A W) (id thread : ℕ)
      → Some thread ≡ option_map (λ w. w.thread) (takes_next s id by).0
      → t ≡ (takes_next s id by).1 → IsTakenOut by s t id thread
  taken_out by s t id thread = of (chooses by (waiters_of s id)) refl
    where
      of : (o : Option (Choice (Waiter W))) → chooses by (waiters_of s id) ≡ o
          → Some thread ≡ option_map (λ w. w.thread) (takes s id o).0 → t ≡ (takes s id o).1
          → IsTakenOut by s t id thread
      of None chosen answer is = cc
      of (Some c) chosen answer is =
          let one : c.one.item.thread ≡ thread = cc in
          subst (IsTakenOut by s t id) one (one_taken by s t id c chosen is)

  -- where none is taken out none waits
  pub none_taken_out : (by : Bool) (s t : Objects A W) (id : ℕ)
      → None ≡ option_map (λ w. w.thread) (takes_next s id by).0 → t ≡ (takes_next s id by).1
      → (t ≡ s) × (waiters_of s id ≡ [])
  none_taken_out by s t id = of (chooses by (waiters_of s id)) refl
    where
      of : (o : Option (Choice (Waiter W))) → chooses by (waiters_of s id) ≡ o
          → None ≡ option_map (λ (w : Waiter W). w.thread) (takes s id o).0
          → t ≡ (takes s id o).1 → (t ≡ s) × (waiters_of s id ≡ [])
      of None chosen answer is = (is, queues_chosen.empty by (waiters_of s id) chosen)
      of (Some c) chosen answer is = cc

  -- where none waits any more all are woken
  pub all_are_woken : (by : Bool) (threads old : ThreadTable) (ids : List ℕ) (s : Objects A W)
      (id : ℕ) → waiters_of s id ≡ []
      → woken_by_deletion threads (chosen_in_order by s id) ≡ woken_by_deletion old ids
      → threads ≡ woken_by_deletion old ids
  all_are_woken by threads old ids s id none order =
      let empty = none_in_order by (waiters_of s id) none in
      sym (ap (λ q. woken_by_deletion threads (threads_of q)) empty) ∙ order

-- those that wait for an object of a kind, in the order that the object itself says
abbrev pub chosen_of : (kind : Kind) → Table kind → ℕ → List ℕ
chosen_of kind s id = chosen_in_order (is_by_priority kind s id) s id

-- the deletion afterwards is that of before
same_deletion : (kind : Kind) (s t : Table kind) (id : ℕ) (o : Option (Live kind))
    → is_some o ≡ true → objects.deletes t id ≡ objects.deletes s id
    → removes_it kind t id (option_map (λ p. p.state) o)
    ≡ removes_it kind s id (option_map (λ p. p.state) o)
same_deletion kind s t id None live e = absurd (cc live)
same_deletion kind s t id (Some o) live e = ap (λ l. (OK, l)) e

module _ {R : Type 0} (stands_for : R → List Entry → Type 0) (kind : Kind) (id : ℕ) (k : Kernel)
  where
    -- with other threads and the objects of a program
    abbrev pub with_held : ThreadTable → Program R → Kernel
    with_held threads p = with_table kind (record k { threads = threads }) (held kind p)

    -- some of those that waited for an object are woken, and no longer wait for it
    pub record IsWaking (p : Program R) : Type 0 where
      pub threads : ThreadTable
      pub holds : Holds stands_for p (with_held threads p)
      pub order : woken_by_deletion threads (chosen_of kind (held kind p) id)
          ≡ woken_by_deletion k.threads (chosen_of kind (table kind k) id)
      pub deletes : removes kind (held kind p) id ≡ removes kind (table kind k) id

    -- so it is at first
    pub waking_begins : (p : Program R) → Holds stands_for p k → IsWaking p
    waking_begins p h =
        let same = holds_table stands_for h kind in
        record {
          threads = k.threads;
          holds = subst (Holds stands_for p)
              (sym (ap (with_table kind k) (sym same) ∙ same_table kind k)) h;
          order = ap (λ s. woken_by_deletion k.threads (chosen_of kind s id)) (sym same);
          deletes = ap (λ s. removes kind s id) (sym same);
        }

    -- the objects are others
    pub holds_others : (threads : ThreadTable) (p q : Program R)
        → Holds stands_for q (with_table kind (with_held threads p) (held kind q))
        → Holds stands_for q (with_held threads q)
    holds_others threads p q h =
        subst (Holds stands_for q)
        (table_twice kind (record k { threads = threads }) (held kind p) (held kind q)) h

    -- those of a program whose thread is woken stay
    pub objects_stay : (threads : ThreadTable) (q now : Program R)
        → Holds stands_for now (with_held threads q) → held kind q ≡ held kind now
    objects_stay threads q now h =
        sym (own_table kind (record k { threads = threads }) (held kind q))
        ∙ holds_table stands_for h kind

    -- one more is woken
    pub waking_goes_on : (thread : ℕ) (p q now : Program R) (h : IsWaking p)
        → Some thread ≡ option_map (λ w. w.thread)
        (takes_next (held kind p) id (is_by_priority kind (held kind p) id)).0
        → held kind q ≡ (takes_next (held kind p) id (is_by_priority kind (held kind p) id)).1
        → Holds stands_for now (with_held (wakes h.threads thread (code_word OBJECT_DELETED)) q)
        → IsWaking now
    waking_goes_on thread p q now h answer is woken =
        let before = held kind p in
        let t = held kind q in
        let by = is_by_priority kind before id in
        let out = taken_out by before t id thread answer is in
        let rest : chosen_of kind t id ≡ chosen_in_order by t id =
        ap (λ b. chosen_in_order b t id) (order_stays kind before t id out.known) in
        let deleted = ap (removes_it kind t id) out.known
        ∙ same_deletion kind before t id (object_of before.live id) out.live out.deletes in
        let threads = wakes h.threads thread (code_word OBJECT_DELETED) in
        let same = objects_stay threads q now woken in
        record {
          threads = threads;
          holds = subst (λ (s : Table kind).
              Holds stands_for now (with_table kind (record k { threads = threads }) s)) same woken;
          order = ap (λ s. woken_by_deletion threads (chosen_of kind s id)) (sym same)
              ∙ ap (woken_by_deletion threads) rest
              ∙ ap (woken_by_deletion h.threads) (sym out.order) ∙ h.order;
          deletes = ap (λ s. removes kind s id) (sym same) ∙ deleted ∙ h.deletes;
        }

module _ (kind : Kind) (c : Core) (id : ℕ) (threads : ThreadTable)
    (woken : threads ≡ woken_by_deletion c.kernel.threads (chosen_of kind (table kind c.kernel) id))
    (code : Code) (s : Table kind) (answer : code ≡ (removes kind (table kind c.kernel) id).0)
    (left : s ≡ (removes kind (table kind c.kernel) id).1) where
  abbrev t : Table kind
  t = table kind c.kernel

  -- by the object of the id
  deletion_by : (o : Option (Live kind)) → object_of t.live id ≡ o
      → deletes_object kind c o ≡ answers (with_objects kind (with_threads c threads) s) code
  deletion_by None found =
      let none = none_in_order (is_by_priority kind t id) (waiters_of t id) (ap waiters_in found) in
      let did = ap (removes_it kind t id) (ap (option_map (λ p. p.state)) found) in
      let same : threads ≡ c.kernel.threads =
      woken ∙ ap (λ q. woken_by_deletion c.kernel.threads (threads_of q)) none in
      let was : s ≡ t = left ∙ ap (λ d. d.1) did in
      let told : code ≡ deleting.unknown kind = answer ∙ ap (λ d. d.0) did in
      rw (same, was, told, same_table kind c.kernel) refl
  deletion_by (Some o) found =
      let own = object_of_id t.live id o found in
      let known = ap (option_map (λ p. p.state)) found in
      let did = ap (removes_it kind t id) known in
      let order = ap (λ by. threads_of (in_order by (waiters_of t id)))
      (by_priority_known kind t id o.state known)
      ∙ ap (λ x. threads_of (in_order (waits_by_priority kind o.state) (waiters_in x))) found in
      let all : threads ≡ woken_by_deletion c.kernel.threads (deleting.threads_in_order kind o) =
      woken ∙ ap (woken_by_deletion c.kernel.threads) order in
      let gone : s ≡ objects.deletes t o.id =
      left ∙ ap (λ d. d.1) did ∙ ap (objects.deletes t) (sym own) in
      let told : code ≡ OK = answer ∙ ap (λ d. d.0) did in
      rw (all, gone, told) refl

  -- what the deletion of an object answers and leaves
  pub deletion_is : delete_object kind c id
      ≡ answers (with_objects kind (with_threads c threads) s) code
  deletion_is = deletion_by (object_of t.live id) refl
