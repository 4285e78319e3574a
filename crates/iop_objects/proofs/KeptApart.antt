-- Each call changes the object of one id alone, and gives no id twice.
use Rattle.std.proofs.Common.{◌≡◌, ℕ, ◌<◌, ◌≤◌, ◌&&◌, inl, inr, Bool, true, false, Option, Some, None, option_map, List, [], length, refl, ap, ◌∙◌, arith}
use Rattle.std.specs.Prelude.{nat_lt, nat_le}
use Rattle.std.proofs.lemmas.Bool.Decides.{nat_tests}
use Rattle.iop_base.specs.declared.limits.TheConstants.{LAST_ID}
use Rattle.iop_objects.specs.Objects.{Object, Objects, AreObjects, no_objects, object_of, has_room, with_waiters, takes}
use Rattle.iop_objects.specs.Laws.{IsChange, GivesNoId, KeepsState, IsMade, IsSet, ChangeOne, ObjectsKeepApart}
use Rattle.iop_queues.specs.Queue.{Choice}
use Rattle.iop_objects.specs.declared.objects.TheConstants.{MOST_OBJECTS}
use Rattle.iop_queues.specs.declared.queued.Queued.{Queued}
use Rattle.iop_objects.specs.declared.waiter.Waiter.{Waiter}
use Rattle.iop_objects.proofs.Apart.{changes_one, deletes_one, none_stays, makes_one, made_found}
use Rattle.iop_objects.proofs.Changes.{object_of-changed, waiters_of-with_state}

module _ {A W : Type 0} where
  abbrev to_waiters : List (Queued (Waiter W)) → Object A W → Object A W
  to_waiters waiters o = record o { waiters = waiters }

  abbrev to_state : A → Object A W → Object A W
  to_state state o = record o { state = state }

module _ {A W : Type 0} (s : Objects A W) (h : AreObjects s) where
  unchanged : (id : ℕ) → GivesNoId id s s
  unchanged id = record {
    change = record {
      change = record { sound = h; rises = omega arith; given = λ n live. inl live };
      others = λ other apart. refl;
    };
    next = refl;
  }

  -- the waiters of one object are others
  other_waiters : (id : ℕ) (waiters : List (Queued (Waiter W)))
      → KeepsState id s (with_waiters s id waiters)
  other_waiters id waiters = record {
    change = changes_one id (to_waiters waiters) (λ o. refl) s h;
    state =
        ap (option_map (λ (o : Object A W). o.state))
        (object_of-changed id (to_waiters waiters) (λ o. refl) s.live)
        ∙ by_object (object_of s.live id);
  }
    where
      by_object : (o : Option (Object A W))
          → option_map (λ (p : Object A W). p.state)
          (option_map (to_waiters waiters) o)
          ≡ option_map (λ p. p.state) o
      by_object None = refl
      by_object (Some o) = refl

  taken : (id : ℕ) (o : Option (Choice (Waiter W))) → KeepsState id s (takes s id o).1
  taken id None = record { change = unchanged id; state = refl }
  taken id (Some c) = other_waiters id c.others

  set : (id : ℕ) (state : A) → IsSet s id state
  set id state = record {
    change = changes_one id (to_state state) (λ o. refl) s h;
    known =
        ap (option_map (λ (o : Object A W). o.state))
        (object_of-changed id (to_state state) (λ o. refl) s.live)
        ∙ by_object (object_of s.live id);
    waiters = waiters_of-with_state s id state;
  }
    where
      by_object : (o : Option (Object A W))
          → option_map (λ (p : Object A W). p.state)
          (option_map (to_state state) o)
          ≡ option_map (λ was. state) (option_map (λ (p : Object A W). p.state) o)
      by_object None = refl
      by_object (Some o) = refl

  module _ (state : A) where
    abbrev new : Object A W
    new = record { id = s.next; state = state; waiters = [] }

    room_by : (b c : Bool) → (b && c) ≡ true → (b ≡ true) × (c ≡ true)
    room_by true true e = (refl, refl)
    room_by true false e = cc
    room_by false c e = cc

    made_by : (b : Bool) → has_room s ≡ b → IsMade s state
    made_by true is =
        let both = room_by (nat_lt (length s.live) MOST_OBJECTS) (nat_le s.next LAST_ID) is in
        let room : length s.live < MOST_OBJECTS = grind (arith, nat_tests, both.0) in
        let left : s.next ≤ LAST_ID = grind (arith, nat_tests, both.1) in
        record {
          change = rw is (makes_one new s h refl room left);
          one = rw is (omega arith);
          made = λ e. rw is (made_found new s.live h.given);
        }
    made_by false is = record {
      change = rw is (unchanged s.next).change;
      one = rw is (omega arith);
      made = λ e. cc;
    }

  calls : ChangeOne s
  calls = record {
    creates = λ state. made_by state (has_room s) refl;
    deletes = λ id. record { change = deletes_one id s h; gone = none_stays id s.live };
    with_state = set;
    waits = λ id waiter. other_waiters id _;
    takes_next = λ id by_priority. taken id _;
    takes_where = λ id p. taken id _;
    takes_next_where = λ id by_priority p. taken id _;
    drops = λ id thread. other_waiters id _;
    requeues = λ id by_priority thread priority. other_waiters id _;
  }

module _ {A W : Type 0} where
  opening : AreObjects (no_objects {A = A} {W = W})
  opening = record {
    ids = λ i j d less below. absurd (omega arith);
    first = λ k d below. absurd (omega arith);
    given = λ k d below. absurd (omega arith);
    few = omega arith;
    next_first = omega arith;
    next_last = omega arith;
  }

  one_after_other : (a b c : Objects A W) → IsChange a b → IsChange b c → IsChange a c
  one_after_other a b c first second = record {
    sound = second.sound;
    rises = omega (arith, first.rises, second.rises);
    given = λ id live. elim (second.given id live) [
      | inl had ↦ elim (first.given id had) [
        | inl old ↦ inl old
        | inr new ↦ inr (new.0, omega (arith, new.1, second.rises))
      ]
      | inr new ↦ inr (omega (arith, new.0, first.rises), new.1)
    ];
  }

  pub keep_apart : ObjectsKeepApart A W
  keep_apart = record { opening = opening; calls = calls; compose = one_after_other }
