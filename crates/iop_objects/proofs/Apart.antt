-- What a change of the object of one id leaves of all objects.
use Rattle.std.proofs.Common.{◌≡◌, ◌≢◌, ℕ, ◌+◌, ◌<◌, ◌≤◌, ◌⊎◌, inl, inr, Bool, true, false, cond, not, is_some, Some, None, List, [], ◌∷◌, ◌++◌, length, map, filter, All, AllPairs, refl, ap, sym, subst, ◌∙◌, arith, get_or}
use Rattle.std.specs.Prelude.{◌==◌, if◌then◌else◌}
use Rattle.std.proofs.lemmas.Bool.Decides.{nat_tests}
use Rattle.std.proofs.lemmas.List.{length-map, get_or-map}
use Rattle.std.proofs.lemmas.List.Elements.{All-push, All-weaker, All-filter, All-map, All-head, All-tail}
use Rattle.std.proofs.lemmas.List.Kept.{AllPairs-filter}
use Rattle.std.proofs.lemmas.List.Quantifiers.{all_pairs_push}
use Rattle.std.proofs.lemmas.List.Sums.{length-filter, count_by-le-length}
use Rattle.std.proofs.lemmas.Grind.{length_at_push}
use Rattle.iop_base.specs.declared.limits.TheConstants.{LAST_ID}
use Rattle.iop_objects.specs.Objects.{Object, Objects, AreObjects, object_of, changes, deletes}
use Rattle.iop_objects.specs.Laws.{IsChangeOf, GivesNoId}
use Rattle.iop_objects.specs.declared.objects.TheConstants.{FIRST_ID, MOST_OBJECTS}

module _ {A W : Type 0} where
  abbrev pub Rise : Object A W → Object A W → Type 0
  Rise a b = a.id < b.id

  -- the object of an id changes
  module _ (id : ℕ) (change : Object A W → Object A W)
      (keeps : (o : Object A W) → (change o).id ≡ o.id) where
    abbrev one : Object A W → Object A W
    one o = if o.id == id then change o else o

    id-one : (o : Object A W) → (one o).id ≡ o.id
    id-one o = either (o.id == id)
      where
        either : (b : Bool) → (if b then change o else o).id ≡ o.id
        either true = keeps o
        either false = refl

    others_changed : (other : ℕ) → other ≢ id → (live : List (Object A W))
        → object_of (map one live) other ≡ object_of live other
    others_changed other apart [] = refl
    others_changed other apart (o ∷ live) =
        either (o.id == id) refl (others_changed other apart live)
      where
        either : (b : Bool) → (o.id == id) ≡ b
            → object_of (map one live) other ≡ object_of live other
            → object_of ((if b then change o else o) ∷ map one live) other
            ≡ object_of (o ∷ live) other
        either true is later =
            let same : o.id ≡ id = grind (arith, nat_tests, is) in
            let away : (o.id == other) ≡ false = grind (arith, nat_tests, same, apart) in
            let still : ((change o).id == other) ≡ false = ap (λ n. n == other) (keeps o) ∙ away in
            rw (still, away) later
        either false is later = ap (λ found. cond (o.id == other) (Some o) found) later

    live_changed : (n : ℕ) (live : List (Object A W))
        → is_some (object_of (map one live) n) ≡ is_some (object_of live n)
    live_changed n [] = refl
    live_changed n (o ∷ live) =
        ap (λ m. is_some (cond (m == n) (Some (one o)) (object_of (map one live) n))) (id-one o)
        ∙ either (o.id == n) (live_changed n live)
      where
        either : (b : Bool)
            → is_some (object_of (map one live) n) ≡ is_some (object_of live n)
            → is_some (cond b (Some (one o)) (object_of (map one live) n))
            ≡ is_some (cond b (Some o) (object_of live n))
        either true later = refl
        either false later = later

    module _ (s : Objects A W) (h : AreObjects s) where
      ids_rise : AllPairs Rise (map one s.live)
      ids_rise i j d less below =
          let inside : j < length s.live = omega (arith, length-map s.live one, below) in
          let before : i < length s.live = omega (arith, less, inside) in
          let first = ap (λ o. o.id) (get_or-map one s.live i d d before) in
          let second = ap (λ o. o.id) (get_or-map one s.live j d d inside) in
          omega (
            arith,
            h.ids i j d less inside,
            first ∙ id-one (get_or s.live i d),
            second ∙ id-one (get_or s.live j d),
          )

      ids_stay : (P : ℕ → Type 0) → All (λ o. P o.id) s.live → All (λ o. P o.id) (map one s.live)
      ids_stay P all =
          All-map (λ o. P o.id) one s.live
          (All-weaker (λ o. P o.id) (λ o. P (one o).id) (λ o p. subst P (sym (id-one o)) p) s.live
          all)

      AreObjects-changed : AreObjects (changes s id change)
      AreObjects-changed = record {
        ids = ids_rise;
        first = ids_stay (λ id. FIRST_ID ≤ id) h.first;
        given = ids_stay (λ id. id < s.next) h.given;
        few = omega (arith, length-map s.live one, h.few);
        next_first = h.next_first;
        next_last = h.next_last;
      }

      pub changes_one : GivesNoId id s (changes s id change)
      changes_one = record {
        change = record {
          change = record {
            sound = AreObjects-changed;
            rises = omega arith;
            given = λ n live. inl (sym (live_changed n s.live) ∙ live);
          };
          others = λ other apart. others_changed other apart s.live;
        };
        next = refl;
      }

  -- the object of an id is deleted
  module _ (id : ℕ) where
    abbrev stays : Object A W → Bool
    stays o = not (o.id == id)

    others_stay : (other : ℕ) → other ≢ id → (live : List (Object A W))
        → object_of (filter stays live) other ≡ object_of live other
    others_stay other apart [] = refl
    others_stay other apart (o ∷ live) =
        either (o.id == id) refl (others_stay other apart live)
      where
        either : (b : Bool) → (o.id == id) ≡ b
            → object_of (filter stays live) other ≡ object_of live other
            → object_of (cond (not b) (o ∷ filter stays live) (filter stays live)) other
            ≡ object_of (o ∷ live) other
        either true is later =
            let same : o.id ≡ id = grind (arith, nat_tests, is) in
            let away : (o.id == other) ≡ false = grind (arith, nat_tests, same, apart) in
            rw away later
        either false is later = ap (λ found. cond (o.id == other) (Some o) found) later

    pub none_stays : (live : List (Object A W)) → object_of (filter stays live) id ≡ None
    none_stays [] = refl
    none_stays (o ∷ live) = either (o.id == id) refl (none_stays live)
      where
        either : (b : Bool) → (o.id == id) ≡ b → object_of (filter stays live) id ≡ None
            → object_of (cond (not b) (o ∷ filter stays live) (filter stays live)) id ≡ None
        either true is later = later
        either false is later = rw is later

    was_live : (n : ℕ) (live : List (Object A W))
        → is_some (object_of (filter stays live) n) ≡ true → is_some (object_of live n) ≡ true
    was_live n live is = either (n == id) refl
      where
        either : (b : Bool) → (n == id) ≡ b → is_some (object_of live n) ≡ true
        either true same =
            let e : n ≡ id = grind (arith, nat_tests, same) in
            let none : is_some (object_of (filter stays live) n) ≡ false =
            ap (λ m. is_some (object_of (filter stays live) m)) e ∙ ap is_some (none_stays live) in
            cc
        either false apart =
            let differ : n ≢ id = grind (arith, nat_tests, apart) in
            ap is_some (sym (others_stay n differ live)) ∙ is

    pub deletes_one : (s : Objects A W) → AreObjects s → GivesNoId id s (deletes s id)
    deletes_one s h = record {
      change = record {
        change = record {
          sound = record {
            ids = AllPairs-filter Rise stays s.live h.ids;
            first = All-filter stays (λ o. FIRST_ID ≤ o.id) s.live h.first;
            given = All-filter stays (λ o. o.id < s.next) s.live h.given;
            few = omega (arith, length-filter stays s.live, count_by-le-length stays s.live, h.few);
            next_first = h.next_first;
            next_last = h.next_last;
          };
          rises = omega arith;
          given = λ n live. inl (was_live n s.live live);
        };
        others = λ other apart. others_stay other apart s.live;
      };
      next = refl;
    }

  -- an object more
  module _ (made : Object A W) where
    others_before : (other : ℕ) → other ≢ made.id → (live : List (Object A W))
        → object_of (live ++ made ∷ []) other ≡ object_of live other
    others_before other apart [] =
        let away : (made.id == other) ≡ false = grind (arith, nat_tests, apart) in rw away refl
    others_before other apart (o ∷ live) =
        ap (λ found. cond (o.id == other) (Some o) found) (others_before other apart live)

    pub made_found : (live : List (Object A W)) → All (λ o. o.id < made.id) live
        → object_of (live ++ made ∷ []) made.id ≡ Some made
    made_found [] older =
        let own : (made.id == made.id) ≡ true = grind (arith, nat_tests) in rw own refl
    made_found (o ∷ live) older =
        let less = All-head (λ p. p.id < made.id) o live older in
        let away : (o.id == made.id) ≡ false = grind (arith, nat_tests, less) in
        rw away (made_found live (All-tail (λ p. p.id < made.id) o live older))

    live_or_made : (n : ℕ) (live : List (Object A W))
        → is_some (object_of (live ++ made ∷ []) n) ≡ true
        → (is_some (object_of live n) ≡ true) ⊎ (n ≡ made.id)
    live_or_made n live is = either (n == made.id) refl
      where
        either : (b : Bool) → (n == made.id) ≡ b
            → (is_some (object_of live n) ≡ true) ⊎ (n ≡ made.id)
        either true same = inr (grind (arith, nat_tests, same))
        either false apart =
            let differ : n ≢ made.id = grind (arith, nat_tests, apart) in
            inl (ap is_some (sym (others_before n differ live)) ∙ is)

    pub makes_one : (s : Objects A W) → AreObjects s → made.id ≡ s.next
        → length s.live < MOST_OBJECTS → s.next ≤ LAST_ID
        → IsChangeOf s.next s (record { live = s.live ++ made ∷ []; next = s.next + 1 })
    makes_one s h own room left = record {
      change = record {
        sound = record {
          ids = all_pairs_push Rise s.live made h.ids
              (λ k d below. let less = h.given k d below in omega (arith, less, own));
          first = All-push (λ o. FIRST_ID ≤ o.id) s.live made h.first
              (omega (arith, own, h.next_first));
          given =
              All-push (λ o. o.id < s.next + 1) s.live made
              (All-weaker (λ o. o.id < s.next) (λ o. o.id < s.next + 1)
              (λ o less. omega (arith, less)) s.live h.given)
              (omega (arith, own));
          few = omega (arith, (length_at_push s.live made).1, room);
          next_first = omega (arith, h.next_first);
          next_last = omega (arith, left);
        };
        rises = omega arith;
        given = λ n live. elim (live_or_made n s.live live) [
          | inl old ↦ inl old
          | inr new ↦ inr (omega (arith, new, own), omega (arith, new, own))
        ];
      };
      others = λ other apart.
          others_before other (λ e. apart (e ∙ own)) s.live;
    }
