-- Lists that stand for one another have the same best thread, and stand for one another after every
-- change.
use Rattle.std.proofs.Common.{◌≡◌, ◌≢◌, ℕ, ◌<◌, Bool, true, false, cond, not, Option, Some, None, option_map, List, [], ◌∷◌, ◌++◌, length, refl, ap, sym, ◌∙◌, arith, subst, nat_lt, IfSome}
use Rattle.std.specs.Prelude.{◌==◌}
use Rattle.std.specs.List.{All, find, filter, slice_get}
use Rattle.std.proofs.lemmas.Bool.Decides.{nat_tests}
use Rattle.std.proofs.lemmas.List.Elements.{All-nil, All-cons, All-head, All-tail, All-push, All-filter, All-weaker, filter-append, filter_passes}
use Rattle.std.proofs.lemmas.List.Kept.{AllPairs-filter, AllPairs-cons}
use Rattle.std.proofs.lemmas.List.Quantifiers.{all_pairs_push}
use Rattle.iop_base.specs.Choosing.{better}
use Rattle.iop_ready.specs.declared.entry.Entry.{Entry}
use Rattle.iop_ready.specs.declared.slot.TheConstants.{MOST_THREADS}
use Rattle.iop_ready.specs.Priorities.{IsPriority}
use Rattle.iop_ready.specs.ReadyList.{CanEnter, entry_of, HasNot, is_listed, slot_at, without, of_priority, first_of, moved_last, rotated, best_of, best_slot, IsReadyList, StandsFor}
use Rattle.iop_ready.specs.Laws.{Agree}
use Rattle.iop_ready.proofs.Lists.{find-filter, filter-swap, IfSome-find, length-le_from_distinct}
use Rattle.iop_ready.proofs.Listing.{listed-has_not, has_not-listed}

abbrev IsApart : Entry → Entry → Type 0
IsApart x y = x.slot ≢ y.slot

-- what holds of the threads of each priority holds of all
module _ (P : Entry → Type 0) where
  first_by : (b : Bool) (x : Entry) (xs : List Entry) → b ≡ true → All P (cond b (x ∷ xs) xs)
      → P x
  first_by true x xs e all = All-head P x xs all
  first_by false x xs e all = cc

  rest_by : (b : Bool) (x : Entry) (xs : List Entry) → All P (cond b (x ∷ xs) xs) → All P xs
  rest_by true x xs all = All-tail P x xs all
  rest_by false x xs all = all

  pub All-each_priority : (xs : List Entry) → ((p : ℕ) → All P (of_priority p xs)) → All P xs
  All-each_priority [] each = All-nil P
  All-each_priority (x ∷ xs) each =
      let own : (x.priority == x.priority) ≡ true = grind (arith, nat_tests) in
      let first =
      first_by (x.priority == x.priority) x (of_priority x.priority xs) own (each x.priority) in
      All-cons P x xs first
      (All-each_priority xs (λ p. rest_by (x.priority == p) x (of_priority p xs) (each p)))

pub has_not-stands : {xs ys : List Entry} (slot : ℕ) → StandsFor xs ys → HasNot slot xs
    → HasNot slot ys
has_not-stands {xs} {ys} slot h absent =
    let P : Entry → Type 0 = λ e. e.slot ≢ slot in
    All-each_priority P ys
    (λ p. subst (All P) (h.same p) (All-filter (λ e. e.priority == p) P xs absent))

pub stands_itself : {xs : List Entry} → IsReadyList xs → StandsFor xs xs
stands_itself h = record { same = λ p. refl; left = h; right = h }

pub stands_back : {xs ys : List Entry} → StandsFor xs ys → StandsFor ys xs
stands_back h = record { same = λ p. sym (h.same p); left = h.right; right = h.left }

-- a thread is in both or in neither
pub listed-stands : {xs ys : List Entry} (slot : ℕ) → StandsFor xs ys
    → is_listed slot xs ≡ is_listed slot ys
listed-stands {xs} {ys} slot h = by (is_listed slot xs) refl (is_listed slot ys) refl
  where
    by : (a : Bool) → is_listed slot xs ≡ a → (b : Bool) → is_listed slot ys ≡ b → a ≡ b
    by true here true there = refl
    by false here false there = refl
    by true here false there =
        let none = listed-has_not slot xs
        (has_not-stands slot (stands_back h) (has_not-listed slot ys there)) in
        cc
    by false here true there =
        let none = listed-has_not slot ys (has_not-stands slot h (has_not-listed slot xs here)) in
        cc

pub slot_at-stands : {xs ys : List Entry} (p place : ℕ) → StandsFor xs ys
    → slot_at p place xs ≡ slot_at p place ys
slot_at-stands p place h =
    ap (λ zs. option_map (λ (e : Entry). e.slot) (slice_get zs place)) (h.same p)

can_enter_other : {e : Entry} {xs ys : List Entry} → StandsFor xs ys → CanEnter e xs → CanEnter e ys
can_enter_other {e} h can = record {
  slot = can.slot;
  priority = can.priority;
  absent = has_not-stands e.slot h can.absent;
}

-- a thread that stands in no list for which this one stands can enter this one
pub can_enter-own : (slot priority : ℕ) (own : List Entry) → slot < MOST_THREADS
    → IsPriority priority → (xs : List Entry) × StandsFor own xs × HasNot slot xs
    → CanEnter (entry_of slot priority) own
can_enter-own slot priority own low is h = record {
  slot = low;
  priority = is;
  absent = has_not-stands slot (stands_back h.1) h.2;
}

pub sound_last : (e : Entry) (xs : List Entry) → IsReadyList xs → CanEnter e xs
    → IsReadyList (xs ++ e ∷ [])
sound_last e xs h can = record {
  slots = All-push (λ x. x.slot < MOST_THREADS) xs e h.slots can.slot;
  priorities = All-push (λ x. IsPriority x.priority) xs e h.priorities can.priority;
  distinct = all_pairs_push IsApart xs e h.distinct can.absent;
}

pub sound_first : (e : Entry) (xs : List Entry) → IsReadyList xs → CanEnter e xs
    → IsReadyList (e ∷ xs)
sound_first e xs h can =
    let apart = All-weaker (λ x. x.slot ≢ e.slot) (IsApart e) (λ x n p. n (sym p)) xs can.absent in
    record {
      slots = All-cons (λ x. x.slot < MOST_THREADS) e xs can.slot h.slots;
      priorities = All-cons (λ x. IsPriority x.priority) e xs can.priority h.priorities;
      distinct = AllPairs-cons IsApart e xs apart h.distinct;
    }

-- where a thread can enter there is room for it
pub length-lt_from_can_enter : (e : Entry) (own xs : List Entry) → xs ≡ own → IsReadyList own
    → CanEnter e own → length xs < MOST_THREADS
length-lt_from_can_enter e own xs is h can =
    let all = sound_first e own h can in
    let few = length-le_from_distinct (λ x. x.slot) MOST_THREADS (e ∷ own) all.slots all.distinct in
    rw is (omega (arith, few))

pub sound_without : (slot : ℕ) (xs : List Entry) → IsReadyList xs → IsReadyList (without slot xs)
sound_without slot xs h =
    let stays : Entry → Bool = λ e. not (e.slot == slot) in
    record {
      slots = All-filter stays (λ x. x.slot < MOST_THREADS) xs h.slots;
      priorities = All-filter stays (λ x. IsPriority x.priority) xs h.priorities;
      distinct = AllPairs-filter IsApart stays xs h.distinct;
    }

pub has_not-without : (slot : ℕ) (xs : List Entry) → HasNot slot (without slot xs)
has_not-without slot xs =
    let stays : Entry → Bool = λ e. not (e.slot == slot) in
    All-weaker (λ e. stays e ≡ true) (λ e. e.slot ≢ slot)
    (λ e passes same. grind (arith, nat_tests, passes, same)) (without slot xs)
    (filter_passes stays xs)

of_priority-last : (p : ℕ) (e : Entry) (xs : List Entry)
    → of_priority p (xs ++ e ∷ []) ≡ of_priority p xs ++ of_priority p (e ∷ [])
of_priority-last p e xs = filter-append (λ x. x.priority == p) xs (e ∷ [])

pub stands_last : (e : Entry) {xs ys : List Entry} → StandsFor xs ys → CanEnter e xs
    → StandsFor (xs ++ e ∷ []) (ys ++ e ∷ [])
stands_last e {xs} {ys} h can = record {
  same = λ p. of_priority-last p e xs
      ∙ ap (λ zs. zs ++ of_priority p (e ∷ [])) (h.same p)
      ∙ sym (of_priority-last p e ys);
  left = sound_last e xs h.left can;
  right = sound_last e ys h.right (can_enter_other h can);
}

pub stands_first : (e : Entry) {xs ys : List Entry} → StandsFor xs ys → CanEnter e xs
    → StandsFor (e ∷ xs) (e ∷ ys)
stands_first e {xs} {ys} h can = record {
  same = λ p. ap (λ zs. cond (e.priority == p) (e ∷ zs) zs) (h.same p);
  left = sound_first e xs h.left can;
  right = sound_first e ys h.right (can_enter_other h can);
}

pub stands_without : (slot : ℕ) {xs ys : List Entry} → StandsFor xs ys
    → StandsFor (without slot xs) (without slot ys)
stands_without slot {xs} {ys} h =
    let stays : Entry → Bool = λ e. not (e.slot == slot) in
    record {
      same = λ p. filter-swap (λ e. e.priority == p) stays xs ∙ ap (filter stays) (h.same p)
          ∙ sym (filter-swap (λ e. e.priority == p) stays ys);
      left = sound_without slot xs h.left;
      right = sound_without slot ys h.right;
    }

first_of-stands : {xs ys : List Entry} → StandsFor xs ys → (p : ℕ) → first_of p xs ≡ first_of p ys
first_of-stands {xs} {ys} h p =
    let test : Entry → Bool = λ e. e.priority == p in
    sym (find-filter test xs) ∙ ap (find test) (h.same p) ∙ find-filter test ys

-- what the slot and the priority of a thread in a list can be
abbrev IsThread : Entry → Type 0
IsThread e = (e.slot < MOST_THREADS) × IsPriority e.priority

found_is_thread : (p : ℕ) (o : Option Entry)
    → IfSome o (λ e. IsThread e × ((e.priority == p) ≡ true)) → IfSome o IsThread
found_is_thread p None f = tt
found_is_thread p (Some e) f = f.0

first_is_thread : (p : ℕ) (xs : List Entry) → IsReadyList xs → IfSome (first_of p xs) IsThread
first_is_thread p xs h =
    let all : All IsThread xs = λ k d below. (h.slots k d below, h.priorities k d below) in
    found_is_thread p (first_of p xs) (IfSome-find (λ e. e.priority == p) IsThread xs all)

moved_stands : {xs ys : List Entry} (o : Option Entry) → IfSome o IsThread → StandsFor xs ys
    → StandsFor (moved_last o xs) (moved_last o ys)
moved_stands None is h = h
moved_stands {xs} {ys} (Some e) is h =
    stands_last e (stands_without e.slot h)
    (record { slot = is.0; priority = is.1; absent = has_not-without e.slot xs })

pub stands_rotated : (p : ℕ) {xs ys : List Entry} → StandsFor xs ys
    → StandsFor (rotated p xs) (rotated p ys)
stands_rotated p {xs} {ys} h =
    subst (λ o. StandsFor (rotated p xs) (moved_last o ys)) (first_of-stands h p)
    (moved_stands (first_of p xs) (first_is_thread p xs h.left) h)

-- the lists for which a list stands are rotated as it is
pub rotated-by_first : {own xs : List Entry} (p : ℕ) (o : Option Entry) → first_of p own ≡ o
    → StandsFor own xs → rotated p xs ≡ moved_last o xs
rotated-by_first {own} {xs} p o found h =
    ap (λ first. moved_last first xs) (sym (first_of-stands h p) ∙ found)

-- it is the first of its priority, and there is none of a smaller number
pub record IsBest (x : Entry) (xs : List Entry) : Type 0 where
  pub here : first_of x.priority xs ≡ Some x
  pub none : (p : ℕ) → p < x.priority → first_of p xs ≡ None

best_alone : (x : Entry) → IsBest x (x ∷ [])
best_alone x = record {
  here = grind (arith, nat_tests);
  none = λ p below. grind (arith, nat_tests);
}

better_is_best : (x y : Entry) (xs : List Entry) → IsBest y xs → (b : Bool)
    → nat_lt y.priority x.priority ≡ b → IsBest (cond b y x) (x ∷ xs)
better_is_best x y xs h true e = record {
  here = grind (arith, nat_tests, h.here, e);
  none = λ p below. grind (arith, nat_tests, h.none p below, e);
}
better_is_best x y xs h false e = record {
  here = grind (arith, nat_tests);
  none = λ p below.
      let less : p < y.priority = grind (arith, nat_tests, e, below) in
      grind (arith, nat_tests, h.none p less);
}

pub best_is_best : (x : Entry) (xs : List Entry)
    → IsBest (better (λ e. e.priority) x (best_of xs)) (x ∷ xs)
best_is_best x [] = best_alone x
best_is_best x (y ∷ ys) =
    let z = better (λ e. e.priority) y (best_of ys) in
    better_is_best x z (y ∷ ys) (best_is_best y ys) (nat_lt z.priority x.priority) refl

no_better : {x y : Entry} {xs ys : List Entry} → IsBest x xs → IsBest y ys → StandsFor xs ys
    → x.priority < y.priority → ⊥
no_better {x} f g h below =
    let e = first_of-stands h x.priority in
    let here = f.here in
    let none = g.none x.priority below in
    cc (e, here, none)

one_best : {x y : Entry} {xs ys : List Entry} → IsBest x xs → IsBest y ys → StandsFor xs ys
    → best_of xs ≡ Some x → best_of ys ≡ Some y → best_of xs ≡ best_of ys
one_best {x} {y} {xs} {ys} f g h e k =
    let less = no_better f g h in
    let more = no_better g f (stands_back h) in
    let same : x.priority ≡ y.priority = omega (arith, less, more) in
    e ∙ sym f.here ∙ first_of-stands h x.priority ∙ ap (λ p. first_of p ys) same ∙ g.here ∙ sym k

none_of_nothing : (y : Entry) (ys : List Entry) → StandsFor [] (y ∷ ys) → ⊥
none_of_nothing y ys h =
    let none = first_of-stands h y.priority in
    grind (arith, nat_tests, none)

best_stands : (xs ys : List Entry) → StandsFor xs ys → best_of xs ≡ best_of ys
best_stands [] [] h = refl
best_stands [] (y ∷ ys) h = absurd (none_of_nothing y ys h)
best_stands (x ∷ xs) [] h = absurd (none_of_nothing x xs (stands_back h))
best_stands (x ∷ xs) (y ∷ ys) h =
    one_best (best_is_best x xs) (best_is_best y ys) h refl refl

pub best_slot-stands : {xs ys : List Entry} → StandsFor xs ys → best_slot xs ≡ best_slot ys
best_slot-stands {xs} {ys} h = ap (option_map (λ e. e.slot)) (best_stands xs ys h)

pub agree : (xs ys : List Entry) → StandsFor xs ys → Agree xs ys
agree xs ys h = record {
  best = best_slot-stands h;
  contains = λ slot. listed-stands slot h;
  at = λ p place. slot_at-stands p place h;
  remove = λ slot. stands_without slot h;
  rotate = λ p. stands_rotated p h;
  add_last = λ e can. stands_last e h can;
  add_first = λ e can. stands_first e h can;
}
