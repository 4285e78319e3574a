-- The slots of the threads of a priority.
use Rattle.std.specs.List.{All}
use Rattle.std.proofs.Common.{◌≡◌, ◌≢◌, ℕ, Bool, true, false, cond, not, Some, option_map, List, [], ◌∷◌, ◌++◌, map, refl, ap, sym, ◌∙◌, arith}
use Rattle.std.specs.Prelude.{◌==◌}
use Rattle.std.proofs.lemmas.Bool.{eq-eqb, ne_eqb, eqb-true}
use Rattle.std.proofs.lemmas.Bool.Decides.{nat_tests}
use Rattle.std.proofs.lemmas.List.{map-append}
use Rattle.std.proofs.lemmas.List.Elements.{filter-append, All-head, All-tail, All-weaker, filter_passes}
use Rattle.iop_cblock.specs.Lists.{head, without as without_node}
use Rattle.iop_ready.specs.declared.entry.Entry.{Entry}
use Rattle.iop_ready.specs.Queues.{slots_of}
use Rattle.iop_ready.specs.ReadyList.{entry_of, of_priority, first_of, without}
use Rattle.iop_ready.proofs.Lists.{filter-swap}

-- the slots of a priority once the list changes
pub slots_of-append : (p : ℕ) (xs ys : List Entry)
    → slots_of p (xs ++ ys) ≡ slots_of p xs ++ slots_of p ys
slots_of-append p xs ys =
    let test : Entry → Bool = λ e. e.priority == p in
    ap (map (λ e. e.slot)) (filter-append test xs ys)
    ∙ map-append (λ e. e.slot) (of_priority p xs) (of_priority p ys)

pub slots_of-same : (slot p : ℕ) (xs : List Entry)
    → slots_of p (entry_of slot p ∷ xs) ≡ slot ∷ slots_of p xs
slots_of-same slot p xs = rw (eq-eqb p p refl) refl

pub slots_of-other : (slot priority p : ℕ) (xs : List Entry) → p ≢ priority
    → slots_of p (entry_of slot priority ∷ xs) ≡ slots_of p xs
slots_of-other slot priority p xs ne = rw (ne_eqb priority p (λ e. ne (sym e))) refl

slots-without : (slot : ℕ) (xs : List Entry)
    → map (λ e. e.slot) (without slot xs) ≡ without_node slot (map (λ e. e.slot) xs)
slots-without slot [] = refl
slots-without slot (x ∷ xs) = grind (arith, nat_tests, slots-without slot xs)

pub slots_of-without : (slot p : ℕ) (xs : List Entry)
    → slots_of p (without slot xs) ≡ without_node slot (slots_of p xs)
slots_of-without slot p xs =
    let stays : Entry → Bool = λ e. not (e.slot == slot) in
    ap (map (λ e. e.slot)) (filter-swap (λ e. e.priority == p) stays xs)
    ∙ slots-without slot (of_priority p xs)

-- the first slot of a priority is that of its first thread
pub head-slots : (p : ℕ) (xs : List Entry)
    → head (slots_of p xs) ≡ option_map (λ e. e.slot) (first_of p xs)
head-slots p [] = refl
head-slots p (x ∷ xs) = head_by (x.priority == p) (head-slots p xs)
  where
    head_by : (b : Bool) → head (slots_of p xs) ≡ option_map (λ e. e.slot) (first_of p xs)
        → head (map (λ e. e.slot) (cond b (x ∷ of_priority p xs) (of_priority p xs)))
        ≡ option_map (λ e. e.slot) (cond b (Some x) (first_of p xs))
    head_by true later = refl
    head_by false later = later

-- threads of one priority are told by their slots
same_by_slots : (p : ℕ) (xs ys : List Entry) → All (λ e. e.priority ≡ p) xs
    → All (λ e. e.priority ≡ p) ys → map (λ e. e.slot) xs ≡ map (λ e. e.slot) ys → xs ≡ ys
same_by_slots p [] [] all other same = refl
same_by_slots p [] (y ∷ ys) all other same = cc
same_by_slots p (x ∷ xs) [] all other same = cc
same_by_slots p (x ∷ xs) (y ∷ ys) all other same =
    let is_of : Entry → Type 0 = λ e. e.priority ≡ p in
    let slot_is : x.slot ≡ y.slot = cc in
    let slots_are : map (λ e. e.slot) xs ≡ map (λ e. e.slot) ys = cc in
    let priority_is : x.priority ≡ y.priority =
    All-head is_of x xs all ∙ sym (All-head is_of y ys other) in
    let rest =
    same_by_slots p xs ys (All-tail is_of x xs all) (All-tail is_of y ys other) slots_are in
    let here : x ≡ y = ap (λ n. entry_of n x.priority) slot_is ∙ ap (entry_of y.slot) priority_is in
    ap (λ z. z ∷ xs) here ∙ ap (λ zs. y ∷ zs) rest

all_of : (p : ℕ) (xs : List Entry) → All (λ e. e.priority ≡ p) (of_priority p xs)
all_of p xs =
    let test : Entry → Bool = λ e. e.priority == p in
    All-weaker (λ e. test e ≡ true) (λ e. e.priority ≡ p) (λ e passes. eqb-true e.priority p passes)
    (of_priority p xs) (filter_passes test xs)

pub same_from_slots : (p : ℕ) (xs ys : List Entry) → slots_of p xs ≡ slots_of p ys
    → of_priority p xs ≡ of_priority p ys
same_from_slots p xs ys same =
    same_by_slots p (of_priority p xs) (of_priority p ys) (all_of p xs) (all_of p ys) same
