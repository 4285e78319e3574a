-- The nodes of a queue, place by place, and the threads that they are.
use Rattle.std.proofs.Common.{◌≡◌, ◌≢◌, ◌∙◌, ℕ, zero, suc, ◌+◌, ◌<◌, Bool, true, false, Option, Some, None, is_some, List, [], ◌∷◌, length, refl, ap, sym, arith}
use Rattle.std.specs.List.{AllPairs, slice_get}
use Rattle.std.specs.Prelude.{nat_eq}
use Rattle.std.proofs.lemmas.Bool.{eq-eqb, ne_eqb, false_from_ne_true}
use Rattle.std.proofs.lemmas.Option.{get_or_from_slice_get, slice_get-map, slice_get_within, same_Some}
use Rattle.std.proofs.lemmas.Map.Keys.{any_passes_from_place}
use Rattle.iop_base.proofs.Searching.{AllPairs-tail, position-at}
use Rattle.iop_cblock.specs.Lists.{Lists, AreDisjoint, holds, behind, head, list_at, list_of, next_of}
use Rattle.iop_cblock.proofs.Reading.{next_of-at}
use Rattle.iop_ready.specs.declared.entry.Entry.{Entry}
use Rattle.iop_ready.specs.Queues.{Queues, Hold}
use Rattle.iop_ready.specs.ReadyList.{is_listed, of_priority, slot_at}
use Rattle.iop_ready.proofs.Holding.{free-from, has_not-free}
use Rattle.iop_ready.proofs.Listing.{listed-has_not, has_not-listed}

-- the first of a list
pub head-first : (xs : List ℕ) → head xs ≡ slice_get xs 0
head-first [] = refl
head-first (x ∷ xs) = refl

-- where nothing stands at a place, nothing stands behind it
pub none_behind : (xs : List ℕ) (k n : ℕ) → slice_get xs k ≡ None → k < n + 1
    → slice_get xs n ≡ None
none_behind [] k n none le = refl
none_behind (x ∷ xs) zero n none le = cc
none_behind (x ∷ xs) (suc k) zero none le = absurd (omega (arith, le))
none_behind (x ∷ xs) (suc k) (suc n) none le = none_behind xs k n none (omega (arith, le))

-- behind the node at a place stands the one at the next place
behind-at : (xs : List ℕ) (k node : ℕ) → AllPairs (λ x y. x ≢ y) xs → slice_get xs k ≡ Some node
    → behind node xs ≡ slice_get xs (k + 1)
behind-at [] k node once at = cc
behind-at (x ∷ xs) zero node once at =
    rw (eq-eqb node x (sym (same_Some x node at))) (head-first xs)
behind-at (x ∷ xs) (suc k) node once at =
    let below : k < length xs = slice_get_within xs k node at in
    let apart : node ≢ x = λ same.
    once zero (suc k) node (omega arith) (omega (arith, below))
    (sym (get_or_from_slice_get xs k node node at ∙ same)) in
    let next : suc k + 1 ≡ suc (k + 1) = omega arith in
    rw (ne_eqb node x apart, next)
    (behind-at xs k node (AllPairs-tail (λ y z. y ≢ z) x xs once) at)

module _ (list : ℕ) (s : Lists) (apart : AreDisjoint s) (below : list < length s.lists)
    (k node : ℕ) (at : slice_get (list_at list s) k ≡ Some node) where
  here : holds node (list_at list s) ≡ true
  here = any_passes_from_place (nat_eq node) (list_at list s) k node at (eq-eqb node node refl)

  in_list : list_of node s ≡ Some list
  in_list =
      position-at (holds node) s.lists [] list below here
      (λ j less. false_from_ne_true (holds node (list_at j s))
      (λ other. let same : j ≡ list = apart.in_one node j list other here in
      absurd (omega (arith, same, less))))

  -- behind the node at a place of a list stands the one at the next place
  pub next-at : next_of node s ≡ slice_get (list_at list s) (k + 1)
  next-at = next_of-at node list s in_list ∙ behind-at (list_at list s) k node (apart.once list) at

module _ (q : Queues) (xs : List Entry) (hold : Hold q xs) where
  -- the node at a place of a queue is the slot of the thread there
  pub hold-at : (list priority place : ℕ) → list + 1 ≡ priority
      → slice_get (list_at list q.arena) place ≡ slot_at priority place xs
  hold-at list priority place is =
      ap (λ nodes. slice_get nodes place) (hold.queues list)
      ∙ slice_get-map (λ (e : Entry). e.slot) (of_priority (list + 1) xs) place
      ∙ ap (λ p. slot_at p place xs) is

  -- a thread is ready exactly where its node stands in a queue
  pub hold-listed : (slot : ℕ) → is_some (list_of slot q.arena) ≡ is_listed slot xs
  hold-listed slot = by (list_of slot q.arena) refl (is_listed slot xs) refl
    where
      by : (o : Option ℕ) → list_of slot q.arena ≡ o → (b : Bool) → is_listed slot xs ≡ b
          → is_some o ≡ is_listed slot xs
      by None free b is =
          sym (listed-has_not slot xs
          (has_not-free slot q.arena xs hold.queues free hold.sound))
      by (Some list) found true is = sym is
      by (Some list) found false is =
          let free = free-from slot q.arena xs hold.queues (has_not-listed slot xs is) in cc
