-- The best of the threads that the queues hold.
use Rattle.std.proofs.Common.{◌≡◌, ℕ, ◌+◌, ◌-◌, ◌<◌, Bool, true, false, ⊎_elim, Option, Some, None, is_some, option_map, List, [], ◌∷◌, refl, ap, sym, ◌∙◌, arith, subst, IfSome}
use Rattle.std.specs.Prelude.{◌==◌}
use Rattle.std.specs.List.{find}
use Rattle.std.proofs.lemmas.Bool.{cases_lt, false_from_ne_true}
use Rattle.iop_base.specs.Bits.{has, IsLeast}
use Rattle.iop_base.specs.Choosing.{better}
use Rattle.iop_ready.specs.declared.entry.Entry.{Entry}
use Rattle.iop_ready.specs.declared.priority.TheConstants.{LOWEST_PRIORITY}
use Rattle.iop_ready.specs.Priorities.{IsPriority, ArePriorities}
use Rattle.iop_ready.specs.Queues.{Queues, first_in, AreBits, AreSound, Hold}
use Rattle.iop_ready.specs.ReadyList.{first_of, best_of, best_slot}
use Rattle.iop_ready.proofs.Lists.{find-filter, IfSome-find}
use Rattle.iop_ready.proofs.Agreeing.{IsBest, best_is_best}
use Rattle.iop_ready.proofs.Holding.{none_of_other, first-is}

-- the bits tell of which priorities a thread is ready, and the least of them is the best
is_some-slot : (o : Option Entry) → is_some (option_map (λ e. e.slot) o) ≡ is_some o
is_some-slot None = refl
is_some-slot (Some e) = refl

module _ (q : Queues) (sound : AreSound q) (xs : List Entry) (hold : Hold q xs) where
  bit_of : (p : ℕ) → IsPriority p → has q.bits p ≡ is_some (first_of p xs)
  bit_of p is =
      let same : p - 1 + 1 ≡ p = omega (arith, is.0) in
      ap (has q.bits) (sym same) ∙ sound.filled (p - 1) (omega (arith, is.0, is.1))
      ∙ ap is_some (first-is q xs hold (p - 1) p same)
      ∙ is_some-slot (first_of p xs)

  not_a_priority : (p : ℕ) → ArePriorities q.bits → (IsPriority p → ⊥)
      → has q.bits p ≡ is_some (first_of p xs)
  not_a_priority p are cannot =
      false_from_ne_true (has q.bits p) (λ h. cannot (are p h))
      ∙ ap is_some (sym (sym (find-filter (λ e. e.priority == p) xs)
      ∙ ap (find (λ e. e.priority == p)) (none_of_other p cannot xs hold.sound.priorities)))

  pub are_bits : ArePriorities q.bits → AreBits q.bits xs
  are_bits are p =
      ⊎_elim
      (λ low. not_a_priority p are (λ is. absurd (omega (arith, low, is.0))))
      (λ some. ⊎_elim
      (λ fits. bit_of p (omega (arith, some), omega (arith, fits)))
      (λ over. not_a_priority p are (λ is. absurd (omega (arith, over, is.1))))
      (cases_lt p (LOWEST_PRIORITY + 1)))
      (cases_lt p 1)

module _ (q : Queues) (sound : AreSound q) (x : Entry) (xs : List Entry)
    (hold : Hold q (x ∷ xs)) where
  abbrev best_one : Entry
  best_one = better (λ e. e.priority) x (best_of xs)

  is_best : IsBest best_one (x ∷ xs)
  is_best = best_is_best x xs

  best_can : IsPriority best_one.priority
  best_can =
      let own : Entry → Bool = λ e. e.priority == best_one.priority in
      let can : Entry → Type 0 = λ e. IsPriority e.priority in
      let found : IfSome (Some best_one) (λ e. can e × (own e ≡ true)) =
      subst (λ o. IfSome o (λ e. can e × (own e ≡ true))) is_best.here
      (IfSome-find own can (x ∷ xs) hold.sound.priorities) in
      found.0

  best-bit : has q.bits best_one.priority ≡ true
  best-bit = bit_of q sound (x ∷ xs) hold best_one.priority best_can ∙ ap is_some is_best.here

  best-is : (p : ℕ) → IsPriority p → IsLeast q.bits p → first_in q.arena p ≡ best_slot (x ∷ xs)
  best-is p can best =
      let not_less : best_one.priority < p → ⊥ =
      λ less. let clear = best.lower best_one.priority less in let set = best-bit in cc in
      let not_more : p < best_one.priority → ⊥ =
      λ more. let none = is_best.none p more in
      let clear : has q.bits p ≡ false =
      bit_of q sound (x ∷ xs) hold p can ∙ ap is_some none in
      let set = best.in_set in cc in
      let same : p ≡ best_one.priority = omega (arith, not_less, not_more) in
      first-is q (x ∷ xs) hold (p - 1) p (omega (arith, can.0))
      ∙ ap (λ k. option_map (λ e. e.slot) (first_of k (x ∷ xs))) same
      ∙ ap (option_map (λ e. e.slot)) is_best.here

pub best_of_none : (q : Queues) → AreSound q → (xs : List Entry) → Hold q xs
    → ((n : ℕ) → has q.bits n ≡ false) → None ≡ best_slot xs
best_of_none q sound [] hold none = refl
best_of_none q sound (x ∷ xs) hold none =
    let set = best-bit q sound x xs hold in
    let clear = none (better (λ e. e.priority) x (best_of xs)).priority in
    cc

pub best_of_some : (q : Queues) → AreSound q → (xs : List Entry) → Hold q xs → (p : ℕ)
    → IsPriority p → IsLeast q.bits p → first_in q.arena p ≡ best_slot xs
best_of_some q sound [] hold p can best =
    let clear = bit_of q sound [] hold p can in let set = best.in_set in cc
best_of_some q sound (x ∷ xs) hold p can best = best-is q sound x xs hold p can best
