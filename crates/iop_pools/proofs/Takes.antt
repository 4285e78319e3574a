-- Memory that is taken is at the place for it, and none is taken where there is none.
use Rattle.std.proofs.Common.{◌≡◌, ℕ, ◌==◌, ◌<◌, ◌≤◌, ◌⊎◌, inl, inr, nat_lt, ℤ, pos, negsuc, Bool, true, false, Option, Some, None, Result, Ok, Err, if◌then◌else◌, refl, ap, sym, ◌∙◌, subst, arith}
use Rattle.std.specs.Prelude.{◌||◌}
use Rattle.std.proofs.lemmas.Bool.Decides.{nat_tests}
use Rattle.iop_base.specs.declared.code.Code.{Code}
use Rattle.iop_base.specs.declared.code.TheConstants.Code.{NO_MEMORY, ILLEGAL_SIZE}
use Rattle.iop_objects.specs.Objects.{state_of, waiters_of}
use Rattle.iop_objects.proofs.Changes.{waiters_of-with_state}
use Rattle.iop_pools.specs.FixedPools as fixed_pools
use Rattle.iop_pools.specs.FixedPools.{FixedPools}
use Rattle.iop_pools.specs.Laws.{IsTakenOf}
use Rattle.iop_pools.specs.Pools.{Pool, place_for, takes_at, takes_of}
use Rattle.iop_pools.specs.TakingLaws.{TakesMemory, TakesBlock, MemoryIsTaken}
use Rattle.iop_pools.specs.VariablePools as variable_pools
use Rattle.iop_pools.specs.VariablePools.{VariablePools}
use Rattle.iop_pools.proofs.MemoryOut.{taken_at}

abbrev distance : ℤ → ℕ
distance (pos n) = n
distance (negsuc n) = n

abbrev number_in : Result ℕ Code → ℕ
number_in (Ok n) = 0
number_in (Err code) = distance code.0

-- two refusals differ
two_codes : (r : Result ℕ Code) → r ≡ Err ILLEGAL_SIZE → r ≡ Err NO_MEMORY → ⊥
two_codes r first second =
    let number : 426 ≡ 399 = ap number_in (sym first ∙ second) in omega (arith, number)

module _ (s : FixedPools) (id : ℕ) (x : Pool) (live : state_of s id ≡ Some x) where
  abbrev Answer : Type 0
  Answer = Result ℕ Code × FixedPools

  abbrev took : Answer
  took = fixed_pools.takes s id

  abbrev by : Option ℕ → Answer
  by o = fixed_pools.taken s (takes_at s id x.unit x o)

  takes-live : (o : Option ℕ) → place_for x x.unit ≡ o → took ≡ by o
  takes-live o e =
      ap (fixed_pools.takes_it s id) live
      ∙ ap (λ p. fixed_pools.taken s (takes_of s id x.unit p)) live ∙ ap by e

  found : (o : Option ℕ) → place_for x x.unit ≡ o → took ≡ by o → (block : ℕ)
      → took.0 ≡ Ok block
      → (place_for x x.unit ≡ Some block) × IsTakenOf x x.unit block (state_of took.1 id)
  found None e did block ok = let answer = ap (λ r. r.0) did in cc
  found (Some place) e did block ok =
      let answer = ap (λ r. r.0) did in
      let same : place ≡ block = cc in (
        e ∙ ap Some same,
        subst (λ n. IsTakenOf x x.unit n (state_of took.1 id)) same
            (subst (λ (r : Answer). IsTakenOf x x.unit place (state_of r.1 id)) (sym did)
            (taken_at s id x live x.unit place)),
      )

  none_found : (o : Option ℕ) → place_for x x.unit ≡ o → took ≡ by o
      → took.0 ≡ Err NO_MEMORY → place_for x x.unit ≡ None
  none_found None e did denied = e
  none_found (Some place) e did denied = let answer = ap (λ r. r.0) did in cc

  refused : (o : Option ℕ) → took ≡ by o → (code : Code) → took.0 ≡ Err code → took.1 ≡ s
  refused None did code denied = ap (λ r. r.1) did
  refused (Some place) did code denied = let answer = ap (λ r. r.0) did in cc

  wait_on : (o : Option ℕ) → took ≡ by o → waiters_of took.1 id ≡ waiters_of s id
  wait_on None did = ap (λ r. waiters_of r.1 id) did
  wait_on (Some place) did =
      ap (λ r. waiters_of r.1 id) did ∙ waiters_of-with_state s id _

  takes_block : TakesBlock s id x
  takes_block =
      let o = place_for x x.unit in
      let did = takes-live o refl in
      record {
        place = λ block ok. (found o refl did block ok).0;
        taken = λ block ok. (found o refl did block ok).1;
        full = (none_found o refl did, λ none. ap (λ r. r.0) (takes-live None none));
        refused = refused o did;
        waiters = wait_on o did;
      }

module _ (s : VariablePools) (id size : ℕ) (x : Pool) (live : state_of s id ≡ Some x) where
  abbrev Left : Type 0
  Left = Result ℕ Code × VariablePools

  abbrev took_memory : Left
  took_memory = variable_pools.takes s id size

  abbrev is_illegal : Bool
  is_illegal = size == 0 || nat_lt x.size size

  -- by whether the size is illegal, and by the place for it
  abbrev by_size : Bool → Option ℕ → Left
  by_size illegal o =
      if illegal then (Err ILLEGAL_SIZE, s)
      else variable_pools.taken s (takes_at s id size x o)

  takes-size : (illegal : Bool) → is_illegal ≡ illegal → (o : Option ℕ) → place_for x size ≡ o
      → took_memory ≡ by_size illegal o
  takes-size illegal is o e =
      ap (variable_pools.takes_it s id size) live
      ∙ ap (λ (b : Bool). if b then (Err ILLEGAL_SIZE, s)
      else variable_pools.taken s (takes_of s id size (state_of s id))) is
      ∙ ap (λ p. (if illegal then (Err ILLEGAL_SIZE, s)
      else variable_pools.taken s (takes_of s id size p))) live
      ∙ ap (by_size illegal) e

  memory_found : (illegal : Bool) (o : Option ℕ) → place_for x size ≡ o
      → took_memory ≡ by_size illegal o → (place : ℕ) → took_memory.0 ≡ Ok place
      → (place_for x size ≡ Some place) × IsTakenOf x size place (state_of took_memory.1 id)
  memory_found true o e did place ok = let answer = ap (λ r. r.0) did in cc
  memory_found false None e did place ok = let answer = ap (λ r. r.0) did in cc
  memory_found false (Some first) e did place ok =
      let answer = ap (λ r. r.0) did in
      let same : first ≡ place = cc in (
        e ∙ ap Some same,
        subst (λ n. IsTakenOf x size n (state_of took_memory.1 id)) same
            (subst (λ (r : Left). IsTakenOf x size first (state_of r.1 id)) (sym did)
            (taken_at s id x live size first)),
      )

  -- what an illegal size is
  illegal_is : (none over : Bool) → (size == 0) ≡ none → nat_lt x.size size ≡ over
      → (none || over) ≡ true → (size ≡ 0) ⊎ (x.size < size)
  illegal_is true over none_is over_is e = inl (grind (arith, nat_tests, none_is))
  illegal_is false true none_is over_is e = inr (grind (arith, nat_tests, over_is))
  illegal_is false false none_is over_is e = cc

  is_legal : (none over : Bool) → (size == 0) ≡ none → nat_lt x.size size ≡ over
      → (none || over) ≡ false → (0 < size) × (size ≤ x.size)
  is_legal true over none_is over_is e = cc
  is_legal false true none_is over_is e = cc
  is_legal false false none_is over_is e =
      (grind (arith, nat_tests, none_is), grind (arith, nat_tests, over_is))

  legal_is : (none over : Bool) → (size == 0) ≡ none → nat_lt x.size size ≡ over
      → 0 < size → size ≤ x.size → (none || over) ≡ false
  legal_is true over none_is over_is some within =
      let never : ⊥ = grind (arith, nat_tests, none_is, some) in absurd never
  legal_is false true none_is over_is some within =
      let never : ⊥ = grind (arith, nat_tests, over_is, within) in absurd never
  legal_is false false none_is over_is some within = refl

  is_not_legal : (none over : Bool) → (size == 0) ≡ none → nat_lt x.size size ≡ over
      → (size ≡ 0) ⊎ (x.size < size) → (none || over) ≡ true
  is_not_legal true over none_is over_is e = refl
  is_not_legal false true none_is over_is e = refl
  is_not_legal false false none_is over_is e = elim e [
    | inl none ↦ let never : ⊥ = grind (arith, nat_tests, none_is, none) in absurd never
    | inr over ↦ let never : ⊥ = grind (arith, nat_tests, over_is, over) in absurd never
  ]

  illegal_only : (illegal : Bool) → is_illegal ≡ illegal → (o : Option ℕ)
      → took_memory ≡ by_size illegal o → took_memory.0 ≡ Err ILLEGAL_SIZE
      → (size ≡ 0) ⊎ (x.size < size)
  illegal_only true is o did denied = illegal_is (size == 0) (nat_lt x.size size) refl refl is
  illegal_only false is None did denied =
      absurd (two_codes took_memory.0 denied (ap (λ r. r.0) did))
  illegal_only false is (Some place) did denied = let answer = ap (λ r. r.0) did in cc

  full_only : (illegal : Bool) → is_illegal ≡ illegal → (o : Option ℕ) → place_for x size ≡ o
      → took_memory ≡ by_size illegal o → took_memory.0 ≡ Err NO_MEMORY
      → (0 < size) × (size ≤ x.size) × (place_for x size ≡ None)
  full_only true is o e did denied =
      absurd (two_codes took_memory.0 (ap (λ r. r.0) did) denied)
  full_only false is None e did denied =
      let legal = is_legal (size == 0) (nat_lt x.size size) refl refl is in
      (legal.0, legal.1, e)
  full_only false is (Some place) e did denied = let answer = ap (λ r. r.0) did in cc

  no_memory : (illegal : Bool) (o : Option ℕ) → took_memory ≡ by_size illegal o → (code : Code)
      → took_memory.0 ≡ Err code → took_memory.1 ≡ s
  no_memory true o did code denied = ap (λ r. r.1) did
  no_memory false None did code denied = ap (λ r. r.1) did
  no_memory false (Some place) did code denied = let answer = ap (λ r. r.0) did in cc

  all_wait_on : (illegal : Bool) (o : Option ℕ) → took_memory ≡ by_size illegal o
      → waiters_of took_memory.1 id ≡ waiters_of s id
  all_wait_on true o did = ap (λ r. waiters_of r.1 id) did
  all_wait_on false None did = ap (λ r. waiters_of r.1 id) did
  all_wait_on false (Some place) did =
      ap (λ r. waiters_of r.1 id) did ∙ waiters_of-with_state s id _

  takes_memory : TakesMemory s id size x
  takes_memory =
      let o = place_for x size in
      let did = takes-size is_illegal refl o refl in
      record {
        place = λ place ok. (memory_found is_illegal o refl did place ok).0;
        taken = λ place ok. (memory_found is_illegal o refl did place ok).1;
        illegal = (
          illegal_only is_illegal refl o did,
          λ either. ap (λ r. r.0) (takes-size true
              (is_not_legal (size == 0) (nat_lt x.size size) refl refl either) o refl),
        );
        full = (
          full_only is_illegal refl o refl did,
          λ all. ap (λ r. r.0) (takes-size false
              (legal_is (size == 0) (nat_lt x.size size) refl refl all.0 all.1) None all.2),
        );
        refused = no_memory is_illegal o did;
        waiters = all_wait_on is_illegal o did;
      }

pub memory_is_taken : MemoryIsTaken
memory_is_taken = record {
  variable = takes_memory;
  fixed = takes_block;
  unknown_variable = λ s id size none. ap (variable_pools.takes_it s id size) none;
  unknown_fixed = λ s id none. ap (fixed_pools.takes_it s id) none;
}
