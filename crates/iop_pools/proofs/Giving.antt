-- Memory that is given back is free, or goes to the next thread that waits.
use Rattle.std.proofs.Common.{◌≡◌, ◌≢◌, ℕ, Bool, true, false, Option, Some, None, Result, Ok, Err, List, [], ◌∷◌, if◌then◌else◌, refl, ap, sym, ◌∙◌, subst}
use Rattle.std.specs.Prelude.{⊤}
use Rattle.iop_base.specs.declared.code.Code.{Code}
use Rattle.iop_base.specs.declared.code.TheConstants.Code.{OK, ILLEGAL_BLOCK}
use Rattle.iop_objects.specs.Objects as objects
use Rattle.iop_objects.specs.Objects.{state_of, waiters_of}
use Rattle.iop_objects.specs.declared.waiter.Waiter.{Waiter}
use Rattle.iop_objects.proofs.Changes.{state_of-with_waiters, waiters_of-with_waiters, waiters_of-with_state}
use Rattle.iop_queues.specs.Queue.{Choice, chooses}
use Rattle.iop_queues.specs.declared.queued.Queued.{Queued}
use Rattle.iop_pools.specs.FixedPools as fixed_pools
use Rattle.iop_pools.specs.FixedPools.{FixedPools, gives_to, gives_it}
use Rattle.iop_pools.specs.GivingLaws.{HandsTo, GivesBlock, GivesMemory, MemoryIsGiven}
use Rattle.iop_pools.specs.Laws.{IsGivenBack}
use Rattle.iop_pools.specs.Pools.{Pool, by_priority, with_ranges, frees_it}
use Rattle.iop_pools.specs.Ranges.{is_out, without}
use Rattle.iop_pools.specs.Standing.{IsPool}
use Rattle.iop_pools.specs.VariablePools as variable_pools
use Rattle.iop_pools.specs.VariablePools.{VariablePools, given}
use Rattle.iop_pools.proofs.MemoryOut.{given_at}

-- nothing is chosen from an empty queue alone
none_waits : (by_priority : Bool) (queue : List (Queued (Waiter ⊤)))
    → chooses by_priority queue ≡ None → queue ≡ []
none_waits by_priority [] e = refl
none_waits true (x ∷ xs) e = cc
none_waits false (x ∷ xs) e = cc

abbrev none_queued : List (Queued (Waiter ⊤))
none_queued = []

none_chosen : (by_priority : Bool) → chooses by_priority none_queued ≡ None
none_chosen true = refl
none_chosen false = refl

module _ (s : FixedPools) (id block : ℕ) (x : Pool) (live : state_of s id ≡ Some x) where
  abbrev Answer : Type 0
  Answer = Result (Option ℕ) Code × FixedPools

  abbrev gave : Answer
  gave = fixed_pools.gives s id block

  -- by whether it was out, and by who is chosen
  abbrev by : Bool → Option (Choice (Waiter ⊤)) → Answer
  by out c =
      if out then gives_to s id block x (objects.takes s id c)
      else (Err ILLEGAL_BLOCK, s)

  abbrev chosen : Option (Choice (Waiter ⊤))
  chosen = chooses (by_priority x) (waiters_of s id)

  gives-live : (out : Bool) → is_out block x.ranges ≡ out
      → (c : Option (Choice (Waiter ⊤))) → chosen ≡ c → gave ≡ by out c
  gives-live out is c e =
      ap (gives_it s id block) live ∙ ap (λ b. by b chosen) is ∙ ap (by out) e

  hands : (out : Bool) (c : Option (Choice (Waiter ⊤))) → chosen ≡ c → gave ≡ by out c
      → (thread : ℕ) → gave.0 ≡ Ok (Some thread) → HandsTo s id block x thread
  hands false c e did thread to = let answer = ap (λ r. r.0) did in cc
  hands true None e did thread to = let answer = ap (λ r. r.0) did in cc
  hands true (Some c) e did thread to =
      let answer = ap (λ r. r.0) did in
      record {
        choice = c;
        is_next = e;
        handed = cc;
        others =
            ap (λ r. waiters_of r.1 id) did ∙ waiters_of-with_waiters s id x live c.others;
        same = ap (λ r. state_of r.1 id) did ∙ state_of-with_waiters s id x live c.others;
      }

  handed : (c : Option (Choice (Waiter ⊤))) → chosen ≡ c → is_out block x.ranges ≡ true
      → waiters_of s id ≢ [] → (thread : ℕ) × (gave.0 ≡ Ok (Some thread))
  handed None e is some = absurd (some (none_waits (by_priority x) (waiters_of s id) e))
  handed (Some c) e is some =
      (c.one.item.thread, ap (λ r. r.0) (gives-live true is (Some c) e))

  none_only : (out : Bool) → is_out block x.ranges ≡ out → (c : Option (Choice (Waiter ⊤)))
      → chosen ≡ c → gave ≡ by out c → gave.0 ≡ Ok None
      → (is_out block x.ranges ≡ true) × (waiters_of s id ≡ [])
  none_only false is c e did none = let answer = ap (λ r. r.0) did in cc
  none_only true is (Some c) e did none = let answer = ap (λ r. r.0) did in cc
  none_only true is None e did none =
      (is, none_waits (by_priority x) (waiters_of s id) e)

  none_where : is_out block x.ranges ≡ true → waiters_of s id ≡ [] → gave.0 ≡ Ok None
  none_where is none =
      ap (λ r. r.0) (gives-live true is None
      (ap (chooses (by_priority x)) none ∙ none_chosen (by_priority x)))

  given_back : (out : Bool) (c : Option (Choice (Waiter ⊤))) → gave ≡ by out c
      → (most : ℕ) → IsPool most x → gave.0 ≡ Ok None → IsGivenBack x block (state_of gave.1 id)
  given_back false c did most sound none = let answer = ap (λ r. r.0) did in cc
  given_back true (Some c) did most sound none = let answer = ap (λ r. r.0) did in cc
  given_back true None did most sound none =
      subst (λ (r : Answer). IsGivenBack x block (state_of r.1 id)) (sym did)
      (given_at s id x live most block sound)

  none_left : (out : Bool) (c : Option (Choice (Waiter ⊤))) → chosen ≡ c → gave ≡ by out c
      → gave.0 ≡ Ok None → waiters_of gave.1 id ≡ []
  none_left false c e did none = let answer = ap (λ r. r.0) did in cc
  none_left true (Some c) e did none = let answer = ap (λ r. r.0) did in cc
  none_left true None e did none =
      ap (λ r. waiters_of r.1 id) did ∙ waiters_of-with_state s id _
      ∙ none_waits (by_priority x) (waiters_of s id) e

  illegal_only : (out : Bool) → is_out block x.ranges ≡ out → (c : Option (Choice (Waiter ⊤)))
      → gave ≡ by out c → gave.0 ≡ Err ILLEGAL_BLOCK → is_out block x.ranges ≡ false
  illegal_only false is c did refused = is
  illegal_only true is None did refused = let answer = ap (λ r. r.0) did in cc
  illegal_only true is (Some c) did refused = let answer = ap (λ r. r.0) did in cc

  refused : (out : Bool) (c : Option (Choice (Waiter ⊤))) → gave ≡ by out c → (code : Code)
      → gave.0 ≡ Err code → gave.1 ≡ s
  refused false c did code e = ap (λ r. r.1) did
  refused true None did code e = let answer = ap (λ r. r.0) did in cc
  refused true (Some c) did code e = let answer = ap (λ r. r.0) did in cc

  gives_block : GivesBlock s id block x
  gives_block =
      let out = is_out block x.ranges in
      let did = gives-live out refl chosen refl in
      record {
        hands = hands out chosen refl did;
        handed = handed chosen refl;
        none = (none_only out refl chosen refl did, λ both. none_where both.0 both.1);
        given_back = given_back out chosen did;
        none_left = none_left out chosen refl did;
        illegal = (
          illegal_only out refl chosen did,
          λ is. ap (λ r. r.0) (gives-live false is chosen refl),
        );
        refused = refused out chosen did;
      }

module _ (s : VariablePools) (id block : ℕ) (x : Pool) (live : state_of s id ≡ Some x) where
  abbrev Left : Type 0
  Left = Code × VariablePools

  abbrev gave_memory : Left
  gave_memory = variable_pools.gives s id block

  abbrev by_out : Bool → Left
  by_out out =
      given s (if out then (Some true, with_ranges s id x (without block x.ranges))
      else (Some false, s))

  gives-out : (out : Bool) → is_out block x.ranges ≡ out → gave_memory ≡ by_out out
  gives-out out is = ap (λ o. given s (frees_it s id block o)) live ∙ ap by_out is

  two_codes : OK ≡ ILLEGAL_BLOCK → ⊥
  two_codes e = let number = ap (λ (c : Code). c.0) e in cc

  given_only : (out : Bool) → is_out block x.ranges ≡ out → gave_memory ≡ by_out out
      → gave_memory.0 ≡ OK → is_out block x.ranges ≡ true
  given_only true is did ok = is
  given_only false is did ok = absurd (two_codes (sym ok ∙ ap (λ r. r.0) did))

  memory_back : (out : Bool) → gave_memory ≡ by_out out → (most : ℕ) → IsPool most x
      → gave_memory.0 ≡ OK → IsGivenBack x block (state_of gave_memory.1 id)
  memory_back true did most sound ok =
      subst (λ (r : Left). IsGivenBack x block (state_of r.1 id)) (sym did)
      (given_at s id x live most block sound)
  memory_back false did most sound ok = absurd (two_codes (sym ok ∙ ap (λ r. r.0) did))

  no_memory : (out : Bool) → is_out block x.ranges ≡ out → gave_memory ≡ by_out out
      → gave_memory.0 ≡ ILLEGAL_BLOCK → (is_out block x.ranges ≡ false) × (gave_memory.1 ≡ s)
  no_memory true is did denied = absurd (two_codes (sym (ap (λ r. r.0) did) ∙ denied))
  no_memory false is did denied = (is, ap (λ r. r.1) did)

  wait_on : (out : Bool) → gave_memory ≡ by_out out
      → waiters_of gave_memory.1 id ≡ waiters_of s id
  wait_on true did = ap (λ r. waiters_of r.1 id) did ∙ waiters_of-with_state s id _
  wait_on false did = ap (λ r. waiters_of r.1 id) did

  gives_memory : GivesMemory s id block x
  gives_memory =
      let out = is_out block x.ranges in
      let did = gives-out out refl in
      record {
        given = (given_only out refl did, λ is. ap (λ r. r.0) (gives-out true is));
        given_back = memory_back out did;
        illegal = (
          λ denied. (no_memory out refl did denied).0,
          λ is. ap (λ r. r.0) (gives-out false is),
        );
        refused = λ denied. (no_memory out refl did denied).1;
        waiters = wait_on out did;
      }

pub memory_is_given : MemoryIsGiven
memory_is_given = record {
  fixed = gives_block;
  variable = gives_memory;
  unknown_fixed = λ s id block none. ap (gives_it s id block) none;
  unknown_variable = λ s id block none. ap (λ o. given s (frees_it s id block o)) none;
}
