-- Queues that are assigned to holders: what is left of it when a queue has other items, and with a
-- holder more or less.
use Rattle.std.proofs.Common.{◌≡◌, ◌≢◌, ℕ, ◌<◌, ◌⊎◌, inl, inr, List, [], ◌∷◌, ◌++◌, length, map, get_or, remove, replicate, sum, All, refl, ap, sym, subst, ◌∙◌, arith}
use Rattle.std.specs.List.{range_with_len}
use Rattle.std.proofs.lemmas.Bool.{cases_eq}
use Rattle.std.proofs.lemmas.List.{length-set, length-replicate, get_or-set_same, get_or-set_other}
use Rattle.std.proofs.lemmas.List.Sums.{sum-map}
use Rattle.std.proofs.lemmas.Simd.{map-map}
use Rattle.iop_queues.specs.Numbers.{AreNumbers, AreAssigned, uses}
use Rattle.iop_queues.specs.Queues.{queue_at, with_queue, total}
use Rattle.iop_queues.specs.declared.queued.Queued.{Queued}
use Rattle.iop_queues.proofs.Counted.{total-counted}
use Rattle.iop_queues.proofs.Fresh.{empty_at}
use Rattle.iop_queues.proofs.Uses.{AreNumbers-first, given, given_back, same-own, same-other, uses-at, uses-push, uses-remove}

-- at first all are free
pub AreAssigned-first : {T : Type 0} (bound : ℕ)
    → AreAssigned {T = T} bound [] (range_with_len 0 bound) (replicate bound [])
AreAssigned-first {T} bound = record {
  numbers = AreNumbers-first bound;
  count = length-replicate {A = List (Queued T)} bound [];
  empty = λ n none. empty_at {X = Queued T} bound n;
}

module _ {T : Type 0} {bound : ℕ} {used : List ℕ} {queues : List (List (Queued T))} where
  module _ (free : List ℕ) (n : ℕ) (h : AreAssigned bound used (free ++ n ∷ []) queues) where
    -- a queue that is free is empty
    pub free_is_empty : queue_at n queues ≡ []
    free_is_empty =
        h.empty n (omega (arith, h.numbers.once n, uses-push n free n, same-own n n refl))

    -- the last that is free has a holder
    pub AreAssigned-taken : AreAssigned bound (used ++ n ∷ []) free queues
    AreAssigned-taken = record {
      numbers = given n h.numbers;
      count = h.count;
      empty = λ k none. h.empty k (omega (arith, uses-push k used n, none));
    }

  -- the queue of one holder
  module _ {free : List ℕ} (h : AreAssigned bound used free queues) (n place : ℕ)
      (inside : place < length used) (is : (d : ℕ) → get_or used place d ≡ n) where
    pub assigned_below : n < length queues
    assigned_below = omega (arith, h.numbers.used_below place 0 inside, is 0, h.count)

    -- it has other items
    pub AreAssigned-changed : (items : List (Queued T))
        → AreAssigned bound used free (with_queue n items queues)
    AreAssigned-changed items = record {
      numbers = h.numbers;
      count = length-set queues n items ∙ h.count;
      empty = λ k none.
          let apart : k ≢ n =
          λ e. omega (arith, none, uses-at k used place 0 inside (is 0 ∙ sym e)) in
          get_or-set_other queues n k items [] apart ∙ h.empty k none;
    }

    -- it is emptied and given back
    pub AreAssigned-given_back : AreAssigned bound (remove used place) (free ++ n ∷ [])
        (with_queue n [] queues)
    AreAssigned-given_back = record {
      numbers = subst (λ m. AreNumbers bound (remove used place) (free ++ m ∷ [])) (is 0)
          (given_back h.numbers place 0 inside);
      count = length-set queues n [] ∙ h.count;
      empty = λ k none. by k none (cases_eq k n);
    }
      where
        by : (k : ℕ) → uses k (remove used place) ≡ 0 → (k ≡ n) ⊎ (k ≢ n)
            → queue_at k (with_queue n [] queues) ≡ []
        by k none (inl same) =
            ap (λ m. queue_at m (with_queue n [] queues)) same
            ∙ get_or-set_same queues n [] [] assigned_below
        by k none (inr apart) =
            let other = same-other k (get_or used place 0) (λ e. apart (sym e ∙ is 0)) in
            get_or-set_other queues n k [] [] apart
            ∙ h.empty k (omega (arith, none, other, uses-remove k used place 0 inside))

-- all items stand in the queues of the holders
module _ {T H : Type 0} (queue_of : H → ℕ) (holders : List H) {bound : ℕ} {free : List ℕ}
    {queues : List (List (Queued T))}
    (h : AreAssigned bound (map queue_of holders) free queues) where
  pub total-assigned : total queues
      ≡ sum (map (λ o. length (queue_at (queue_of o) queues)) holders)
  total-assigned =
      let count : ℕ → ℕ = λ n. length (queue_at n queues) in
      let below : All (λ n. n < length queues) (map queue_of holders) =
      rw h.count h.numbers.used_below in
      total-counted queues (map queue_of holders) below (λ n. omega (arith, h.numbers.once n))
      h.empty
      ∙ sym (sum-map count (map queue_of holders))
      ∙ ap sum (map-map count queue_of holders)
