-- Numbers below a bound, such as those of queues: each is used by one holder, or is free. And
-- queues that are assigned to holders by such numbers.
use Rattle.std.specs.Prelude.{◌≡◌, ℕ, ◌+◌, ◌<◌, ◌≤◌, ◌==◌, List, [], length, count_by, All}
use Rattle.iop_queues.specs.Queues.{queue_at}
use Rattle.iop_queues.specs.declared.queued.Queued.{Queued}

-- how often a number stands in a list
abbrev pub uses : ℕ → List ℕ → ℕ
uses n xs = count_by (λ k. k == n) xs

pub record AreNumbers (bound : ℕ) (used free : List ℕ) : Type 0 where
  -- none is used twice, nor used and free
  pub once : (n : ℕ) → uses n used + uses n free ≤ 1
  pub used_below : All (λ n. n < bound) used
  pub free_below : All (λ n. n < bound) free
  pub all : length used + length free ≡ bound

-- queues of which these are used and those are free
pub record AreAssigned {T : Type 0} (bound : ℕ) (used free : List ℕ)
    (queues : List (List (Queued T))) : Type 0 where
  -- no two holders have one queue
  pub numbers : AreNumbers bound used free
  pub count : length queues ≡ bound
  -- no item stands in a queue of no holder
  pub empty : (n : ℕ) → uses n used ≡ 0 → queue_at n queues ≡ []
