-- The threads that are met when memory is given back to a variable pool: what lasts where one is
-- met lasts where all are, and they are woken one after the other.
use Rattle.std.proofs.Common.{◌≡◌, ℕ, ◌≤◌, zero, suc, Option, Some, None, List, [], ◌∷◌, length, refl, ap, arith}
use Rattle.iop_objects.specs.Objects.{waiters_of}
use Rattle.iop_pools.specs.VariablePools.{VariablePools, meets_next}
use Rattle.iop_pools.specs.declared.met.Met.{Met}
use Rattle.iop_pools.proofs.MetNext.{none_waits}
use Rattle.iop_thread.specs.Operations as threads
use Rattle.iop_thread.specs.ThreadTable.{ThreadTable}
use Rattle.iop_kernel.specs.System.{Core, with_threads, with_variable_pools}
use Rattle.iop_kernel.specs.VariablePools.{meets_vpl, meets_by, meets_some, meets_all}

module _ (R : Core → Type 0) (id : ℕ)
    (last : (c : Core) (met : Met) (left : VariablePools)
    → meets_next c.kernel.variable_pools id ≡ (Some met, left) → R c → R (meets_vpl c left met))
  where
    some_last : (n : ℕ) (c : Core) → R c → R (meets_some n id c)
    some_last zero c h = h
    some_last (suc n) c h = by (some_last n) (meets_next c.kernel.variable_pools id) refl
      where
        by : ((d : Core) → R d → R (meets_some n id d)) → (t : Option Met × VariablePools)
            → meets_next c.kernel.variable_pools id ≡ t → R (meets_by (meets_some n id) c t)
        by later (None, left) is = h
        by later (Some met, left) is = later (meets_vpl c left met) (last c met left is h)

    pub meets_last : (c : Core) → R c → R (meets_all id c)
    meets_last c h = some_last (length (waiters_of c.kernel.variable_pools id)) c h

-- where none waits none is met
pub none_left : (s : VariablePools) (id : ℕ) → length (waiters_of s id) ≤ 0
    → (meets_next s id).0 ≡ None
none_left s id few = none_waits s id (empty (waiters_of s id) few)
  where
    empty : {T : Type 0} (xs : List T) → length xs ≤ 0 → xs ≡ []
    empty [] few = refl
    empty (x ∷ xs) few = absurd (omega (arith, few))

-- each is woken with the address of its memory
abbrev pub wakes_met : ThreadTable → List Met → ThreadTable
wakes_met t [] = t
wakes_met t (met ∷ more) = wakes_met (threads.wakes t met.thread met.block) more

-- nothing else changes but the pools
pub record AreMet (c left : Core) : Type 0 where
  pub met : List Met
  pub pools : VariablePools
  pub core : left
      ≡ with_threads (with_variable_pools c pools) (wakes_met c.kernel.threads met)

module _ (id : ℕ) where
  some_met : (n : ℕ) (c : Core) → AreMet c (meets_some n id c)
  some_met zero c = record { met = []; pools = c.kernel.variable_pools; core = refl }
  some_met (suc n) c = by (some_met n) (meets_next c.kernel.variable_pools id)
    where
      by : ((d : Core) → AreMet d (meets_some n id d)) → (t : Option Met × VariablePools)
          → AreMet c (meets_by (meets_some n id) c t)
      by later (None, left) =
          record { met = []; pools = c.kernel.variable_pools; core = refl }
      by later (Some met, left) =
          let rest = later (meets_vpl c left met) in
          record { met = met ∷ rest.met; pools = rest.pools; core = rest.core }

  pub all_met : (c : Core) → AreMet c (meets_all id c)
  all_met c = some_met (length (waiters_of c.kernel.variable_pools id)) c

  -- the moment is as it was
  pub meets_clock : (c : Core) → (meets_all id c).kernel.clock ≡ c.kernel.clock
  meets_clock c = ap (λ (d : Core). d.kernel.clock) (all_met c).core
