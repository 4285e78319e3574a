-- Where the thread that calls waits for memory of a pool, and what is left then.
use Rattle.std.proofs.Common.{◌≡◌, ℕ, ◌≤◌, ◌==◌, nat_lt, ◌||◌, false, if◌then◌else◌, Option, Some, None, Result, Err, refl, ap, sym, ◌∙◌, subst, arith}
use Rattle.std.proofs.lemmas.Bool.{cond_both, ne_eqb}
use Rattle.std.proofs.lemmas.Bool.Decides.{nat_tests}
use Rattle.iop_base.specs.declared.code.Code.{Code}
use Rattle.iop_base.specs.declared.code.TheConstants.Code.{NO_MEMORY, ILLEGAL_SIZE}
use Rattle.iop_objects.specs.Objects.{state_of}
use Rattle.iop_pools.specs.FixedPools as fixed
use Rattle.iop_pools.specs.FixedPools.{FixedPools}
use Rattle.iop_pools.specs.Pools.{Pool, place_for, takes_at, takes_of, takes_place}
use Rattle.iop_pools.specs.VariablePools as variable
use Rattle.iop_pools.specs.VariablePools.{VariablePools, place_of, pool_length}
use Rattle.iop_services.specs.declared.service.Service.TheVariants.{Thvpool, Thfpool}
use Rattle.iop_services.specs.declared.thfpool_service.ThfpoolService.TheVariants.{AllocateFpl}
use Rattle.iop_services.specs.declared.thvpool_service.ThvpoolService.TheVariants.{AllocateVpl}
use Rattle.iop_thread.specs.declared.kind.Kind.TheVariants.{VariablePool, FixedPool}
use Rattle.iop_kernel.specs.FixedPools as fpl
use Rattle.iop_kernel.specs.FixedPools.{allocate_fpl, serves_thfpool}
use Rattle.iop_kernel.specs.Placing.{IsPlaced}
use Rattle.iop_kernel.specs.Serving.{serves}
use Rattle.iop_kernel.specs.System.{System, Core, Left, argument, may_switch, caller}
use Rattle.iop_kernel.specs.VariablePools as vpl
use Rattle.iop_kernel.specs.VariablePools.{allocate_vpl, serves_thvpool}
use Rattle.iop_kernel.specs.declared.after.After.TheVariants.{Switch}
use Rattle.iop_kernel_laws.specs.WaitingLaws.{WaitsFor, LeavesSo, StopsWhere, VariablePoolIsFull, FixedPoolIsFull}
use Rattle.iop_kernel_laws.proofs.WaitsBegin.Left.{Waits, waits_so}

module _ (c : Core) (placed : IsPlaced c.kernel) (thread : ℕ) (calls : caller c ≡ Some thread) where
  -- a variable pool in which the size does not fit
  module _ (id size : ℕ) where
    abbrev Waits_size : Result ℕ Code × VariablePools → Type 0
    Waits_size r =
        Waits c placed thread calls VariablePool id (pool_length size)
        (vpl.takes_or_waits c id size r)

    by_place : (t : Option ℕ × VariablePools)
        → Waits_size (variable.taken c.kernel.variable_pools t)
    by_place (None, left) =
        waits_so c placed thread calls VariablePool id (pool_length size) (caller c) refl
    by_place (Some place, left) = λ is. absurd (cc is)

    by_pool : (o : Option Pool) → Waits_size (variable.takes_it c.kernel.variable_pools id size o)
    by_pool None = λ is. absurd (cc is)
    by_pool (Some x) =
        cond_both (size == 0 || nat_lt x.size size) _ _ Waits_size (λ illegal is. absurd (cc is))
        (λ legal. by_place (takes_place c.kernel.variable_pools id size))

    variable_waits : Waits c placed thread calls VariablePool id (pool_length size)
        (allocate_vpl c id size)
    variable_waits =
        cond_both (may_switch c.kernel) _ _
        (Waits c placed thread calls VariablePool id (pool_length size))
        (λ may. by_pool (state_of c.kernel.variable_pools id)) (λ cannot is. absurd (cc is))

  -- a fixed pool of which no block is free
  module _ (id : ℕ) where
    abbrev Waits_block : Result ℕ Code × FixedPools → Type 0
    Waits_block r = Waits c placed thread calls FixedPool id tt (fpl.takes_or_waits c id r)

    by_block : (t : Option ℕ × FixedPools) → Waits_block (fixed.taken c.kernel.fixed_pools t)
    by_block (None, left) = waits_so c placed thread calls FixedPool id tt (caller c) refl
    by_block (Some place, left) = λ is. absurd (cc is)

    by_fixed : (o : Option Pool) → Waits_block (fixed.takes_it c.kernel.fixed_pools id o)
    by_fixed None = λ is. absurd (cc is)
    by_fixed (Some x) = by_block (takes_place c.kernel.fixed_pools id x.unit)

    fixed_waits : Waits c placed thread calls FixedPool id tt (allocate_fpl c id)
    fixed_waits =
        cond_both (may_switch c.kernel) _ _ (Waits c placed thread calls FixedPool id tt)
        (λ may. by_fixed (state_of c.kernel.fixed_pools id)) (λ cannot is. absurd (cc is))

-- it waits only where nothing is free for it
module _ (s : System) where
  abbrev c : Core
  c = s.core

  abbrev id : ℕ
  id = argument s.core 0

  module _ (size : ℕ) (is_second : size ≡ argument s.core 1) where
    abbrev FullWhere : Result ℕ Code × VariablePools → Type 0
    FullWhere r = (vpl.takes_or_waits c id size r).after ≡ Switch → VariablePoolIsFull s

    full_by : (o : Option Pool) → state_of c.kernel.variable_pools id ≡ o
        → FullWhere (variable.takes_it c.kernel.variable_pools id size o)
    full_by None known = λ is. absurd (cc is)
    full_by (Some x) known =
        cond_both (size == 0 || nat_lt x.size size) _ _ FullWhere (λ illegal is. absurd (cc is))
        (λ legal. subst (λ o. FullWhere (variable.taken c.kernel.variable_pools
        (takes_of c.kernel.variable_pools id size o))) (sym known)
        (by legal (place_for x size) refl))
      where
        by : (size == 0 || nat_lt x.size size) ≡ false → (p : Option ℕ) → place_for x size ≡ p
            → FullWhere (variable.taken c.kernel.variable_pools
            (takes_at c.kernel.variable_pools id size x p))
        by legal (Some place) is = λ stops. absurd (cc stops)
        by legal None is = λ stops.
            let zero : (size == 0) ≡ false = grind (arith, nat_tests, legal) in
            let within : size ≤ x.size = grind (arith, nat_tests, legal) in
            record {
              x = x;
              known = known;
              some = λ none. grind (arith, nat_tests, zero, is_second, none);
              within = omega (arith, within, is_second);
              full = ap (place_of x) (sym is_second)
                  ∙ cond_both (size == 0) None (place_for x size) (λ (o : Option ℕ). o ≡ None)
                  (λ none. refl) (λ other. is);
            }

    variable_full : (allocate_vpl c id size).after ≡ Switch → VariablePoolIsFull s
    variable_full =
        cond_both (may_switch c.kernel) _ _
        (λ (left : Left Core). left.after ≡ Switch → VariablePoolIsFull s)
        (λ may. full_by (state_of c.kernel.variable_pools id) refl) (λ cannot is. absurd (cc is))

  abbrev FixedWhere : Result ℕ Code × FixedPools → Type 0
  FixedWhere r = (fpl.takes_or_waits c id r).after ≡ Switch → FixedPoolIsFull s

  fixed_by : (o : Option Pool) → state_of c.kernel.fixed_pools id ≡ o
      → FixedWhere (fixed.takes_it c.kernel.fixed_pools id o)
  fixed_by None known = λ is. absurd (cc is)
  fixed_by (Some x) known =
      subst (λ o. FixedWhere (fixed.taken c.kernel.fixed_pools
      (takes_of c.kernel.fixed_pools id x.unit o))) (sym known) (by (place_for x x.unit) refl)
    where
      by : (p : Option ℕ) → place_for x x.unit ≡ p
          → FixedWhere (fixed.taken c.kernel.fixed_pools
          (takes_at c.kernel.fixed_pools id x.unit x p))
      by (Some place) is = λ stops. absurd (cc stops)
      by None is = λ stops. record { x = x; known = known; full = is }

  fixed_full : (allocate_fpl c id).after ≡ Switch → FixedPoolIsFull s
  fixed_full =
      cond_both (may_switch c.kernel) _ _
      (λ (left : Left Core). left.after ≡ Switch → FixedPoolIsFull s)
      (λ may. fixed_by (state_of c.kernel.fixed_pools id) refl) (λ cannot is. absurd (cc is))

-- the services, by their arguments
pub variable_left : LeavesSo (Thvpool AllocateVpl)
    (λ s left thread. let size = pool_length (argument s.core 1) in
    WaitsFor VariablePool s.core left (argument s.core 0) size thread × VariablePoolIsFull s)
unfolding serves serves_thvpool
variable_left s thread placed calls stops = (
  variable_waits s.core placed thread calls (argument s.core 0) (argument s.core 1) stops,
  variable_full s (argument s.core 1) refl stops,
)

pub fixed_left : LeavesSo (Thfpool AllocateFpl)
    (λ s left thread. WaitsFor FixedPool s.core left (argument s.core 0) tt thread
    × FixedPoolIsFull s)
unfolding serves serves_thfpool
fixed_left s thread placed calls stops =
    (fixed_waits s.core placed thread calls (argument s.core 0) stops, fixed_full s stops)

-- where it does not fit nothing is taken
module _ (s : VariablePools) (id size : ℕ) (x : Pool) (known : state_of s id ≡ Some x)
    (some : (size == 0) ≡ false) (within : nat_lt x.size size ≡ false)
    (none : place_of x size ≡ None) where
  no_place : place_for x size ≡ None
  no_place = sym (ap (λ b. if b then None else place_for x size) some) ∙ none

  takes_none : variable.takes s id size ≡ (Err NO_MEMORY, s)
  takes_none =
      let legal : (size == 0 || nat_lt x.size size) ≡ false =
      grind (arith, nat_tests, some, within) in
      ap (variable.takes_it s id size) known
      ∙ ap (λ b. if b then (Err ILLEGAL_SIZE, s) else variable.taken s (takes_place s id size)) legal
      ∙ ap (λ o. variable.taken s (takes_of s id size o)) known
      ∙ ap (λ o. variable.taken s (takes_at s id size x o)) no_place

block_none : (s : FixedPools) (id : ℕ) (x : Pool) → state_of s id ≡ Some x
    → place_for x x.unit ≡ None → fixed.takes s id ≡ (Err NO_MEMORY, s)
block_none s id x known none =
    ap (fixed.takes_it s id) known ∙ ap (λ o. fixed.taken s (takes_of s id x.unit o)) known
    ∙ ap (λ o. fixed.taken s (takes_at s id x.unit x o)) none

-- and where each does not go on
pub variable_stops : StopsWhere (Thvpool AllocateVpl) (λ s t. VariablePoolIsFull s)
unfolding serves serves_thvpool
variable_stops s thread t h is =
    let size = argument s.core 1 in
    let within : nat_lt is.x.size size ≡ false = grind (arith, nat_tests, is.within) in
    rw (
      h.may,
      takes_none s.core.kernel.variable_pools (argument s.core 0) size is.x is.known
          (ne_eqb size 0 is.some) within is.full,
      h.calls,
    ) refl

pub fixed_stops : StopsWhere (Thfpool AllocateFpl) (λ s t. FixedPoolIsFull s)
unfolding serves serves_thfpool
fixed_stops s thread t h is =
    rw (
      h.may,
      block_none s.core.kernel.fixed_pools (argument s.core 0) is.x is.known is.full,
      h.calls,
    ) refl
