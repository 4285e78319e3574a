-- Once all are met whose sizes fit, no wait for a variable pool is overdue.
use Rattle.std.proofs.Common.{◌≡◌, ℕ, ◌≤◌, ◌==◌, zero, suc, Bool, true, false, if◌then◌else◌, Option, Some, None, option_map, List, [], ◌∷◌, map, length, All, refl, ap, sym, ◌∙◌, subst, arith}
use Rattle.std.proofs.lemmas.Bool.Decides.{nat_tests}
use Rattle.iop_objects.specs.Objects.{Object, object_of, state_of, waiters_in, waiters_of, with_state, with_waiters}
use Rattle.iop_pools.specs.Pools.{Pool, with_ranges}
use Rattle.iop_pools.specs.Ranges.{without}
use Rattle.iop_pools.specs.VariablePools.{VariablePools, meets_next}
use Rattle.iop_pools.specs.declared.met.Met.{Met}
use Rattle.iop_pools.proofs.MetNext.{met_next, one_fewer, none_fits}
use Rattle.iop_thread.specs.Laws.{SleepersAreUnwoken}
use Rattle.iop_thread.specs.Operations as threads
use Rattle.iop_thread.specs.ThreadTable.{ThreadTable}
use Rattle.iop_thread.specs.declared.kind.Kind.TheVariants.{VariablePool}
use Rattle.iop_thread.proofs.Sleepers.{keeps_sleepers}
use Rattle.iop_kernel.specs.Overdue.{NoneOverdue}
use Rattle.iop_kernel.specs.System.{Core, with_variable_pools}
use Rattle.iop_kernel.specs.VariablePools.{meets_vpl, meets_by, meets_some, meets_all}
use Rattle.iop_kernel.proofs.Overdue.Kernels.{with_other_threads, with_other_objects}
use Rattle.iop_kernel.proofs.Overdue.Kinds.{InTime, Unplaced}
use Rattle.iop_kernel.proofs.Walk.Meeting.{wakes_met, meets_last, none_left, all_met}

-- those that are met slept not
met_sleep : (met : List Met) (s : ThreadTable) → SleepersAreUnwoken s
    → SleepersAreUnwoken (wakes_met s met)
met_sleep [] s h = h
met_sleep (one ∷ met) s h =
    met_sleep met (threads.wakes s one.thread one.block)
    ((keeps_sleepers s h).wakes one.thread one.block)

-- where one object changes the others are found as they were
module _ {A W : Type 0} (id : ℕ) (change : Object A W → Object A W)
    (keeps : (o : Object A W) → (change o).id ≡ o.id) where
  pub object_of_other : (live : List (Object A W)) (other : ℕ) → (other == id) ≡ false
      → object_of (map (λ o. if o.id == id then change o else o) live) other
      ≡ object_of live other
  object_of_other [] other apart = refl
  object_of_other (o ∷ live) other apart =
      grind (arith, nat_tests, apart, keeps o, object_of_other live other apart)

module _ (id : ℕ) where
  -- no wait for any other pool is overdue
  abbrev OthersIdle : VariablePools → Type 0
  OthersIdle s =
      (other : ℕ) → (other == id) ≡ false → (x : Pool) → state_of s other ≡ Some x
      → All (Unplaced x) (waiters_of s other)

  -- so where the pool changes
  idle_beside : (s t : VariablePools)
      → ((other : ℕ) → (other == id) ≡ false → object_of t.live other ≡ object_of s.live other)
      → OthersIdle s → OthersIdle t
  idle_beside s t same h other apart x known =
      let found = same other apart in
      subst (All (Unplaced x)) (sym (ap waiters_in found))
      (h other apart x (sym (ap (option_map (λ o. o.state)) found) ∙ known))

  beside_state : (s : VariablePools) (y : Pool) → OthersIdle s → OthersIdle (with_state s id y)
  beside_state s y =
      idle_beside s (with_state s id y)
      (object_of_other id (λ o. record o { state = y }) (λ o. refl) s.live)

  beside_met : (s left : VariablePools) (met : Met) → meets_next s id ≡ (Some met, left)
      → OthersIdle s → OthersIdle left
  beside_met s left met is h =
      let m = met_next s id met left is in
      let rest = with_waiters s id m.one.others in
      subst OthersIdle (sym m.leaves) (beside_state rest _ (idle_beside s rest
      (object_of_other id (λ o. record o { waiters = m.one.others }) (λ o. refl) s.live) h))

  -- in the end none is met
  abbrev pools : Core → VariablePools
  pools c = c.kernel.variable_pools

  ends : (n : ℕ) (c : Core) → length (waiters_of (pools c) id) ≤ n
      → (meets_next (pools (meets_some n id c)) id).0 ≡ None
  ends zero c few = none_left (pools c) id few
  ends (suc n) c few = by (ends n) (meets_next (pools c) id) refl
    where
      by : ((d : Core) → length (waiters_of (pools d) id) ≤ n
          → (meets_next (pools (meets_some n id d)) id).0 ≡ None)
          → (t : Option Met × VariablePools) → meets_next (pools c) id ≡ t
          → (meets_next (pools (meets_by (meets_some n id) c t)) id).0 ≡ None
      by later (None, left) is = ap (λ (t : Option Met × VariablePools). t.0) is
      by later (Some met, left) is =
          later (meets_vpl c left met)
          (omega (arith, few, one_fewer (pools c) id (met_next (pools c) id met left is)))

  pub meets_idle : (c : Core) → OthersIdle (pools c) → InTime VariablePool (pools (meets_all id c))
  meets_idle c others =
      let left = pools (meets_all id c) in
      let beside = meets_last (λ d. OthersIdle (pools d)) id
      (λ d met rest is idle. beside_met (pools d) rest met is idle) c others in
      let none = ends (length (waiters_of (pools c) id)) c (omega arith) in
      record { idle = λ other x known. by left beside none other x known (other == id) refl }
    where
      by : (left : VariablePools) → OthersIdle left → (meets_next left id).0 ≡ None
          → (other : ℕ) (x : Pool) → state_of left other ≡ Some x → (b : Bool)
          → (other == id) ≡ b → All (Unplaced x) (waiters_of left other)
      by left beside none other x known true it =
          let same : other ≡ id = grind (arith, nat_tests, it) in
          subst (λ n. All (Unplaced x) (waiters_of left n)) (sym same)
          (none_fits left id x (subst (λ n. state_of left n ≡ Some x) same known) none)
      by left beside none other x known false apart = beside other apart x known

-- memory is given back
pub met_in_time : (c : Core) → NoneOverdue c.kernel → (id block : ℕ) (x : Pool)
    → state_of c.kernel.variable_pools id ≡ Some x
    → NoneOverdue (meets_all id (with_variable_pools c
    (with_ranges c.kernel.variable_pools id x (without block x.ranges)))).kernel
met_in_time c h id block x known =
    let k = c.kernel in
    let freed = with_ranges k.variable_pools id x (without block x.ranges) in
    let met = all_met id (with_variable_pools c freed) in
    let idle = meets_idle id (with_variable_pools c freed)
    (beside_state id k.variable_pools _ (λ other apart y is. h.objects VariablePool other y is)) in
    subst (λ (d : Core). NoneOverdue d.kernel) (sym met.core)
    (with_other_threads _ (with_other_objects k h VariablePool met.pools
    (subst (InTime VariablePool) (ap (λ (d : Core). d.kernel.variable_pools) met.core) idle))
    (wakes_met k.threads met.met) (met_sleep met.met k.threads h.sleepers))
