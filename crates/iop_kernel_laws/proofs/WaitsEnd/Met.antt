-- How the waits for a variable pool end when memory is given back to it.
use Rattle.std.proofs.Common.{◌≡◌, ℕ, ◌≤◌, zero, suc, true, false, Option, Some, None, List, [], ◌∷◌, length, if◌then◌else◌, refl, ap, sym, ◌∙◌, subst, arith}
use Rattle.std.proofs.lemmas.Bool.{eq-eqb}
use Rattle.iop_base.specs.Numbers.{one_if}
use Rattle.iop_objects.specs.Objects.{state_of, waiters_of}
use Rattle.iop_pools.specs.Pools.{Pool, with_ranges, frees_it}
use Rattle.iop_pools.specs.Ranges.{is_out, without}
use Rattle.iop_pools.specs.VariablePools as pools
use Rattle.iop_pools.specs.VariablePools.{VariablePools, meets_next}
use Rattle.iop_pools.specs.declared.met.Met.{Met}
use Rattle.iop_pools.proofs.MetNext.{met_next, one_fewer}
use Rattle.iop_thread.specs.Waits.{wait_of}
use Rattle.iop_thread.specs.declared.kind.Kind.TheVariants.{VariablePool}
use Rattle.iop_thread.specs.declared.wait.Wait.TheVariants.{Object}
use Rattle.iop_thread.proofs.Woken.{wakes_so}
use Rattle.iop_kernel.specs.Placing.{IsPlaced, is_for}
use Rattle.iop_kernel.specs.System.{Kernel, Core, with_variable_pools}
use Rattle.iop_kernel.specs.VariablePools.{meets_vpl, meets_by, meets_some, frees_vpl, free_vpl}
use Rattle.iop_kernel_laws.specs.WakingLaws.{MeetsEach}
use Rattle.iop_kernel.proofs.Bodies.KindTables.{for_object}
use Rattle.iop_kernel.proofs.Placing.Kinds.{met_placed}
use Rattle.iop_kernel.proofs.Placing.Threads.{placed_own}
use Rattle.iop_kernel.proofs.Placing.Turns.{waited_state}
use Rattle.iop_kernel.proofs.Placing.Queues.{taken_split}
use Rattle.iop_kernel_laws.proofs.WaitsEnd.Waiters.{there_if}
use Rattle.iop_kernel.proofs.Walk.Meeting.{none_left}

module _ (id : ℕ) where
  -- one that is met waited for the pool
  met_waited : (k : Kernel) → IsPlaced k → (met : Met) (left : VariablePools)
      → meets_next k.variable_pools id ≡ (Some met, left)
      → wait_of k.threads met.thread ≡ Some (Object VariablePool id)
  met_waited k h met left is =
      let s = k.variable_pools in
      let m = met_next s id met left is in
      let asks = is_for VariablePool id (wait_of k.threads met.thread) in
      for_object VariablePool id (wait_of k.threads met.thread)
      (there_if asks (omega (
        arith,
        (h.objects VariablePool).waiters id met.thread,
        taken_split met.thread (waiters_of s id) m.one m.taken,
        ap one_if (eq-eqb m.one.one.item.thread met.thread m.thread),
      )))

  abbrev Meets : Kernel → Kernel → Type 0
  Meets old left = (met : List Met) × MeetsEach id met old left

  some_wake : (n : ℕ) (c : Core) → IsPlaced c.kernel
      → length (waiters_of c.kernel.variable_pools id) ≤ n
      → Meets c.kernel (meets_some n id c).kernel
  some_wake zero c h few = ([], (none_left c.kernel.variable_pools id few, refl))
  some_wake (suc n) c h few =
      by (some_wake n) (meets_next c.kernel.variable_pools id) refl
    where
      by : ((d : Core) → IsPlaced d.kernel
          → length (waiters_of d.kernel.variable_pools id) ≤ n
          → Meets d.kernel (meets_some n id d).kernel)
          → (t : Option Met × VariablePools) → meets_next c.kernel.variable_pools id ≡ t
          → Meets c.kernel (meets_by (meets_some n id) c t).kernel
      by later (None, left) is = ([], (ap (λ (t : Option Met × VariablePools). t.0) is, refl))
      by later (Some met, left) is =
          let next = meets_vpl c left met in
          let m = met_next c.kernel.variable_pools id met left is in
          let rest = later next (met_placed c.kernel h id met left is)
          (omega (arith, few, one_fewer c.kernel.variable_pools id m)) in (
            met ∷ rest.0,
            (
              next.kernel,
              record {
                next = is;
                wakes = record {
                  waited = met_waited c.kernel h met left is;
                  woken = wakes_so c.kernel.threads met.thread met.block;
                };
                rest = refl;
              },
              rest.1,
            ),
          )

-- memory is given back
pub free_wakes : (c : Core) (id block : ℕ) (x : Pool) → IsPlaced c.kernel
    → state_of c.kernel.variable_pools id ≡ Some x → is_out block x.ranges ≡ true
    → Meets id (record c.kernel {
      variable_pools = with_ranges c.kernel.variable_pools id x (without block x.ranges);
    }) (free_vpl c id block).state.kernel
free_wakes c id block x h known there =
    let s = c.kernel.variable_pools in
    let freed = with_ranges s id x (without block x.ranges) in
    let did = ap (frees_it s id block) known
    ∙ ap (λ b. if b then (Some true, freed) else (Some false, s)) there in
    let left = with_variable_pools c freed in
    subst (λ r. Meets id left.kernel (frees_vpl c id (pools.given s r)).state.kernel) (sym did)
    (some_wake id (length (waiters_of freed id)) left
    (placed_own c.kernel h VariablePool freed
    (waited_state VariablePool s (h.objects VariablePool) id _)) (omega arith))
