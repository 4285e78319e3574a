-- Threads and pools stay such as calls make them, whatever a machine does.
use Rattle.std.proofs.Common.{◌≡◌, ℕ, ◌^◌, ◌≤◌, true, refl, subst, sym}
use Rattle.iop_base.specs.declared.code.TheConstants.Code.{OK}
use Rattle.iop_kernel.specs.Serving.{services}
use Rattle.iop_kernel.specs.System.{Kernel, System, beginning, code_word}
use Rattle.iop_kernel.proofs.Placing.Services.{services_place}
use Rattle.iop_kernel.proofs.Walk.Steps.{delivers_goes, dispatches_goes}
use Rattle.iop_saved_checks.specs.Made.{AreMade, threads_can_be, pools_are_inside}
use Rattle.iop_thread.specs.ThreadTable.{ThreadTable}
use Rattle.iop_resumable.specs.Laws.{IsServing, KernelsStayMade}
use Rattle.iop_resumable.proofs.InsidePools.{all_in, are_inside, services_in}
use Rattle.iop_resumable.proofs.LiveThreads.{HaveStill, still_have}
use Rattle.iop_resumable.proofs.MadeThreads.{CanBe, HaveBeenMade, stays, have_been, can_be, first_made, threads_made}
use Rattle.iop_resumable.proofs.ThreadsServed.{services_have}

-- it stays so over each service
made_services : (s : System) (code : ℕ) → IsServing s → s.blocks.size ≤ 2 ^ 29
    → AreMade s.blocks.size s.core.kernel → AreMade s.blocks.size (services s code).left.state.core.kernel
made_services s code serving small h =
    let size = s.blocks.size in
    let left = (services s code).left.state.core.kernel in
    let placed = services_place s code serving.placed in
    let made = have_been size s.core.kernel.threads h.threads in
    record {
      threads = can_be size left.threads
          (services_have (HaveBeenMade size) (CanBe size) (stays size) s made
          (threads_made s serving.blocks small serving.placed made) code);
      pools = are_inside size left (λ kind. (placed.objects kind).sound)
          (services_in s serving.blocks small (all_in size s.core.kernel h.pools) code);
    }

module _ (size : ℕ) where
  same_pools : (k left : Kernel) → left.variable_pools ≡ k.variable_pools
      → left.fixed_pools ≡ k.fixed_pools → pools_are_inside size k ≡ true
      → pools_are_inside size left ≡ true
  unfolding pools_are_inside
  same_pools k left variable fixed is = rw (variable, fixed) is

  -- the pools are those that were
  with_pools : (k left : Kernel) → AreMade size k → threads_can_be size left.threads ≡ true
      → left.variable_pools ≡ k.variable_pools → left.fixed_pools ≡ k.fixed_pools
      → AreMade size left
  with_pools k left h made variable fixed =
      record { threads = made; pools = same_pools k left variable fixed h.pools }

  -- and so are the threads
  with_both : (k left : Kernel) → AreMade size k → left.threads ≡ k.threads
      → left.variable_pools ≡ k.variable_pools → left.fixed_pools ≡ k.fixed_pools
      → AreMade size left
  with_both k left h threads =
      with_pools k left h (subst (λ (t : ThreadTable). threads_can_be size t ≡ true) (sym threads)
      h.threads)

  still : (k : Kernel) → AreMade size k → HaveStill (HaveBeenMade size) (CanBe size) (stays size)
      k.threads
  still k h =
      still_have (HaveBeenMade size) (CanBe size) (stays size) k.threads
      (have_been size k.threads h.threads)

-- at first there is no pool
first_inside : (size : ℕ) → pools_are_inside size beginning ≡ true
unfolding pools_are_inside
first_inside size = refl

pub kernels_stay_made : KernelsStayMade
kernels_stay_made = record {
  beginning = λ size large. record {
    threads = can_be size _ (first_made size large);
    pools = first_inside size;
  };
  services = made_services;
  delivers = λ size c d h made. delivers_goes (λ d line. AreMade size d.kernel) c
      (λ may. record {
        begins_line = λ line handler found has. with_both size c.kernel _ h refl refl refl;
        due = λ none. record {
          begins_alarm = λ alarm taken. with_both size c.kernel _ h refl refl refl;
          wakes = λ delay taken. with_pools size c.kernel _ h
              (can_be size _ ((still size c.kernel h).wakes delay.thread (code_word OK)))
              refl refl;
        };
      }) d made;
  dispatches = λ size c d h made. dispatches_goes (λ d line. AreMade size d.kernel) c
      (λ may did is. with_pools size c.kernel _ h
      (can_be size did.threads ((still size c.kernel h).dispatches c.cpu did is)) refl refl) d made;
  begins = λ size c registers h. with_pools size c.kernel _ h
      (can_be size _ ((still size c.kernel h).begins registers)) refl refl;
  ends_running = λ size c h. with_pools size c.kernel _ h
      (can_be size _ (still size c.kernel h).ends_running) refl refl;
  moves_on = λ size c moment cpu h. with_both size c.kernel _ h refl refl refl;
  raises = λ size c irqs h. with_both size c.kernel _ h refl refl refl;
}
