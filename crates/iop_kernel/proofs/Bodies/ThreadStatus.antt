-- The status of a thread that is named.
use Rattle.std.proofs.Common.{◌≡◌, ℕ, Some, ap, ◌∙◌}
use Rattle.iop_thread.specs.ThreadTable.{thread_of}
use Rattle.iop_thread.specs.declared.thread.Thread.{Thread}
use Rattle.iop_kernel.specs.NamedThreads.{named}
use Rattle.iop_kernel.specs.System.{System, caller, words_place}
use Rattle.iop_kernel.specs.ThreadStatus.{refers_it, refers_to, refers_at, refer_thread_status}
use Rattle.iop_kernel.specs.declared.thread_status.TheConstants.{STATUS_WORDS}

module _ (s : System) (place : ℕ) (t : Thread) where
  -- it is that of the thread which the id names
  pub refers_named : (id at one : ℕ) → Some place ≡ words_place s.memory at STATUS_WORDS
      → Some one ≡ named (caller s.core) id → Some t ≡ thread_of s.core.kernel.threads.live one
      → refers_it s place (Some t) ≡ refer_thread_status s id at
  refers_named id at one stands names lives =
      ap (refers_it s place) lives ∙ ap (refers_to s place) names ∙ ap (refers_at s id) stands
