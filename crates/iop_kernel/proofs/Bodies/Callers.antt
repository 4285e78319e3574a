-- The thread that calls.
use Rattle.std.proofs.Common.{◌≡◌, ◌&&◌, ℕ, Bool, true, false, not, if◌then◌else◌, Option, Some, None, refl, ap, ◌∙◌}
use Rattle.std.specs.Option.{option_eq}
use Rattle.std.specs.Prelude.{is_some, option_map, option_and_then, unwrap_or}
use Rattle.std.proofs.Math.Dec.{eqb}
use Rattle.iop_thread.specs.Operations.{rotates}
use Rattle.iop_thread.specs.ThreadTable.{thread_of, is_it, has_priority, running_thread}
use Rattle.iop_thread.specs.declared.thread.Thread.{Thread}
use Rattle.iop_kernel.specs.Priorities.{rotates_own, rotates_to, after_leaving}
use Rattle.iop_kernel.specs.System.{Core, in_handler, may_switch, caller_beside, with_threads, answered, running_registers}
use Rattle.iop_kernel.specs.declared.active_handler.ActiveHandler.{ActiveHandler}
use Rattle.iop_kernel.specs.declared.after.After.TheVariants.{Resume, Switch}

-- the thread that runs calls, unless a handler does
pub caller_is : (handler : Option ActiveHandler) (running : Option ℕ)
    → caller_beside handler running ≡ (if is_some handler then None else running)
caller_is None running = refl
caller_is (Some handler) running = refl

-- by whether there is one
is_one_of : (o : Option ℕ) (id : ℕ) → option_eq eqb o (Some id) ≡ is_it o id
is_one_of None id = refl
is_one_of (Some one) id = refl

-- it is compared with an id
pub is_one : {told running : Option ℕ} (id : ℕ) → told ≡ running
    → option_eq eqb told (Some id) ≡ is_it running id
is_one {told} {running} id e = rw e (is_one_of running id)

-- the ready threads of its priority are rotated
pub rotates_own_is : (c : Core) (priority : ℕ) (running : Option ℕ)
    → option_map (λ t. t.priority) (option_and_then (thread_of c.kernel.threads.live) running)
    ≡ Some priority → rotates_own c running ≡ rotates_to c priority
rotates_own_is c priority None e = cc e
rotates_own_is c priority (Some id) e = ap (λ o. rotates_to c (unwrap_or o 0)) e

-- by the thread that runs
own_by : (priority : ℕ) (o : Option Thread)
    → option_eq eqb (option_map (λ t. t.priority) o) (Some priority) ≡ has_priority priority o
own_by priority None = refl
own_by priority (Some t) = refl

-- whether it has a priority
pub own_is : (priority : ℕ) (o : Option Thread) (told : Option ℕ)
    → told ≡ option_map (λ t. t.priority) o
    → option_eq eqb told (Some priority) ≡ has_priority priority o
own_is priority o told e = ap (λ x. option_eq eqb x (Some priority)) e ∙ own_by priority o

module _ (c : Core) (priority : ℕ) where
  -- a thread that has a priority runs
  leaves_by : (running : Option ℕ)
      → has_priority priority (option_and_then (thread_of c.kernel.threads.live) running) ≡ true
      → after_leaving c running ≡ Switch
  leaves_by None own = cc own
  leaves_by (Some id) own = refl

  -- the ready threads of a priority are rotated; by whether the thread that runs has it, and
  -- whether a handler runs
  pub rotates_is : (own inside : Bool)
      → has_priority priority (running_thread c.kernel.threads) ≡ own
      → (own ≡ true → may_switch c.kernel ≡ true) → in_handler c.kernel ≡ inside
      → let done = answered c 0 in rotates_to c priority ≡ record {
        state = with_threads done (rotates c.kernel.threads priority (running_registers done));
        after = if own && not inside then Switch else Resume;
      }
  rotates_is false inside is may runs = rw is refl
  rotates_is true true is may runs =
      rw (is, may refl, caller_is c.kernel.handler c.kernel.threads.running, runs) refl
  rotates_is true false is may runs =
      rw (is, may refl, caller_is c.kernel.handler c.kernel.threads.running, runs)
      (rw (leaves_by c.kernel.threads.running is) refl)
