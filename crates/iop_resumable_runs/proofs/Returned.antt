-- A call that returns from a module is the loader's thread's, and changes nothing but whether
-- another thread may run.
use Rattle.std.proofs.Common.{◌≡◌, ℕ, ◌||◌, true, is_some, Option, Some, None, refl, subst}
use Rattle.iop_kernel.specs.Laws.{Follows, HandlerFollows, ServiceKeeps}
use Rattle.iop_kernel.specs.Placing.{IsPlaced}
use Rattle.iop_kernel.specs.Serving.{services}
use Rattle.iop_kernel.specs.System.{System, caller_beside, is_active, opened}
use Rattle.iop_kernel.specs.declared.active_handler.ActiveHandler.{ActiveHandler}
use Rattle.iop_kernel.specs.declared.after.After.{After}
use Rattle.iop_kernel.specs.declared.after.After.TheVariants.{ModuleReturned}
use Rattle.iop_kernel_laws.proofs.Keeping.Services.{services_keep}
use Rattle.iop_thread.specs.declared.thread.TheConstants.{LOADER}

abbrev pub opened_system : System → System
opened_system s = record s { core = opened s.core }

pub record Returns (s now : System) : Type 0 where
  pub runs : s.core.kernel.threads.running ≡ Some LOADER
  pub left : now ≡ opened_system s

module _ (s : System) (code value : ℕ) (placed : IsPlaced s.core.kernel)
    (active : is_active s.core.kernel ≡ true)
    (returns : (services s code).left.after ≡ ModuleReturned value) where
  keeps : ServiceKeeps s (services s code)
  keeps = services_keep s code active

  abbrev d : System
  d = (services s code).left.state

  -- a thread calls
  by_thread : (id : ℕ) → caller_beside s.core.kernel.handler s.core.kernel.threads.running ≡ Some id
      → s.core.kernel.threads.running ≡ Some id → Returns s d
  by_thread id calls runs =
      let follows : Follows (ModuleReturned value) s id d (services s code).pieces =
      subst (λ (after : After). Follows after s id d (services s code).pieces) returns
      (keeps.follows id placed calls) in
      record {
        runs = subst (λ (n : ℕ). s.core.kernel.threads.running ≡ Some n) follows.0 runs;
        left = follows.1;
      }

  -- none does where a handler is active
  by_handler : (handler : ActiveHandler) → s.core.kernel.handler ≡ Some handler → Returns s d
  by_handler handler is =
      absurd (subst (λ (after : After). HandlerFollows after s handler d (services s code).pieces)
      returns (keeps.handler_follows handler is))

  by_running : s.core.kernel.handler ≡ None → (o : Option ℕ)
      → s.core.kernel.threads.running ≡ o → Returns s d
  by_running none (Some id) runs = by_thread id (rw (none, runs) refl) runs
  by_running none None idle =
      let is : (is_some s.core.kernel.handler || is_some s.core.kernel.threads.running) ≡ true =
      active in
      absurd (cc (is, none, idle))

  by : (o : Option ActiveHandler) → s.core.kernel.handler ≡ o → Returns s d
  by None none = by_running none s.core.kernel.threads.running refl
  by (Some handler) is = by_handler handler is

  pub module_returned : Returns s d
  module_returned = by s.core.kernel.handler refl
