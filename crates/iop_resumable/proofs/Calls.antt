-- What holds of each call holds of a `syscall` of any code.
use Rattle.std.proofs.Common.{ℕ, ◌/◌, ◌%◌, ◌==◌, ◌&&◌, nat_lt, length}
use Rattle.std.proofs.lemmas.Bool.{cond_both}
use Rattle.iop_base.specs.declared.guest_fault.GuestFault.TheVariants.{Service}
use Rattle.iop_base.specs.declared.libraries.TheConstants.{KERNEL_LIBRARIES}
use Rattle.iop_services.specs.declared.codes.TheConstants.{LIBRARY_CODES, SERVICES}
use Rattle.iop_kernel.specs.Handlers.{return_handler}
use Rattle.iop_kernel.specs.Serving.{calls_library, calls, services}
use Rattle.iop_kernel.specs.System.{System, Served, faults, silent, on_core}
use Rattle.iop_kernel.specs.ThreadStarts.{exit_thread, return_module}

module _ (C : Served → Type 0) (s : System) where
  pub record EachCall : Type 0 where
    -- a thread ends
    pub thread : C (silent (on_core s (exit_thread s.core)))
    -- a handler or a module returns
    pub handler : C (silent (on_core s (return_handler s.core)))
    pub returns : C (silent (on_core s (return_module s.core)))
    -- a service of a library is called
    pub library : (library number : ℕ) → C (calls_library library number s)
    -- or nothing is
    pub none : C (silent (faults s Service))

  pub any_call : EachCall → (code : ℕ) → C (services s code)
  any_call h code =
      let library = code / LIBRARY_CODES in
      let number = code % LIBRARY_CODES in
      cond_both (code == _) _ _ (λ o. C (calls s o)) (λ is. h.thread)
      (λ other. cond_both (code == _) _ _ (λ o. C (calls s o)) (λ is. h.handler)
      (λ other. cond_both (code == _) _ _ (λ o. C (calls s o)) (λ is. h.returns)
      (λ other. cond_both (nat_lt library (length KERNEL_LIBRARIES) && nat_lt number SERVICES) _ _
      (λ o. C (calls s o)) (λ is. h.library library number) (λ other. h.none))))
