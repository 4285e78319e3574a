-- What holds by what becomes of the caller: a service that faults leaves all as it was; and where
-- one returns the module of the loader's thread, another thread may run.
use Rattle.std.proofs.Common.{◌≡◌, ℕ, true, None, List, [], refl}
use Rattle.std.specs.Prelude.{⊤}
use Rattle.iop_base.specs.Piece.{Piece}
use Rattle.iop_base.specs.declared.guest_fault.GuestFault.{GuestFault}
use Rattle.iop_base.specs.declared.guest_fault.GuestFault.TheVariants.{Address, Service}
use Rattle.iop_kernel.specs.Serving.{services}
use Rattle.iop_kernel.specs.System.{System, may_switch, caller, opened}
use Rattle.iop_kernel.specs.declared.after.After.{After}
use Rattle.iop_kernel.specs.declared.after.After.TheVariants.{Resume, Switch, ModuleReturned, Fault}
use Rattle.iop_kernel_laws.proofs.Walk.Looks.{looks_aside}
use Rattle.iop_kernel.proofs.Walk.Moves.{ServiceMoves, Ends}
use Rattle.iop_kernel.proofs.Walk.Services.{services_go, asked_not}

-- nothing is said before the end
abbrev pub Nothing : System → List Piece → Type 0
Nothing d given = ⊤

module _ (Q : After → System → List Piece → Type 0) (Asks MayLeave : Type 0) (s : System)
    (switches : (d : System) → MayLeave → Q Switch d [])
    (returns : (word : ℕ) → MayLeave
    → Q (ModuleReturned word) (record s { core = opened s.core }) []) where
  -- a service of a library ends so, where the cause of a fault is told
  pub services_end : (resumes : (d : System) (given : List Piece) → Q Resume d given)
      → (bad_place : Q (Fault Address) s [])
      → (no_thread : Asks → caller s.core ≡ None → Q (Fault Service) s [])
      → (library : ℕ) → ServiceMoves Nothing Q Asks s MayLeave library
  services_end resumes bad_place no_thread =
      looks_aside Nothing Q Asks s (record {
        each = record {
          begins = tt;
          stores = λ d given place bytes inside h. tt;
          goes_on = λ d given word h. resumes _ given;
          bad_place = bad_place;
          no_thread = no_thread;
          prints = λ text. tt;
        };
        cores = λ c same. tt;
        takes = λ mode size at stack blocks c same is. tt;
        frees = λ stack c same. tt;
        registers = λ libraries. tt;
        switches = λ d h. switches d;
        returns = returns;
      })

module _ (Q : After → System → List Piece → Type 0) (s : System)
    (resumes : (d : System) (given : List Piece) → Q Resume d given)
    (switches : (d : System) → Q Switch d []) (faults : (kind : GuestFault) → Q (Fault kind) s [])
    (returns : (word : ℕ) → Q (ModuleReturned word) (record s { core = opened s.core }) []) where
  -- a `syscall` of any code ends so
  outcomes_go : (code : ℕ) → Ends Q (services s code)
  outcomes_go =
      services_go (services_end Q ⊤ ⊤ s (λ d leave. switches d) (λ word leave. returns word) resumes
      (faults Address) (λ asks none. faults Service)) (record {
        unlisted = λ library number. tt;
        no_service = faults Service;
        handler = λ handler is. switches _;
      }) (asked_not s)

-- where a service faults, it leaves all as it was, and gives nothing
abbrev pub IsAlone : System → After → System → List Piece → Type 0
IsAlone s after left pieces =
    (kind : GuestFault) → after ≡ Fault kind → (left ≡ s) × (pieces ≡ [])

-- so it is with whatever is served
pub services_alone : (s : System) (code : ℕ) → let d = services s code in
    IsAlone s d.left.after d.left.state d.pieces
services_alone s =
    outcomes_go (IsAlone s) s (λ d given kind e. absurd (cc e)) (λ d kind e. absurd (cc e))
    (λ kind other e. (refl, refl)) (λ word kind e. absurd (cc e))

-- where a service returns a module, another thread may run
abbrev Opens : After → System → List Piece → Type 0
Opens after left pieces =
    (value : ℕ) → after ≡ ModuleReturned value → may_switch left.core.kernel ≡ true

-- so it is with each one that does
pub returning_opens : (s : System) (code value : ℕ)
    → (services s code).left.after ≡ ModuleReturned value
    → may_switch (services s code).left.state.core.kernel ≡ true
returning_opens s =
    outcomes_go Opens s (λ d given value e. absurd (cc e)) (λ d value e. absurd (cc e))
    (λ kind value e. absurd (cc e)) (λ word value e. refl)
