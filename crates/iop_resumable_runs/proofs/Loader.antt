-- What loads modules leaves the kernel, and a processor that can be read.
use Rattle.std.proofs.Common.{◌≡◌, ℕ, Result, Ok, Err, IfSome, List, [], ◌∷◌, length, refl}
use Rattle.iop_base.specs.declared.code.Code.{Code}
use Rattle.iop_machine.specs.Iop.{Iop, Transition}
use Rattle.iop_machine.specs.Loading.{loading_of, places, enters_or, loads_first}
use Rattle.iop_machine.specs.Modules.{Module, module_start}
use Rattle.iop_modload.specs.declared.loaded.Loaded.{Loaded}
use Rattle.iop_saved_kernel.specs.Laws.{IsReadableKept}
use Rattle.iop_thread.proofs.KeptSteadily.{begun_steady}

-- the kernel stays, and the processor can be read where it could; where a module begins, it is that
-- with which modules begin
abbrev pub Lands : Iop → Iop → Type 0
Lands s t = record {
  kernel : t.kernel ≡ s.kernel;
  cpu : IsReadableKept s.cpu → IsReadableKept t.cpu;
  begun : IfSome t.begun (λ m. IsReadableKept t.cpu);
}

start_readable : (loaded : Loaded) (words : ℕ) → IsReadableKept (module_start loaded words)
unfolding module_start
start_readable loaded words = record {
  readable = record { steady = begun_steady _ _ refl refl; register = tt };
  outside = refl;
}

-- by what its loading came to, where the next one leaves it so
enters_land : (next : Iop → Transition Iop) → ((v : Iop) → Lands v (next v).state) → (s : Iop)
    (m : Module) (r : Result Loaded Code) → Lands s (enters_or next s m r).state
enters_land next lands s m (Ok loaded) =
    let start = start_readable loaded (length m.words) in
    record { kernel = refl; cpu = λ h. start; begun = start }
enters_land next lands s m (Err code) = lands s

-- the first module that loads begins
pub loads_first_lands : (modules : List Module) (s : Iop) → Lands s (loads_first modules s).state
unfolding loads_first
loads_first_lands [] s = record { kernel = refl; cpu = λ h. h; begun = tt }
loads_first_lands (m ∷ rest) s =
    let loading = loading_of s m in
    enters_land (loads_first rest) (loads_first_lands rest) (places s loading).state m
    loading.answer
