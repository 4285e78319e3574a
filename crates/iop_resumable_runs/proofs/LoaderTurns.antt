-- The loader's thread is dormant where no module is begun, and no module is left then, over each
-- turn of a machine that was booted.
use Rattle.std.proofs.Common.{◌≡◌, ℕ, ◌==◌, ◌≤◌, Bool, true, false, is_some, option_map, Option, Some, None, List, [], length, refl, ap, sym, subst}
use Rattle.std.specs.Prelude.{unwrap_or}
use Rattle.std.proofs.lemmas.Bool.{and_parts}
use Rattle.iop_exec.specs.Row.{Row, Goes, Serves, Faults, row}
use Rattle.iop_kernel.specs.Serving.{services}
use Rattle.iop_kernel.specs.System.{Kernel, System, is_active}
use Rattle.iop_kernel.specs.declared.after.After.{After}
use Rattle.iop_kernel.specs.declared.after.After.TheVariants.{Resume, Switch, ModuleReturned, Fault}
use Rattle.iop_machine.specs.Iop.{Iop, core_of, with_system}
use Rattle.iop_machine.specs.Laws.{IsSoundWorld}
use Rattle.iop_machine.specs.Loader.{is_between, loader_is_dormant}
use Rattle.iop_machine.specs.Loading.{loads_first, with_kernel, starts_by, boots}
use Rattle.iop_machine.specs.Looking.{takes_events, next_coming}
use Rattle.iop_machine.specs.Modules.{NamedFile, modules_of}
use Rattle.iop_machine.specs.Services.{leaves, goes_on_by, ends_module, returns_by, calls, calls_by, calling}
use Rattle.iop_machine.specs.Stepping.{Turn, takes_turn, performs, waits_by}
use Rattle.iop_machine.specs.World.{World}
use Rattle.iop_machine.proofs.Stepping.{IsTurn, stopped, unbooted, delivery, dispatch, execution, waiting}
use Rattle.iop_modload.specs.Finishing.{finishes}
use Rattle.iop_resumable.proofs.LoaderChanges.{LoaderIs, dormancy}
use Rattle.iop_resumable.proofs.LoaderKernels.{loader_begins, loader_delivered, loader_dispatched, loader_ends, loader_served}
use Rattle.iop_resumable.proofs.MadeThreads.{have_been}
use Rattle.iop_resumable.specs.Laws.{IsServing}
use Rattle.iop_saved_checks.specs.Made.{AreMade}
use Rattle.iop_saved_machine.specs.declared.begun_module.BegunModule.{BegunModule}
use Rattle.iop_thread.specs.Placing.{IsPlaced}
use Rattle.iop_thread.specs.ThreadTable.{ThreadTable, thread_of}
use Rattle.iop_thread.specs.declared.thread.Thread.{Thread}
use Rattle.iop_thread.specs.declared.thread.TheConstants.{LOADER}
use Rattle.iop_resumable_runs.proofs.Begun.{IsWhole}
use Rattle.iop_resumable_runs.proofs.BegunTurns.{booted_begun, ended_begun}
use Rattle.iop_resumable_runs.proofs.Cores.{serving}
use Rattle.iop_resumable_runs.proofs.Loader.{loads_first_lands}
use Rattle.iop_resumable_runs.proofs.Returned.{module_returned, opened_system}

-- the loader's thread is dormant, or not, as the module that is begun asks
pub record Fits (threads : ThreadTable) (files : List NamedFile) (begun : Option BegunModule)
    : Type 0 where
  pub dormant : Bool
  pub thread : LoaderIs dormant threads
  pub between : is_between dormant (length files) begun ≡ true

abbrev pub LoaderFits : Iop → Type 0
LoaderFits s = Fits s.kernel.threads s.modules.files s.begun

-- ---- by the test, and back

there_is : (o : Option Thread) → is_some o ≡ true
    → option_map dormancy o ≡ Some (unwrap_or (option_map dormancy o) false)
there_is None there = absurd (cc there)
there_is (Some t) there = refl

-- where threads are such as calls make them, the loader's is there
pub loader_there : (size : ℕ) (k : Kernel) → AreMade size k
    → LoaderIs (loader_is_dormant k) k.threads
loader_there size k made =
    there_is (thread_of k.threads.live LOADER) (have_been size k.threads made.threads).loader

pub tells_loader : (b : Bool) (k : Kernel) → LoaderIs b k.threads → loader_is_dormant k ≡ b
tells_loader b k h = ap (λ (o : Option Bool). unwrap_or o false) h

-- ---- what is between modules

none_fits : (files : List NamedFile) (begun : Option BegunModule) → begun ≡ None → files ≡ []
    → is_between true (length files) begun ≡ true
none_fits files begun none empty = rw (none, empty) refl

one_fits : (left : ℕ) (begun : Option BegunModule) (m : BegunModule) → begun ≡ Some m
    → is_between false left begun ≡ true
one_fits left begun m is = rw is refl

-- where none is begun none is left, and where one is the thread is not dormant
still_none : (b : Bool) (left : ℕ) (begun : Option BegunModule) → begun ≡ None
    → is_between b left begun ≡ true → is_between true left begun ≡ true
still_none b left None none fits = (and_parts b (left == 0) fits).1
still_none b left (Some m) none fits = absurd (cc none)

is_busy : (b : Bool) (left : ℕ) (begun : Option BegunModule) (m : BegunModule) → begun ≡ Some m
    → is_between b left begun ≡ true → b ≡ false
is_busy false left begun m is fits = refl
is_busy true left None m is fits = absurd (cc is)
is_busy true left (Some n) m is fits = absurd (cc fits)

-- ---- the begin and the end of modules

starts_fit : (s : Iop) → IsPlaced s.kernel.threads → LoaderIs true s.kernel.threads
    → (s.begun ≡ None → s.modules.files ≡ []) → (o : Option BegunModule) → s.begun ≡ o
    → LoaderFits (starts_by s o)
starts_fit s placed thread none None is = record {
  dormant = true;
  thread = thread;
  between = none_fits s.modules.files s.begun is (none is);
}
starts_fit s placed thread none (Some m) is = record {
  dormant = false;
  thread = loader_begins s.kernel.threads s.cpu placed thread;
  between = one_fits (length s.modules.files) s.begun m is;
}

goes_on_fit : (s : Iop) → IsPlaced s.kernel.threads → s.kernel.threads.running ≡ Some LOADER
    → LoaderIs false s.kernel.threads → (s.begun ≡ None → s.modules.files ≡ [])
    → (o : Option BegunModule) → s.begun ≡ o → LoaderFits (goes_on_by s o)
goes_on_fit s placed runs thread none None is = record {
  dormant = true;
  thread = loader_ends s.kernel.threads false placed runs thread;
  between = none_fits s.modules.files s.begun is (none is);
}
goes_on_fit s placed runs thread none (Some m) is = record {
  dormant = false;
  thread = thread;
  between = one_fits (length s.modules.files) s.begun m is;
}

module _ (size : ℕ) where
  boots_fit : (s : Iop) → s.memory.live ≡ [] → 1 ≤ s.modules.next → IsWhole size s
      → IsPlaced s.kernel.threads → LoaderIs true s.kernel.threads → LoaderFits (boots s).state
  unfolding boots
  boots_fit s none some whole placed thread =
      let left = (loads_first (modules_of s.modules) (with_kernel s)).state in
      let lands = loads_first_lands (modules_of s.modules) (with_kernel s) in
      starts_fit left (subst (λ (k : Kernel). IsPlaced k.threads) (sym lands.kernel) placed)
      (subst (λ (k : Kernel). LoaderIs true k.threads) (sym lands.kernel) thread)
      (booted_begun size s none some whole).none left.begun refl

  -- a module ends, if one runs
  returns_fit : (s : Iop) (value : ℕ) → 1 ≤ s.modules.next → IsWhole size s
      → IsPlaced s.kernel.threads → s.kernel.threads.running ≡ Some LOADER → LoaderFits s
      → (o : Option BegunModule) → s.begun ≡ o → LoaderFits (returns_by s o value).state
  unfolding ends_module
  returns_fit s value some whole placed runs h None is = record {
    dormant = true;
    thread = loader_ends s.kernel.threads h.dormant placed runs h.thread;
    between = still_none h.dormant (length s.modules.files) s.begun is h.between;
  }
  returns_fit s value some whole placed runs h (Some m) is =
      let busy = is_busy h.dormant (length s.modules.files) s.begun m is h.between in
      let thread : LoaderIs false s.kernel.threads =
      subst (λ (b : Bool). LoaderIs b s.kernel.threads) busy h.thread in
      let left = (leaves s
      (finishes s.kernel.clock s.memory s.blocks s.libraries m.number m.place value)).state in
      let now = (loads_first (modules_of left.modules) left).state in
      let lands = loads_first_lands (modules_of left.modules) left in
      goes_on_fit now (subst (λ (k : Kernel). IsPlaced k.threads) (sym lands.kernel) placed)
      (subst (λ (k : Kernel). k.threads.running ≡ Some LOADER) (sym lands.kernel) runs)
      (subst (λ (k : Kernel). LoaderIs false k.threads) (sym lands.kernel) thread)
      (ended_begun size s m value some whole).none now.begun refl

  waits_fit : (s : Iop) (o : Option ℕ) → LoaderFits s → LoaderFits (waits_by s o).state
  waits_fit s None h = h
  waits_fit s (Some moment) h = h

  module _ (s : Iop) (called : IsServing (calling s)) (active : is_active s.kernel ≡ true)
      (some : 1 ≤ s.modules.next) (whole : IsWhole size s) (h : LoaderFits s) where
    served_fit : (code : ℕ)
        → Fits (services (calling s) code).left.state.core.kernel.threads s.modules.files s.begun
    served_fit code = record {
      dormant = h.dormant;
      thread = loader_served h.dormant (calling s) code called h.thread;
      between = h.between;
    }

    -- by what becomes of the caller
    calls_fit : (code : ℕ) (after : After) → (services (calling s) code).left.after ≡ after
        → LoaderFits (calls_by s (services (calling s) code) after).state
    calls_fit code Resume is = served_fit code
    calls_fit code Switch is = served_fit code
    calls_fit code (Fault kind) is = h
    calls_fit code (ModuleReturned value) is =
        let returned = module_returned (calling s) code value called.placed active is in
        subst (λ (left : System).
        LoaderFits (returns_by (with_system s left) (with_system s left).begun value).state)
        (sym returned.left)
        (returns_fit (with_system s (opened_system (calling s))) value some
        (record { blocks = whole.blocks; size = whole.size }) called.placed.threads returned.runs h
        s.begun refl)

    -- an instruction of what executes
    performs_fit : (r : Row) → LoaderFits (performs s r).state
    unfolding calls
    performs_fit (Goes after None) = h
    performs_fit (Goes after (Some storing)) = h
    performs_fit (Serves code) = calls_fit code _ refl
    performs_fit (Faults kind) = h

module _ (w : World) (sound : IsSoundWorld w) (some : 1 ≤ w.iop.modules.next)
    (new : w.is_new ≡ true → LoaderIs true w.iop.kernel.threads) where
  abbrev v : Iop
  v = takes_events w.iop

  placed : IsPlaced w.iop.kernel.threads
  placed = sound.core.placed.threads

  whole : IsWhole (length w.iop.memory.ram) w.iop
  whole = record { blocks = sound.whole; size = refl }

  -- before it is booted nothing is said
  pub turn_fits : {t : Turn} → IsTurn w t → (w.is_new ≡ false → LoaderFits w.iop)
      → (takes_turn w t).state.is_new ≡ false → LoaderFits (takes_turn w t).state.iop
  turn_fits (stopped stop over) h booted = h booted
  turn_fits (unbooted over is_new) h booted =
      boots_fit (length w.iop.memory.ram) w.iop (sound.none_live is_new) some whole placed
      (new is_new)
  turn_fits (delivery d goes is) h booted = let fits = h goes.booted in record {
    dormant = fits.dormant;
    thread = loader_delivered fits.dormant (core_of v) placed fits.thread d is;
    between = fits.between;
  }
  turn_fits (dispatch d goes none is) h booted = let fits = h goes.booted in record {
    dormant = fits.dormant;
    thread = loader_dispatched fits.dormant (core_of v) placed fits.thread d is;
    between = fits.between;
  }
  turn_fits (execution goes looks) h booted =
      performs_fit (length w.iop.memory.ram) v (serving w sound) looks.active_is some
      (record { blocks = sound.whole; size = refl }) (h goes.booted) (row v.memory.ram v.cpu)
  turn_fits (waiting goes looks) h booted =
      waits_fit (length w.iop.memory.ram) v (next_coming v) (h goes.booted)
