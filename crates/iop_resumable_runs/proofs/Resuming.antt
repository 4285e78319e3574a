-- A machine that can be resumed stays so over each step, and can be read from its snapshot.
use Rattle.std.proofs.Common.{◌≡◌, zero, suc, ◌+◌, ◌<◌, ◌≤◌, ◌^◌, Bool, true, false, length, refl, sym, subst, arith, inl, inr}
use Rattle.std.specs.Prelude.{All}
use Rattle.iop_base.specs.Places.{IsRamSize}
use Rattle.iop_exec.specs.LoadDelays.{LoadsBegin, LoadsArrive}
use Rattle.iop_kernel.specs.System.{beginning as first}
use Rattle.iop_machine.specs.Iop.{core_of}
use Rattle.iop_machine.specs.Laws.{IsMachine}
use Rattle.iop_machine.specs.Loader.{is_between, loader_is_dormant}
use Rattle.iop_machine.specs.Stepping.{Turn, Stays, Boots, Delivers, Dispatches, Executes, Waits, step, steps, takes_turn, turn_of}
use Rattle.iop_machine.specs.World.{World, reset}
use Rattle.iop_machine.proofs.KeepingMachine.{begins_sound, step_keeps, steps_keep_machine}
use Rattle.iop_registry.proofs.KernelsOwn.{kernels_own}
use Rattle.iop_registry.specs.KernelLibraries.{kernel_libraries}
use Rattle.iop_registry.specs.declared.registry.Entry.{Entry}
use Rattle.iop_resumable.proofs.LoaderChanges.{LoaderIs}
use Rattle.iop_resumable.proofs.MadeKernels.{kernels_stay_made}
use Rattle.iop_resumable.proofs.Regular.{beginning_is_regular, cores_can_be_back}
use Rattle.iop_saved_checks.specs.Made.{AreMade}
use Rattle.iop_sysmem.specs.declared.blocks.TheConstants.{KERNEL}
use Rattle.irx_tables.specs.declared.words.TheConstants.{HEADER_BYTES}
use Rattle.iop_resumable_runs.specs.Laws.{RunsBeginResumable, RunsStayResumable, ResumableMachinesAreRead}
use Rattle.iop_resumable_runs.specs.Resumable.{IsResumable}
use Rattle.iop_machine.proofs.Stepping.{turn_is}
use Rattle.iop_resumable_runs.proofs.Begun.{RunsIn}
use Rattle.iop_resumable_runs.proofs.BegunTurns.{turn_run}
use Rattle.iop_resumable_runs.proofs.Beside.{StandsIn, turn_beside}
use Rattle.iop_resumable_runs.proofs.Cores.{turn_core}
use Rattle.iop_resumable_runs.proofs.Headers.{kernels_headers}
use Rattle.iop_resumable_runs.proofs.LoaderTurns.{LoaderFits, loader_there, tells_loader, turn_fits}
use Rattle.iop_resumable_runs.proofs.MadeTurns.{turn_made}
use Rattle.iop_resumable_runs.proofs.Readable.{stays_readable}
use Rattle.iop_resumable_runs.proofs.Still.{nobodys_readable, resumable}

-- what stands beside the kernel
beside_of : (w : World) → IsResumable w → StandsIn (length w.iop.memory.ram) w.iop
beside_of w h = record {
  left = record {
    modules = h.modules;
    words = h.words;
    short = λ begun. record {
      modules = h.short.modules;
      files = h.short.files;
      events = h.short.events;
      args = h.short.args;
      words = h.short.words;
      named = h.short.named;
      named_words = h.short.named_words;
    };
  };
  libraries = record { registry = h.libraries; headers = h.headers };
}

-- a machine that is still to be booted has not run
turn_new : (w : World) (t : Turn) → (w.is_new ≡ true → loader_is_dormant w.iop.kernel ≡ true)
    → (takes_turn w t).state.is_new ≡ true
    → loader_is_dormant (takes_turn w t).state.iop.kernel ≡ true
turn_new w Stays dormant new = dormant new
turn_new w Boots dormant new = absurd (cc new)
turn_new w (Delivers d) dormant new = absurd (cc new)
turn_new w (Dispatches d) dormant new = absurd (cc new)
turn_new w (Executes r) dormant new = absurd (cc new)
turn_new w (Waits coming) dormant new = absurd (cc new)

module _ (begin : LoadsBegin) (arrive : LoadsArrive) where
  step_resumable : (w : World) → IsMachine w → IsResumable w → IsResumable (step w).state
  unfolding step
  step_resumable w machine h =
      let left = (step w).state.iop in
      let size = length w.iop.memory.ram in
      let same : size ≡ length left.memory.ram = sym (step_keeps w machine.sound).stays.size in
      let beside : StandsIn size left = turn_beside w (turn_of w) (beside_of w h) in
      let there = loader_there size w.iop.kernel h.made in
      let before : w.is_new ≡ true → LoaderIs true w.iop.kernel.threads = λ new.
      subst (λ (b : Bool). LoaderIs b w.iop.kernel.threads) (h.new new) there in
      let fits : (step w).state.is_new ≡ false → LoaderFits left =
      turn_fits w machine.sound h.modules.some before (turn_is w)
      (λ booted. record { dormant = _; thread = there; between = h.loader booted }) in
      record {
        core = turn_core w machine.sound h.core (stays_readable begin arrive) (turn_is w);
        modules = beside.left.modules;
        short = beside.left.short left.begun;
        libraries = beside.libraries.registry;
        headers = subst (λ size. All (λ (e : Entry). e.table + HEADER_BYTES ≤ size) left.libraries)
            same beside.libraries.headers;
        words = beside.left.words;
        begun = subst (λ size. RunsIn size left) same
            (turn_run w machine.sound h.modules.some h.begun (turn_is w));
        new = turn_new w (turn_of w) h.new;
        loader = λ booted. let now = fits booted in
            subst (λ (b : Bool). is_between b (length left.modules.files) left.begun ≡ true)
            (sym (tells_loader now.dormant left.kernel now.thread)) now.between;
        made = subst (λ size. AreMade size left.kernel) same
            (turn_made w machine.sound h.made (turn_is w));
      }

  pub runs_stay_resumable : RunsStayResumable
  unfolding steps
  runs_stay_resumable w zero machine h = h
  runs_stay_resumable w (suc k) machine h =
      step_resumable (steps k w).state (steps_keep_machine w k machine)
      (runs_stay_resumable w k machine h)

pub runs_begin_resumable : RunsBeginResumable
runs_begin_resumable size modules events sized left short words = record {
  core = resumable (core_of (reset size modules events))
      (beginning_is_regular _ nobodys_readable, refl);
  modules = left;
  short = short;
  libraries = kernels_own;
  headers = subst (λ size. All (λ (e : Entry). e.table + HEADER_BYTES ≤ size) kernel_libraries)
      (begins_sound size modules events sized).whole.same_size
      (kernels_headers size (has_block sized));
  words = words;
  begun = refl;
  new = λ new. refl;
  loader = λ booted. absurd (cc booted);
  made = subst (λ size. AreMade size first)
      (begins_sound size modules events sized).whole.same_size
      (kernels_stay_made.beginning size (has_block sized));
}
  where
    has_block : IsRamSize size → KERNEL.size ≤ size
    has_block (inl is) = omega (arith, is)
    has_block (inr is) = omega (arith, is)

pub resumable_machines_are_read : ResumableMachinesAreRead
resumable_machines_are_read w machine h early =
    let sound = machine.sound in
    let few : w.iop.kernel.timers.next < 2 ^ 64 = omega (arith, early, machine.numbers) in
    record {
      back = record {
        core = cores_can_be_back.back (core_of w.iop) sound.core h.core.regular
            sound.bare few;
        memory = sound.whole.sound;
        blocks = sound.whole.are_blocks;
        same_size = sound.whole.same_size;
        libraries = h.libraries;
      };
      steady = cores_can_be_back.steady (core_of w.iop) h.core.regular h.core.cpu;
    }
