-- A machine that was put back from a snapshot can be resumed, too.
use Rattle.std.proofs.Common.{◌≡◌, ◌==◌, ◌&&◌, true, length, ap, ◌∙◌}
use Rattle.std.specs.List.{list_all}
use Rattle.std.proofs.lemmas.Bool.{and_parts, eqb-true}
use Rattle.iop_intr.specs.declared.irqs.TheConstants.{IRQ_LINES}
use Rattle.iop_kernel.specs.Kinds.{table}
use Rattle.iop_kernel.specs.System.{Core}
use Rattle.iop_machine.specs.Loader.{has_header, is_between, loader_is_dormant, loader_may_go_on, may_have_begun}
use Rattle.iop_machine.specs.Restoring.{left_in}
use Rattle.iop_machine.proofs.RestoredMachines.{can_be_left, has_passed, was_read}
use Rattle.iop_resumable.specs.Regular.{CanStand, IsRegular}
use Rattle.iop_saved_checks.specs.Laws.{AgreeingCoresAreSound}
use Rattle.iop_saved_kernel.specs.Laws.{CanBeBack, IsSteadyCore}
use Rattle.iop_saved_tables.specs.Lines.{lines_form}
use Rattle.iop_saved_threads.specs.Processors.{steady_form, kept_form}
use Rattle.iop_saved_kernel.specs.Executing.{executing_form}
use Rattle.iop_saved_kernel.specs.Heads.{read_head}
use Rattle.iop_saved_kernel.specs.ObjectLists.{objects_form}
use Rattle.iop_saved_kernel.specs.ThreadLists.{read_threads}
use Rattle.iop_saved_kernel.specs.TimerLists.{timers_form}
use Rattle.iop_saved_kernel.specs.Parts.{Parts, parts_form, steady_form_of_parts}
use Rattle.iop_saved_machine.specs.Back.{MachineState, machine_form}
use Rattle.iop_saved_machine.specs.Laws.{MachinesAreLawful, MachinesAreRead, MachinesTellWhatWasPut}
use Rattle.iop_saved_machine.specs.Parts.{MachineParts}
use Rattle.iop_saved_machine.proofs.ReadingBack.{split}
use Rattle.iop_snapshot.proofs.Combining.{whole_exact}
use Rattle.iop_thread.specs.declared.kind.Kind.{Kind}
use Rattle.iop_thread.specs.declared.kind.Kind.TheVariants.{Semaphore, EventFlag, Mailbox, VariablePool, FixedPool}
use Rattle.iop_resumable_runs.specs.Laws.{RestoredMachinesAreResumable}
use Rattle.iop_resumable_runs.proofs.Headers.{headers_of}
use Rattle.iop_resumable_runs.proofs.Words.{words_of}

-- all interrupt lines were read
lines_fit : (p : Parts) → steady_form_of_parts.fits p ≡ true → length p.irqs ≡ IRQ_LINES
unfolding parts_form
lines_fit p fits =
    let executing = executing_form read_head steady_form kept_form in
    let threads = and_parts (executing.fits p.executing) _ fits in
    let objects = and_parts (read_threads.fits p.threads) _ threads.1 in
    let timers = and_parts (objects_form.fits p.objects) _ objects.1 in
    let lines = and_parts (timers_form.fits p.timers) _ timers.1 in
    let all = and_parts (lines_form.fits p.irqs) _ lines.1 in
    eqb-true (length p.irqs) IRQ_LINES (and_parts (length p.irqs == IRQ_LINES) _ all.0).0

-- what can be put back again is regular
regular_back : (c : Core) → CanBeBack c → IsSteadyCore c → IsRegular c
regular_back c can steady = record {
  objects = stand;
  cause = can.cause;
  threads = steady.threads;
  handler = steady.handler;
}
  where
    stand : (kind : Kind) → CanStand kind (table kind c.kernel)
    stand Semaphore = can.tables.semaphores.0
    stand EventFlag = can.tables.event_flags.0
    stand Mailbox = can.tables.mailboxes.0
    stand VariablePool = can.tables.variable_pools.0
    stand FixedPool = can.tables.fixed_pools.0

-- what its loader has passed
record LoaderPassed (m : MachineState) : Type 0 where
  pub headers : list_all (has_header (length m.system.memory.ram)) m.system.libraries ≡ true
  pub begun : may_have_begun (length m.system.memory.ram) m.loading.next m.loading.begun ≡ true
  pub between : is_between (loader_is_dormant m.system.core.kernel) (length m.loading.modules)
      m.loading.begun ≡ true

loader_parts : (m : MachineState) → loader_may_go_on m ≡ true → LoaderPassed m
loader_parts m may =
    let size = length m.system.memory.ram in
    let headers = list_all (has_header size) m.system.libraries in
    let begun = may_have_begun size m.loading.next m.loading.begun in
    let all = and_parts (headers && begun) (is_between (loader_is_dormant m.system.core.kernel)
    (length m.loading.modules) m.loading.begun) may in
    let two = and_parts headers begun all.0 in
    record { headers = two.0; begun = two.1; between = all.1 }

pub restored_resumable : MachinesAreLawful → MachinesTellWhatWasPut → MachinesAreRead
    → AgreeingCoresAreSound → RestoredMachinesAreResumable
restored_resumable lawful tells reads sound bytes m all e =
    let was = was_read bytes m e in
    let p = was.parts in
    let fits = ((whole_exact machine_form lawful.lawful bytes p all).0 was.read).1 in
    let can = tells.sound p m fits was.back in
    let steady = reads.steady p m fits was.back in
    let passed = has_passed m was.may in
    let runs = sound m.system.memory m.system.core can.core steady passed.agrees in
    let loads = loader_parts m passed.loader in
    let same = ap (λ (p : MachineParts). p.core.irqs) (tells.parts p m fits was.back) in
    record {
      core = record {
        regular = regular_back m.system.core can.core steady;
        cpu = steady.cpu;
        slot = λ inside. runs.settled;
        lines = ap length same ∙ lines_fit p.core (split p fits).0.core;
      };
      modules = can_be_left (left_in m.loading) passed.left;
      short = tells.short p m fits was.back;
      libraries = can.libraries;
      headers = headers_of (length m.system.memory.ram) m.system.libraries loads.headers;
      words = words_of m.loading passed.words;
      begun = loads.begun;
      new = λ new. absurd (cc new);
      loader = λ booted. loads.between;
      made = runs.made;
    }
