-- The headline, also of runs that go on from a snapshot.
use Rattle.std.proofs.Common.{◌≡◌, ℕ, ◌≤◌, true, Option, Some, None, IfSome, List, [], All, length, refl, ap, ◌∙◌, subst}
use Rattle.std.proofs.lemmas.List.Elements.{All-head}
use Rattle.iop_base.specs.Numbers.{IsByte}
use Rattle.iop_machine.specs.Laws.{IsMachine}
use Rattle.iop_machine.specs.Modules.{NamedFile}
use Rattle.iop_machine.specs.Restoring.{iop_in, machine_in}
use Rattle.iop_machine.specs.Stepping.{steps}
use Rattle.iop_machine.specs.World.{booted}
use Rattle.iop_options.specs.Commands.{Command, command_of}
use Rattle.iop_ports.specs.Files.{FilesTold}
use Rattle.iop_saved_machine.specs.Back.{MachineState}
use Rattle.iop_front.specs.Answers.{AreGoodFiles}
use Rattle.iop_front.specs.Headline.{HoldsOfSnapshot, Headline}
use Rattle.iop_front.specs.Named.{longest}
use Rattle.iop_front.specs.Outcome.{named_file, outcome_from_files, outcome_named}
use Rattle.iop_front.specs.Reading.{file_named}
use Rattle.iop_front.proofs.OutcomeLemmas.{goes_on_from}
use Rattle.std.proofs.Common.{◌∷◌, IsSome, is_some}
use Rattle.iop_front.specs.Headline.{HoldsOfRestored}
use Rattle.iop_front.specs.Named.{AsSnapshot, first_kind, longest}
use Rattle.iop_front.specs.Outcome.{outcome_from_files}
use Rattle.iop_front.proofs.CommandFiles.{reads_snapshot}
use Rattle.iop_front.proofs.Headline.{RunLaws, ends_as, holds_in, holds_of_files, holds_of_words}

-- the run from the machine that a snapshot's file holds
holds_of_snapshot : RunLaws → (command : Command) (named : NamedFile) (m : MachineState)
    → All IsByte named.file → machine_in named.file ≡ Some m → HoldsOfSnapshot command named m
holds_of_snapshot laws command named m bytes is =
    let first = booted (iop_in m) in
    let goes_on = (laws.restored_machines_are_machines named.file m bytes is).machine in
    let machine : (k : ℕ) → IsMachine (steps k first).state =
    λ k. laws.runs_stay_machines first k goes_on in
    record {
      outcome = λ short. goes_on_from command named m short is;
      ends = ends_as laws command first goes_on;
      machine = machine;
      states = λ k. holds_in laws (steps k first).state (machine k);
    }

-- what a file that is a snapshot holds
holds_by : (told : FilesTold) (name : List ℕ) (m : Option MachineState)
    → machine_in (file_named told name) ≡ m → is_some m ≡ true
    → (found : MachineState) × (machine_in (file_named told name) ≡ Some found)
holds_by told name None e some = absurd (cc)
holds_by told name (Some found) e some = (found, e)

holds_of_restored : RunLaws → (words : List (List ℕ)) (told : FilesTold) (command : Command)
    (name : List ℕ) → command_of words ≡ Some command → command.restore ≡ Some name
    → AreGoodFiles command told → All IsByte (file_named told name)
    → HoldsOfRestored words told command name
holds_of_restored laws words told command name is named good bytes =
    let reads = reads_snapshot command name named in
    let file = file_named told name in
    let fits : All (λ n. length (file_named told n) ≤ longest AsSnapshot) (name ∷ []) =
    subst (λ kind. All (λ n. length (file_named told n) ≤ longest kind) (name ∷ [])) reads.kind_is
    (subst (λ names. All (λ n. length (file_named told n) ≤ longest (first_kind command)) names)
    reads.names_are good.short) in
    let some = subst (λ o. IfSome o (λ n. IsSome (machine_in (file_named told n)))) named
    good.snapshot in
    let held = holds_by told name (machine_in file) refl some in
    let run = holds_of_snapshot laws command (named_file told name) held.0 bytes held.1 in
    record {
      m = held.0;
      holds = held.1;
      outcome = ap (outcome_named told) is ∙ ap (outcome_from_files told command) named
          ∙ run.outcome (All-head (λ n. length (file_named told n) ≤ longest AsSnapshot) name [] fits);
      run = run;
    }

pub headline : RunLaws → Headline
headline laws = record {
  words = holds_of_words laws;
  files = holds_of_files laws;
  restored = holds_of_restored laws;
  snapshots = holds_of_snapshot laws;
}
