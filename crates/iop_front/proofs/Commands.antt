-- What is shown of the command that the words are.
use Rattle.std.proofs.Common.{◌≡◌, ◌≢◌, ◌⊎◌, ℕ, Option, Some, None, IsSome, List, ◌++◌, All, ap, subst}
use Rattle.iop_options.specs.Commands.{Command}
use Rattle.iop_ports.specs.Creating.{AsksOnce}
use Rattle.iop_ports.specs.Files.{FilesTold}
use Rattle.iop_front.specs.Answers.{Outside, FilesRead, HasFilesNamed}
use Rattle.iop_front.specs.Named.{first_kind, files_of}
use Rattle.iop_front.proofs.RunEndings.{ShowsKeep, keep_same}
use Rattle.iop_front.proofs.OpeningLemmas.{no_stray}

-- what holds of a command holds of the one that the words are
pub of_command : {command : Command} (holds : Command → Type 0) → holds command → (other : Command)
    → Some command ≡ Some other → holds other
of_command {command = command} holds h other e =
    let same : command ≡ other = cc in subst holds same h

-- no other file is opened, where files are told as before
pub same_strays : {old new : Option FilesTold} → new ≡ old → (first last : FilesTold)
    → old ≡ Some first → new ≡ Some last → last.strays ≡ first.strays
same_strays same first last p q =
    let kept : last ≡ first = cc in ap (λ (files : FilesTold). files.strays) kept

-- or where those of a command were, which are all there
pub named_strays : (command : Command) (old new : Outside) (names left : List (List ℕ))
    → files_of command ≡ names ++ left
    → FilesRead (first_kind command) names old.faults old.told new.told
    → (first last : FilesTold) → old.told ≡ Some first → new.told ≡ Some last
    → HasFilesNamed (Some command) first → last.strays ≡ first.strays
named_strays command old new names left are read first last p q there =
    no_stray old.faults (first_kind command) names left old.told new.told read first last p q
    (subst (λ ns. All (λ n. IsSome (first.content n)) ns) are there)

-- what is shown of the keep, for each command that the words may be
pub record KeepPromises (named : Option Command) (code : ℕ) (old new : Outside) : Type 0 where
  pub asks : (command : Command) → named ≡ Some command → (name : List ℕ)
      → command.save ≡ Some name → AsksOnce name old.sinks.keep new.sinks.keep
  pub unsaved : (command : Command) → named ≡ Some command → command.save ≡ None
      → new.sinks.keep ≡ old.sinks.keep
  pub behind : (new.sinks.output.trace_faults ≢ old.sinks.output.trace_faults)
      ⊎ (new.sinks.output.console_faults ≢ old.sinks.output.console_faults)
      → new.sinks.keep ≡ old.sinks.keep
  pub ended : code ≢ 10 → code ≢ 24 → new.sinks.keep ≡ old.sinks.keep
  pub cut : new.sinks.keep.faults ≢ old.sinks.keep.faults → code ≡ 24

-- where it was not called
pub uncalled : (named : Option Command) (code : ℕ) (old new : Outside)
    → new.sinks.keep ≡ old.sinks.keep → KeepPromises named code old new
uncalled named code old new same = record {
  asks = λ command is name e.
      (keep_same command.save code old.sinks new.sinks same).asks name e;
  unsaved = λ command is e. same;
  behind = λ failed. same;
  ended = λ other cut. same;
  cut = (keep_same None code old.sinks new.sinks same).cut;
}

-- by what the answer to a command shows
pub by_shown : {command : Command} {code : ℕ} {old new : Outside}
    → ShowsKeep command.save code old.sinks new.sinks → KeepPromises (Some command) code old new
by_shown {command = command} {old = old} {new = new} h = record {
  asks = of_command (λ c. (name : List ℕ) → c.save ≡ Some name
      → AsksOnce name old.sinks.keep new.sinks.keep) h.asks;
  unsaved = of_command (λ c. c.save ≡ None → new.sinks.keep ≡ old.sinks.keep) h.unsaved;
  behind = h.behind;
  ended = h.ended;
  cut = h.cut;
}
