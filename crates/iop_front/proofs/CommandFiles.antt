-- Which files a command reads, by whether its run begins or goes on from a snapshot.
use Rattle.std.proofs.Common.{◌≡◌, ℕ, Option, Some, None, List, [], ◌∷◌, refl, ap}
use Rattle.iop_modload.specs.declared.limits.TheConstants.{LONGEST_FILE}
use Rattle.iop_options.specs.Commands.{Command}
use Rattle.iop_front.specs.Named.{FileKind, AsSnapshot, files_by, files_of, first_by, first_kind, inputs_of, kind_by, longest}

-- they are these, and the first is read as one of this kind
pub record ReadsFiles (command : Command) (kind : FileKind) (names : List (List ℕ)) : Type 0 where
  pub kind_is : first_kind command ≡ kind
  pub names_are : files_of command ≡ names

pub reads_inputs : (command : Command) → command.restore ≡ None
    → ReadsFiles command (kind_by command.script) (inputs_of command)
reads_inputs command e = record {
  kind_is = ap (λ r. first_by r (kind_by command.script)) e;
  names_are = ap (λ r. files_by r (inputs_of command)) e;
}

pub reads_snapshot : (command : Command) (name : List ℕ) → command.restore ≡ Some name
    → ReadsFiles command AsSnapshot (name ∷ [])
reads_snapshot command name e = record {
  kind_is = ap (λ r. first_by r (kind_by command.script)) e;
  names_are = ap (λ r. files_by r (inputs_of command)) e;
}

-- scripts and modules may have as many bytes
pub longest_input : (script : Option (List ℕ)) → longest (kind_by script) ≡ LONGEST_FILE
longest_input None = refl
longest_input (Some name) = refl
