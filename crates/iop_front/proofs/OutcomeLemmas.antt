-- What the script's file, those of modules and that of a snapshot say of the outcome.
use Rattle.std.proofs.Common.{◌≡◌, ◌≤◌, nat_lt, true, false, cond, Option, Some, Result, Err, List, length, ap, ◌∙◌, arith}
use Rattle.std.proofs.lemmas.Bool.Decides.{nat_tests}
use Rattle.iop_machine.specs.Modules.{NamedFile}
use Rattle.iop_machine.specs.Restoring.{iop_in, machine_in}
use Rattle.iop_machine.specs.World.{booted}
use Rattle.iop_modload.specs.declared.limits.TheConstants.{LONGEST_FILE}
use Rattle.iop_options.specs.Commands.{Command}
use Rattle.iop_saved_machine.specs.Back.{MachineState}
use Rattle.iop_script.specs.Reading.{BadLine, script_of}
use Rattle.iop_script.specs.Scripts.{Script}
use Rattle.iop_front.specs.Named.{AsSnapshot, longest}
use Rattle.iop_front.specs.Outcome.{refusal, first_too_long, outcome_by, outcome_from, outcome_of_files, outcome_of_snapshot, outcome_restored, script_by, script_read, too_long_line}
use Rattle.iop_front.specs.declared.status.Status.TheVariants.{TooLong}

-- the first that is too long decides, also before others
pub long_outcome : (command : Command) (script : Script) (files : List NamedFile) (long : NamedFile)
    → first_too_long files ≡ Some long
    → outcome_of_files command script files ≡ refusal TooLong (too_long_line LONGEST_FILE long.name)
long_outcome command script files long e =
    ap (λ (o : Option NamedFile). outcome_by command o script files) e

-- the script of a file that is too long
pub from_long : (named : NamedFile) → nat_lt LONGEST_FILE (length named.file) ≡ true
    → script_by (Some named) ≡ Err (refusal TooLong (too_long_line LONGEST_FILE named.name))
from_long named long =
    ap (λ b. cond b (Err (refusal TooLong (too_long_line LONGEST_FILE named.name)))
    (script_read (script_of named.file))) long

-- and of one that is not, by what it reads as
pub from_short : (named : NamedFile) (read : Result Script BadLine)
    → nat_lt LONGEST_FILE (length named.file) ≡ false → script_of named.file ≡ read
    → script_by (Some named) ≡ script_read read
from_short named read short is =
    ap (λ b. cond b (Err (refusal TooLong (too_long_line LONGEST_FILE named.name)))
    (script_read (script_of named.file))) short
    ∙ ap script_read is

-- a snapshot's file that is too long
pub from_long_snapshot : (command : Command) (named : NamedFile)
    → nat_lt (longest AsSnapshot) (length named.file) ≡ true
    → outcome_of_snapshot command named
    ≡ refusal TooLong (too_long_line (longest AsSnapshot) named.name)
from_long_snapshot command named long =
    ap (λ b. cond b (refusal TooLong (too_long_line (longest AsSnapshot) named.name))
    (outcome_restored command named.name (machine_in named.file))) long

-- and one that is not, by what it is a snapshot of
pub from_short_snapshot : (command : Command) (named : NamedFile) (read : Option MachineState)
    → nat_lt (longest AsSnapshot) (length named.file) ≡ false → machine_in named.file ≡ read
    → outcome_of_snapshot command named ≡ outcome_restored command named.name read
from_short_snapshot command named read short is =
    ap (λ b. cond b (refusal TooLong (too_long_line (longest AsSnapshot) named.name))
    (outcome_restored command named.name (machine_in named.file))) short
    ∙ ap (outcome_restored command named.name) is

-- of one that is a machine's, the run from there
pub goes_on_from : (command : Command) (named : NamedFile) (m : MachineState)
    → length named.file ≤ longest AsSnapshot → machine_in named.file ≡ Some m
    → outcome_of_snapshot command named ≡ outcome_from command (booted (iop_in m))
goes_on_from command named m short is =
    from_short_snapshot command named (Some m) (grind (arith, nat_tests, short)) is
