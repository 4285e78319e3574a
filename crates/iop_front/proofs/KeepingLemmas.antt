-- What keeping a file leaves.
use Rattle.std.proofs.Common.{◌≡◌, ◌≢◌, ℕ, Bool, true, false, cond, ◌&&◌, Option, Some, None, Ok, List, refl, ap, sym, ◌∙◌, subst}
use Rattle.iop_base.specs.declared.stop.Stop.{Stop}
use Rattle.iop_base.specs.declared.stop.Stop.TheVariants.{Quiet, Budget, Fault}
use Rattle.iop_machine.specs.Restoring.{is_savable_at}
use Rattle.iop_machine.specs.Running.{is_by_budget}
use Rattle.iop_machine.specs.World.{World}
use Rattle.iop_options.specs.Commands.{Command}
use Rattle.iop_ports.specs.Creating.{Creates}
use Rattle.iop_ports.specs.Sinks.{SinkTold, Sends}
use Rattle.iop_front.specs.Keeping.{IsUncalled, KeptFile, KeepsFile, Keeps, sent, not_created}
use Rattle.iop_front.specs.Statuses.{status_code}
use Rattle.iop_front.specs.declared.status.Status.{Status}
use Rattle.iop_front.specs.Outcome.{can_be_resumed, kept_of, snapshot_of}

-- it is created, and sent
pub sent_by : (file : KeptFile) (created whole result : Bool) (old middle new : SinkTold)
    → created ≡ true → result ≡ whole → Creates created file.name old middle
    → Sends whole file.bytes middle new → KeepsFile file result old new
sent_by file created whole result old middle new e same h k =
    subst (λ b. KeepsFile file b old new) (sym same)
    (sent (subst (λ b. Creates b file.name old middle) e h) k)

-- or it is not created
pub not_created_by : (file : KeptFile) (created result : Bool) (old new : SinkTold)
    → created ≡ false → result ≡ false → Creates created file.name old new
    → KeepsFile file result old new
not_created_by file created result old new e same h =
    subst (λ b. KeepsFile file b old new) (sym same)
    (not_created (subst (λ b. Creates b file.name old new) e h))

-- whether a run that ended so can be resumed
pub resumed_by : (w : World) (stop : Stop) (clock : ℕ) → clock ≡ w.iop.kernel.clock
    → (is_by_budget (Ok stop) && is_savable_at clock) ≡ can_be_resumed stop w
resumed_by w Quiet clock e = refl
resumed_by w Budget clock e = ap is_savable_at e
resumed_by w (Fault kind pc) clock e = refl

-- a file is kept where the run can be resumed
pub keeps_some : (name : List ℕ) (w : World) (stop : Stop) (whole : Bool) (old new : SinkTold)
    → can_be_resumed stop w ≡ true
    → KeepsFile (record { name = name; bytes = snapshot_of w }) whole old new
    → Keeps (kept_of (Some name) w stop) whole old new
keeps_some name w stop whole old new e h =
    let file : KeptFile = record { name = name; bytes = snapshot_of w } in
    subst (λ b. Keeps (cond b (Some file) None) whole old new) (sym e) h

-- and none where it cannot
pub keeps_none : (save : Option (List ℕ)) (w : World) (stop : Stop) (told : SinkTold)
    → can_be_resumed stop w ≡ false → Keeps (kept_of save w stop) true told told
keeps_none None w stop told e = (refl, refl)
keeps_none (Some name) w stop told e =
    let file : KeptFile = record { name = name; bytes = snapshot_of w } in
    subst (λ b. Keeps (cond b (Some file) None) true told told) (sym e) (refl, refl)

-- where the status is another, the keep was not called, whether or not the words are a command
pub still_by : {K : Type 0} (named : Option Command) (status : Status) (code : ℕ) (old new : K)
    → code ≡ status_code status → (named ≡ None → new ≡ old)
    → ((command : Command) → named ≡ Some command → IsUncalled command.save status old new)
    → code ≢ 10 → code ≢ 24 → new ≡ old
still_by None status code old new e none some late cut = none refl
still_by (Some command) status code old new e none some late cut =
    (some command refl).ended (λ is. late (e ∙ ap status_code is)) (λ is. cut (e ∙ ap status_code is))
