-- What a reading answers: this project's profile.
use Rattle.std.specs.Prelude.{◌≡◌, ℕ, Option, Some, None, MatchOption, List}
use Rattle.iop_snapshot.specs.declared.fault.SnapFault.{SnapFault}
use Rattle.iop_snapshot.specs.declared.fault.SnapFault.TheVariants.{Bad, Memory}
use Rattle.iop_snapshot.specs.Forms.{Form}

-- a value was read by its form, or none can be
abbrev pub Reads : {X : Type 0} → Form X → Option X → (old new : List ℕ) → Type 0
Reads form result old new =
    MatchOption result (form.read old ≡ None) (λ x. form.read old ≡ Some (x, new))

-- it gave nothing, by the fault: since nothing can be read; where memory ran out, nothing is said
abbrev pub GivesNone : {X : Type 0} → Option X → SnapFault → Type 0
GivesNone read Bad = read ≡ None
GivesNone read Memory = Unit {0}
