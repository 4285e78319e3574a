-- The exit statuses of the command: this project's profile.
use Rattle.std.specs.Prelude.{◌≡◌, ◌⊎◌, ℕ}
use Rattle.iop_base.specs.declared.stop.Stop.{Stop}
use Rattle.iop_base.specs.declared.stop.Stop.TheVariants as stops
use Rattle.iop_front.specs.declared.status.Status.{Status}
use Rattle.iop_front.specs.declared.status.Status.TheVariants.{Quiet, Budget, GuestFault, BadWords, BadScript, CannotRead, TooLong}
use Rattle.iop_front.specs.declared.status.Status.TheVariants.{SinkFault, BadSnapshot, NoMemory}

abbrev pub status_code : Status → ℕ
status_code Quiet = 0
status_code Budget = 10
status_code GuestFault = 11
status_code BadWords = 20
status_code BadScript = 21
status_code CannotRead = 22
status_code TooLong = 23
status_code SinkFault = 24
status_code BadSnapshot = 25
status_code NoMemory = 30

-- of a run that ended so, where no write failed
abbrev pub status_of : Stop → Status
status_of stops.Quiet = Quiet
status_of stops.Budget = Budget
status_of (stops.Fault fault pc) = GuestFault

abbrev pub IsRunCode : ℕ → Type 0
IsRunCode code = (code ≡ 0) ⊎ ((code ≡ 10) ⊎ (code ≡ 11))

-- of a run, also of one that was cut
abbrev pub IsRanCode : ℕ → Type 0
IsRanCode code = IsRunCode code ⊎ (code ≡ 24)

-- a refusal's
abbrev pub IsRefusalCode : ℕ → Type 0
IsRefusalCode code =
    (code ≡ 20) ⊎ ((code ≡ 21) ⊎ ((code ≡ 22) ⊎ ((code ≡ 23) ⊎ (code ≡ 25))))

-- all that a command answers
abbrev pub IsExitCode : ℕ → Type 0
IsExitCode code = IsRunCode code ⊎ (IsRefusalCode code ⊎ ((code ≡ 24) ⊎ (code ≡ 30)))

-- the statuses where a write may have failed: of a run that was cut, and of the refusals
abbrev pub IsCutCode : ℕ → Type 0
IsCutCode code = (code ≡ 24) ⊎ IsRefusalCode code
