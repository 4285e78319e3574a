-- Calls of which those with a listed number fail. The numbers go from 1 on. This project's own
-- profile.
use Rattle.std.specs.Prelude.{ℕ, Bool, if◌then◌else◌, ◌==◌, List}
use Rattle.std.specs.List.{list_any}
use Rattle.iop_base.specs.Counts.{risen}

pub record Calls : Type 0 where
  -- the numbers of the calls that fail
  pub fail : List ℕ
  -- how many calls were made
  pub made : ℕ
  -- how many of them failed
  pub faults : ℕ

-- before the first call
abbrev pub no_calls : List ℕ → Calls
no_calls fail = record { fail = fail; made = 0; faults = 0 }

-- whether the number of the next call is listed
abbrev pub is_listed : Calls → Bool
is_listed calls = list_any (λ number. number == risen calls.made) calls.fail

-- after one more call, which failed or not
abbrev pub with_call : Bool → Calls → Calls
with_call fails calls = record calls {
  made = risen calls.made;
  faults = if fails then risen calls.faults else calls.faults;
}
