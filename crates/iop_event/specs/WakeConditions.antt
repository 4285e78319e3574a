-- The conditions for which threads wait on an event flag (ps2sdk: thevent.h). That the other bits of a mode
-- are not looked at, and that each waiter is tested on the pattern that those before it leave, is this
-- project's own profile.
use Rattle.std.specs.Prelude.{ℕ, ◌==◌, Bool, not, if◌then◌else◌, List, [], ◌∷◌, bit_and}
use Rattle.iop_event.specs.declared.met.Met.{Met}
use Rattle.iop_event.specs.declared.wanted.TheConstants.{EITHER, CLEAR}
use Rattle.iop_event.specs.declared.wanted.Wanted.{Wanted}
use Rattle.iop_queues.specs.declared.queued.Queued.{Queued}
use Rattle.iop_objects.specs.declared.waiter.Waiter.{Waiter}

-- whether a mode has a bit
abbrev pub has_bit : ℕ → ℕ → Bool
has_bit mode bit = not (bit_and mode bit == 0)

-- whether a condition on bits holds of a pattern: one of the bits is set, or all of them
abbrev pub holds : (bits mode pattern : ℕ) → Bool
holds bits mode pattern =
    if has_bit mode EITHER then not (bit_and pattern bits == 0) else bit_and pattern bits == bits

-- whether that of a waiting thread does
abbrev pub is_met : ℕ → Waiter Wanted → Bool
is_met pattern waiter = holds waiter.wants.bits waiter.wants.mode pattern

-- the pattern that is left once a condition of a mode held of it
abbrev pub pattern_after : (mode pattern : ℕ) → ℕ
pattern_after mode pattern = if has_bit mode CLEAR then 0 else pattern

abbrev pub met_by : ℕ → Waiter Wanted → Met
met_by pattern waiter =
    record { thread = waiter.thread; place = waiter.wants.place; pattern = pattern }

-- the threads whose conditions hold, those that wait on, and the pattern that is left
pub record Settled : Type 0 where
  pub met : List Met
  pub waiters : List (Queued (Waiter Wanted))
  pub pattern : ℕ

abbrev pub meets : Met → Settled → Settled
meets one s = record s { met = one ∷ s.met }

abbrev pub stays : Queued (Waiter Wanted) → Settled → Settled
stays one s = record s { waiters = one ∷ s.waiters }

-- each waiting thread in order, on the pattern as it then stands
abbrev pub settles : (pattern : ℕ) → List (Queued (Waiter Wanted)) → Settled
settles pattern [] = record { met = []; waiters = []; pattern = pattern }
settles pattern (x ∷ xs) =
    if is_met pattern x.item
    then meets (met_by pattern x.item) (settles (pattern_after x.item.wants.mode pattern) xs)
    else stays x (settles pattern xs)
