-- What the laws of saved objects say.
use Rattle.std.specs.Prelude.{◌≡◌, ℕ, Option, Some, option_and_then, List, All}
use Rattle.iop_event.specs.EventFlags.{EventFlags}
use Rattle.iop_event.specs.Restoring as event_flags
use Rattle.iop_mbx.specs.Mailboxes.{Mailboxes}
use Rattle.iop_mbx.specs.Restoring as mailboxes
use Rattle.iop_objects.specs.Objects.{Objects, no_objects}
use Rattle.iop_objects.specs.Restoring.{with_next_back}
use Rattle.iop_pools.specs.FixedPools.{FixedPools}
use Rattle.iop_pools.specs.FixedRestoring as fixed_pools
use Rattle.iop_pools.specs.VariablePools.{VariablePools}
use Rattle.iop_pools.specs.VariableRestoring as variable_pools
use Rattle.iop_sema.specs.Restoring as semaphores
use Rattle.iop_sema.specs.Semaphores.{Semaphores}
use Rattle.iop_snapshot.specs.Forms.{IsLawful, series}
use Rattle.iop_snapshot.specs.Putting.{put_all, next_form}
use Rattle.iop_snapshot.specs.declared.widths.TheConstants.{MAILBOX_WAITER, VARIABLE_POOL_WAITER}
use Rattle.iop_saved_objects.specs.EventFlags.{saved_flags, event_flag_form, put_event_flag}
use Rattle.iop_saved_objects.specs.FixedPools.{fixed_pool_form, put_fixed_pool}
use Rattle.iop_saved_objects.specs.FixedPools as fixed
use Rattle.iop_saved_objects.specs.Mailboxes.{saved_mailboxes, mailbox_form, put_mailbox}
use Rattle.iop_saved_objects.specs.Semaphores.{saved_semaphores, semaphore_form, put_semaphore}
use Rattle.iop_saved_objects.specs.VariablePools.{variable_pool_form, put_variable_pool}
use Rattle.iop_saved_objects.specs.VariablePools as variable
use Rattle.iop_saved_objects.specs.Waiters.{HavePriorities}

-- what was spelled is read, whatever follows, and what was read is what is spelled
pub record FormsAreLawful (priorities : ℕ → Option ℕ) : Type 0 where
  pub semaphores : (s : Semaphores)
      → IsLawful (series semaphore_form (next_form (put_semaphore priorities) semaphore_form s))
  pub event_flags : (s : EventFlags)
      → IsLawful (series event_flag_form (next_form (put_event_flag priorities) event_flag_form s))
  pub mailboxes : (s : Mailboxes)
      → IsLawful (series mailbox_form (next_form (put_mailbox priorities) mailbox_form s))
  pub variable_pools : (s : VariablePools) → IsLawful (series variable_pool_form
      (next_form (put_variable_pool priorities) variable_pool_form s))
  pub fixed_pools : (s : FixedPools)
      → IsLawful (series fixed_pool_form (next_form (put_fixed_pool priorities) fixed_pool_form s))
  -- who waits for a mailbox and who waits for a variable pool are spelled by one form
  pub alike : MAILBOX_WAITER ≡ VARIABLE_POOL_WAITER

-- all that waits in a table waits with the priority of its thread
abbrev pub AllHavePriorities : {A W : Type 0} (priorities : ℕ → Option ℕ) → Objects A W → Type 0
AllHavePriorities priorities s = All (λ o. HavePriorities priorities o.waiters) s.live

module _ {A W X : Type 0} where
  -- what was saved of a table, and its next id, is put back into one of none, and gives it again
  abbrev pub ComesBack : (put : Objects A W → X → Option (Objects A W))
      → (saved : Objects A W → List X) → Objects A W → Type 0
  ComesBack put saved s =
      option_and_then (λ t. with_next_back t s.next) (put_all put no_objects (saved s)) ≡ Some s

  -- what was put back into a table of none is what would be saved of it, and all that waits in it
  -- waits with the priority of its thread
  abbrev pub TellsWhatWasPut : (put : Objects A W → X → Option (Objects A W))
      → (saved : Objects A W → List X) → (priorities : ℕ → Option ℕ) → Type 0
  TellsWhatWasPut put saved priorities =
      (xs : List X) (s : Objects A W) → put_all put no_objects xs ≡ Some s
      → (saved s ≡ xs) × AllHavePriorities priorities s

-- a table as it can stand comes back from what was saved of it
pub record TablesComeBack (priorities : ℕ → Option ℕ) : Type 0 where
  pub semaphores : (s : Semaphores) → semaphores.CanBeRestored s → AllHavePriorities priorities s
      → ComesBack (put_semaphore priorities) saved_semaphores s
  pub event_flags : (s : EventFlags) → event_flags.CanBeRestored s
      → AllHavePriorities priorities s → ComesBack (put_event_flag priorities) saved_flags s
  pub mailboxes : (s : Mailboxes) → mailboxes.CanBeRestored s → AllHavePriorities priorities s
      → ComesBack (put_mailbox priorities) saved_mailboxes s
  pub variable_pools : (s : VariablePools) → variable_pools.AreRegular s
      → AllHavePriorities priorities s
      → ComesBack (put_variable_pool priorities) variable.saved_pools s
  pub fixed_pools : (s : FixedPools) → fixed_pools.AreRegular s → AllHavePriorities priorities s
      → ComesBack (put_fixed_pool priorities) fixed.saved_pools s

-- a table of none into which objects were put back tells them again
pub record TablesTellWhatWasPut (priorities : ℕ → Option ℕ) : Type 0 where
  pub semaphores : TellsWhatWasPut (put_semaphore priorities) saved_semaphores priorities
  pub event_flags : TellsWhatWasPut (put_event_flag priorities) saved_flags priorities
  pub mailboxes : TellsWhatWasPut (put_mailbox priorities) saved_mailboxes priorities
  pub variable_pools : TellsWhatWasPut (put_variable_pool priorities) variable.saved_pools
      priorities
  pub fixed_pools : TellsWhatWasPut (put_fixed_pool priorities) fixed.saved_pools priorities
