-- The objects of all kinds are put back where those of each are.
use Rattle.std.proofs.Common.{◌≡◌, ℕ, Option, Some, None, List, refl}
use Rattle.std.specs.Prelude.{option_and_then}
use Rattle.iop_event.specs.EventFlags.{EventFlags}
use Rattle.iop_mbx.specs.Mailboxes.{Mailboxes}
use Rattle.iop_objects.specs.Objects.{no_objects}
use Rattle.iop_pools.specs.FixedPools.{FixedPools}
use Rattle.iop_pools.specs.VariablePools.{VariablePools}
use Rattle.iop_sema.specs.Semaphores.{Semaphores}
use Rattle.iop_saved_objects.specs.EventFlags.{SavedFlag, event_flag_form, put_event_flag}
use Rattle.iop_saved_objects.specs.FixedPools as fixed
use Rattle.iop_saved_objects.specs.FixedPools.{fixed_pool_form, put_fixed_pool}
use Rattle.iop_saved_objects.specs.Lists.{list_of}
use Rattle.iop_saved_objects.specs.Mailboxes.{SavedMailbox, mailbox_form, put_mailbox}
use Rattle.iop_saved_objects.specs.Semaphores.{SavedSemaphore, semaphore_form, put_semaphore}
use Rattle.iop_saved_objects.specs.VariablePools as variable
use Rattle.iop_saved_objects.specs.VariablePools.{variable_pool_form, put_variable_pool}
use Rattle.iop_snapshot.specs.Forms.{Form, both}
use Rattle.iop_snapshot.specs.Putting.{put_all}
use Rattle.iop_snapshot.specs.Reading.{GivesNone}
use Rattle.iop_snapshot.specs.declared.fault.SnapFault.{SnapFault}
use Rattle.iop_saved_kernel.specs.ObjectLists.{ObjectNest, ObjectTables, objects_form, objects_with, objects_parts, objects_back, semaphores_back, event_flags_back, mailboxes_back, variable_pools_back, fixed_pools_back}
use Rattle.iop_saved_kernel.specs.Restoring.{that_go_back, IsBack}
use Rattle.iop_saved_kernel.proofs.Stages.{gives_none, none_whole, first_fails, second_fails, both_back, form_both, back_both, seen_fails, seen_back}

-- the lists from a kind on
variable_lists : Form (List variable.SavedPool × List fixed.SavedPool)
variable_lists = both (list_of variable_pool_form) (λ _. list_of fixed_pool_form)

mailbox_lists : Form (List SavedMailbox × (List variable.SavedPool × List fixed.SavedPool))
mailbox_lists = both (list_of mailbox_form) (λ _. variable_lists)

flag_lists : Form (List SavedFlag
    × (List SavedMailbox × (List variable.SavedPool × List fixed.SavedPool)))
flag_lists = both (list_of event_flag_form) (λ _. mailbox_lists)

all_lists : Form ObjectNest
all_lists = both (list_of semaphore_form) (λ _. flag_lists)

module _ (priorities : ℕ → Option ℕ) where
  -- and those behind others, from the last kind on
  from_fixed_pools : Semaphores → EventFlags → Mailboxes → VariablePools
      → List fixed.SavedPool → Option ObjectTables
  from_fixed_pools s e m v lists =
      option_and_then (λ f. Some (record {
        semaphores = s;
        event_flags = e;
        mailboxes = m;
        variable_pools = v;
        fixed_pools = f;
      }))
      (fixed_pools_back priorities lists)

  from_variable_pools : Semaphores → EventFlags → Mailboxes
      → List variable.SavedPool × List fixed.SavedPool → Option ObjectTables
  from_variable_pools s e m =
      back_both (list_of variable_pool_form) (list_of fixed_pool_form) (variable_pools_back priorities)
      (λ xs v. from_fixed_pools s e m v)

  from_mailboxes : Semaphores → EventFlags
      → List SavedMailbox × (List variable.SavedPool × List fixed.SavedPool)
      → Option ObjectTables
  from_mailboxes s e =
      back_both (list_of mailbox_form) variable_lists (mailboxes_back priorities)
      (λ xs m. from_variable_pools s e m)

  from_event_flags : Semaphores
      → List SavedFlag
      × (List SavedMailbox × (List variable.SavedPool × List fixed.SavedPool))
      → Option ObjectTables
  from_event_flags s =
      back_both (list_of event_flag_form) mailbox_lists (event_flags_back priorities)
      (λ xs e. from_mailboxes s e)

  all_back : ObjectNest → Option ObjectTables
  all_back =
      back_both (list_of semaphore_form) flag_lists (semaphores_back priorities) (λ xs s. from_event_flags s)

  module _ (before : List ℕ) (fault : SnapFault) where
    abbrev NoneGoBack : Type 0
    NoneGoBack = GivesNone ((that_go_back objects_form (objects_back priorities)).read before) fault

    seen : GivesNone ((that_go_back all_lists all_back).read before) fault → NoneGoBack
    unfolding objects_back objects_form all_lists flag_lists mailbox_lists variable_lists all_back from_event_flags from_mailboxes from_variable_pools from_fixed_pools
    seen = seen_fails all_lists objects_with objects_parts (objects_back priorities) before fault

    -- where the semaphores cannot be put back, nothing can
    pub semaphores_fail :
        GivesNone ((that_go_back (list_of semaphore_form) (semaphores_back priorities)).read before) fault
        → NoneGoBack
    unfolding all_lists all_back
    semaphores_fail none =
        seen (first_fails (list_of semaphore_form) flag_lists (semaphores_back priorities)
        (λ xs s. from_event_flags s) before fault none)

    module _ (ss : List SavedSemaphore) (s : Semaphores) (first : List ℕ)
        (are_s : IsBack (list_of semaphore_form) (semaphores_back priorities) ss s before first) where
      behind_semaphores :
          GivesNone ((that_go_back flag_lists (from_event_flags s)).read first) fault → NoneGoBack
      unfolding all_lists all_back
      behind_semaphores none =
          seen (second_fails (list_of semaphore_form) flag_lists (semaphores_back priorities)
          (λ xs t. from_event_flags t) ss s before first are_s fault none)

      -- the same of event flags behind semaphores that were put back, and so on
      pub event_flags_fail :
          GivesNone ((that_go_back (list_of event_flag_form) (event_flags_back priorities)).read first) fault
          → NoneGoBack
      unfolding flag_lists from_event_flags
      event_flags_fail none =
          behind_semaphores (first_fails (list_of event_flag_form) mailbox_lists (event_flags_back priorities)
          (λ xs e. from_mailboxes s e) first fault none)

      module _ (es : List SavedFlag) (e : EventFlags) (second : List ℕ)
          (are_e : IsBack (list_of event_flag_form) (event_flags_back priorities) es e first second) where
        behind_flags :
            GivesNone ((that_go_back mailbox_lists (from_mailboxes s e)).read second) fault
            → NoneGoBack
        unfolding flag_lists from_event_flags
        behind_flags none =
            behind_semaphores (second_fails (list_of event_flag_form) mailbox_lists
            (event_flags_back priorities) (λ xs t. from_mailboxes s t) es e first second are_e fault none)

        pub mailboxes_fail :
            GivesNone ((that_go_back (list_of mailbox_form) (mailboxes_back priorities)).read second) fault
            → NoneGoBack
        unfolding mailbox_lists from_mailboxes
        mailboxes_fail none =
            behind_flags (first_fails (list_of mailbox_form) variable_lists (mailboxes_back priorities)
            (λ xs m. from_variable_pools s e m) second fault none)

        module _ (ms : List SavedMailbox) (m : Mailboxes) (third : List ℕ)
            (are_m : IsBack (list_of mailbox_form) (mailboxes_back priorities) ms m second third) where
          behind_mailboxes :
              GivesNone ((that_go_back variable_lists (from_variable_pools s e m)).read third) fault
              → NoneGoBack
          unfolding mailbox_lists from_mailboxes
          behind_mailboxes none =
              behind_flags (second_fails (list_of mailbox_form) variable_lists (mailboxes_back priorities)
              (λ xs t. from_variable_pools s e t) ms m second third are_m fault none)

          pub variable_pools_fail :
              GivesNone ((that_go_back (list_of variable_pool_form) (variable_pools_back priorities)).read third)
              fault
              → NoneGoBack
          unfolding variable_lists from_variable_pools
          variable_pools_fail none =
              behind_mailboxes (first_fails (list_of variable_pool_form) (list_of fixed_pool_form)
              (variable_pools_back priorities) (λ xs v. from_fixed_pools s e m v) third fault none)

          module _ (vs : List variable.SavedPool) (v : VariablePools) (fourth : List ℕ)
              (are_v : IsBack (list_of variable_pool_form) (variable_pools_back priorities) vs v third fourth)
            where
              pub fixed_pools_fail :
                  GivesNone ((that_go_back (list_of fixed_pool_form) (fixed_pools_back priorities)).read fourth) fault
                  → NoneGoBack
              unfolding variable_lists from_variable_pools from_fixed_pools
              fixed_pools_fail none =
                  behind_mailboxes (second_fails (list_of variable_pool_form) (list_of fixed_pool_form)
                  (variable_pools_back priorities) (λ xs t. from_fixed_pools s e m t) vs v third fourth are_v fault
                  (gives_none fault ((that_go_back (list_of fixed_pool_form) (fixed_pools_back priorities)).read fourth)
                  ((that_go_back (list_of fixed_pool_form) (from_fixed_pools s e m v)).read fourth)
                  (none_whole (list_of fixed_pool_form) (fixed_pools_back priorities) (from_fixed_pools s e m v)
                  (λ xs is. rw is refl) fourth) none))

  -- where all are, they are the tables
  module _ (before first second third fourth rest : List ℕ) (ss : List SavedSemaphore)
      (s : Semaphores) (es : List SavedFlag) (e : EventFlags) (ms : List SavedMailbox)
      (m : Mailboxes) (vs : List variable.SavedPool) (v : VariablePools)
      (fs : List fixed.SavedPool) (f : FixedPools)
      (are_s : IsBack (list_of semaphore_form) (semaphores_back priorities) ss s before first)
      (are_e : IsBack (list_of event_flag_form) (event_flags_back priorities) es e first second)
      (are_m : IsBack (list_of mailbox_form) (mailboxes_back priorities) ms m second third)
      (are_v : IsBack (list_of variable_pool_form) (variable_pools_back priorities) vs v third fourth)
      (are_f : IsBack (list_of fixed_pool_form) (fixed_pools_back priorities) fs f fourth rest) where
    abbrev tables : ObjectTables
    tables = record {
      semaphores = s;
      event_flags = e;
      mailboxes = m;
      variable_pools = v;
      fixed_pools = f;
    }

    fixed_here : IsBack (list_of fixed_pool_form) (from_fixed_pools s e m v) fs tables fourth rest
    unfolding from_fixed_pools
    fixed_here = record { is_read = are_f.is_read; is_back = rw are_f.is_back refl }

    variable_here : IsBack variable_lists (from_variable_pools s e m) (vs, fs) tables third rest
    unfolding variable_lists from_variable_pools
    variable_here =
        both_back (list_of variable_pool_form) (list_of fixed_pool_form) (variable_pools_back priorities)
        (λ xs t. from_fixed_pools s e m t) vs v third fourth are_v fs tables rest fixed_here

    mailboxes_here : IsBack mailbox_lists (from_mailboxes s e) (ms, (vs, fs)) tables second rest
    unfolding mailbox_lists from_mailboxes
    mailboxes_here =
        both_back (list_of mailbox_form) variable_lists (mailboxes_back priorities)
        (λ xs t. from_variable_pools s e t) ms m second third are_m (vs, fs) tables rest
        variable_here

    flags_here : IsBack flag_lists (from_event_flags s) (es, (ms, (vs, fs))) tables first rest
    unfolding flag_lists from_event_flags
    flags_here =
        both_back (list_of event_flag_form) mailbox_lists (event_flags_back priorities)
        (λ xs t. from_mailboxes s t) es e first second are_e (ms, (vs, fs)) tables rest
        mailboxes_here

    all_here : IsBack all_lists all_back (ss, (es, (ms, (vs, fs)))) tables before rest
    unfolding all_lists all_back
    all_here =
        both_back (list_of semaphore_form) flag_lists (semaphores_back priorities)
        (λ xs t. from_event_flags t) ss s before first are_s (es, (ms, (vs, fs))) tables rest
        flags_here

    pub objects_are_back : IsBack objects_form (objects_back priorities)
        (objects_with (ss, (es, (ms, (vs, fs))))) tables before rest
    unfolding objects_back objects_form all_lists flag_lists mailbox_lists variable_lists all_back from_event_flags from_mailboxes from_variable_pools from_fixed_pools
    objects_are_back =
        seen_back all_lists objects_with objects_parts (objects_back priorities)
        (ss, (es, (ms, (vs, fs)))) tables before rest all_here
