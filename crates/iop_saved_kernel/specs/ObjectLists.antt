-- How the objects of all kinds are spelled, each with the threads that wait for it, and how they
-- are put back. This project's own profile.
use Rattle.std.specs.Prelude.{ℕ, Option, Some, option_and_then, List}
use Rattle.iop_objects.specs.Objects.{no_objects}
use Rattle.iop_event.specs.EventFlags.{EventFlags}
use Rattle.iop_mbx.specs.Mailboxes.{Mailboxes}
use Rattle.iop_pools.specs.FixedPools.{FixedPools}
use Rattle.iop_pools.specs.VariablePools.{VariablePools}
use Rattle.iop_sema.specs.Semaphores.{Semaphores}
use Rattle.iop_saved_objects.specs.EventFlags.{SavedFlag, saved_flags, event_flag_form, put_event_flag}
use Rattle.iop_saved_objects.specs.FixedPools as fixed
use Rattle.iop_saved_objects.specs.FixedPools.{fixed_pool_form, put_fixed_pool}
use Rattle.iop_saved_objects.specs.Lists.{list_of}
use Rattle.iop_saved_objects.specs.Mailboxes.{SavedMailbox, saved_mailboxes, mailbox_form, put_mailbox}
use Rattle.iop_saved_objects.specs.Semaphores.{SavedSemaphore, saved_semaphores, semaphore_form, put_semaphore}
use Rattle.iop_saved_objects.specs.VariablePools as variable
use Rattle.iop_saved_objects.specs.VariablePools.{variable_pool_form, put_variable_pool}
use Rattle.iop_snapshot.specs.Forms.{Form, both, seen_as}
use Rattle.iop_snapshot.specs.Putting.{put_all}

-- the tables of all kinds
pub record ObjectTables : Type 0 where
  pub semaphores : Semaphores
  pub event_flags : EventFlags
  pub mailboxes : Mailboxes
  pub variable_pools : VariablePools
  pub fixed_pools : FixedPools

-- what is spelled of each kind, by ids
pub record ObjectLists : Type 0 where
  pub semaphores : List SavedSemaphore
  pub event_flags : List SavedFlag
  pub mailboxes : List SavedMailbox
  pub variable_pools : List variable.SavedPool
  pub fixed_pools : List fixed.SavedPool

-- the same, one behind the other
abbrev pub ObjectNest : Type 0
ObjectNest =
    List SavedSemaphore × (List SavedFlag × (List SavedMailbox
    × (List variable.SavedPool × List fixed.SavedPool)))

abbrev pub objects_with : ObjectNest → ObjectLists
objects_with lists = record {
  semaphores = lists.0;
  event_flags = lists.1.0;
  mailboxes = lists.1.1.0;
  variable_pools = lists.1.1.1.0;
  fixed_pools = lists.1.1.1.1;
}

abbrev pub objects_parts : ObjectLists → ObjectNest
objects_parts lists = (
  lists.semaphores,
  (lists.event_flags, (lists.mailboxes, (lists.variable_pools, lists.fixed_pools))),
)

abbrev pub objects_nest : Form ObjectNest
objects_nest =
    both (list_of semaphore_form) (λ _. both (list_of event_flag_form)
    (λ _. both (list_of mailbox_form) (λ _. both (list_of variable_pool_form)
    (λ _. list_of fixed_pool_form))))

unfoldable pub objects_form : Form ObjectLists
objects_form = seen_as objects_nest (λ lists. Some (objects_with lists)) objects_parts

-- what is spelled of these tables
abbrev pub object_lists : ObjectTables → ObjectLists
object_lists tables = record {
  semaphores = saved_semaphores tables.semaphores;
  event_flags = saved_flags tables.event_flags;
  mailboxes = saved_mailboxes tables.mailboxes;
  variable_pools = variable.saved_pools tables.variable_pools;
  fixed_pools = fixed.saved_pools tables.fixed_pools;
}

module _ (priorities : ℕ → Option ℕ) where
  -- those of each kind are put back into a table of none, where threads have these priorities
  abbrev pub semaphores_back : List SavedSemaphore → Option Semaphores
  semaphores_back = put_all (put_semaphore priorities) no_objects

  abbrev pub event_flags_back : List SavedFlag → Option EventFlags
  event_flags_back = put_all (put_event_flag priorities) no_objects

  abbrev pub mailboxes_back : List SavedMailbox → Option Mailboxes
  mailboxes_back = put_all (put_mailbox priorities) no_objects

  abbrev pub variable_pools_back : List variable.SavedPool → Option VariablePools
  variable_pools_back = put_all (put_variable_pool priorities) no_objects

  abbrev pub fixed_pools_back : List fixed.SavedPool → Option FixedPools
  fixed_pools_back = put_all (put_fixed_pool priorities) no_objects

  -- and so are those of all kinds
  unfoldable pub objects_back : ObjectLists → Option ObjectTables
  objects_back lists =
      option_and_then (λ semaphores. option_and_then (λ event_flags. option_and_then
      (λ mailboxes. option_and_then (λ variable_pools. option_and_then
      (λ fixed_pools. Some (record {
        semaphores = semaphores;
        event_flags = event_flags;
        mailboxes = mailboxes;
        variable_pools = variable_pools;
        fixed_pools = fixed_pools;
      }))
      (fixed_pools_back lists.fixed_pools))
      (variable_pools_back lists.variable_pools))
      (mailboxes_back lists.mailboxes))
      (event_flags_back lists.event_flags))
      (semaphores_back lists.semaphores)
