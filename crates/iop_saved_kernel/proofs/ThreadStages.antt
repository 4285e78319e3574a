-- Threads are put back where the live ones and the ready ones are.
use Rattle.std.proofs.Common.{◌≡◌, ℕ, true, false, cond, Option, Some, None, List, refl}
use Rattle.std.specs.Prelude.{option_and_then}
use Rattle.iop_saved_threads.specs.Tables.{put_thread, put_ready, id_form, next_ready}
use Rattle.iop_saved_threads.specs.Threads.{read_form}
use Rattle.iop_saved_objects.specs.Lists.{list_of}
use Rattle.iop_snapshot.specs.Forms.{Form, both, series, read_list}
use Rattle.iop_snapshot.specs.Putting.{put_all, next_form}
use Rattle.iop_snapshot.specs.Reading.{GivesNone}
use Rattle.iop_snapshot.specs.declared.fault.SnapFault.{SnapFault}
use Rattle.iop_snapshot.specs.declared.fault.SnapFault.TheVariants.{Bad}
use Rattle.iop_thread.specs.Restoring.{no_threads, is_complete, with_running_back}
use Rattle.iop_thread.specs.ThreadTable.{ThreadTable}
use Rattle.iop_thread.specs.declared.thread.Thread.{Thread}
use Rattle.iop_saved_kernel.specs.Restoring.{that_go_back, IsBack}
use Rattle.iop_saved_kernel.specs.ThreadLists.{ThreadLists, read_threads, threads_form, threads_with, threads_parts, threads_back, ready_back}
use Rattle.iop_saved_kernel.proofs.Stages.{unread, refused, first_fails, second_fails, both_back, seen_fails, seen_back, list_fails, list_back}

-- the lists, one behind the other
abbrev ready_ids : Form (List ℕ)
ready_ids = series id_form next_ready

abbrev both_lists : Form (List Thread × List ℕ)
both_lists = both (list_of read_form) (λ _. ready_ids)

abbrev live_back : List Thread → Option ThreadTable
live_back = put_all put_thread no_threads

module _ (running : Option ℕ) (before : List ℕ) where
  module _ (fault : SnapFault) where
    abbrev NoneGoBack : Type 0
    NoneGoBack =
        GivesNone ((that_go_back read_threads (threads_back running)).read before) fault

    seen : GivesNone ((that_go_back both_lists
        (λ lists. threads_back running (threads_with lists))).read before) fault → NoneGoBack
    unfolding threads_back threads_form
    seen = seen_fails both_lists threads_with threads_parts (threads_back running) before fault

    -- where the live ones cannot be put back
    pub live_fail :
        GivesNone (read_list (next_form put_thread read_form no_threads) before) fault → NoneGoBack
    unfolding threads_back
    live_fail none =
        seen (first_fails (list_of read_form) ready_ids live_back
        (λ xs t. ready_back running t) before fault
        (list_fails put_thread read_form no_threads no_threads refl before fault none))

  module _ (live : List Thread) (t : ThreadTable) (middle : List ℕ)
      (put : live_back live ≡ Some t)
      (read : read_list (next_form put_thread read_form no_threads) before ≡ Some (live, middle))
    where
      live_is : IsBack (list_of read_form) live_back live t before middle
      live_is = list_back put_thread read_form no_threads no_threads refl live t before middle put read

      behind_live : (fault : SnapFault)
          → GivesNone ((that_go_back ready_ids (ready_back running t)).read middle) fault
          → NoneGoBack fault
      unfolding threads_back
      behind_live fault none =
          seen fault (second_fails (list_of read_form) ready_ids live_back
          (λ xs u. ready_back running u) live t before middle live_is fault none)

      -- where no ids of ready ones can be read
      pub ready_fail : (fault : SnapFault) → GivesNone (read_list next_ready middle) fault
          → NoneGoBack fault
      unfolding read_list
      ready_fail fault none =
          behind_live fault (unread ready_ids (ready_back running t) middle fault none)

      module _ (ready : List ℕ) (rest : List ℕ)
          (ids : read_list next_ready middle ≡ Some (ready, rest)) where
        -- where they cannot be put back
        pub ready_refused : put_all put_ready t ready ≡ None → NoneGoBack Bad
        ready_refused is =
            behind_live Bad (refused ready_ids (ready_back running t) ready middle rest ids
            (rw is refl))

        module _ (u : ThreadTable) (ready_put : put_all put_ready t ready ≡ Some u) where
          -- where another one runs, or one that is ready was not put back
          pub incomplete : is_complete u running ≡ false → NoneGoBack Bad
          incomplete is =
              behind_live Bad (refused ready_ids (ready_back running t) ready middle rest ids
              (rw (ready_put, is) refl))

          -- else they are back
          pub threads_are_back : is_complete u running ≡ true
              → IsBack read_threads (threads_back running)
              (threads_with (live, ready)) u before rest
          unfolding threads_back threads_form
          threads_are_back is =
              seen_back both_lists threads_with threads_parts (threads_back running) (live, ready) u
              before rest
              (both_back (list_of read_form) ready_ids live_back (λ xs v. ready_back running v) live t
              before middle live_is ready u rest
              (record { is_read = ids; is_back = rw (ready_put, is) refl }))
