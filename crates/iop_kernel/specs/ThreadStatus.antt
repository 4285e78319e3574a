-- The status of a thread (ps2sdk: thbase.h; the codes are those of its kerr.h). The words that
-- ReferThreadStatus writes, and the conditions and the order of the refusals, are this project's
-- own profile.
use Rattle.std.specs.Prelude.{ℕ, Option, Some, None, List, [], ◌∷◌, ◌++◌}
use Rattle.iop_base.specs.declared.code.TheConstants.Code.{OK, ILLEGAL_THREAD, UNKNOWN_THREAD}
use Rattle.iop_base.specs.declared.guest_fault.GuestFault.TheVariants.{Address}
use Rattle.iop_thread.specs.States.{wait_in, state_number, kind_number, object_of}
use Rattle.iop_thread.specs.ThreadTable.{thread_of}
use Rattle.iop_thread.specs.declared.thread.Thread.{Thread}
use Rattle.iop_thread.specs.declared.wait.Wait.{Wait}
use Rattle.iop_kernel.specs.Answering.{only_answers}
use Rattle.iop_kernel.specs.Boards.{bytes_of_words}
use Rattle.iop_kernel.specs.NamedThreads.{named}
use Rattle.iop_kernel.specs.System.{caller, answers, faults, System, Served, silent, on_core, words_place, stores, storing_lines}
use Rattle.iop_kernel.specs.declared.thread_status.TheConstants.{STATUS_WORDS}

-- a wait is told in two words
abbrev pub wait_words : Option Wait → List ℕ
wait_words None = 0 ∷ 0 ∷ []
wait_words (Some wait) = kind_number wait ∷ object_of wait ∷ []

-- the words of a thread's status
abbrev pub status_words : Thread → List ℕ
status_words t =
    t.param.attr ∷ t.param.option ∷ state_number t.state ∷ t.param.entry
    ∷ t.stack ∷ t.param.stack_size ∷ t.gp ∷ t.param.priority ∷ t.priority
    ∷ (wait_words (wait_in t.state) ++ t.wakeups ∷ [])

abbrev pub status_bytes : Thread → List ℕ
status_bytes t = bytes_of_words (status_words t)

module _ (s : System) where
  -- by the thread of the id
  abbrev pub refers_it : (place : ℕ) → Option Thread → Served
  refers_it place None = only_answers s UNKNOWN_THREAD
  refers_it place (Some t) = record {
    left = on_core (stores s (Some place) (status_bytes t)) (answers s.core OK);
    pieces = storing_lines s (Some place) (status_bytes t);
  }

  -- by the thread that is named
  abbrev pub refers_to : (place : ℕ) → Option ℕ → Served
  refers_to place None = only_answers s ILLEGAL_THREAD
  refers_to place (Some id) = refers_it place (thread_of s.core.kernel.threads.live id)

  -- by the place of the words
  abbrev pub refers_at : (id : ℕ) → Option ℕ → Served
  refers_at id None = silent (faults s Address)
  refers_at id (Some place) = refers_to place (named (caller s.core) id)

  -- ReferThreadStatus
  abbrev pub refer_thread_status : (id at : ℕ) → Served
  refer_thread_status id at = refers_at id (words_place s.memory at STATUS_WORDS)
