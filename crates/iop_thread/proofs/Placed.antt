-- Threads are placed at first, and stay so whatever is done.
use Rattle.std.proofs.Common.{[], arith}
use Rattle.std.proofs.lemmas.Bool.Decides.{nat_tests}
use Rattle.iop_thread.specs.ThreadTable.{ThreadTable}
use Rattle.iop_thread.specs.declared.thread.TheConstants.{LOADER, LOADER_STACK}
use Rattle.iop_thread.specs.Operations.{dormant_thread, loader_param, opening}
use Rattle.iop_thread.specs.Placing.{IsPlaced}
use Rattle.iop_thread.specs.Laws.{KeepsPlaces, OperationsKeepPlaces}
use Rattle.iop_thread.proofs.IdOrder.{added_in_order, none_in_order}
use Rattle.iop_thread.proofs.Starting.{placed_creates, placed_deletes, placed_starts, placed_begins, placed_ends_running, placed_terminates}
use Rattle.iop_thread.proofs.Waking.{placed_blocks, placed_wakes, placed_suspends, placed_resumes, placed_wakes_up, placed_cancels, placed_takes_wakeup}
use Rattle.iop_thread.proofs.Dispatching.{placed_changes, placed_rotates, placed_dispatches}

-- the loader's thread alone is placed
pub placed_opening : IsPlaced opening
placed_opening = record {
  ready = λ id. grind (arith, nat_tests);
  running = λ id. grind (arith, nat_tests);
  ids = added_in_order [] LOADER none_in_order (dormant_thread LOADER loader_param LOADER_STACK 0)
      (omega arith) (omega arith) (omega arith);
}

-- each operation leaves threads that are placed
pub keeps_places : (s : ThreadTable) → IsPlaced s → KeepsPlaces s
keeps_places s placed = record {
  creates = placed_creates s placed;
  deletes = placed_deletes s placed;
  starts = placed_starts s placed;
  begins = λ registers any. placed_begins s placed registers;
  ends_running = placed_ends_running s placed;
  terminates = placed_terminates s placed;
  changes = placed_changes s placed;
  rotates = λ priority registers any. placed_rotates s placed priority registers;
  blocks = λ wait registers any so. placed_blocks s placed wait registers;
  wakes = placed_wakes s placed;
  suspends = λ id registers any. placed_suspends s placed id registers;
  resumes = placed_resumes s placed;
  wakes_up = placed_wakes_up s placed;
  cancels = placed_cancels s placed;
  takes_wakeup = placed_takes_wakeup s placed;
  dispatches = λ registers d any did. (placed_dispatches s placed registers d did, tt);
}

pub operations_keep_places : OperationsKeepPlaces
operations_keep_places = record { opening = placed_opening; keeps = keeps_places }
