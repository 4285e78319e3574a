use Rattle.iop_snapshot.proofs.Listing.{series_lawful}
use Rattle.iop_snapshot.proofs.Putting.{next_series}
use Rattle.iop_snapshot.specs.Putting.{next_form}
use Rattle.iop_thread.specs.Restoring.{no_threads}
use Rattle.iop_saved_threads.specs.Laws.{FormsAreLawful}
use Rattle.iop_saved_threads.specs.Tables.{put_thread, id_form, next_ready}
use Rattle.iop_saved_threads.specs.Threads.{read_form}
use Rattle.iop_saved_threads.proofs.ReadyBack.{ready_series}
use Rattle.iop_saved_threads.proofs.ProcessorLaws.{steady_lawful, kept_lawful}
use Rattle.iop_saved_threads.proofs.ThreadLaws.{threads_lawful, same_spelling}
use Rattle.iop_saved_threads.proofs.laws.forms_are_lawful.Goals as goal

lawful : FormsAreLawful
lawful = record {
  steady = steady_lawful;
  kept = kept_lawful;
  threads = threads_lawful;
  same = same_spelling;
  live = series_lawful read_form (next_form put_thread read_form no_threads)
      (next_series put_thread read_form threads_lawful no_threads);
  ready = series_lawful id_form next_ready ready_series;
}

pub returns : goal.returns
returns c = lawful
