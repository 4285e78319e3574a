use Rattle.std.proofs.Common.{◌≡◌, false, true, is_some, ap, sym, ◌∙◌}
use Rattle.std.proofs.lemmas.Result.{err_from_is_err_and}
use Rattle.iop_saved_threads.specs.Tables.{put_ready}
use Rattle.iop_snapshot.specs.Putting.{put_all}
use Rattle.iop_saved_kernel.specs.ThreadLists.{read_threads, threads_with, threads_back}
use Rattle.iop_saved_kernel.proofs.Results.{exits}
use Rattle.iop_saved_kernel.proofs.ThreadStages.{live_fail, ready_fail, ready_refused, incomplete, threads_are_back}
use Rattle.iop_saved_kernel.proofs.threads.restore_threads.Goals as goal

pub returns-in_err-threads : goal.returns-in_err-threads
returns-in_err-threads g c =
    let running = c.args.running in
    let before = c.args.decoder.now in
    let fault = c.in_err-threads.field-0.0 in
    let given = err_from_is_err_and c.from_residual.result c.from_residual.ensures.1 in
    let same : given.0 ≡ fault = cc in
    exits read_threads (threads_back running) _ c.from_residual.result given.0 fault
    before c.restore_threads.new.decoder same given.1
    (live_fail running before fault c.in_err-threads.ensures)

pub returns-in_err-ids : goal.returns-in_err-ids
returns-in_err-ids g c =
    let running = c.args.running in
    let before = c.args.decoder.now in
    let fault = c.in_err-ids.field-0.0 in
    let residual = c.from_residual-in_err-ids in
    let given = err_from_is_err_and residual.result residual.ensures.1 in
    let same : given.0 ≡ fault = cc in
    let (live, t, back, put, read) = c.in_ok-threads.ensures in
    exits read_threads (threads_back running) _ residual.result given.0 fault before
    c.restore_ready.new.decoder same given.1
    (ready_fail running before live t c.restore_threads.new.decoder put read fault
    c.in_err-ids.ensures)

pub put_ready-requires : goal.put_ready-requires
put_ready-requires g c =
    let (live, t, back, put, read) = c.in_ok-threads.ensures in record { sound = (t, back) }

pub returns-in_default : goal.returns-in_default
returns-in_default g c =
    let (live, t, back, put, read) = c.in_ok-threads.ensures in
    ready_refused c.args.running c.args.decoder.now live t c.restore_threads.new.decoder put read
    c.in_ok-ids.ids.items c.restore_ready.new.decoder c.in_ok-ids.ensures
    (ap (put_all put_ready t) (sym c.deref.ensures.value) ∙ c.in_default.ensures t back)

pub returns-in_default-finish : goal.returns-in_default-finish
returns-in_default-finish g c =
    let (live, t, back, put, read) = c.in_ok-threads.ensures in
    let (u, has, ready) = c.in-Some.ensures t back in
    incomplete c.args.running c.args.decoder.now live t c.restore_threads.new.decoder put read
    c.in_ok-ids.ids.items c.restore_ready.new.decoder c.in_ok-ids.ensures u
    (ap (put_all put_ready t) (sym c.deref.ensures.value) ∙ ready)
    (sym (c.finish.ensures.may u has) ∙ ap is_some c.in_default-finish.is)

pub returns : goal.returns
returns g c =
    let (live, t, back, put, read) = c.in_ok-threads.ensures in
    let (u, has, ready) = c.in-Some.ensures t back in
    let items = c.in_ok-ids.ids.items in (
      threads_with (live, items),
      u,
      c.in-Some-finish.ensures.table u has,
      threads_are_back c.args.running c.args.decoder.now live t c.restore_threads.new.decoder put
          read items c.restore_ready.new.decoder c.in_ok-ids.ensures u
          (ap (put_all put_ready t) (sym c.deref.ensures.value) ∙ ready)
          (sym (c.finish.ensures.may u has) ∙ ap is_some c.in-Some-finish.is),
    )
