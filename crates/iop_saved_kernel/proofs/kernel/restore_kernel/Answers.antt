use Rattle.std.proofs.Common.{◌≡◌, true, false, Option, Some, None, List, refl, sym, ap, subst, ◌∙◌}
use Rattle.std.proofs.lemmas.Result.{err_from_is_err_and}
use Rattle.iop_saved_kernel.specs.ObjectLists.{ObjectLists, ObjectTables, objects_form, objects_back}
use Rattle.iop_kernel.specs.Standing.{Holds}
use Rattle.iop_kernel.specs.System.{Core}
use Rattle.iop_saved_kernel.specs.Executing.{had}
use Rattle.iop_saved_kernel.specs.Parts.{steady_form_of_parts, core_back, parts_with, kernel_with, with_next}
use Rattle.iop_saved_kernel.specs.Restoring.{that_go_back, IsBack}
use Rattle.iop_saved_kernel.specs.ThreadLists.{priorities_in, priority_among}
use Rattle.iop_saved_kernel.specs.declared.priorities.ThreadPriority.{ThreadPriority}
use Rattle.iop_saved_kernel.proofs.Holding.{cause_holds}
use Rattle.iop_saved_kernel.proofs.KernelStages.{executing_fails, threads_fail, objects_fail, timers_fail, lines_fail, next_fails, next_refused, core_is_back}
use Rattle.iop_saved_kernel.proofs.Results.{exits}
use Rattle.iop_snapshot.specs.Reading.{GivesNone}
use Rattle.iop_saved_kernel.proofs.kernel.restore_kernel.Goals as goal

pub returns-in_default : goal.returns-in_default
returns-in_default g c = executing_fails c.args.decoder.now c.in_default.ensures.read

pub returns-in_err-threads : goal.returns-in_err-threads
returns-in_err-threads g c =
    let before = c.args.decoder.now in
    let fault = c.in_err-threads.field-0.0 in
    let given = err_from_is_err_and c.from_residual.result c.from_residual.ensures.1 in
    let same : given.0 ≡ fault = cc in
    exits steady_form_of_parts core_back _ c.from_residual.result given.0 fault before
    c.restore_threads.new.decoder same given.1
    (threads_fail before c.in-Some.executing c.restore.new.decoder c.in-Some.ensures.read fault
    c.in_err-threads.ensures)

pub of-priorities-requires : goal.of-priorities-requires
of-priorities-requires g c =
    let (ts, t, stands, back) = c.in_ok-threads.ensures in record { sound = (t, stands) }

pub returns-in_err-objects : goal.returns-in_err-objects
returns-in_err-objects g c =
    let before = c.args.decoder.now in
    let fault = c.in_err-objects.field-0.0 in
    let residual = c.from_residual-in_err-objects in
    let given = err_from_is_err_and residual.result residual.ensures.1 in
    let same : given.0 ≡ fault = cc in
    let (ts, t, stands, t_back) = c.in_ok-threads.ensures in
    exits steady_form_of_parts core_back _ residual.result given.0 fault before
    c.restore-2.new.decoder same given.1
    (objects_fail before c.in-Some.executing c.restore.new.decoder c.in-Some.ensures.read ts t
    c.restore_threads.new.decoder t_back fault
    (subst (λ (items : List ThreadPriority). GivesNone ((that_go_back objects_form
    (objects_back (priority_among items))).read c.restore_threads.new.decoder) fault)
    (c.of-priorities.ensures t stands) c.in_err-objects.ensures))

pub returns-in_err-timers : goal.returns-in_err-timers
returns-in_err-timers g c =
    let fault = c.in_err-timers.field-0.0 in
    let residual = c.from_residual-in_err-timers in
    let given = err_from_is_err_and residual.result residual.ensures.1 in
    let same : given.0 ≡ fault = given.2 in
    let before = c.args.decoder.now in
    let e = c.in-Some.executing in
    let one = c.restore.new.decoder in
    let is_e = c.in-Some.ensures.read in
    let (ts, t, stands, t_back) = c.in_ok-threads.ensures in
    let two = c.restore_threads.new.decoder in
    let (os, o, same_o, own_back) = c.in_ok-objects.ensures in
    let three = c.restore-2.new.decoder in
    let o_back = subst (λ (items : List ThreadPriority).
    IsBack objects_form (objects_back (priority_among items)) os o two three)
    (c.of-priorities.ensures t stands) own_back in
    exits steady_form_of_parts core_back _ residual.result given.0 fault before
    c.restore_timers.new.decoder same given.1
    (timers_fail before e one is_e ts t two t_back os o three o_back fault c.in_err-timers.ensures)

pub returns-in_default-restore_lines : goal.returns-in_default-restore_lines
returns-in_default-restore_lines g c =
    let before = c.args.decoder.now in
    let e = c.in-Some.executing in
    let one = c.restore.new.decoder in
    let is_e = c.in-Some.ensures.read in
    let (ts, t, stands, t_back) = c.in_ok-threads.ensures in
    let two = c.restore_threads.new.decoder in
    let (os, o, same_o, own_back) = c.in_ok-objects.ensures in
    let three = c.restore-2.new.decoder in
    let o_back = subst (λ (items : List ThreadPriority).
    IsBack objects_form (objects_back (priority_among items)) os o two three)
    (c.of-priorities.ensures t stands) own_back in
    let (ms, m, same_m, m_back) = c.in_ok-timers.ensures in
    let four = c.restore_timers.new.decoder in
    lines_fail before e one is_e ts t two t_back os o three o_back ms m four m_back
    c.in_default-restore_lines.ensures

pub returns-in_default-restore_next : goal.returns-in_default-restore_next
returns-in_default-restore_next g c =
    let before = c.args.decoder.now in
    let e = c.in-Some.executing in
    let one = c.restore.new.decoder in
    let is_e = c.in-Some.ensures.read in
    let (ts, t, stands, t_back) = c.in_ok-threads.ensures in
    let two = c.restore_threads.new.decoder in
    let (os, o, same_o, own_back) = c.in_ok-objects.ensures in
    let three = c.restore-2.new.decoder in
    let o_back = subst (λ (items : List ThreadPriority).
    IsBack objects_form (objects_back (priority_among items)) os o two three)
    (c.of-priorities.ensures t stands) own_back in
    let (ms, m, same_m, m_back) = c.in_ok-timers.ensures in
    let four = c.restore_timers.new.decoder in
    let irqs = c.in-Some-restore_lines.irqs in
    let is_irqs = c.in-Some-restore_lines.ensures in
    let five = c.restore_lines.new.decoder in
    next_fails before e one is_e ts t two t_back os o three o_back ms m four m_back irqs five
    is_irqs c.in_default-restore_next.ensures

pub returns-then-not-had_number : goal.returns-then-not-had_number
returns-then-not-had_number g c =
    let before = c.args.decoder.now in
    let e = c.in-Some.executing in
    let one = c.restore.new.decoder in
    let is_e = c.in-Some.ensures.read in
    let (ts, t, stands, t_back) = c.in_ok-threads.ensures in
    let two = c.restore_threads.new.decoder in
    let (os, o, same_o, own_back) = c.in_ok-objects.ensures in
    let three = c.restore-2.new.decoder in
    let o_back = subst (λ (items : List ThreadPriority).
    IsBack objects_form (objects_back (priority_among items)) os o two three)
    (c.of-priorities.ensures t stands) own_back in
    let (ms, m, same_m, m_back) = c.in_ok-timers.ensures in
    let four = c.restore_timers.new.decoder in
    let irqs = c.in-Some-restore_lines.irqs in
    let is_irqs = c.in-Some-restore_lines.ensures in
    let five = c.restore_lines.new.decoder in
    let next = c.in-Some-restore_next.next in
    let is_next = c.in-Some-restore_next.ensures in
    let rest = c.restore_next.new.decoder in
    next_refused before e one is_e ts t two t_back os o three o_back ms m four m_back irqs five
    is_irqs next rest is_next (rw (sym c.had_number.ensures ∙ c.if-not-had_number.true) refl)

pub returns-then-not-put_next : goal.returns-then-not-put_next
returns-then-not-put_next g c =
    let before = c.args.decoder.now in
    let e = c.in-Some.executing in
    let one = c.restore.new.decoder in
    let is_e = c.in-Some.ensures.read in
    let (ts, t, stands, t_back) = c.in_ok-threads.ensures in
    let two = c.restore_threads.new.decoder in
    let (os, o, same_o, own_back) = c.in_ok-objects.ensures in
    let three = c.restore-2.new.decoder in
    let o_back = subst (λ (items : List ThreadPriority).
    IsBack objects_form (objects_back (priority_among items)) os o two three)
    (c.of-priorities.ensures t stands) own_back in
    let (ms, m, same_m, m_back) = c.in_ok-timers.ensures in
    let four = c.restore_timers.new.decoder in
    let irqs = c.in-Some-restore_lines.irqs in
    let is_irqs = c.in-Some-restore_lines.ensures in
    let five = c.restore_lines.new.decoder in
    let next = c.in-Some-restore_next.next in
    let is_next = c.in-Some-restore_next.ensures in
    let rest = c.restore_next.new.decoder in
    let holds : Holds g.R.Ready.stands _ (kernel_with e t o m irqs) = record {
      clock = refl;
      interrupts = refl;
      dispatching = refl;
      handler = sym c.handler.ensures;
      cause = cause_holds e c.in-Some.ensures.sound;
      threads = stands;
      semaphores = ap (λ (x : ObjectTables). x.semaphores) same_o;
      event_flags = ap (λ (x : ObjectTables). x.event_flags) same_o;
      mailboxes = ap (λ (x : ObjectTables). x.mailboxes) same_o;
      variable_pools = ap (λ (x : ObjectTables). x.variable_pools) same_o;
      fixed_pools = ap (λ (x : ObjectTables). x.fixed_pools) same_o;
      timers = same_m;
      irqs = refl;
    } in
    let put = c.put_next.ensures (kernel_with e t o m irqs) holds in
    next_refused before e one is_e ts t two t_back os o three o_back ms m four m_back irqs five
    is_irqs next rest is_next
    (rw (
      sym c.had_number.ensures ∙ c.if-not-had_number.false,
      sym put.0 ∙ c.if-not-put_next.true,
    ) refl)

pub returns : goal.returns
returns g c =
    let before = c.args.decoder.now in
    let e = c.in-Some.executing in
    let one = c.restore.new.decoder in
    let is_e = c.in-Some.ensures.read in
    let (ts, t, stands, t_back) = c.in_ok-threads.ensures in
    let two = c.restore_threads.new.decoder in
    let (os, o, same_o, own_back) = c.in_ok-objects.ensures in
    let three = c.restore-2.new.decoder in
    let o_back = subst (λ (items : List ThreadPriority).
    IsBack objects_form (objects_back (priority_among items)) os o two three)
    (c.of-priorities.ensures t stands) own_back in
    let (ms, m, same_m, m_back) = c.in_ok-timers.ensures in
    let four = c.restore_timers.new.decoder in
    let irqs = c.in-Some-restore_lines.irqs in
    let is_irqs = c.in-Some-restore_lines.ensures in
    let five = c.restore_lines.new.decoder in
    let next = c.in-Some-restore_next.next in
    let is_next = c.in-Some-restore_next.ensures in
    let rest = c.restore_next.new.decoder in
    let holds : Holds g.R.Ready.stands _ (kernel_with e t o m irqs) = record {
      clock = refl;
      interrupts = refl;
      dispatching = refl;
      handler = sym c.handler.ensures;
      cause = cause_holds e c.in-Some.ensures.sound;
      threads = stands;
      semaphores = ap (λ (x : ObjectTables). x.semaphores) same_o;
      event_flags = ap (λ (x : ObjectTables). x.event_flags) same_o;
      mailboxes = ap (λ (x : ObjectTables). x.mailboxes) same_o;
      variable_pools = ap (λ (x : ObjectTables). x.variable_pools) same_o;
      fixed_pools = ap (λ (x : ObjectTables). x.fixed_pools) same_o;
      timers = same_m;
      irqs = refl;
    } in
    let put = c.put_next.ensures (kernel_with e t o m irqs) holds in
    let core : Core = record {
      kernel = with_next (kernel_with e t o m irqs) next;
      cpu = had e.cpu;
    } in (
      parts_with (e, (ts, (os, (ms, (irqs, next))))),
      core,
      record { kernel = put.1 c.if-not-put_next.false; cpu = sym c.registers_had-cpu.ensures },
      core_is_back before e one is_e ts t two t_back os o three o_back ms m four m_back irqs five
          is_irqs next rest is_next core
          (rw (
            sym c.had_number.ensures ∙ c.if-not-had_number.false,
            sym put.0 ∙ c.if-not-put_next.false,
          ) refl),
    )
