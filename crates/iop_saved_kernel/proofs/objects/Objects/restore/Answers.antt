use Rattle.std.proofs.Common.{◌≡◌, refl}
use Rattle.std.proofs.lemmas.Result.{err_from_is_err_and}
use Rattle.iop_saved_kernel.specs.ObjectLists.{objects_form, objects_back}
use Rattle.iop_saved_kernel.specs.Tables.{tables_of}
use Rattle.iop_saved_kernel.specs.ThreadLists.{priority_among}
use Rattle.iop_saved_kernel.proofs.ObjectStages.{semaphores_fail, event_flags_fail, mailboxes_fail, variable_pools_fail, fixed_pools_fail, objects_are_back}
use Rattle.iop_saved_kernel.proofs.Results.{exits}
use Rattle.iop_saved_kernel.proofs.objects.Objects.restore.Goals as goal

pub returns-in_err-semaphores : goal.returns-in_err-semaphores
returns-in_err-semaphores c =
    let own = priority_among c.args.priorities.now.threads.items in
    let before = c.args.decoder.now in
    let fault = c.in_err-semaphores.field-0.0 in
    let residual = c.from_residual in
    let given = err_from_is_err_and residual.result residual.ensures.1 in
    let same : given.0 ≡ fault = cc in
    exits objects_form (objects_back own) (λ made state. state ≡ tables_of made) residual.result
    given.0 fault before c.restore_semaphores.new.decoder same given.1
    (semaphores_fail own before fault c.in_err-semaphores.ensures)

pub returns-in_err-event_flags : goal.returns-in_err-event_flags
returns-in_err-event_flags c =
    let own = priority_among c.args.priorities.now.threads.items in
    let before = c.args.decoder.now in
    let fault = c.in_err-event_flags.field-0.0 in
    let residual = c.from_residual-in_err-event_flags in
    let given = err_from_is_err_and residual.result residual.ensures.1 in
    let same : given.0 ≡ fault = cc in
    let (ss, s, same_s, s_back) = c.in_ok-semaphores.ensures in
    exits objects_form (objects_back own) (λ made state. state ≡ tables_of made) residual.result
    given.0 fault before c.restore_event_flags.new.decoder same given.1
    (event_flags_fail own before fault ss s c.restore_semaphores.new.decoder s_back c.in_err-event_flags.ensures)

pub returns-in_err-mailboxes : goal.returns-in_err-mailboxes
returns-in_err-mailboxes c =
    let own = priority_among c.args.priorities.now.threads.items in
    let before = c.args.decoder.now in
    let fault = c.in_err-mailboxes.field-0.0 in
    let residual = c.from_residual-in_err-mailboxes in
    let given = err_from_is_err_and residual.result residual.ensures.1 in
    let same : given.0 ≡ fault = cc in
    let (ss, s, same_s, s_back) = c.in_ok-semaphores.ensures in
    let (es, e, same_e, e_back) = c.in_ok-event_flags.ensures in
    exits objects_form (objects_back own) (λ made state. state ≡ tables_of made) residual.result
    given.0 fault before c.restore_mailboxes.new.decoder same given.1
    (mailboxes_fail own before fault ss s c.restore_semaphores.new.decoder s_back es e c.restore_event_flags.new.decoder e_back c.in_err-mailboxes.ensures)

pub returns-in_err-variable_pools : goal.returns-in_err-variable_pools
returns-in_err-variable_pools c =
    let own = priority_among c.args.priorities.now.threads.items in
    let before = c.args.decoder.now in
    let fault = c.in_err-variable_pools.field-0.0 in
    let residual = c.from_residual-in_err-variable_pools in
    let given = err_from_is_err_and residual.result residual.ensures.1 in
    let same : given.0 ≡ fault = cc in
    let (ss, s, same_s, s_back) = c.in_ok-semaphores.ensures in
    let (es, e, same_e, e_back) = c.in_ok-event_flags.ensures in
    let (ms, m, same_m, m_back) = c.in_ok-mailboxes.ensures in
    exits objects_form (objects_back own) (λ made state. state ≡ tables_of made) residual.result
    given.0 fault before c.restore_variable_pools.new.decoder same given.1
    (variable_pools_fail own before fault ss s c.restore_semaphores.new.decoder s_back es e c.restore_event_flags.new.decoder e_back ms m c.restore_mailboxes.new.decoder m_back c.in_err-variable_pools.ensures)

pub returns-in_err-fixed_pools : goal.returns-in_err-fixed_pools
returns-in_err-fixed_pools c =
    let own = priority_among c.args.priorities.now.threads.items in
    let before = c.args.decoder.now in
    let fault = c.in_err-fixed_pools.field-0.0 in
    let residual = c.from_residual-in_err-fixed_pools in
    let given = err_from_is_err_and residual.result residual.ensures.1 in
    let same : given.0 ≡ fault = cc in
    let (ss, s, same_s, s_back) = c.in_ok-semaphores.ensures in
    let (es, e, same_e, e_back) = c.in_ok-event_flags.ensures in
    let (ms, m, same_m, m_back) = c.in_ok-mailboxes.ensures in
    let (vs, v, same_v, v_back) = c.in_ok-variable_pools.ensures in
    exits objects_form (objects_back own) (λ made state. state ≡ tables_of made) residual.result
    given.0 fault before c.restore_fixed_pools.new.decoder same given.1
    (fixed_pools_fail own before fault ss s c.restore_semaphores.new.decoder s_back es e c.restore_event_flags.new.decoder e_back ms m c.restore_mailboxes.new.decoder m_back vs v c.restore_variable_pools.new.decoder v_back c.in_err-fixed_pools.ensures)

pub returns : goal.returns
returns c =
    let own = priority_among c.args.priorities.now.threads.items in
    let before = c.args.decoder.now in
    let (ss, s, same_s, s_back) = c.in_ok-semaphores.ensures in
    let (es, e, same_e, e_back) = c.in_ok-event_flags.ensures in
    let (ms, m, same_m, m_back) = c.in_ok-mailboxes.ensures in
    let (vs, v, same_v, v_back) = c.in_ok-variable_pools.ensures in
    let (fs, f, same_f, f_back) = c.in_ok-fixed_pools.ensures in (
      _,
      _,
      λ i. record {
        semaphores = same_s i;
        event_flags = same_e i;
        mailboxes = same_m i;
        variable_pools = same_v i;
        fixed_pools = same_f i;
      },
      objects_are_back own before c.restore_semaphores.new.decoder c.restore_event_flags.new.decoder c.restore_mailboxes.new.decoder c.restore_variable_pools.new.decoder c.restore_fixed_pools.new.decoder ss s es e ms m vs v fs f s_back e_back m_back v_back f_back,
    )
