use Rattle.std.proofs.Common.{◌≡◌, refl}
use Rattle.std.proofs.lemmas.Result.{err_from_is_err_and}
use Rattle.iop_saved_objects.specs.Lists.{list_of}
use Rattle.iop_saved_tables.specs.Records.{alarm_form, delay_form}
use Rattle.iop_saved_tables.specs.Tables.{put_alarm, put_delay}
use Rattle.iop_snapshot.specs.Putting.{put_all}
use Rattle.iop_time.specs.Timers.{no_timers}
use Rattle.iop_saved_kernel.specs.TimerLists.{timers_form, timers_with, timers_parts, timers_back}
use Rattle.iop_saved_kernel.proofs.Results.{exits, list_restores, second_restores, seen_restores}
use Rattle.iop_saved_kernel.proofs.Stages.{first_fails, form_both, seen_fails, list_fails, list_back}
use Rattle.iop_saved_kernel.proofs.timers.restore_timers.Goals as goal

pub returns-in_err-clock-2 : goal.returns-in_err-clock-2
unfolding timers_back timers_form
returns-in_err-clock-2 c =
    let fault = c.in_err-clock-2.field-0.0 in
    let residual = c.from_residual-in_err-clock-2 in
    let given = err_from_is_err_and residual.result residual.ensures.1 in
    let same : given.0 ≡ fault = cc in
    let alarms = list_of alarm_form in
    let delays = list_of delay_form in
    let before = c.args.decoder.now in
    exits timers_form timers_back (λ made state. state ≡ made) residual.result given.0 fault before
    c.restore_alarms.new.decoder same given.1
    (seen_fails (form_both alarms delays (put_all put_alarm no_timers) (λ xs t. put_all put_delay t))
    timers_with timers_parts timers_back before fault
    (first_fails alarms delays (put_all put_alarm no_timers) (λ xs t. put_all put_delay t) before
    fault
    (list_fails put_alarm alarm_form no_timers c.in_ok-clock.clock c.in_ok-clock.ensures.timers before
    fault c.in_err-clock-2.ensures)))

pub returns : goal.returns
unfolding timers_back timers_form
returns c =
    let alarms = list_of alarm_form in
    let delays = list_of delay_form in
    let before = c.args.decoder.now in
    let middle = c.restore_alarms.new.decoder in
    let rest = c.restore_delays.new.decoder in
    let clock = c.in_ok-clock-2.clock in
    let (xs, put, read) = c.in_ok-clock-2.ensures in
    seen_restores (form_both alarms delays (put_all put_alarm no_timers) (λ xs t. put_all put_delay t))
    timers_with timers_parts timers_back (λ made state. state ≡ made) c.restore_delays.result before
    rest
    (second_restores alarms delays (put_all put_alarm no_timers) (λ xs t. put_all put_delay t)
    (λ made state. state ≡ made) xs clock before middle rest
    (list_back put_alarm alarm_form no_timers c.in_ok-clock.clock c.in_ok-clock.ensures.timers xs
    clock before middle put read)
    c.restore_delays.result
    (list_restores put_delay delay_form clock clock refl c.restore_delays.result middle rest
    c.restore_delays.ensures))
