use Rattle.iop_time.proofs.Results.{results_go}
use Rattle.iop_time.proofs.laws.results_go_to_their_alarm.Goals as goal

pub returns : goal.returns
returns c = λ timers alarm moment gp ticks h stands.
    results_go timers h alarm stands.0 stands.1 stands.2 moment gp ticks
