use Rattle.std.proofs.Common.{refl}
use Rattle.iop_thread.proofs.Handling.{may_become}
use Rattle.iop_thread.proofs.threads.Threads.set_state.Goals as goal

pub returns : goal.returns
returns g c = λ place s h at.
    let t = c.args.found.now.thread in
    c.set.ensures place s h
    (may_become place s c.args.found.now.slot t at (record t { state = c.args.state }) refl refl)
