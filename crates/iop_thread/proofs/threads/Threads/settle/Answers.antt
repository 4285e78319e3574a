use Rattle.iop_thread.specs.ThreadTable.{leaves}
use Rattle.iop_thread.proofs.Handling.{is_in_leaving}
use Rattle.iop_thread.proofs.threads.Threads.settle.Goals as goal

pub returns : goal.returns
returns g c = λ place s h at.
    let t = c.args.found.now.thread in
    c.set_state.ensures place (leaves s t t.state) (c.leave.ensures place s h at)
    (is_in_leaving place s c.args.found.now.slot t at t.state)
