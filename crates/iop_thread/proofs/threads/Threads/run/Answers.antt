use Rattle.iop_thread.proofs.Handling.{goes_to_processor}
use Rattle.iop_thread.proofs.threads.Threads.run.Goals as goal

pub returns-clause-state : goal.returns-clause-state
returns-clause-state g c = λ place s h at.
    goes_to_processor g.R.Ready.stands place c.set_state.new.self s c.args.found.now.slot
    c.args.found.now.thread (c.set_state.ensures place s h at) at c.remove.new.self c.remove.ensures
