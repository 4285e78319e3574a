use Rattle.iop_thread.specs.declared.state.State.TheVariants.{Ready}
use Rattle.iop_thread.proofs.Handling.{may_change, enters, enters_first}
use Rattle.iop_thread.proofs.threads.Threads.put_first.Goals as goal

pub add_first-requires : goal.add_first-requires
add_first-requires g c =
    let (place, s, h, can) = c.requires in
    let ready = Ready c.args.registers in
    let change = may_change place s c.args.slot c.args.thread can ready in
    enters g.R.Ready.stands place c.set.new.self s c.args.slot c.args.thread c.args.registers can
    (c.set.ensures place s h change)

pub returns : goal.returns
returns g c = λ place s h can.
    let change = may_change place s c.args.slot c.args.thread can (Ready c.args.registers) in
    enters_first g.R.Ready.stands place c.set.new.self s c.args.slot c.args.thread c.args.registers
    can (c.set.ensures place s h change) c.add_first.new.self c.add_first.ensures
