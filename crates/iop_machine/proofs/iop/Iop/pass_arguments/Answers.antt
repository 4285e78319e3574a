use Rattle.iop_machine.specs.declared.arguments.TheConstants.{ARGUMENTS, ARGUMENTS_LEN}
use Rattle.iop_machine.specs.Storing.{stores_bytes}
use Rattle.iop_machine.proofs.Storing.{stores_takes, fills_takes}
use Rattle.iop_machine.proofs.StandingLemmas.{takes_then}
use Rattle.iop_machine.proofs.iop.Iop.pass_arguments.Goals as goal

pub returns : goal.returns
returns g c s h =
    let filled = fills_takes c.args.self.now c.now-clock.result c.now-clock.ensures.moment
    c.fill.new.self ARGUMENTS ARGUMENTS_LEN c.fill.ensures.memory c.fill.ensures.lines s h in
    takes_then filled (λ v. stores_bytes v ARGUMENTS c.args.block.now)
    (stores_takes _ c.now-clock.result c.now-clock.ensures.moment c.store_bytes.new.self ARGUMENTS
    c.args.block.now c.store_bytes.ensures.memory c.store_bytes.ensures.lines _ filled.state)
