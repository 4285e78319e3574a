use Rattle.iop_base.specs.declared.line.Line.TheVariants.{Load}
use Rattle.iop_machine.specs.Loading.{begins, passes}
use Rattle.iop_machine.specs.Iop.{with_state}
use Rattle.iop_machine.specs.Standing.{Stands}
use Rattle.iop_machine.proofs.LoadingLemmas.{stands_begun}
use Rattle.iop_machine.proofs.StandingLemmas.{tells_takes, takes_then, takes_with}
use Rattle.iop_machine.proofs.iop.Iop.enter.Goals as goal

pub returns : goal.returns
returns g c s h =
    let number = c.args.number in
    let loaded = c.args.loaded.now in
    let words = c.args.words in
    let told = tells_takes c.args.self.now c.now.result c.now.ensures.moment
    (Load number loaded.place.base loaded.place.len) c.line.ensures s h in
    takes_then told (λ v. with_state (λ u. begins u number loaded words) (passes v c.args.block.now))
    (takes_with (c.pass_arguments.ensures s h) Stands (λ u. begins u number loaded words) _
    (stands_begun _ number loaded words _ c.module_start-self.ensures _))
