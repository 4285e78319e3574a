use Rattle.std.proofs.Common.{◌^◌, refl, arith}
use Rattle.std.proofs.lemmas.Bool.{lt-ltb}
use Rattle.iop_saved_objects.proofs.semaphores.numbers_of_semaphore.Goals as goal

pub returns-clause-fits : goal.returns-clause-fits
returns-clause-fits c =
    let head = c.args.head in
    let x = head.state in
    rw (
      lt-ltb head.id (256 ^ 4) (omega arith),
      lt-ltb x.attr (256 ^ 4) (omega arith),
      lt-ltb x.option (256 ^ 4) (omega arith),
      lt-ltb x.initial (256 ^ 4) (omega arith),
      lt-ltb x.max (256 ^ 4) (omega arith),
      lt-ltb x.count (256 ^ 4) (omega arith),
    ) refl
