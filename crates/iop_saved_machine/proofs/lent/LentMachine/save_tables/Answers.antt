use Rattle.std.proofs.Common.{length, ap, arith}
use Rattle.iop_saved_machine.proofs.Blocks.{few_used}
use Rattle.iop_saved_machine.proofs.lent.LentMachine.save_tables.Goals as goal

pub prove-unreachable-requires : goal.prove-unreachable-requires
prove-unreachable-requires g c =
    let few = few_used c.args.self.now.blocks.now c.size.ensures.blocks in
    omega (arith, few, c.if-prove.true, c.size.ensures.value, ap length c.used.ensures.used)
