use Rattle.std.proofs.Common.{◌^◌, arith}
use Rattle.std.proofs.lemmas.Nat.{div-add-mod'}
use Rattle.iop_exec.proofs.Splicing.{splice_fits}
use Rattle.iop_exec.proofs.arithmetic.splice.Goals as goal

pub overflow_add-result : goal.overflow_add-result
overflow_add-result c =
    let fits = splice_fits c.args.bit c.args.upper c.args.lower c.requires (omega arith) in
    omega (arith, div-add-mod' c.args.upper (2 ^ c.args.bit), fits)
