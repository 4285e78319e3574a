use Rattle.std.proofs.Common.{◌≡◌, ◌∙◌, take, sym, subst, arith}
use Rattle.std.proofs.lemmas.List.{take_all}
use Rattle.iop_saved_threads.proofs.Numbers.{register_fits}
use Rattle.iop_saved_threads.proofs.cpu.registers_of.Goals as goal

pub overflow_cast-registers : goal.overflow_cast-registers
overflow_cast-registers c =
    omega (
      arith,
      register_fits c.args.numbers.now c.loop-index.index c.requires c.loop-index-test.true,
    )

pub returns : goal.returns
returns c =
    let (long, same) = c.loop-index.invariant in
    let all : c.loop-index.index ≡ 32 = omega arith in
    sym (take_all 32 c.loop-index.registers (omega (arith, long)))
    ∙ subst (λ i. take i c.loop-index.registers ≡ take i c.args.numbers.now) all same
