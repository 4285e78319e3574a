use Rattle.std.proofs.Common.{◌≡◌, ◌∙◌, [], ◌∷◌, take, subst, arith}
use Rattle.iop_base.specs.Numbers.{one_if}
use Rattle.iop_snapshot.proofs.Flags.{flag_number, flag_small}
use Rattle.iop_saved_threads.specs.Processors.{pending_register, pending_value}
use Rattle.iop_saved_threads.proofs.Numbers.{numbers_put, cpu_fits, rest_fits}
use Rattle.iop_saved_threads.proofs.cpu.numbers_of_cpu.Goals as goal

pub returns-clause-numbers : goal.returns-clause-numbers
returns-clause-numbers c =
    let (long, same, small) = c.loop-index.invariant in
    let all : c.loop-index.index ≡ 32 = omega arith in
    rw (
      c.from-2.ensures,
      c.from-3.ensures,
      c.from-4.ensures,
      c.from-5.ensures,
      c.from-6.ensures ∙ flag_number c.args.cpu.in_slot,
      c.pending_register.ensures.register,
      c.pending_value.ensures.value,
    )
    (numbers_put c.loop-index.numbers c.args.cpu.regs long (omega arith)
    (subst (λ i. take i c.loop-index.numbers ≡ take i c.args.cpu.regs) all same) _ _ _ _ _ _ _)

pub returns-clause-fits : goal.returns-clause-fits
returns-clause-fits c =
    let (long, same, small) = c.loop-index.invariant in
    let cpu = c.args.cpu in
    cpu_fits cpu.regs (cpu.hi ∷ cpu.lo ∷ cpu.pc ∷ cpu.next ∷ one_if cpu.in_slot
    ∷ pending_register cpu.pending ∷ pending_value cpu.pending ∷ []) (omega arith) (λ k below. small k (omega arith))
    (rest_fits c.args.cpu.hi c.args.cpu.lo c.args.cpu.pc c.args.cpu.next (one_if c.args.cpu.in_slot)
    (pending_register c.args.cpu.pending) (pending_value c.args.cpu.pending) (omega arith) (omega arith) (omega arith) (omega arith)
    (flag_small c.args.cpu.in_slot)
    (omega (arith, c.pending_register.ensures.register, c.pending_register.ensures.below))
    (omega (arith, c.pending_value.ensures.value, c.pending_value.ensures.below)))
