use Rattle.std.proofs.Common.{sym, ◌∙◌, subst}
use Rattle.iop_kernel.proofs.Order.Nothing.{none_of}
use Rattle.iop_machine.specs.Standing.{Stands}
use Rattle.iop_machine.proofs.Elements.{there}
use Rattle.iop_machine.proofs.Forgetting.{forgets_none, stands_without_kept, stands_without_registers}
use Rattle.iop_machine.proofs.iop.Iop.forget_registers.Goals as goal

pub returns-then-is_some : goal.returns-then-is_some
returns-then-is_some c s h =
    let found = there c.running.result (sym c.is_some.ensures ∙ c.if-is_some.true) in
    let runs = sym (c.running.ensures s.kernel.threads h.kernel.holds.threads) ∙ found.1 in
    subst (Stands c.args.self.now) (sym (forgets_none s found.0 runs)) h

pub returns-in-Some : goal.returns-in-Some
returns-in-Some c s h =
    let none = sym (c.running.ensures s.kernel.threads h.kernel.holds.threads)
    ∙ none_of c.running.result (sym c.is_some.ensures ∙ c.if-is_some.false) in
    stands_without_kept c.args.self.now s h none c.in-Some.handler _ c.registers_at.ensures
    c.in-Some.is

pub returns-in-None : goal.returns-in-None
returns-in-None c s h =
    let none = sym (c.running.ensures s.kernel.threads h.kernel.holds.threads)
    ∙ none_of c.running.result (sym c.is_some.ensures ∙ c.if-is_some.false) in
    stands_without_registers c.args.self.now s h none _ c.registers_at-self.ensures c.in-None.is
