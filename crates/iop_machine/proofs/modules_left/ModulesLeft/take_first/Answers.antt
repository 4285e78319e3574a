use Rattle.std.proofs.Common.{◌∙◌, ap, sym, subst, arith}
use Rattle.std.specs.Prelude.{All}
use Rattle.std.proofs.lemmas.List.Elements.{All-drop}
use Rattle.iop_machine.specs.Modules.{HasRoom, modules_of, without_first}
use Rattle.iop_machine.specs.ModulesLeft.{modules_left}
use Rattle.iop_machine.proofs.ModulesTaken.{none_taken, one_taken, rest_is}
use Rattle.iop_machine.proofs.modules_left.ModulesLeft.take_first.Goals as goal

pub invariant_of-self : goal.invariant_of-self
invariant_of-self c =
    let w = c.self.inside in
    let taken = one_taken w (omega (arith, c.len.ensures, c.if-self-len.true)) in
    record {
      room = subst (All HasRoom)
          (sym (ap modules_of taken ∙ rest_is (modules_left w)))
          (All-drop HasRoom 1 _ c.self.invariant.room);
      args = c.self.invariant.args;
      named = c.self.invariant.named;
      some = c.self.invariant.some;
      few = c.self.invariant.few;
      taken = omega (arith, c.len.ensures, c.if-self-len.true);
    }

pub returns-then-self-len-clause-taken : goal.returns-then-self-len-clause-taken
returns-then-self-len-clause-taken c =
    one_taken c.self.inside (omega (arith, c.len.ensures, c.if-self-len.true))
    ∙ ap without_first c.self.view_is

pub returns-then-self-len-clause-rest : goal.returns-then-self-len-clause-rest
returns-then-self-len-clause-rest c =
    ap modules_of (returns-then-self-len-clause-taken c) ∙ rest_is c.args.self.now

pub returns-else-self-len-clause-taken : goal.returns-else-self-len-clause-taken
returns-else-self-len-clause-taken c =
    sym c.self.view_is
    ∙ none_taken c.self.inside (omega (arith, c.len.ensures, c.if-self-len.false))
    ∙ ap without_first c.self.view_is

pub returns-else-self-len-clause-rest : goal.returns-else-self-len-clause-rest
returns-else-self-len-clause-rest c =
    ap modules_of (returns-else-self-len-clause-taken c) ∙ rest_is c.args.self.now
