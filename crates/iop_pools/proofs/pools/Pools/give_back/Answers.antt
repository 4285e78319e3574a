use Rattle.std.proofs.Common.{◌≡◌, ◌∙◌, sym, ap, subst, Some, None, List}
use Rattle.std.specs.List.{position}
use Rattle.iop_pools.specs.Pools.{frees}
use Rattle.iop_pools.specs.Standing.{pools_in, IsTable}
use Rattle.iop_pools.specs.Walks.{is_this, without_out}
use Rattle.iop_pools.specs.declared.out.Out.{Out}
use Rattle.iop_pools.proofs.Freeing.{IsTable-freed, frees_unknown, freed_answer, freed_left, not_freed}
use Rattle.iop_pools.proofs.Outs.{taken-is}
use Rattle.iop_pools.proofs.pools.Pools.give_back.Goals as goal

at : (g : _) (c : goal.After-remove g)
    → Some c.in-Some.place ≡ position (is_this c.args.id c.args.block) c.self.inside.outs.items
at g c = let found = c.in-Some.ensures in rw c.deref.ensures.value at found

left_is : (g : _) (c : goal.After-remove g)
    → c.remove.new.self.items ≡ without_out c.args.id c.args.block c.self.inside.outs.items
left_is g c =
    c.remove.ensures.items
    ∙ taken-is c.args.id c.args.block c.self.inside.outs.items c.in-Some.place (at g c)

none : (g : _) (c : goal.In-None g)
    → None ≡ position (is_this c.args.id c.args.block) c.self.inside.outs.items
none g c = let found = c.in-None.ensures in rw c.deref.ensures.value at found

pub invariant_of-self : goal.invariant_of-self
invariant_of-self g c = (
  subst (λ (l : List Out). IsTable c.self.inside.objects l g.row.MOST) (sym (left_is g c))
      (IsTable-freed c.self.inside.objects c.self.inside.outs.items g.row.MOST c.self.invariant.0
      c.args.id c.args.block),
  rw c.remove.ensures.capacity c.self.invariant.1,
)

pub returns-in_err-state-clause-answer : goal.returns-in_err-state-clause-answer
returns-in_err-state-clause-answer g c =
    c.from_residual.ensures
    ∙ ap (λ t. t.0) (sym (frees_unknown c.self.inside.objects c.self.inside.outs.items g.row.MOST
    c.self.invariant.0 c.args.id c.args.block c.in_err-state.ensures.known))
    ∙ ap (λ s. (frees s c.args.id c.args.block).0) c.self.view_is

pub returns-in_err-state-clause-left : goal.returns-in_err-state-clause-left
returns-in_err-state-clause-left g c =
    sym c.self.view_is
    ∙ ap (λ t. t.1) (sym (frees_unknown c.self.inside.objects c.self.inside.outs.items g.row.MOST
    c.self.invariant.0 c.args.id c.args.block c.in_err-state.ensures.known))
    ∙ ap (λ s. (frees s c.args.id c.args.block).1) c.self.view_is

pub returns-in-Some-clause-answer : goal.returns-in-Some-clause-answer
returns-in-Some-clause-answer g c =
    freed_answer c.self.inside.objects c.self.inside.outs.items g.row.MOST
    c.self.invariant.0 c.args.id c.args.block c.in_ok-state.field-0 c.in_ok-state.ensures.known c.in-Some.place (at g c)
    ∙ ap (λ s. (frees s c.args.id c.args.block).0) c.self.view_is

pub returns-in-Some-clause-left : goal.returns-in-Some-clause-left
returns-in-Some-clause-left g c =
    ap (λ (l : List Out). pools_in c.self.inside.objects l) (left_is g c)
    ∙ freed_left c.self.inside.objects c.self.inside.outs.items g.row.MOST
    c.self.invariant.0 c.args.id c.args.block c.in_ok-state.field-0 c.in_ok-state.ensures.known c.in-Some.place (at g c)
    c.in_ok-state.ensures.sound
    ∙ ap (λ s. (frees s c.args.id c.args.block).1) c.self.view_is

pub returns-in-None-clause-answer : goal.returns-in-None-clause-answer
returns-in-None-clause-answer g c =
    ap (λ t. t.0) (sym (not_freed c.self.inside.objects c.self.inside.outs.items g.row.MOST
    c.self.invariant.0 c.args.id c.args.block c.in_ok-state.field-0 c.in_ok-state.ensures.known (none g c)))
    ∙ ap (λ s. (frees s c.args.id c.args.block).0) c.self.view_is

pub returns-in-None-clause-left : goal.returns-in-None-clause-left
returns-in-None-clause-left g c =
    sym c.self.view_is
    ∙ ap (λ t. t.1) (sym (not_freed c.self.inside.objects c.self.inside.outs.items g.row.MOST
    c.self.invariant.0 c.args.id c.args.block c.in_ok-state.field-0 c.in_ok-state.ensures.known
    (none g c)))
    ∙ ap (λ s. (frees s c.args.id c.args.block).1) c.self.view_is
