use Rattle.std.proofs.Common.{◌≡◌, ◌∙◌, sym, ap, subst, rules, List}
use Rattle.std.proofs.lemmas.Fn.{filter_same}
use Rattle.iop_objects.specs.Objects.{Objects, waiters_of, deletes}
use Rattle.iop_pools.specs.Standing.{pools_in, IsTable}
use Rattle.iop_pools.specs.declared.layout.Layout.{Layout}
use Rattle.iop_pools.specs.declared.out.Out.{Out}
use Rattle.iop_pools.proofs.Capacity.{others_of}
use Rattle.iop_pools.proofs.Making.{deletes_left, IsTable-deleted}
use Rattle.iop_pools.proofs.Reading.{waiters_of-in}
use Rattle.iop_pools.proofs.pools.Pools.delete.Goals as goal

pub delete-requires : goal.delete-requires
delete-requires g c = record {
  none = sym (waiters_of-in c.self.inside.objects c.self.inside.outs.items c.args.id)
      ∙ ap (λ s. waiters_of s c.args.id) c.self.view_is ∙ c.requires.none;
}

left_is : (g : _) (c : goal.After-retain g)
    → c.retain.new.self.items ≡ others_of c.args.id c.self.inside.outs.items
left_is g c = filter_same _ _ _ (λ x b f' k. search rules) _ _ c.retain.ensures.filtered

pub invariant_of-self : goal.invariant_of-self
invariant_of-self g c = (
  subst (λ (l : List Out). IsTable c.delete.new.self l g.row.MOST) (sym (left_is g c))
      (subst (λ (o : Objects Layout g.row.W.Denot).
      IsTable o (others_of c.args.id c.self.inside.outs.items) g.row.MOST)
      (sym c.delete.ensures)
      (IsTable-deleted c.self.inside.objects c.self.inside.outs.items g.row.MOST
      c.self.invariant.0 c.args.id)),
  rw c.retain.ensures.capacity c.self.invariant.1,
)

pub returns : goal.returns
returns g c =
    ap (λ (l : List Out). pools_in c.delete.new.self l) (left_is g c)
    ∙ ap (λ (o : Objects Layout g.row.W.Denot).
    pools_in o (others_of c.args.id c.self.inside.outs.items)) c.delete.ensures
    ∙ deletes_left c.self.inside.objects c.self.inside.outs.items g.row.MOST c.self.invariant.0
    c.args.id
    ∙ ap (λ s. deletes s c.args.id) c.self.view_is
