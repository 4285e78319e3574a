use Rattle.std.proofs.Common.{◌∙◌, sym, ap, subst, arith, List}
use Rattle.iop_pools.specs.Restoring.{may_be_out, with_out_last}
use Rattle.iop_pools.specs.Standing.{pools_in, IsTable}
use Rattle.iop_pools.specs.declared.out.Out.{Out}
use Rattle.iop_pools.proofs.PuttingOut.{last_seen, none_out, ends_inside, may_be_out-is, pools_in-put, IsTable-put, room}
use Rattle.iop_pools.proofs.Sound.{pool_sound}
use Rattle.iop_pools.proofs.pools.Pools.put_range.Goals as goal

pub lies_behind-requires : goal.lies_behind-requires
lies_behind-requires g c =
    let sound = pool_sound c.self.inside.objects c.self.inside.outs.items g.row.MOST
    c.self.invariant.0 c.args.id c.in-Some.layout c.in-Some.ensures.known in record {
      unit = sound.unit;
      inside = sound.inside;
      last = ends_inside c.self.inside.objects c.self.inside.outs.items g.row.MOST
          c.self.invariant.0 c.args.id c.args.start c.args.size
          c.in-Some.layout c.in-Some.ensures.known c.last-last.result
          (last_seen c.args.id c.deref.ensures.value c.last-last.ensures);
    }

pub returns-in_default-clause-may : goal.returns-in_default-clause-may
returns-in_default-clause-may g c =
    sym (none_out c.self.inside.objects c.self.inside.outs.items g.row.MOST
    c.self.invariant.0 c.args.id c.args.start c.args.size c.in_default.ensures.known)
    ∙ ap (λ s. may_be_out s c.args.id c.args.start c.args.size) c.self.view_is

pub returns-then-not-lies_behind-clause-may : goal.returns-then-not-lies_behind-clause-may
returns-then-not-lies_behind-clause-may g c = sym c.if-not-lies_behind.true ∙
    c.lies_behind.ensures
    ∙ may_be_out-is c.self.inside.objects c.self.inside.outs.items g.row.MOST
    c.self.invariant.0 c.args.id c.args.start c.args.size
    c.in-Some.layout c.in-Some.ensures.known c.last-last.result
    (last_seen c.args.id c.deref.ensures.value c.last-last.ensures)
    ∙ ap (λ s. may_be_out s c.args.id c.args.start c.args.size) c.self.view_is

pub push_reserved-requires : goal.push_reserved-requires
push_reserved-requires g c =
    let room = room c.self.inside.objects c.self.inside.outs.items g.row.MOST
    c.self.invariant.0 c.args.id c.args.start c.args.size
    c.in-Some.layout c.in-Some.ensures.known c.last-last.result
    (last_seen c.args.id c.deref.ensures.value c.last-last.ensures)
    (sym c.lies_behind.ensures ∙ c.if-not-lies_behind.false) c.in-Some.ensures.sound in
    omega (arith, room, c.self.invariant.1, c.self.inside.outs.ok)

pub invariant_of-self : goal.invariant_of-self
invariant_of-self g c = (
  subst (λ (l : List Out). IsTable c.self.inside.objects l g.row.MOST)
      (sym c.push_reserved.ensures.items)
      (IsTable-put c.self.inside.objects c.self.inside.outs.items g.row.MOST
      c.self.invariant.0 c.args.id c.args.start c.args.size
      c.in-Some.layout c.in-Some.ensures.known c.last-last.result
      (last_seen c.args.id c.deref.ensures.value c.last-last.ensures)
      (sym c.lies_behind.ensures ∙ c.if-not-lies_behind.false) c.in-Some.ensures.sound),
  omega (arith, c.self.invariant.1, c.push_reserved.ensures.capacity),
)

pub returns-clause-may : goal.returns-clause-may
returns-clause-may g c = sym c.if-not-lies_behind.false ∙
    c.lies_behind.ensures
    ∙ may_be_out-is c.self.inside.objects c.self.inside.outs.items g.row.MOST
    c.self.invariant.0 c.args.id c.args.start c.args.size
    c.in-Some.layout c.in-Some.ensures.known c.last-last.result
    (last_seen c.args.id c.deref.ensures.value c.last-last.ensures)
    ∙ ap (λ s. may_be_out s c.args.id c.args.start c.args.size) c.self.view_is

pub returns-clause-put : goal.returns-clause-put
returns-clause-put g c =
    ap (λ (l : List Out). pools_in c.self.inside.objects l) c.push_reserved.ensures.items
    ∙ pools_in-put c.self.inside.objects c.self.inside.outs.items g.row.MOST
    c.self.invariant.0 c.args.id c.args.start c.args.size
    ∙ ap (λ s. with_out_last s c.args.id c.args.start c.args.size) c.self.view_is
