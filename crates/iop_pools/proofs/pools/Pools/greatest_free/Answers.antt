use Rattle.std.proofs.Common.{◌≡◌, ◌+◌, ◌∙◌, sym, ap, arith, rules, Some, None, option_map, List}
use Rattle.iop_objects.specs.Objects.{state_of}
use Rattle.iop_pools.specs.Pools.{greatest_free}
use Rattle.iop_pools.specs.Ranges.{gaps, greatest}
use Rattle.iop_pools.specs.Standing.{ranges_of}
use Rattle.iop_pools.specs.declared.out.Out.{Out}
use Rattle.iop_pools.proofs.Sound.{state_is, state_none, pool_sound}
use Rattle.iop_pools.proofs.pools.Pools.greatest_free.Goals as goal

pub overflow_add-end : goal.overflow_add-end
overflow_add-end g c =
    let sound =
    pool_sound c.self.inside.objects c.self.inside.outs.items g.row.MOST c.self.invariant.0
    c.args.id
    c.in_ok-layout.layout c.in_ok-layout.ensures.known in
    omega (arith, sound.inside)

pub greatest_free-requires : goal.greatest_free-requires
greatest_free-requires g c =
    let sound =
    pool_sound c.self.inside.objects c.self.inside.outs.items g.row.MOST c.self.invariant.0
    c.args.id
    c.in_ok-layout.layout c.in_ok-layout.ensures.known in
    rw c.deref.ensures.value sound.order

pub returns : goal.returns
returns g c =
    let x = c.in_ok-layout.layout in
    let known = state_is c.self.inside.objects c.self.inside.outs.items g.row.MOST
    c.self.invariant.0 c.args.id x c.in_ok-layout.ensures.known in
    ap Some (c.greatest_free.ensures
    ∙ ap (λ (l : List Out). greatest (gaps x.base (x.base + x.size) (ranges_of c.args.id l)))
    c.deref.ensures.value)
    ∙ sym (ap (option_map greatest_free) known)
    ∙ ap (λ s. option_map greatest_free (state_of s c.args.id)) c.self.view_is

pub returns-in_err-layout : goal.returns-in_err-layout
returns-in_err-layout g c =
    let none : c.from_residual.result ≡ None = search rules in
    none
    ∙ sym (ap (option_map greatest_free)
    (state_none c.self.inside.objects c.self.inside.outs.items g.row.MOST c.self.invariant.0
    c.args.id c.in_err-layout.ensures.known))
    ∙ ap (λ s. option_map greatest_free (state_of s c.args.id)) c.self.view_is
