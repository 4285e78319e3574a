use Rattle.std.proofs.Common.{◌≡◌, ◌+◌, ◌*◌, ◌∙◌, sym, ap, subst, arith, rules, Some, None, List}
use Rattle.iop_pools.specs.Pools.{takes_place}
use Rattle.iop_pools.specs.Standing.{ranges_of, pools_in, IsTable}
use Rattle.iop_pools.specs.Walks.{first_gap}
use Rattle.iop_pools.specs.declared.out.Out.{Out}
use Rattle.iop_pools.proofs.Sound.{pool_sound}
use Rattle.iop_pools.proofs.Taking.{within, takes_unknown, takes_too_much, takes_none, takes_answer, takes_left, IsTable-took, has_room}
use Rattle.iop_pools.proofs.pools.Pools.take.Goals as goal

pub div_ceil-units-requires : goal.div_ceil-units-requires
div_ceil-units-requires g c =
    let sound = pool_sound c.self.inside.objects c.self.inside.outs.items g.row.MOST
    c.self.invariant.0 c.args.id
    c.in_ok-layout.layout c.in_ok-layout.ensures.known in
    sound.unit

pub nonzero_div-layout : goal.nonzero_div-layout
nonzero_div-layout g c =
    let sound = pool_sound c.self.inside.objects c.self.inside.outs.items g.row.MOST
    c.self.invariant.0 c.args.id
    c.in_ok-layout.layout c.in_ok-layout.ensures.known in
    sound.unit

pub overflow_mul-len : goal.overflow_mul-len
overflow_mul-len g c =
    let fits =
    within c.self.inside.objects c.self.inside.outs.items g.row.MOST c.self.invariant.0 c.args.id
    c.args.size c.in_ok-layout.layout
    c.in_ok-layout.ensures.known c.requires (c.div_ceil-units.result * c.in_ok-layout.layout.unit)
    (ap (λ n. n * c.in_ok-layout.layout.unit) c.div_ceil-units.ensures)
    c.div_ceil-units.result c.if-units-layout.false in
    omega (arith, fits)

pub overflow_add-end : goal.overflow_add-end
overflow_add-end g c =
    let sound = pool_sound c.self.inside.objects c.self.inside.outs.items g.row.MOST
    c.self.invariant.0 c.args.id
    c.in_ok-layout.layout c.in_ok-layout.ensures.known in
    omega (arith, sound.inside)

pub first_free-requires : goal.first_free-requires
first_free-requires g c =
    let sound = pool_sound c.self.inside.objects c.self.inside.outs.items g.row.MOST
    c.self.invariant.0 c.args.id
    c.in_ok-layout.layout c.in_ok-layout.ensures.known in
    rw c.deref.ensures.value sound.order

pub returns-in_err-layout-clause-answer : goal.returns-in_err-layout-clause-answer
returns-in_err-layout-clause-answer g c =
    let none : c.from_residual.result ≡ None = search rules in
    none
    ∙ ap (λ t. t.0) (sym (takes_unknown c.self.inside.objects c.self.inside.outs.items g.row.MOST
    c.self.invariant.0 c.args.id c.args.size c.in_err-layout.ensures.known))
    ∙ ap (λ s. (takes_place s c.args.id c.args.size).0) c.self.view_is

pub returns-in_err-layout-clause-left : goal.returns-in_err-layout-clause-left
returns-in_err-layout-clause-left g c =
    sym c.self.view_is
    ∙ ap (λ t. t.1) (sym (takes_unknown c.self.inside.objects c.self.inside.outs.items g.row.MOST
    c.self.invariant.0 c.args.id c.args.size c.in_err-layout.ensures.known))
    ∙ ap (λ s. (takes_place s c.args.id c.args.size).1) c.self.view_is

pub returns-then-units-layout-clause-answer : goal.returns-then-units-layout-clause-answer
returns-then-units-layout-clause-answer g c =
    ap (λ t. t.0) (sym (takes_too_much c.self.inside.objects c.self.inside.outs.items g.row.MOST
    c.self.invariant.0 c.args.id c.args.size c.in_ok-layout.layout
    c.in_ok-layout.ensures.known c.requires (c.div_ceil-units.result * c.in_ok-layout.layout.unit)
    (ap (λ n. n * c.in_ok-layout.layout.unit) c.div_ceil-units.ensures)
    (omega (arith, c.if-units-layout.true, c.div_ceil-units.ensures))))
    ∙ ap (λ s. (takes_place s c.args.id c.args.size).0) c.self.view_is

pub returns-then-units-layout-clause-left : goal.returns-then-units-layout-clause-left
returns-then-units-layout-clause-left g c =
    sym c.self.view_is
    ∙ ap (λ t. t.1) (sym (takes_too_much c.self.inside.objects c.self.inside.outs.items g.row.MOST
    c.self.invariant.0 c.args.id c.args.size c.in_ok-layout.layout
    c.in_ok-layout.ensures.known c.requires (c.div_ceil-units.result * c.in_ok-layout.layout.unit)
    (ap (λ n. n * c.in_ok-layout.layout.unit) c.div_ceil-units.ensures)
    (omega (arith, c.if-units-layout.true, c.div_ceil-units.ensures))))
    ∙ ap (λ s. (takes_place s c.args.id c.args.size).1) c.self.view_is

pub returns-in_err-start-clause-answer : goal.returns-in_err-start-clause-answer
returns-in_err-start-clause-answer g c =
    let is : c.from_residual-in_err-start.result ≡ None = search rules in
    let found = c.in_err-start.ensures in
    let gap : None ≡ first_gap c.in_ok-layout.layout.base
    (c.in_ok-layout.layout.base + c.in_ok-layout.layout.size)
    (c.div_ceil-units.result * c.in_ok-layout.layout.unit)
    (ranges_of c.args.id c.self.inside.outs.items) =
    rw c.deref.ensures.value at found in
    is
    ∙ ap (λ t. t.0) (sym (takes_none c.self.inside.objects c.self.inside.outs.items g.row.MOST
    c.self.invariant.0 c.args.id c.args.size c.in_ok-layout.layout
    c.in_ok-layout.ensures.known c.requires (c.div_ceil-units.result * c.in_ok-layout.layout.unit)
    (ap (λ n. n * c.in_ok-layout.layout.unit) c.div_ceil-units.ensures) gap))
    ∙ ap (λ s. (takes_place s c.args.id c.args.size).0) c.self.view_is

pub returns-in_err-start-clause-left : goal.returns-in_err-start-clause-left
returns-in_err-start-clause-left g c =
    let found = c.in_err-start.ensures in
    let gap : None ≡ first_gap c.in_ok-layout.layout.base
    (c.in_ok-layout.layout.base + c.in_ok-layout.layout.size)
    (c.div_ceil-units.result * c.in_ok-layout.layout.unit)
    (ranges_of c.args.id c.self.inside.outs.items) =
    rw c.deref.ensures.value at found in
    sym c.self.view_is
    ∙ ap (λ t. t.1) (sym (takes_none c.self.inside.objects c.self.inside.outs.items g.row.MOST
    c.self.invariant.0 c.args.id c.args.size c.in_ok-layout.layout
    c.in_ok-layout.ensures.known c.requires (c.div_ceil-units.result * c.in_ok-layout.layout.unit)
    (ap (λ n. n * c.in_ok-layout.layout.unit) c.div_ceil-units.ensures) gap))
    ∙ ap (λ s. (takes_place s c.args.id c.args.size).1) c.self.view_is

pub put-requires : goal.put-requires
put-requires g c =
    let found = c.in_ok-start.ensures in
    let gap : Some c.in_ok-start.start ≡ first_gap c.in_ok-layout.layout.base
    (c.in_ok-layout.layout.base + c.in_ok-layout.layout.size)
    (c.div_ceil-units.result * c.in_ok-layout.layout.unit)
    (ranges_of c.args.id c.self.inside.outs.items) =
    rw c.deref.ensures.value at found in
    let room =
    has_room c.self.inside.objects c.self.inside.outs.items g.row.MOST c.self.invariant.0
    c.args.id c.args.size c.in_ok-layout.layout
    c.in_ok-layout.ensures.known c.requires (c.div_ceil-units.result * c.in_ok-layout.layout.unit)
    (ap (λ n. n * c.in_ok-layout.layout.unit) c.div_ceil-units.ensures)
    c.in_ok-start.start gap c.in_ok-layout.ensures.sound in
    omega (arith, room, c.self.invariant.1, c.self.inside.outs.ok)

pub invariant_of-self : goal.invariant_of-self
invariant_of-self g c =
    let found = c.in_ok-start.ensures in
    let gap : Some c.in_ok-start.start ≡ first_gap c.in_ok-layout.layout.base
    (c.in_ok-layout.layout.base + c.in_ok-layout.layout.size)
    (c.div_ceil-units.result * c.in_ok-layout.layout.unit)
    (ranges_of c.args.id c.self.inside.outs.items) =
    rw c.deref.ensures.value at found in (
      subst (λ (l : List Out). IsTable c.self.inside.objects l g.row.MOST)
          (sym c.put.ensures.items)
          (IsTable-took c.self.inside.objects c.self.inside.outs.items g.row.MOST
          c.self.invariant.0 c.args.id c.args.size c.in_ok-layout.layout
          c.in_ok-layout.ensures.known c.requires (c.div_ceil-units.result *
          c.in_ok-layout.layout.unit)
          (ap (λ n. n * c.in_ok-layout.layout.unit) c.div_ceil-units.ensures)
          c.in_ok-start.start gap c.in_ok-layout.ensures.sound),
      omega (arith, c.self.invariant.1, c.put.ensures.capacity),
    )

pub returns-clause-answer : goal.returns-clause-answer
returns-clause-answer g c =
    let found = c.in_ok-start.ensures in
    let gap : Some c.in_ok-start.start ≡ first_gap c.in_ok-layout.layout.base
    (c.in_ok-layout.layout.base + c.in_ok-layout.layout.size)
    (c.div_ceil-units.result * c.in_ok-layout.layout.unit)
    (ranges_of c.args.id c.self.inside.outs.items) =
    rw c.deref.ensures.value at found in
    takes_answer c.self.inside.objects c.self.inside.outs.items g.row.MOST c.self.invariant.0
    c.args.id c.args.size c.in_ok-layout.layout
    c.in_ok-layout.ensures.known c.requires (c.div_ceil-units.result * c.in_ok-layout.layout.unit)
    (ap (λ n. n * c.in_ok-layout.layout.unit) c.div_ceil-units.ensures)
    c.in_ok-start.start gap
    ∙ ap (λ s. (takes_place s c.args.id c.args.size).0) c.self.view_is

pub returns-clause-left : goal.returns-clause-left
returns-clause-left g c =
    let found = c.in_ok-start.ensures in
    let gap : Some c.in_ok-start.start ≡ first_gap c.in_ok-layout.layout.base
    (c.in_ok-layout.layout.base + c.in_ok-layout.layout.size)
    (c.div_ceil-units.result * c.in_ok-layout.layout.unit)
    (ranges_of c.args.id c.self.inside.outs.items) =
    rw c.deref.ensures.value at found in
    ap (λ (l : List Out). pools_in c.self.inside.objects l) c.put.ensures.items
    ∙ takes_left c.self.inside.objects c.self.inside.outs.items g.row.MOST c.self.invariant.0
    c.args.id c.args.size c.in_ok-layout.layout
    c.in_ok-layout.ensures.known c.requires (c.div_ceil-units.result * c.in_ok-layout.layout.unit)
    (ap (λ n. n * c.in_ok-layout.layout.unit) c.div_ceil-units.ensures)
    c.in_ok-start.start gap c.in_ok-layout.ensures.sound
    ∙ ap (λ s. (takes_place s c.args.id c.args.size).1) c.self.view_is
