use Rattle.std.proofs.Common.{subst, All}
use Rattle.std.specs.Prelude.{⊤}
use Rattle.iop_pools.specs.Laws.{Apart}
use Rattle.iop_pools.specs.Pools.{Pools}
use Rattle.iop_pools.proofs.LeastPlaces.{all_apart}
use Rattle.std.proofs.Common.{arith}
use Rattle.iop_pools.proofs.Layouts.{layout_unit, layout_count}
use Rattle.iop_pools.proofs.fixed_pools.FixedPools.get.Goals as goal

pub nonzero_div-count : goal.nonzero_div-count
nonzero_div-count c =
    layout_unit _ _ _ c.in_ok-layout.ensures.known c.in_ok-layout.ensures.sound

pub overflow_cast-result : goal.overflow_cast-result
overflow_cast-result c =
    let few =
    layout_count _ _ _ _ c.in_ok-layout.ensures.known c.in_ok-taken.ensures
    c.in_ok-layout.ensures.sound in
    omega (arith, few.1)

pub overflow_sub-result : goal.overflow_sub-result
overflow_sub-result c =
    (layout_count _ _ _ _ c.in_ok-layout.ensures.known c.in_ok-taken.ensures
    c.in_ok-layout.ensures.sound).0

pub returns-clause-apart : goal.returns-clause-apart
returns-clause-apart c =
    let s = c.self.inside.pools in
    subst (λ (s : Pools ⊤). All (λ o. Apart o.state) s.live) c.self.view_is
    (all_apart _ s c.in_ok-layout.ensures.pools)

pub returns-in_err-layout-clause-apart : goal.returns-in_err-layout-clause-apart
returns-in_err-layout-clause-apart c =
    let s = c.self.inside.pools in
    subst (λ (s : Pools ⊤). All (λ o. Apart o.state) s.live) c.self.view_is
    (all_apart _ s c.in_err-layout.ensures.pools)

pub returns-in_err-taken-clause-apart : goal.returns-in_err-taken-clause-apart
returns-in_err-taken-clause-apart c =
    let s = c.self.inside.pools in
    subst (λ (s : Pools ⊤). All (λ o. Apart o.state) s.live) c.self.view_is
    (all_apart _ s c.in_ok-layout.ensures.pools)
