use Rattle.std.proofs.Common.{subst, All, ℕ}
use Rattle.iop_pools.specs.Laws.{Apart}
use Rattle.iop_pools.specs.Pools.{Pools}
use Rattle.iop_pools.proofs.LeastPlaces.{all_apart}
use Rattle.iop_pools.proofs.variable_pools.VariablePools.get.Goals as goal

pub returns-clause-apart : goal.returns-clause-apart
returns-clause-apart c =
    let s = c.self.inside.pools in
    subst (λ (s : Pools ℕ). All (λ o. Apart o.state) s.live) c.self.view_is
    (all_apart _ s c.in_ok-layout.ensures.pools)

pub returns-in_err-layout-clause-apart : goal.returns-in_err-layout-clause-apart
returns-in_err-layout-clause-apart c =
    let s = c.self.inside.pools in
    subst (λ (s : Pools ℕ). All (λ o. Apart o.state) s.live) c.self.view_is
    (all_apart _ s c.in_err-layout.ensures.pools)

pub returns-in_err-free-clause-apart : goal.returns-in_err-free-clause-apart
returns-in_err-free-clause-apart c =
    let s = c.self.inside.pools in
    subst (λ (s : Pools ℕ). All (λ o. Apart o.state) s.live) c.self.view_is
    (all_apart _ s c.in_ok-layout.ensures.pools)

pub returns-in_err-greatest-clause-apart : goal.returns-in_err-greatest-clause-apart
returns-in_err-greatest-clause-apart c =
    let s = c.self.inside.pools in
    subst (λ (s : Pools ℕ). All (λ o. Apart o.state) s.live) c.self.view_is
    (all_apart _ s c.in_ok-layout.ensures.pools)
