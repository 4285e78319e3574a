use Rattle.std.proofs.Common.{◌≡◌, ℕ, ◌*◌, ◌/◌, ◌∙◌, sym, ap, subst, rules, refl, Option, Some, None, option_map}
use Rattle.iop_objects.specs.Objects.{state_of}
use Rattle.iop_pools.specs.Pools.{Pool, Pools, greatest_free, room_of}
use Rattle.iop_pools.specs.Standing.{IsPool, ArePools}
use Rattle.iop_pools.proofs.Sound.{state_is, state_none, pool_sound}
use Rattle.iop_pools.proofs.Tables.{state_holds}
use Rattle.iop_pools.proofs.pools.Pools.room.Goals as goal

pub nonzero_div-result : goal.nonzero_div-result
nonzero_div-result g c =
    let sound = pool_sound c.self.inside.objects c.self.inside.outs.items g.row.MOST
    c.self.invariant.0 c.args.id
    c.in_ok-layout.layout c.in_ok-layout.ensures.known in
    sound.unit

rounds : (o : Option Pool) (x : Pool) (greatest unit : ℕ) → o ≡ Some x → x.unit ≡ unit
    → Some greatest ≡ option_map greatest_free o
    → Some (greatest / unit * unit) ≡ option_map room_of o
rounds o x greatest unit is unit_is found =
    let same : greatest ≡ greatest_free x =
    some_is (rw is at found) in
    rw (is, same, unit_is) refl
  where
    some_is : {a b : ℕ} → Some a ≡ Some b → a ≡ b
    some_is e = cc

pub returns-clause-known : goal.returns-clause-known
returns-clause-known g c =
    let x = c.in_ok-layout.layout in
    let known = state_is c.self.inside.objects c.self.inside.outs.items g.row.MOST
    c.self.invariant.0 c.args.id x c.in_ok-layout.ensures.known in
    rounds (state_of c.args.self.now c.args.id) _ c.in_ok-greatest.greatest x.unit
    (ap (λ s. state_of s c.args.id) (sym c.self.view_is) ∙ known) refl
    c.in_ok-greatest.ensures

pub returns-in_err-layout-clause-known : goal.returns-in_err-layout-clause-known
returns-in_err-layout-clause-known g c =
    let none : c.from_residual.result ≡ None = search rules in
    none
    ∙ sym (ap (option_map room_of)
    (state_none c.self.inside.objects c.self.inside.outs.items g.row.MOST c.self.invariant.0
    c.args.id c.in_err-layout.ensures.known))
    ∙ ap (λ s. option_map room_of (state_of s c.args.id)) c.self.view_is

pub returns-clause-sound : goal.returns-clause-sound
returns-clause-sound g c =
    λ x is. state_holds (IsPool g.row.MOST) c.args.id c.args.self.now.live x is
    (subst (λ (s : Pools g.row.W.Denot). ArePools g.row.MOST s) c.self.view_is
    c.self.invariant.0.pools)

pub returns-in_err-layout-clause-sound : goal.returns-in_err-layout-clause-sound
returns-in_err-layout-clause-sound g c =
    λ x is. state_holds (IsPool g.row.MOST) c.args.id c.args.self.now.live x is
    (subst (λ (s : Pools g.row.W.Denot). ArePools g.row.MOST s) c.self.view_is
    c.self.invariant.0.pools)
