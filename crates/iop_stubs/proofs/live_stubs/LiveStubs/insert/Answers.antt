use Rattle.std.proofs.Common.{◌≡◌, false, All, arith, get_or, sym, subst, ◌∙◌}
use Rattle.iop_stubs.specs.Stubs.{meets}
use Rattle.iop_stubs.proofs.Storing.{Apart, apart}
use Rattle.iop_stubs.proofs.Binding.{All-with_stub, AllPairs-with_stub}
use Rattle.iop_stubs.proofs.Covering.{covered-with_stub, stand-on}
use Rattle.iop_stubs.specs.Covering.{LiveTable, StandsIn, bytes_of_room}
use Rattle.iop_stubs.proofs.live_stubs.LiveStubs.insert.Goals as goal

pub invariant_of-self : goal.invariant_of-self
invariant_of-self c =
    let stub = c.args.stub in
    let stubs = c.self.inside.stubs.items in
    let table = c.self.invariant.0 in
    let clear : All (λ other. meets stub.at 8 other ≡ false) stubs =
    subst (λ (t : LiveTable). All (λ other. meets stub.at 8 other ≡ false) t.stubs)
    (sym c.self.view_is) c.requires.apart in
    let far : All (λ other. Apart other.at stub.at 8) stubs =
    λ k d below. apart (get_or stubs k d).at stub.at 8 (clear k d below) in
    let stands : StandsIn (bytes_of_room c.self.inside.covered.bits.items) stub =
    subst (λ (t : LiveTable). StandsIn t.ram stub) (sym c.self.view_is) c.requires.stands in
    rw c.put_in_order.ensures.stubs (
      record {
        order = AllPairs-with_stub stub stubs far table.order;
        stand = stand-on _ _ _ (c.insert-2.ensures.room ∙ c.insert.ensures.room)
            (All-with_stub stub (StandsIn (bytes_of_room c.self.inside.covered.bits.items)) stubs
            stands table.stand);
        covered = covered-with_stub stub stands.aligned _ _ _ c.insert.ensures
            c.insert-2.ensures stubs table.covered;
      },
      omega (arith, c.put_in_order.ensures.room, c.self.invariant.1),
    )
