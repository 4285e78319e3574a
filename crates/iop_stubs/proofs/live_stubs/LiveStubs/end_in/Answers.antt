use Rattle.std.proofs.Common.{◌+◌, ◌≤◌, Bool, not, sym, ◌∙◌, arith}
use Rattle.std.proofs.lemmas.List.Elements.{All-filter}
use Rattle.std.proofs.lemmas.List.Kept.{AllPairs-filter}
use Rattle.iop_base.proofs.Giving.{gives_none}
use Rattle.iop_stubs.specs.Stubs.{meets}
use Rattle.iop_stubs.specs.declared.live_stub.Stub.{Stub}
use Rattle.iop_stubs.specs.Covering.{StandsIn, Uncovers, bytes_of_room}
use Rattle.iop_stubs.proofs.Covering.{are_aligned, covered-left, stand-on}
use Rattle.iop_base.proofs.Lists.{filter-none_fails, filter-none_passes}
use Rattle.iop_stubs.proofs.live_stubs.LiveStubs.end_in.Goals as goal

pub invariant_of-self : goal.invariant_of-self
invariant_of-self g c =
    let table = c.self.invariant.0 in
    let stays : Stub → Bool = λ stub. not (meets c.args.place c.args.len stub) in
    let gone : Uncovers c.args.place c.args.len c.self.inside.stubs.items
    c.self.inside.covered.bits.items c.uncover.new.covered.bits.items =
    rw (← c.deref.ensures.value) c.uncover.ensures in
    rw c.take_out.ensures.stubs (
      record {
        order = AllPairs-filter (λ first second. first.at + 8 ≤ second.at) stays
            c.self.inside.stubs.items table.order;
        stand = stand-on _ _ _ c.uncover.ensures.room (All-filter stays
            (StandsIn (bytes_of_room c.self.inside.covered.bits.items)) c.self.inside.stubs.items
            table.stand);
        covered = covered-left c.args.place c.args.len c.self.inside.stubs.items table.order
            (are_aligned c.self.inside.stubs.items table.stand) _ _ table.covered gone;
      },
      omega (arith, c.take_out.ensures.room, c.self.invariant.1),
    )

pub returns-else-is_met-clause-live : goal.returns-else-is_met-clause-live
returns-else-is_met-clause-live g c =
    sym (filter-none_fails (meets c.args.place c.args.len) c.args.self.now.stubs
    (sym c.is_met.ensures ∙ c.if-is_met.false))

pub returns-else-is_met-clause-lines : goal.returns-else-is_met-clause-lines
returns-else-is_met-clause-lines g c =
    rw (filter-none_passes (meets c.args.place c.args.len) c.args.self.now.stubs
    (sym c.is_met.ensures ∙ c.if-is_met.false)) (gives_none _)
