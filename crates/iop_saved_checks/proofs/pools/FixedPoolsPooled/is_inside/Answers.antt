use Rattle.std.proofs.Common.{◌∙◌, ap, is_some, length, option_map, Some, sym}
use Rattle.iop_base.specs.Places.{range_at}
use Rattle.iop_saved_checks.specs.Made.{is_inside}
use Rattle.iop_saved_checks.proofs.FixedEnds.{is_at}
use Rattle.iop_saved_checks.proofs.pools.FixedPoolsPooled.is_inside.Goals as goal

pub bytes_of-requires : goal.bytes_of-requires
bytes_of-requires c =
    (is_at c.args.self.now c.len.ensures.sound c.args.place c.in-Some.found
    (sym c.in-Some.is ∙ c.nth.ensures)).few

pub returns : goal.returns
returns c =
    let at = is_at c.args.self.now c.len.ensures.sound c.args.place c.in-Some.found
    (sym c.in-Some.is ∙ c.nth.ensures) in
    let size = length c.args.ram.now in
    ap Some (c.contains.ensures
    ∙ ap (λ n. is_some (range_at size c.in-Some.found.1.base n)) c.bytes_of.ensures
    ∙ at.same size)
    ∙ ap (option_map (is_inside size)) (sym at.there)
