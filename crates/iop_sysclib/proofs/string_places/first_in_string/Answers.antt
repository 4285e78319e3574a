use Rattle.std.proofs.Common.{sym, ◌∙◌, ap, cond, Some, None, length, eq-eqb, Bool}
use Rattle.iop_sysclib.specs.MemoryCalls.{is_byte}
use Rattle.iop_sysclib.proofs.Places.{position-push-None}
use Rattle.iop_sysclib.proofs.string_places.first_in_string.Goals as goal

pub returns-in-None-clause-first : goal.returns-in-None-clause-first
returns-in-None-clause-first c =
    let pass = eq-eqb 0 _ (sym c.if-wanted-eq0.true) in
    sym (position-push-None (is_byte c.args.wanted) c.args.string.now 0 (sym c.in-None.ensures.first)
    ∙ ap (λ (b : Bool). cond b (Some (length c.args.string.now)) None) pass)
