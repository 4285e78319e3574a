use Rattle.std.proofs.Common.{◌≡◌, ◌∙◌, true, is_some, refl, ap, sym, rules}
use Rattle.iop_objects.specs.Objects.{object_of, waiting}
use Rattle.iop_objects.proofs.Restored.{has_state}
use Rattle.iop_objects.proofs.Tables.{all_waiting}
use Rattle.iop_objects.proofs.objects.Objects.may_wait.Goals as goal

pub returns-then-is_some : goal.returns-then-is_some
returns-then-is_some g c =
    let some : is_some c.state.result ≡ true = search rules in
    let live : is_some (object_of c.args.self.now.live c.args.id) ≡ true =
    sym (has_state c.args.self.now c.args.id) ∙ sym (ap is_some c.state.ensures.known) ∙ some in
    let count : c.len.result ≡ waiting c.args.self.now =
    c.len.ensures ∙ all_waiting _ _ _ _ c.self.invariant.0 ∙ ap waiting c.self.view_is in
    rw (live, count) refl
