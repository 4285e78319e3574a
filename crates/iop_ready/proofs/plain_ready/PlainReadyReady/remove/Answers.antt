use Rattle.std.proofs.Common.{◌≡◌, arith, rules}
use Rattle.std.proofs.lemmas.Fn.{filter_same}
use Rattle.iop_ready.specs.ReadyList.{without}
use Rattle.iop_ready.proofs.Agreeing.{sound_without, stands_without}
use Rattle.iop_ready.proofs.plain_ready.PlainReadyReady.remove.Goals.{After-retain}
use Rattle.iop_ready.proofs.plain_ready.PlainReadyReady.remove.Goals as goal

is_left : (c : goal.After-retain)
    → c.retain.new.self.items ≡ without c.args.slot c.self.inside.entries.items
is_left c = filter_same _ _ _ (λ x b f' k. search rules) _ _ c.retain.ensures.filtered

pub invariant_of-self : goal.invariant_of-self
invariant_of-self c = (
  rw (is_left c) (sound_without _ _ c.self.invariant.0),
  omega (arith, c.retain.ensures.capacity, c.self.invariant.1),
)

pub returns : goal.returns
returns c xs h = rw (is_left c, c.self.view_is) (stands_without _ h)
