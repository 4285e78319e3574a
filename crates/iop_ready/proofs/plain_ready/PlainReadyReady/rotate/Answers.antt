use Rattle.std.proofs.Common.{◌≡◌, Some, None, rules}
use Rattle.iop_ready.specs.ReadyList.{first_of, without, IsReadyList}
use Rattle.iop_ready.proofs.Agreeing.{has_not-without, rotated-by_first, stands_itself}
use Rattle.iop_ready.proofs.plain_ready.PlainReadyReady.rotate.Goals as goal

pub add_last-requires : goal.add_last-requires
add_last-requires c =
    let own = c.args.self.now in
    let sound : IsReadyList own = rw (← c.self.view_is) c.self.invariant.0 in
    let removed = c.remove.ensures own (stands_itself sound) in
    (without c.in-Some.entry.slot own, removed, has_not-without c.in-Some.entry.slot own)

pub returns-in-Some : goal.returns-in-Some
returns-in-Some c xs h =
    let found : first_of c.args.priority c.args.self.now ≡ Some c.in-Some.entry =
    rw (← c.self.view_is) (search rules) in
    rw (rotated-by_first c.args.priority (Some c.in-Some.entry) found h)
    (c.add_last.ensures _ (c.remove.ensures xs h))

pub returns-in_default : goal.returns-in_default
returns-in_default c xs h =
    let found : first_of c.args.priority c.args.self.now ≡ None =
    rw (← c.self.view_is) (search rules) in
    rw (rotated-by_first c.args.priority None found h) h
