use Rattle.std.proofs.Common.{◌≡◌, ◌≤◌, ◌∙◌, true, false, None, Some, sym, arith}
use Rattle.std.proofs.lemmas.Bool.Decides.{nat_tests}
use Rattle.iop_base.specs.declared.limits.TheConstants.{LAST_ID}
use Rattle.iop_thread.specs.Restored.{Restores}
use Rattle.iop_thread.specs.Restoring.{has_place, is_ahead, may_stand_beside, may_follow}
use Rattle.iop_thread.specs.ThreadTable.{ThreadTable}
use Rattle.iop_thread.proofs.Coming.{place_with, room_by}
use Rattle.iop_thread.proofs.PlaceLists.{free-Some}
use Rattle.iop_thread.proofs.PuttingBack.{comes_back, none_yet, placed_last, running_is_back}
use Rattle.iop_thread.proofs.restored_threads.RestoredThreads.put_back.Goals as goal

pub returns-in_default-clause-may : goal.returns-in_default-clause-may
returns-in_default-clause-may g c = λ s r.
    let room : has_place s ≡ false =
    room_by g.R.Ready.stands r.place c.args.self.now.threads s r.holds None
    (sym c.free.ensures ∙ c.in_default.is) in
    grind (arith, nat_tests, room)

pub returns : goal.returns
returns g c = record {
  may = λ s r. sym (follows s r);
  put = λ s r.
      let t = c.args.self.now.threads in
      let u = c.args.thread in
      let slot = c.in-Some.slot in
      let free = free-Some t.places slot (sym c.in-Some.ensures) in
      let may = follows s r in
      let ahead : s.next ≤ u.id = grind (arith, nat_tests, may) in
      let none = none_yet s r.placed u ahead in
      record {
        place = place_with r.place u.id slot;
        holds = rw (c.put.ensures, c.running_beside-self.ensures)
            (comes_back g.R.Ready.stands r.place t s r.holds slot u none free.0 free.1
            (running_is_back s r.placed));
        placed = placed_last s r.placed u ahead may;
      };
}
  where
    follows : (s : ThreadTable) → Restores g.R.Ready.stands c.args.self.now s
        → may_follow s c.args.thread ≡ true
    follows s r =
        let room : has_place s ≡ true =
        room_by g.R.Ready.stands r.place c.args.self.now.threads s r.holds (Some c.in-Some.slot)
        (sym c.in-Some.ensures) in
        let ahead : is_ahead s c.args.thread.id LAST_ID ≡ true =
        rw r.holds.next (sym c.is_ahead.ensures ∙ c.if-not-is_ahead.false) in
        let beside : may_stand_beside s c.args.thread ≡ true =
        sym (c.if-not-may_stand_beside.ensures s r) in
        grind (arith, nat_tests, room, ahead, beside)
