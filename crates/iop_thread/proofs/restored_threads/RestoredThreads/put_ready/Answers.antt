use Rattle.std.proofs.Common.{map}
use Rattle.iop_thread.specs.Standing.{entry_in}
use Rattle.iop_thread.proofs.ListedThreads.{no_entry, place_is}
use Rattle.iop_thread.proofs.PuttingBack.{placed_last_ready}
use Rattle.iop_thread.proofs.ReadyHolding.{ready_behind}
use Rattle.iop_thread.proofs.restored_threads.RestoredThreads.put_ready.Goals as goal

pub add_last-requires : goal.add_last-requires
add_last-requires g c =
    let (s, r) = c.requires.sound in
    let found = c.in-Some.found in
    let (may, is, there) = c.in-Some.ensures s r in (
      map (entry_in r.place s.live) s.ready,
      r.holds.ready,
      no_entry g.R.Ready.stands r.place c.args.self.now.threads s r.holds c.args.id found.slot
          found.thread is there may,
    )

pub returns-clause-put : goal.returns-clause-put
returns-clause-put g c = λ s r.
    let t = c.args.self.now.threads in
    let found = c.in-Some.found in
    let u = found.thread in
    let (may, is, there) = c.in-Some.ensures s r in
    let at = place_is g.R.Ready.stands r.place t s r.holds c.args.id found.slot u is there in
    record {
      place = r.place;
      holds = ready_behind g.R.Ready.stands r.place t s r.holds c.args.id u is c.add_last.new.self
          (rw at (c.add_last.ensures _ r.holds.ready));
      placed = placed_last_ready s r.placed c.args.id may;
    }
