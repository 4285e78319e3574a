use Rattle.std.proofs.Common.{◌∙◌, ap, sym, None, Some, option_and_then}
use Rattle.iop_thread.specs.ThreadPlaces.{thread_at}
use Rattle.iop_thread.proofs.Holding.{thread_of-place}
use Rattle.iop_thread.proofs.ListedThreads.{in_place_none, in_place_some, none_may, idle_may_not, found_at, listed_may_not, unlisted_may}
use Rattle.iop_thread.proofs.restored_threads.RestoredThreads.find_unlisted.Goals as goal

pub returns-in_err-slot : goal.returns-in_err-slot
returns-in_err-slot g c = λ s r.
    let places = c.args.self.now.threads.places in
    rw c.from_residual.ensures
    (none_may s c.args.id
    (thread_of-place g.R.Ready.stands r.place c.args.self.now.threads s r.holds c.args.id
    ∙ ap (option_and_then (thread_at places)) (sym c.in_err-slot.ensures)))

pub returns-in_err-found : goal.returns-in_err-found
returns-in_err-found g c = λ s r.
    let none = in_place_none c.in_ok-slot.slot _ c.in_err-found.ensures in
    rw c.from_residual-in_err-found.ensures
    (none_may s c.args.id
    (found_at g.R.Ready.stands r.place c.args.self.now.threads s r.holds c.args.id c.in_ok-slot.slot
    None c.in_ok-slot.ensures none))

pub returns-then-not-is_ready : goal.returns-then-not-is_ready
returns-then-not-is_ready g c = λ s r.
    let u = c.in_ok-found.found.thread in
    let (at, same) = in_place_some c.in_ok-slot.slot _ c.in_ok-found.found c.in_ok-found.ensures in
    idle_may_not s c.args.id u
    (found_at g.R.Ready.stands r.place c.args.self.now.threads s r.holds c.args.id c.in_ok-slot.slot
    (Some u) c.in_ok-slot.ensures at)
    (sym c.if-not-is_ready.ensures)

pub returns-then-contains : goal.returns-then-contains
returns-then-contains g c = λ s r.
    let t = c.args.self.now.threads in
    let u = c.in_ok-found.found.thread in
    let slot = c.in_ok-slot.slot in
    let (at, same) = in_place_some slot _ c.in_ok-found.found c.in_ok-found.ensures in
    let found =
    found_at g.R.Ready.stands r.place t s r.holds c.args.id slot (Some u) c.in_ok-slot.ensures at in
    listed_may_not g.R.Ready.stands r.place t s r.holds slot u at c.args.id found
    (sym c.if-not-is_ready.ensures)
    (sym (c.if-contains.ensures _ r.holds.ready))

pub returns : goal.returns
returns g c = λ s r.
    let t = c.args.self.now.threads in
    let u = c.in_ok-found.found.thread in
    let slot = c.in_ok-slot.slot in
    let (at, same) = in_place_some slot _ c.in_ok-found.found c.in_ok-found.ensures in
    let found =
    found_at g.R.Ready.stands r.place t s r.holds c.args.id slot (Some u) c.in_ok-slot.ensures at in (
      unlisted_may g.R.Ready.stands r.place t s r.holds slot u at c.args.id found
          (sym c.if-not-is_ready.ensures)
          (sym (c.if-contains.ensures _ r.holds.ready)),
      found,
      ap (thread_at t.places) same ∙ at,
    )
