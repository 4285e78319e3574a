use Rattle.std.proofs.Common.{◌≡◌, ◌++◌, ◌∷◌, [], take, length, append-nil, append_assoc, ap, sym, ◌∙◌, arith, length-append, length-take-le}
use Rattle.std.proofs.lemmas.List.{take_all}
use Rattle.iop_saved_threads.specs.Tables.{ready_of}
use Rattle.iop_saved_threads.proofs.ReadyInOrder.{next_found, none_found, few_of}
use Rattle.iop_saved_threads.proofs.ready.push_ready.Goals as goal

pub loop-place-init : goal.loop-place-init
loop-place-init g c s h = (sym (append-nil c.args.ids.now.items), omega arith)

pub returns-in_default : goal.returns-in_default
returns-in_default g c s h =
    let ready = ready_of s c.args.priority in
    let none = none_found ready c.loop-place.place (sym (c.ready_at.ensures s h) ∙ c.in_default.is)
    in
    (c.loop-place.invariant s h).0
    ∙ ap (λ l. c.args.ids.now.items ++ l) (take_all c.loop-place.place ready none)

pub push-requires : goal.push-requires
push-requires g c =
    let room = c.requires.room in
    let ready = ready_of room.0 c.args.priority in
    let at = c.loop-place.invariant room.0 room.1 in
    let next = next_found ready c.loop-place.place c.in-Some.id
    (sym (c.ready_at.ensures room.0 room.1) ∙ c.in-Some.is) in
    let own = ap length at.0 in
    let sum = length-append c.args.ids.now.items (take c.loop-place.place ready) in
    let taken = length-take-le c.loop-place.place ready at.1 in
    (omega arith, omega (arith, own, sum, taken, next.inside, room.2))

pub loop-place-preserved : goal.loop-place-preserved
loop-place-preserved g c s h =
    let old = c.args.ids.now.items in
    let ready = ready_of s c.args.priority in
    let at = c.loop-place.invariant s h in
    let next = next_found ready c.loop-place.place c.in-Some.id
    (sym (c.ready_at.ensures s h) ∙ c.in-Some.is) in (
      c.push.ensures.items ∙ ap (λ l. l ++ c.in-Some.id ∷ []) at.0
          ∙ append_assoc old (take c.loop-place.place ready) (c.in-Some.id ∷ [])
          ∙ ap (λ l. old ++ l) (sym next.taken),
      omega (arith, next.inside),
    )

pub returns : goal.returns
returns g c s h =
    let ready = ready_of s c.args.priority in
    let few = few_of g.R.Ready.stands g.met.R.Ready.stands_sound h c.args.priority in
    (c.loop-place.invariant s h).0
    ∙ ap (λ l. c.args.ids.now.items ++ l)
    (take_all c.loop-place.place ready (omega (arith, few, c.loop-place-test.false)))
