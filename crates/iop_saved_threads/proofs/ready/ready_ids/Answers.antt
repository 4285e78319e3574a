use Rattle.std.proofs.Common.{◌≡◌, ◌++◌, length, refl, ap, sym, ◌∙◌, arith}
use Rattle.std.specs.List.{flat_map, range_with_len}
use Rattle.iop_ready.specs.declared.priority.TheConstants.{LOWEST_PRIORITY}
use Rattle.iop_saved_threads.specs.Tables.{ready_of}
use Rattle.iop_saved_threads.proofs.ReadyInOrder.{all_ready, lists_more, room_for}
use Rattle.iop_saved_threads.proofs.ready.ready_ids.Goals as goal

pub push_ready-requires : goal.push_ready-requires
push_ready-requires g c =
    let s = c.requires.sound.0 in
    let h = c.requires.sound.1 in
    let room = room_for g.R.Ready.stands g.met.R.Ready.stands_sound h c.loop-better.better
    c.new.result c.loop-better-test.true c.new.ensures in
    let own = ap length (c.loop-better.invariant s h) in
    record { room = (s, h, omega (arith, room, own)) }

pub loop-better-preserved : goal.loop-better-preserved
loop-better-preserved g c s h =
    c.push_ready.ensures s h
    ∙ ap (λ l. l ++ ready_of s c.new.result) (c.loop-better.invariant s h)
    ∙ sym (lists_more (ready_of s) 1 c.loop-better.better _ c.new.result refl
    (omega (arith, c.new.ensures)))

pub returns : goal.returns
returns g c s h =
    let whole : c.loop-better.better ≡ LOWEST_PRIORITY =
    omega (arith, c.loop-better.auto.better-end, c.loop-better-test.false) in
    c.loop-better.invariant s h
    ∙ ap (λ n. flat_map (ready_of s) (range_with_len 1 n)) whole
    ∙ all_ready g.R.Ready.stands g.met.R.Ready.stands_sound h
