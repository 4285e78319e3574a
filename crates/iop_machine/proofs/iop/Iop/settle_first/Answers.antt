use Rattle.std.proofs.Common.{sym, ◌∙◌}
use Rattle.iop_machine.proofs.Settling.{still_well, delivers_less, settles_at_once, settles_failed, settles_behind, less_behind}
use Rattle.iop_machine.proofs.StandingLemmas.{goes_on}
use Rattle.iop_machine.proofs.iop.Iop.settle_first.Goals as goal

pub returns-then-deliver-clause-settles : goal.returns-then-deliver-clause-settles
returns-then-deliver-clause-settles g c = λ s budget h.
    (0, (c.if-deliver.ensures s budget h (goes_on h c.requires.goes_on)).0)

pub returns-then-deliver-clause-fewer : goal.returns-then-deliver-clause-fewer
returns-then-deliver-clause-fewer g c = λ budget.
    let h = c.requires.sound.1 in
    let over = goes_on h c.requires.goes_on in
    delivers_less budget h over (c.if-deliver.ensures _ budget h over) _

pub dispatch-requires-clause-sound : goal.dispatch-requires-clause-sound
dispatch-requires-clause-sound g c =
    let h = c.requires.sound.1 in
    (_, (c.if-deliver.ensures _ 0 h (goes_on h c.requires.goes_on)).0.1)

pub dispatch-requires-clause-well : goal.dispatch-requires-clause-well
dispatch-requires-clause-well g c =
    let h = c.requires.sound.1 in
    still_well (c.if-deliver.ensures _ 0 h (goes_on h c.requires.goes_on)).1 c.requires.well

pub returns-then-not-dispatch-clause-settles : goal.returns-then-not-dispatch-clause-settles
returns-then-not-dispatch-clause-settles g c = λ s budget h.
    let over = goes_on h c.requires.goes_on in
    let none = c.if-deliver.ensures s budget h over in
    settles_at_once over budget c.requires.well none
    (c.if-not-dispatch.ensures s budget none.0.1 over none.2)

pub deliver-requires-else-failed-clause-sound : goal.deliver-requires-else-failed-clause-sound
deliver-requires-else-failed-clause-sound g c =
    let h = c.requires.sound.1 in
    let over = goes_on h c.requires.goes_on in
    let none = c.if-deliver.ensures _ 0 h over in
    (_, (c.if-not-dispatch.ensures _ 0 none.0.1 over none.2).0.state.1)

pub returns-then-failed-clause-settles : goal.returns-then-failed-clause-settles
returns-then-failed-clause-settles g c = λ s budget h.
    let over = goes_on h c.requires.goes_on in
    let none = c.if-deliver.ensures s budget h over in
    settles_failed over budget c.requires.well none
    (c.if-not-dispatch.ensures s budget none.0.1 over none.2) c.failed.result c.if-failed.true

pub returns-else-failed-clause-settles : goal.returns-else-failed-clause-settles
returns-else-failed-clause-settles g c = λ s budget h.
    let over = goes_on h c.requires.goes_on in
    let none = c.if-deliver.ensures s budget h over in
    let did = c.if-not-dispatch.ensures s budget none.0.1 over none.2 in
    settles_behind over budget c.requires.well none did
    (sym c.failed.ensures ∙ c.if-failed.false) c.deliver-else-failed.new.self _
    c.deliver-else-failed.result
    (λ v. c.deliver-else-failed.ensures v budget)

pub returns-else-failed-clause-fewer : goal.returns-else-failed-clause-fewer
returns-else-failed-clause-fewer g c = λ budget.
    let h = c.requires.sound.1 in
    let over = goes_on h c.requires.goes_on in
    let none = c.if-deliver.ensures _ budget h over in
    let did = c.if-not-dispatch.ensures _ budget none.0.1 over none.2 in
    less_behind over budget c.requires.well none did
    (sym c.failed.ensures ∙ c.if-failed.false) c.deliver-else-failed.new.self _ h
    c.deliver-else-failed.result
    (λ v. c.deliver-else-failed.ensures v budget) _
