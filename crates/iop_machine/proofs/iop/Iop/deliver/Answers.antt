use Rattle.std.proofs.Common.{sym, ◌∙◌}
use Rattle.iop_machine.proofs.Delivering.{delivers_nothing, delivers_something}
use Rattle.iop_machine.proofs.iop.Iop.deliver.Goals as goal

pub returns-then-not-would_deliver : goal.returns-then-not-would_deliver
returns-then-not-would_deliver g c = λ s budget h over.
    delivers_nothing c.args.self.now c.would_deliver.result c.if-not-would_deliver.true
    c.would_deliver.ensures _ s budget h

pub returns : goal.returns
returns g c = λ s budget h over.
    delivers_something h (c.take_events.ensures s h) c.deliver.new.self c.deliver.new.cpu budget
    _ _ over c.requires.well c.deliver.result
    (sym (c.would_deliver.ensures s h) ∙ c.if-not-would_deliver.false)
    (c.deliver.ensures _ (c.take_events.ensures s h).kernel)
