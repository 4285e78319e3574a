use Rattle.std.proofs.Common.{◌≡◌, ◌∙◌, sym, ap, arith, rules, None}
use Rattle.iop_pools.specs.VariablePools.{meets_next}
use Rattle.iop_pools.proofs.Meeting.{meets_unknown, meets_none, left_none, wants_some, met_answer, met_left, unmet_answer, unmet_left}
use Rattle.iop_pools.proofs.Variable.{same_variable, variable_takes, variable_takes_where}
use Rattle.iop_pools.proofs.variable_pools.VariablePools.next_met.Goals as goal

pub take-requires : goal.take-requires
take-requires c = (
  omega arith,
  wants_some c.self.inside.pools c.args.id _ c.in_ok-room.room
      c.in_ok-room.ensures.known c.in_ok-room.ensures.sound c.in_ok-waiter.waiter
      c.in_ok-waiter.ensures.answer,
)

pub returns-clause-answer : goal.returns-clause-answer
returns-clause-answer c =
    met_answer c.self.inside.pools c.args.id _ c.in_ok-room.room
    c.in_ok-room.ensures.known c.in_ok-room.ensures.sound c.in_ok-waiter.waiter
    c.in_ok-waiter.ensures.answer
    c.take_waiter_where.new.self c.in_ok-waiter.ensures.left
    c.in_ok-block.block c.in_ok-block.ensures.answer
    ∙ ap (λ s. (meets_next s c.args.id).0) c.self.view_is

pub returns-clause-left : goal.returns-clause-left
returns-clause-left c =
    c.in_ok-block.ensures.left
    ∙ met_left c.self.inside.pools c.args.id _ c.in_ok-room.room
    c.in_ok-room.ensures.known c.in_ok-room.ensures.sound c.in_ok-waiter.waiter
    c.in_ok-waiter.ensures.answer
    c.take_waiter_where.new.self c.in_ok-waiter.ensures.left
    c.in_ok-block.block c.in_ok-block.ensures.answer
    ∙ ap (λ s. (meets_next s c.args.id).1) c.self.view_is

pub returns-in_err-room-clause-answer : goal.returns-in_err-room-clause-answer
returns-in_err-room-clause-answer c =
    c.from_residual.ensures
    ∙ ap (λ t. t.0) (sym (meets_unknown c.self.inside.pools c.args.id c.in_err-room.ensures.known))
    ∙ ap (λ s. (meets_next s c.args.id).0) c.self.view_is

pub returns-in_err-room-clause-left : goal.returns-in_err-room-clause-left
returns-in_err-room-clause-left c =
    sym c.self.view_is
    ∙ ap (λ t. t.1) (sym (meets_unknown c.self.inside.pools c.args.id c.in_err-room.ensures.known))
    ∙ ap (λ s. (meets_next s c.args.id).1) c.self.view_is

pub returns-in_err-waiter-clause-answer : goal.returns-in_err-waiter-clause-answer
returns-in_err-waiter-clause-answer c =
    let none : c.from_residual-in_err-waiter.result ≡ None = search rules in
    none
    ∙ ap (λ t. t.0) (sym (meets_none c.self.inside.pools c.args.id _ c.in_ok-room.room
    c.in_ok-room.ensures.known c.in_ok-room.ensures.sound c.in_err-waiter.ensures.answer))
    ∙ ap (λ s. (meets_next s c.args.id).0) c.self.view_is

pub returns-in_err-waiter-clause-left : goal.returns-in_err-waiter-clause-left
returns-in_err-waiter-clause-left c =
    c.in_err-waiter.ensures.left
    ∙ left_none c.self.inside.pools c.args.id _ c.in_ok-room.room
    c.in_ok-room.ensures.known c.in_ok-room.ensures.sound c.in_err-waiter.ensures.answer
    ∙ ap (λ t. t.1) (sym (meets_none c.self.inside.pools c.args.id _ c.in_ok-room.room
    c.in_ok-room.ensures.known c.in_ok-room.ensures.sound c.in_err-waiter.ensures.answer))
    ∙ ap (λ s. (meets_next s c.args.id).1) c.self.view_is

pub returns-in_err-block-clause-answer : goal.returns-in_err-block-clause-answer
returns-in_err-block-clause-answer c =
    let none : c.from_residual-in_err-block.result ≡ None = search rules in
    none
    ∙ unmet_answer c.self.inside.pools c.args.id _ c.in_ok-room.room
    c.in_ok-room.ensures.known c.in_ok-room.ensures.sound c.in_ok-waiter.waiter
    c.in_ok-waiter.ensures.answer
    c.take_waiter_where.new.self c.in_ok-waiter.ensures.left
    c.in_err-block.ensures.answer
    ∙ ap (λ s. (meets_next s c.args.id).0) c.self.view_is

pub returns-in_err-block-clause-left : goal.returns-in_err-block-clause-left
returns-in_err-block-clause-left c =
    c.in_err-block.ensures.left
    ∙ unmet_left c.self.inside.pools c.args.id _ c.in_ok-room.room
    c.in_ok-room.ensures.known c.in_ok-room.ensures.sound c.in_ok-waiter.waiter
    c.in_ok-waiter.ensures.answer
    c.take_waiter_where.new.self c.in_ok-waiter.ensures.left
    c.in_err-block.ensures.answer
    ∙ ap (λ s. (meets_next s c.args.id).1) c.self.view_is

pub invariant_of-self-in_err-block : goal.invariant_of-self-in_err-block
invariant_of-self-in_err-block c =
    let left = c.take_waiter_where.new.self in
    same_variable c.take.ensures.left
    (variable_takes left
    (same_variable c.in_ok-waiter.ensures.left
    (variable_takes_where c.self.inside.pools c.self.invariant c.args.id _ _))
    c.args.id c.in_ok-waiter.waiter.wants
    (wants_some c.self.inside.pools c.args.id _ c.in_ok-room.room
    c.in_ok-room.ensures.known c.in_ok-room.ensures.sound c.in_ok-waiter.waiter
    c.in_ok-waiter.ensures.answer))

pub invariant_of-self-2 : goal.invariant_of-self-2
invariant_of-self-2 c =
    let left = c.take_waiter_where.new.self in
    same_variable c.take.ensures.left
    (variable_takes left
    (same_variable c.in_ok-waiter.ensures.left
    (variable_takes_where c.self.inside.pools c.self.invariant c.args.id _ _))
    c.args.id c.in_ok-waiter.waiter.wants
    (wants_some c.self.inside.pools c.args.id _ c.in_ok-room.room
    c.in_ok-room.ensures.known c.in_ok-room.ensures.sound c.in_ok-waiter.waiter
    c.in_ok-waiter.ensures.answer))
