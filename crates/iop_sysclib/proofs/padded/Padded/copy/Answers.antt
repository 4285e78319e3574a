use Rattle.std.proofs.Common.{List, ℕ, ◌+◌, length, ap, sym, ◌∙◌}
use Rattle.std.specs.Prelude.{is_some}
use Rattle.iop_base.specs.Places.{range_at}
use Rattle.iop_sysclib.proofs.PaddedCopies.{served_none, served_outside, served_inside}
use Rattle.iop_sysclib.proofs.padded.Padded.copy.Goals as goal

pub returns-then-whole-eq0-clause-served : goal.returns-then-whole-eq0-clause-served
returns-then-whole-eq0-clause-served g c =
    let bytes = c.args.self in
    served_none c.args.guest.now c.args.to bytes.from bytes.len bytes.zeros c.requires.source
    c.args.answer c.args.now _ c.if-whole-eq0.true

pub returns-then-not-contains-clause-served : goal.returns-then-not-contains-clause-served
returns-then-not-contains-clause-served g c =
    let bytes = c.args.self in
    served_outside c.args.guest.now c.args.to bytes.from bytes.len bytes.zeros
    c.requires.source c.args.answer c.args.now _ c.if-whole-eq0.false
    (ap (λ (ram : List ℕ). is_some (range_at (length ram) c.args.to (bytes.len + bytes.zeros)))
    (sym c.ram.ensures.value)
    ∙ sym c.contains.ensures ∙ c.if-not-contains.true)

pub returns-clause-served : goal.returns-clause-served
returns-clause-served g c =
    let bytes = c.args.self in
    served_inside c.args.guest.now c.args.to bytes.from bytes.len bytes.zeros
    c.requires.source c.ram.ensures.sound c.args.now c.args.answer _ _ _ c.copy.new.self
    c.fill.new.self c.copy.ensures.memory c.copy.ensures.lines c.fill.ensures.memory
    c.fill.ensures.lines
    (ap (λ (ram : List ℕ). is_some (range_at (length ram) c.args.to (bytes.len + bytes.zeros)))
    (sym c.ram.ensures.value)
    ∙ sym c.contains.ensures ∙ c.if-not-contains.false)
