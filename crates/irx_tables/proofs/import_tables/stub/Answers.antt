use Rattle.std.proofs.Common.{ℕ, Some, ◌+◌, ◌-◌, ◌*◌, ◌∙◌, ap, sym, arith}
use Rattle.iop_base.specs.declared.words.TheConstants.{STUB_INDEX}
use Rattle.irx_tables.specs.declared.words.TheConstants.{HEADER_BYTES}
use Rattle.irx_tables.proofs.Importing.{IsStubOf, import_stub}
use Rattle.irx_tables.proofs.import_tables.stub.Goals as goal

is_stub : (c : goal.After-word)
    → IsStubOf c.args.ram.now c.args.table.now c.requires.table.0 c.args.i
is_stub c =
    import_stub c.args.ram.now c.args.table.now c.requires.table.0 c.args.i c.requires.table.1
    c.requires.below

pub word-requires-clause-inside : goal.word-requires-clause-inside
word-requires-clause-inside c =
    let h = import_stub c.args.ram.now c.args.table.now c.requires.table.0 c.args.i
    c.requires.table.1 c.requires.below in
    omega (arith, h.inside)

pub overflow_sub-result : goal.overflow_sub-result
overflow_sub-result c = omega (arith, (is_stub c).stands.words.low)

pub overflow_cast-result : goal.overflow_cast-result
overflow_cast-result c = omega (arith, (is_stub c).stands.words.high)

pub returns-clause-stub : goal.returns-clause-stub
returns-clause-stub c =
    λ found h. (import_stub c.args.ram.now c.args.table.now found c.args.i h
    c.requires.below).stands.gives
    ∙ ap (λ (w : ℕ). Some (c.args.table.now.at + HEADER_BYTES + 8 * c.args.i, w - STUB_INDEX))
    (sym c.word.ensures.value)

pub returns-clause-inside : goal.returns-clause-inside
returns-clause-inside c =
    let h = is_stub c in (omega (arith, h.aligned), omega (arith, h.inside))
