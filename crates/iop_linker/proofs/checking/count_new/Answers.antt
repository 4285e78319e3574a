use Rattle.std.proofs.Common.{◌≡◌, ℕ, ◌+◌, ◌∙◌, Ok, length, ap, sym, refl, arith}
use Rattle.std.proofs.lemmas.Result.{err_from_is_err_and}
use Rattle.irx_tables.specs.Imports.{next_table, tables_of}
use Rattle.iop_linker.specs.Linking.{first_without_library, new_stubs}
use Rattle.iop_linker.specs.Underway.{text_count}
use Rattle.iop_linker.proofs.Tables.{nothing_more}
use Rattle.iop_linker.proofs.Counted.{count_goes_on, count_stops}
use Rattle.iop_linker.proofs.checking.count_new.Goals as goal

pub returns-in_err-count : goal.returns-in_err-count
returns-in_err-count c =
    let t = c.in-Table.ensures.table in
    let count : ℕ =
    length (new_stubs c.args.ram.now c.args.registry.now
    (tables_of c.args.ram.now c.args.from c.args.len).whole) in
    let stops = count_stops c.args.ram.now c.args.registry.now
    (c.args.from + c.args.len) c.loop-import.scan c.in-Table.import t c.in_err-count.field-0.0
    count c.in_err-count.ensures.count in
    let p = err_from_is_err_and c.from_residual.result c.from_residual.ensures.1 in
    rw (p.1, p.2) (stops ∙ ap (λ o. text_count o count) c.loop-import.invariant.without)

pub loop-import-preserved : goal.loop-import-preserved
loop-import-preserved c =
    let t = c.in-Table.ensures.table in
    let got = count_goes_on c.args.ram.now c.args.registry.now
    (c.args.from + c.args.len) c.loop-import.scan c.in-Table.import t c.in_ok-count.field-0
    c.in_ok-count.ensures.count in
    record {
      aligned = omega (arith, t.place);
      after = omega (arith, t.after, t.place);
      before = t.place.inside;
      few = omega (arith, c.in_ok-count.ensures.few, t.after, t.place);
      without = got.0 ∙ c.loop-import.invariant.without;
      counts = omega (arith, got.1, c.loop-import.invariant.counts);
    }

pub returns : goal.returns
returns c =
    let over = nothing_more c.args.ram.now
    (c.args.from + c.args.len) c.loop-import.scan c.imports.result
    (next_table c.args.ram.now (c.args.from + c.args.len) c.loop-import.scan) refl
    c.imports.ensures.next c.in_default.not-Table in
    let without = ap (first_without_library c.args.registry.now) over in
    let counts = ap (λ tables. length (new_stubs c.args.ram.now c.args.registry.now tables)) over in
    let count : c.loop-import.count
    ≡ length (new_stubs c.args.ram.now c.args.registry.now
    (tables_of c.args.ram.now c.args.from c.args.len).whole) = omega
    (arith, counts, c.loop-import.invariant.counts) in
    ap Ok count ∙ ap (λ o.
    text_count o
    (length (new_stubs c.args.ram.now c.args.registry.now
    (tables_of c.args.ram.now c.args.from c.args.len).whole)))
    (sym without ∙ c.loop-import.invariant.without)
