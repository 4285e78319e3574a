use Rattle.std.proofs.Common.{◌+◌, ◌∙◌, ap, sym, refl, arith}
use Rattle.irx_tables.specs.Imports.{next_table, tables_from}
use Rattle.irx_tables.specs.declared.import_tables.Import.{Import}
use Rattle.iop_linker.proofs.Tables.{bad_next, none_next, broken_next}
use Rattle.iop_linker.proofs.checking.bad_table.Goals as goal

pub loop-import-preserved : goal.loop-import-preserved
loop-import-preserved c =
    let t = c.in-Table.ensures.table in
    record {
      aligned = omega (arith, t.place);
      after = omega (arith, t.after, t.place);
      before = t.place.inside;
      bad = ap (λ q. (tables_from c.args.ram.now (c.args.from + c.args.len) q).bad)
          (ap (λ (x : Import). x.end) t.stands.same)
          ∙ sym (bad_next c.args.ram.now
          (c.args.from + c.args.len) c.loop-import.scan t.table t.next)
          ∙ c.loop-import.invariant.bad;
    }

pub returns-in-End : goal.returns-in-End
returns-in-End c =
    sym (none_next c.args.ram.now (c.args.from + c.args.len) c.loop-import.scan
    (next_table c.args.ram.now (c.args.from + c.args.len) c.loop-import.scan) refl
    c.in-End.ensures.next).1
    ∙ c.loop-import.invariant.bad

pub returns-in-Bad : goal.returns-in-Bad
returns-in-Bad c =
    sym (broken_next c.args.ram.now (c.args.from + c.args.len) c.loop-import.scan c.in-Bad.at
    (next_table c.args.ram.now (c.args.from + c.args.len) c.loop-import.scan) refl
    c.in-Bad.ensures.next).1
    ∙ c.loop-import.invariant.bad
