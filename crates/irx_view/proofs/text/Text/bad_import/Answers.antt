use Rattle.std.proofs.Common.{◌+◌, ◌∙◌, ap, sym, refl, arith}
use Rattle.irx_tables.specs.Imports.{next_table, tables_from}
use Rattle.irx_tables.specs.declared.import_tables.Import.{Import}
use Rattle.irx_view.proofs.TableLemmas.{bad_behind, none_bad, bad_here}
use Rattle.irx_view.proofs.text.Text.bad_import.Goals as goal

pub loop-import-preserved : goal.loop-import-preserved
loop-import-preserved c =
    let t = c.in-Table.ensures.table in
    let text = c.args.self.now in
    record {
      aligned = omega (arith, t.place);
      before = omega (arith, t.place);
      bad = ap (λ q. (tables_from text.ram (0 + text.size) q).bad)
          (ap (λ (x : Import). x.end) t.stands.same)
          ∙ sym (bad_behind text.ram (0 + text.size) c.loop-import.scan t.table t.next)
          ∙ c.loop-import.invariant.bad;
    }

pub returns-in-End : goal.returns-in-End
returns-in-End c =
    let text = c.args.self.now in
    sym (none_bad text.ram (0 + text.size) c.loop-import.scan
    (next_table text.ram (0 + text.size) c.loop-import.scan) refl c.in-End.ensures.next)
    ∙ c.loop-import.invariant.bad

pub returns-in-Bad : goal.returns-in-Bad
returns-in-Bad c =
    let text = c.args.self.now in
    sym (bad_here text.ram (0 + text.size) c.loop-import.scan c.in-Bad.at
    (next_table text.ram (0 + text.size) c.loop-import.scan) refl c.in-Bad.ensures.next)
    ∙ c.loop-import.invariant.bad
