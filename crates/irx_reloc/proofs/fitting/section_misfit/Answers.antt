use Rattle.std.proofs.Common.{Some, None, sym, ◌∙◌}
use Rattle.irx_reloc.specs.Entries.{entries_of}
use Rattle.irx_reloc.specs.Walking.{pair_of}
use Rattle.irx_reloc.proofs.Fits.{section_from}
use Rattle.irx_reloc.proofs.fitting.section_misfit.Goals as goal

pub returns-in-Some : goal.returns-in-Some
returns-in-Some c =
    sym (section_from c.args.length (entries_of c.args.section.now) c.count-count.result
    c.loop-index.index c.low_behind-next_low.result (pair_of c.read-entry.result)
    (Some c.in-Some.rule) c.count-count.ensures c.loop-index-test.true c.read-entry.ensures
    c.low_behind-next_low.ensures (sym c.in-Some.is ∙ c.broken_rule.ensures))
    ∙ c.loop-index.invariant.left

pub loop-index-preserved : goal.loop-index-preserved
loop-index-preserved c = record {
  low = λ lt. c.low_behind-next_low.ensures;
  left =
      sym (section_from c.args.length (entries_of c.args.section.now) c.count-count.result
      c.loop-index.index c.low_behind-next_low.result (pair_of c.read-entry.result) None
      c.count-count.ensures c.loop-index-test.true c.read-entry.ensures
      c.low_behind-next_low.ensures (sym c.in_default.is ∙ c.broken_rule.ensures))
      ∙ c.loop-index.invariant.left;
}
