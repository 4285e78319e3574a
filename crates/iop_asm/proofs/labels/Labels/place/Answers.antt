use Rattle.iop_asm.proofs.LabelLemmas.{IsTableOf-placed}
use Rattle.iop_asm.proofs.labels.Labels.place.Goals as goal

pub returns-clause-stands : goal.returns-clause-stands
returns-clause-stands c = λ labels table absent.
    let standing = c.in_ok-number.ensures.kept.places labels table in
    record {
      placed = IsTableOf-placed c.number.new.self.numbers _ _ _ _ c.index_mut.ensures.value
          c.number.new.self.numbering labels standing.placed c.args.name.now
          c.in_ok-number.ensures.numbered absent;
    }
