use Rattle.std.proofs.Common.{◌+◌, ◌-◌, ap, sym, ◌∙◌, subst, arith, drop, length}
use Rattle.std.proofs.lemmas.List.{length-drop, take_all}
use Rattle.iop_machine.specs.ModulesLeft.{FilesHaveCounts}
use Rattle.iop_machine.proofs.ModulesTaken.{files_short}
use Rattle.iop_machine.proofs.modules_left.ModulesLeft.files.Goals as goal

pub returns-clause-short : goal.returns-clause-short
returns-clause-short c =
    let w = c.self.inside in
    let held = c.self.invariant in
    let files = c.deref.result.now in
    let left = drop w.taken files in
    let many = length-drop w.taken files in
    subst FilesHaveCounts (sym (take_all (length files - w.taken) left (omega (arith, many))))
    (subst (λ files. FilesHaveCounts (drop w.taken files)) (sym c.deref.ensures.value) (record {
      all = omega (arith, length-drop w.taken w.modules.items, held.few, held.some);
      each = files_short w.args.items w.named.items (w.first_number + w.taken)
          (drop w.taken w.modules.items) held.room;
    }))
