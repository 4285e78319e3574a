use Rattle.std.proofs.Common.{◌∙◌}
use Rattle.iop_asm.proofs.LabelLemmas.{AddsLabel-made, IsNumbering-added, name_in-added, place_in-added}
use Rattle.iop_asm.proofs.labels.Labels.add.Goals as goal

pub invariant_of-self-2 : goal.invariant_of-self-2
invariant_of-self-2 c =
    let added = AddsLabel-made c.args.self.now.numbers c.insert.new.self c.args.name c.requires
    c.reserve.ensures.rest_kept c.vacant_key-number.ensures c.in_ok-insert.ensures.updates
    c.insert_reserved.ensures.key c.insert_reserved.ensures.updates in
    record { numbering = IsNumbering-added added c.args.self.now.numbering }

pub returns-clause-kept : goal.returns-clause-kept
returns-clause-kept c =
    let added = AddsLabel-made c.args.self.now.numbers c.insert.new.self c.args.name c.requires
    c.reserve.ensures.rest_kept c.vacant_key-number.ensures c.in_ok-insert.ensures.updates
    c.insert_reserved.ensures.key c.insert_reserved.ensures.updates in
    record {
      names = record { kept = name_in-added added };
      places = λ labels table. record {
        placed = λ name. place_in-added added c.args.self.now.numbering name ∙ table.placed name;
      };
    }
