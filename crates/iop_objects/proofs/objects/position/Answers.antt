use Rattle.std.proofs.Common.{◌∙◌, None, ap, sym, rules, option_copied}
use Rattle.std.proofs.lemmas.List.Sorted.{IsPartitionPoint-from_clause}
use Rattle.iop_base.proofs.Lists.{option_copied-item}
use Rattle.iop_objects.proofs.Places.{is_before, ids_parted, found_by_halving}
use Rattle.iop_objects.proofs.objects.position.Goals as goal

pub returns-in_err-object-clause-place : goal.returns-in_err-object-clause-place
returns-in_err-object-clause-place g c =
    let live = c.args.live.now in
    let place = c.partition_point-place.result in
    c.from_residual.ensures
    ∙ sym (found_by_halving live c.requires c.args.id place
    (IsPartitionPoint-from_clause (is_before c.args.id) live place
    c.partition_point-place.ensures.partitioned (ids_parted live c.requires c.args.id)
    (λ a r q k. search rules)) None
    (sym (option_copied-item live place _ c.get.ensures.lookup)
    ∙ ap option_copied c.in_err-object.was))

pub returns-clause-place : goal.returns-clause-place
returns-clause-place g c =
    let live = c.args.live.now in
    let place = c.partition_point-place.result in
    c.then_some.ensures
    ∙ sym (found_by_halving live c.requires c.args.id place
    (IsPartitionPoint-from_clause (is_before c.args.id) live place
    c.partition_point-place.ensures.partitioned (ids_parted live c.requires c.args.id)
    (λ a r q k. search rules)) _
    (sym (option_copied-item live place _ c.get.ensures.lookup)
    ∙ ap option_copied c.in_ok-object.was))
