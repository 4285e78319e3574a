use Rattle.std.proofs.Common.{arith}
use Rattle.std.proofs.lemmas.List.Folds.{list_all-map, list_all_at}
use Rattle.iop_asm.proofs.encoding.fields_with.Goals as goal

pub field_of-requires : goal.field_of-requires
field_of-requires c = grind (arith, list_all-map, list_all_at)
