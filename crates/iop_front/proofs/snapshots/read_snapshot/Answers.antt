use Rattle.std.proofs.lemmas.Result.{err_from_is_err_and}
use Rattle.iop_front.specs.Inputs.{seen}
use Rattle.iop_front.proofs.SnapshotLemmas.{short_before}
use Rattle.iop_front.proofs.snapshots.read_snapshot.Goals as goal

pub returns-in_err-piece : goal.returns-in_err-piece
returns-in_err-piece g c =
    let now = seen g.F.Files.told g.F.Files.faults c.args.files.now in
    let p = err_from_is_err_and c.from_residual.result c.from_residual.ensures.1 in
    rw (p.1, p.2) (short_before c.args.name.now now)
