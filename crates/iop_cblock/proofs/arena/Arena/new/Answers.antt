use Rattle.iop_cblock.proofs.Standing.{sound_from, view_from}
use Rattle.iop_cblock.proofs.Fresh.{fresh-stands}
use Rattle.iop_cblock.proofs.Disjoint.{view_disjoint}
use Rattle.iop_cblock.proofs.arena.Arena.new.Goals as goal

pub invariant_of-result : goal.invariant_of-result
invariant_of-result c =
    rw (c.in_ok-next.ensures, c.in_ok-previous.ensures, c.in_ok-owner.ensures)
    (sound_from _ _ (fresh-stands c.args.nodes c.args.lists))

pub returns : goal.returns
returns c =
    rw (c.in_ok-next.ensures, c.in_ok-previous.ensures, c.in_ok-owner.ensures)
    (let after = fresh-stands c.args.nodes c.args.lists in
    record { lists = view_from _ _ after; disjoint = view_disjoint _ _ after })
