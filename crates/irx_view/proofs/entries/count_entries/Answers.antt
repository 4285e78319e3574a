use Rattle.std.proofs.Common.{◌≡◌, ℕ, List, ap, arith}
use Rattle.irx_reloc.specs.Entries.{all_entries}
use Rattle.irx_view.specs.Types.{number_of, count_of_all}
use Rattle.irx_view.proofs.entries.count_entries.Goals as goal

pub returns : goal.returns
returns c =
    let number : ℕ = number_of c.args.kind in
    let count = λ (lists : List (List ℕ)). count_of_all number (all_entries lists) in
    let none : count c.loop-section.lists ≡ 0 = ap count c.in_default.ensures.next.0 in
    let all : count c.lists-lists.result ≡ count c.args.relocations.now =
    ap count c.lists-lists.ensures in
    omega (arith, c.loop-section.invariant.sum, c.loop-section.invariant.small)
