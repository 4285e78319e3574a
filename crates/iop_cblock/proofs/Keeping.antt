-- The other nodes once one is put into a list.
use Rattle.std.proofs.Common.{◌≡◌, ◌∙◌, ℕ, None, ap, sym}
use Rattle.iop_cblock.specs.Lists.{Lists, list_at, list_of, pushed_back, pushed_front, inserted_before, unlinked, without}
use Rattle.iop_cblock.specs.Laws.{KeepsOthers}
use Rattle.iop_cblock.proofs.Reading.{list_at-unlinked}
use Rattle.iop_cblock.proofs.Undoing.{is_undone}

-- what is undone by taking the node out left the others as they were
kept : (node k : ℕ) (s put : Lists) → unlinked node put ≡ s
    → without node (list_at k put) ≡ list_at k s
kept node k s put undone = sym (list_at-unlinked node k put) ∙ ap (list_at k) undone

pub keeps_others : (node : ℕ) (s : Lists) → list_of node s ≡ None → KeepsOthers node s
keeps_others node s free =
    let undone = is_undone node s free in
    record {
      back = λ list k. kept node k s (pushed_back list node s) (undone.back list);
      front = λ list k. kept node k s (pushed_front list node s) (undone.front list);
      before = λ other k. kept node k s (inserted_before node other s) (undone.before other);
    }
