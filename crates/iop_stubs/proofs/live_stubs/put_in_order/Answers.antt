use Rattle.std.proofs.Common.{◌≡◌, Result, Ok, Err, OnErr, cond, is_ok, arith, refl, ◌∙◌, List, get_or}
use Rattle.std.specs.List.{All}
use Rattle.std.proofs.lemmas.List.Sums.{prefix_len-le-length}
use Rattle.iop_stubs.specs.Stubs.{stands_before}
use Rattle.iop_stubs.proofs.Storing.{Apart, apart}
use Rattle.iop_stubs.proofs.Binding.{insert_is}
use Rattle.iop_stubs.proofs.live_stubs.put_in_order.Goals as goal

taken : {A E X : Type 0} (r : Result A E) (full : Type 0) (xs ys : List X) → OnErr r full →
    (full → ⊥) → cond (is_ok r) xs ys ≡ xs
taken (Ok x) full xs ys h none = refl
taken (Err e) full xs ys h none = absurd (none h)

pub insert-requires : goal.insert-requires
insert-requires c =
    omega (
      arith,
      c.count_before-index.ensures,
      prefix_len-le-length (stands_before c.args.stub.at) c.deref.result.now,
      c.deref.ensures.len,
    )

pub returns-clause-stubs : goal.returns-clause-stubs
returns-clause-stubs c =
    let stubs = c.args.stubs.now.items in
    let far : All (λ other. Apart other.at c.args.stub.at 8) stubs =
    λ k d below. apart (get_or stubs k d).at c.args.stub.at 8 (c.requires.apart k d below) in
    c.insert.ensures.items
    ∙ taken c.insert.result _ _ _ c.insert.ensures.full
    (λ le. absurd (omega (arith, le, c.requires.room)))
    ∙ rw (c.count_before-index.ensures, c.deref.ensures.value) (insert_is c.args.stub stubs far)
