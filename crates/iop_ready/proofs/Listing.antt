-- Which threads are in a list.
use Rattle.std.proofs.Common.{◌≡◌, ◌≢◌, ℕ, false, List, [], ◌∷◌, arith}
use Rattle.std.specs.Prelude.{◌==◌}
use Rattle.std.proofs.lemmas.Bool.{ne_eqb}
use Rattle.std.proofs.lemmas.Bool.Decides.{nat_tests}
use Rattle.std.proofs.lemmas.List.Elements.{All-nil, All-cons, All-weaker}
use Rattle.std.proofs.lemmas.List.Folds.{list_any_none}
use Rattle.iop_ready.specs.declared.entry.Entry.{Entry}
use Rattle.iop_ready.specs.ReadyList.{HasNot, is_listed}

-- a thread whose slot no other has is not in the list, and back
pub listed-has_not : (slot : ℕ) (xs : List Entry) → HasNot slot xs → is_listed slot xs ≡ false
listed-has_not slot xs absent =
    list_any_none (λ e. e.slot == slot) xs
    (All-weaker (λ e. e.slot ≢ slot) (λ e. (e.slot == slot) ≡ false)
    (λ e other. ne_eqb e.slot slot other) xs absent)

pub has_not-listed : (slot : ℕ) (xs : List Entry) → is_listed slot xs ≡ false → HasNot slot xs
has_not-listed slot [] none = All-nil (λ e. e.slot ≢ slot)
has_not-listed slot (x ∷ xs) none =
    All-cons (λ e. e.slot ≢ slot) x xs (λ same. grind (arith, nat_tests, none, same))
    (has_not-listed slot xs (grind (arith, nat_tests, none)))
