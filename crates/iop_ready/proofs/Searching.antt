-- The best of more and more of a list.
use Rattle.std.proofs.Common.{◌≡◌, ℕ, ◌+◌, ◌<◌, ◌≤◌, Option, Some, None, List, [], ◌∷◌, ◌++◌, length, take, get_or, refl, ap, sym, ◌∙◌, arith}
use Rattle.std.proofs.lemmas.Bool.Decides.{nat_tests}
use Rattle.std.proofs.lemmas.List.{take_more, take_all}
use Rattle.iop_base.specs.Choosing.{better}
use Rattle.iop_ready.specs.declared.entry.Entry.{Entry}
use Rattle.iop_ready.specs.ReadyList.{best_of, with_later}

better-with_later : (x : Entry) (o : Option Entry) (y : Entry)
    → better (λ e. e.priority) x (Some (with_later o y))
    ≡ with_later (Some (better (λ e. e.priority) x o)) y
better-with_later x None y = refl
better-with_later x (Some z) y = grind (arith, nat_tests)

best_of-last : (xs : List Entry) (y : Entry)
    → best_of (xs ++ y ∷ []) ≡ Some (with_later (best_of xs) y)
best_of-last [] y = refl
best_of-last (x ∷ xs) y =
    ap (λ o. Some (better (λ e. e.priority) x o)) (best_of-last xs y)
    ∙ ap Some (better-with_later x (best_of xs) y)

pub best_of-more : (xs : List Entry) (i : ℕ) (x r : Entry) (o : Option Entry) → i < length xs
    → x ≡ get_or xs i x → o ≡ best_of (take i xs) → r ≡ with_later o x
    → Some r ≡ best_of (take (i + 1) xs)
best_of-more xs i x r o below is so chosen =
    ap Some (chosen ∙ ap (λ p. with_later p x) so) ∙ sym (best_of-last (take i xs) x)
    ∙ ap (λ y. best_of (take i xs ++ y ∷ [])) is
    ∙ ap best_of (sym (take_more xs i x below))

pub best_of-all : (xs : List Entry) (i : ℕ) (o : Option Entry) → length xs ≤ i
    → o ≡ best_of (take i xs) → o ≡ best_of xs
best_of-all xs i o all so = so ∙ ap best_of (take_all i xs all)
