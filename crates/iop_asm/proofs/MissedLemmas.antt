-- What one more name makes of the labels of bad lines.
use Rattle.std.proofs.Common.{◌≡◌, ℕ, Bool, true, false, ◌||◌, cond, Bor, List, [], ◌∷◌, ◌++◌, inl, inr, refl, ap, sym, subst, ◌∙◌, bytes_eq}
use Rattle.std.specs.BTreeSet.{BTreeSet, UpdatesBy}
use Rattle.std.specs.Cmp.{eq_by_cmp_equiv}
use Rattle.std.specs.Cmp.Lexicographic.{slice_cmp, nat_list_cmp_total, nat_list_eq_equiv}
use Rattle.std.specs.List.{list_any}
use Rattle.std.specs.Ordering.{is_eq, nat_cmp}
use Rattle.std.specs.Set.{KeepsOthers}
use Rattle.std.proofs.lemmas.Bool.{cases_Bool}
use Rattle.std.proofs.lemmas.List.Folds.{list_any-append}
use Rattle.std.proofs.lemmas.Map.Text.{is_eq-slice_cmp}
use Rattle.std.proofs.lemmas.Slice.Eq.{bytes_eq-Decides}
use Rattle.iop_asm.specs.MissedLabels.{holds, AreNames}

module _ (name : List ℕ) (old new : BTreeSet (Bor (List ℕ)))
    (updates : UpdatesBy (λ x y. slice_cmp nat_cmp x.now y.now)
    (λ key. slice_cmp nat_cmp name key.now) old new true) where
  holds-other : (other : List ℕ) → bytes_eq name other ≡ false → holds new other ≡ holds old other
  unfolding KeepsOthers
  holds-other other differs =
      updates.3 (λ key. is_eq (slice_cmp nat_cmp other key.now))
      (λ x y. (eq_by_cmp_equiv nat_list_cmp_total).congr other x.now y.now)
      (λ key is. is_eq-slice_cmp other key.now ∙ nat_list_eq_equiv.symm other key.now
      ∙ sym (nat_list_eq_equiv.congr name key.now other (sym (is_eq-slice_cmp name key.now) ∙ is))
      ∙ differs)

  holds-more : (other : List ℕ) →
      holds new other ≡ cond (bytes_eq name other) true (holds old other)
  holds-more other =
      elim (cases_Bool (bytes_eq name other)) [
        | inl same ↦
            rw same
            (subst (λ n. holds new n ≡ true) ((bytes_eq-Decides name other).0 same) updates.1)
        | inr differs ↦ rw differs (holds-other other differs)
      ]

  with_last : (before last : Bool) → (before || (last || false)) ≡ cond last true before
  with_last true true = refl
  with_last true false = refl
  with_last false true = refl
  with_last false false = refl

  -- the set with one more name
  pub AreNames-more : (names : List (List ℕ)) → AreNames old names →
      AreNames new (names ++ name ∷ [])
  AreNames-more names held = record {
    same = λ other.
        holds-more other
        ∙ ap (λ here. cond here true (holds old other)) (nat_list_eq_equiv.symm name other)
        ∙ ap (cond (bytes_eq other name) true) (held.same other)
        ∙ sym (list_any-append (bytes_eq other) names (name ∷ [])
        ∙ with_last (list_any (bytes_eq other) names) (bytes_eq other name));
  }
