-- The parts of a text that is joined of them.
use Rattle.std.proofs.Common.{◌≡◌, ℕ, suc, ◌<◌, ◌==◌, Bool, true, false, not, List, [], ◌∷◌, ◌++◌, length, take, refl, ap, sym, ◌∙◌, subst, arith}
use Rattle.std.specs.List.{All, join_with_byte, list_all, onto_first}
use Rattle.std.proofs.lemmas.Bool.{and_parts, eq-eqb, not-true}
use Rattle.std.proofs.lemmas.List.Elements.{All-nil, All-cons, All-head, All-tail, All-take, All-append}
use Rattle.std.proofs.lemmas.List.Splits.{length-slice_split, slice_split_at, slice_split_none, slice_split-cons_yes, slice_split-cons_no}
use Rattle.iop_script.specs.Texts.{parts}

-- it is not the separator
abbrev pub Differs : ℕ → ℕ → Type 0
Differs c b = (b == c) ≡ false

-- it has no separator
abbrev pub Lacks : ℕ → List ℕ → Type 0
Lacks c part = All (Differs c) part

-- bytes that pass a test which the separator does not pass
pub lacks_by : (c : ℕ) (p : ℕ → Bool) → ((b : ℕ) → p b ≡ true → Differs c b) → (part : List ℕ)
    → list_all p part ≡ true → Lacks c part
lacks_by c p other [] all = All-nil (Differs c)
lacks_by c p other (b ∷ rest) all =
    let tests = and_parts (p b) (list_all p rest) all in
    All-cons (Differs c) b rest (other b tests.0) (lacks_by c p other rest tests.1)

-- by the test itself
pub lacks_tested : (c : ℕ) (part : List ℕ) → list_all (λ b. not (b == c)) part ≡ true
    → Lacks c part
lacks_tested c part all =
    lacks_by c (λ b. not (b == c)) (λ b is. not-true (b == c) is) part all

module _ (c : ℕ) where
  -- also of parts that are joined by something else
  pub joined-lacks : (other : ℕ) → Differs c other → (ps : List (List ℕ)) → All (Lacks c) ps
      → Lacks c (join_with_byte other ps)
  joined-lacks other differs [] all = All-nil (Differs c)
  joined-lacks other differs (part ∷ []) all = All-head (Lacks c) part [] all
  joined-lacks other differs (part ∷ second ∷ rest) all =
      All-append (Differs c) part (other ∷ join_with_byte other (second ∷ rest))
      (All-head (Lacks c) part (second ∷ rest) all)
      (All-cons (Differs c) other (join_with_byte other (second ∷ rest)) differs
      (joined-lacks other differs (second ∷ rest) (All-tail (Lacks c) part (second ∷ rest) all)))

  pub parts-joined : (first : List ℕ) (rest : List (List ℕ)) → Lacks c first → All (Lacks c) rest
      → parts c (join_with_byte c (first ∷ rest)) ≡ first ∷ rest
  parts-joined first [] lacks all = slice_split_none (λ b. b == c) first lacks
  parts-joined first (second ∷ rest) lacks all =
      slice_split_at (λ b. b == c) first c (join_with_byte c (second ∷ rest)) lacks
      (eq-eqb c c refl)
      ∙ ap (λ others. first ∷ others)
      (parts-joined second rest (All-head (Lacks c) second rest all)
      (All-tail (Lacks c) second rest all))

  onto-lacks : (b : ℕ) (ps : List (List ℕ)) → Differs c b → All (Lacks c) ps
      → All (Lacks c) (onto_first b ps)
  onto-lacks b [] differs all =
      All-cons (Lacks c) (b ∷ []) [] (All-cons (Differs c) b [] differs (All-nil (Differs c)))
      (All-nil (Lacks c))
  onto-lacks b (part ∷ rest) differs all =
      All-cons (Lacks c) (b ∷ part) rest
      (All-cons (Differs c) b part differs (All-head (Lacks c) part rest all))
      (All-tail (Lacks c) part rest all)

  pub parts-lack : (text : List ℕ) → All (Lacks c) (parts c text)
  parts-lack [] = All-cons (Lacks c) [] [] (All-nil (Differs c)) (All-nil (Lacks c))
  parts-lack (b ∷ rest) = at (b == c) refl (parts-lack rest)
    where
      at : (is : Bool) → (b == c) ≡ is → All (Lacks c) (parts c rest)
          → All (Lacks c) (parts c (b ∷ rest))
      at true is all =
          subst (All (Lacks c)) (sym (slice_split-cons_yes (λ x. x == c) b rest is))
          (All-cons (Lacks c) [] (parts c rest) (All-nil (Differs c)) all)
      at false is all =
          subst (All (Lacks c)) (sym (slice_split-cons_no (λ x. x == c) b rest is))
          (onto-lacks b (parts c rest) is all)

  some_part : (text : List ℕ) → 0 < length (parts c text)
  some_part text = omega (arith, length-slice_split (λ b. b == c) text)

  front_of : (k : ℕ) (ps : List (List ℕ)) → All (Lacks c) ps → 0 < length ps
      → parts c (join_with_byte c (take (suc k) ps)) ≡ take (suc k) ps
  front_of k [] all some = absurd (omega arith)
  front_of k (first ∷ rest) all some =
      parts-joined first (take k rest) (All-head (Lacks c) first rest all)
      (All-take (Lacks c) k rest (All-tail (Lacks c) first rest all))

  -- the first of a text's parts, as a text
  pub parts-front : (k : ℕ) (text : List ℕ)
      → parts c (join_with_byte c (take (suc k) (parts c text))) ≡ take (suc k) (parts c text)
  parts-front k text = front_of k (parts c text) (parts-lack text) (some_part text)

  onto-append : (b : ℕ) (ps qs : List (List ℕ)) → 0 < length ps
      → onto_first b (ps ++ qs) ≡ onto_first b ps ++ qs
  onto-append b [] qs some = absurd (omega arith)
  onto-append b (part ∷ rest) qs some = refl

  -- and of a text with more behind it
  pub parts-append : (text more : List ℕ)
      → parts c (text ++ c ∷ more) ≡ parts c text ++ parts c more
  parts-append [] more = slice_split-cons_yes (λ x. x == c) c more (eq-eqb c c refl)
  parts-append (b ∷ rest) more = at (b == c) refl (parts-append rest more)
    where
      at : (is : Bool) → (b == c) ≡ is
          → parts c (rest ++ c ∷ more) ≡ parts c rest ++ parts c more
          → parts c (b ∷ rest ++ c ∷ more) ≡ parts c (b ∷ rest) ++ parts c more
      at true is later =
          slice_split-cons_yes (λ x. x == c) b (rest ++ c ∷ more) is
          ∙ ap (λ (ps : List (List ℕ)). [] ∷ ps) later
          ∙ ap (λ (ps : List (List ℕ)). ps ++ parts c more)
          (sym (slice_split-cons_yes (λ x. x == c) b rest is))
      at false is later =
          slice_split-cons_no (λ x. x == c) b (rest ++ c ∷ more) is
          ∙ ap (onto_first b) later
          ∙ onto-append b (parts c rest) (parts c more) (some_part rest)
          ∙ ap (λ (ps : List (List ℕ)). ps ++ parts c more)
          (sym (slice_split-cons_no (λ x. x == c) b rest is))
