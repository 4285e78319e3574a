-- What is read of all elements of a list, one after another.
use Rattle.std.proofs.Common.{◌≡◌, ℕ, ◌+◌, ◌<◌, ◌≤◌, Option, Some, None, option_map, option_and_then, List, [], ◌∷◌, ◌++◌, length, map, drop, get_or, refl, ap, sym, ◌∙◌}
use Rattle.std.proofs.lemmas.List.{append-nil, append_assoc, at_drop_all, at_drop_more, map-append}
use Rattle.std.proofs.lemmas.Simd.{map-map}
use Rattle.iop_asm.specs.Texts.{all_of}

module _ {A B : Type 0} (f : A → Option B) where
  -- what is read of elements, with what was read of those before them
  unfoldable pub read_on : List B → List A → Option (List B)
  read_on front rest = option_map (λ read. front ++ read) (all_of (map f rest))

  pub read_on-nil : (rest : List A) → read_on [] rest ≡ all_of (map f rest)
  unfolding read_on
  read_on-nil rest =
      elim (all_of (map f rest)) as (λ o. option_map (λ read. read) o ≡ o)
      [ None ↦ refl | Some read ↦ refl ]

  -- behind the last element
  pub read_on-end : (front : List B) (all : List A) (i : ℕ) → length all ≤ i →
      read_on front (drop i all) ≡ Some front
  unfolding read_on
  read_on-end front all i past =
      at_drop_all (read_on front) all i past ∙ ap Some (append-nil front)

  module _ (front : List B) (all : List A) (i : ℕ) (d : A) (inside : i < length all) where
    abbrev rest : Option (List B)
    rest = all_of (map f (drop (i + 1) all))

    -- with what is read of an element
    abbrev after : Option B → Option (List B)
    after first =
        option_map (λ read. front ++ read)
        (option_and_then (λ b. option_map (λ bs. b ∷ bs) rest) first)

    read_on-here : read_on front (drop i all) ≡ after (f (get_or all i d))
    unfolding read_on
    read_on-here = at_drop_more (read_on front) all i d inside

    -- nothing is read of the element
    pub read_on-wrong : f (get_or all i d) ≡ None → read_on front (drop i all) ≡ None
    read_on-wrong e = read_on-here ∙ ap after e

    moved : (b : B) (o : Option (List B)) →
        option_map (λ read. (front ++ b ∷ []) ++ read) o
        ≡ option_map (λ read. front ++ read) (option_map (λ bs. b ∷ bs) o)
    moved b None = refl
    moved b (Some read) = ap Some (append_assoc front (b ∷ []) read)

    -- the element is read
    pub read_on-more : (b : B) → f (get_or all i d) ≡ Some b →
        read_on (front ++ b ∷ []) (drop (i + 1) all) ≡ read_on front (drop i all)
    unfolding read_on
    read_on-more b e = moved b rest ∙ sym (read_on-here ∙ ap after e)

pub ruleset all = (map-map, map-append, read_on-nil, read_on-end, read_on-wrong, read_on-more)
