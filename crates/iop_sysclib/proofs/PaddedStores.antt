-- Bytes that are stored, and then zeros behind them: one store.
use Rattle.std.proofs.Common.{◌≡◌, ℕ, ◌+◌, ◌<◌, ◌≤◌, Bool, true, false, Option, Some, None, Ok, List, ◌++◌, length, replicate, refl, ap, sym, ◌∙◌, subst, arith, ⊎_elim, append-nil}
use Rattle.std.specs.Prelude.{is_some, ◌==◌, ◌||◌}
use Rattle.std.proofs.lemmas.Bool.{cases_lt}
use Rattle.std.proofs.lemmas.List.{length-append, length-replicate}
use Rattle.iop_base.specs.Numbers.{wrapped}
use Rattle.iop_base.specs.Output.{Output, Gives}
use Rattle.iop_base.specs.Piece.{Piece}
use Rattle.iop_base.specs.Places.{range_at}
use Rattle.iop_base.proofs.Giving.{gives_then}
use Rattle.iop_base.proofs.Memory.{length-with_bytes}
use Rattle.iop_stubs.specs.Binding.{IsSound}
use Rattle.iop_stubs.specs.Stubs.{Memory, after_store, store_lines, range_place}
use Rattle.iop_stubs.proofs.Joining.{stores_join}
use Rattle.iop_sysclib.specs.Outcomes.{writes, is_open, IsServed}
use Rattle.iop_sysclib.proofs.RangePlaces.{HasPlace, has_place, range_front, range-behind, small}
use Rattle.iop_sysclib.proofs.ServedCalls.{served_store, after_store-none, store_lines-none}

or_some : (b : Bool) → (b || true) ≡ true
or_some true = refl
or_some false = refl

module _ (old : Memory) (sound : IsSound old) (to zeros p : ℕ) (text : List ℕ)
    (is : range_place old to (length text + zeros) ≡ Some p) where
  abbrev whole : List ℕ
  whole = text ++ replicate zeros 0

  whole_length : length whole ≡ length text + zeros
  whole_length =
      length-append text (replicate zeros 0)
      ∙ ap (λ n. length text + n) (length-replicate zeros 0)

  place : HasPlace (length old.ram) to (length text + zeros) p
  place = has_place (length old.ram) to (length text + zeros) p is

  inside : p + length whole ≤ length old.ram
  inside = let most = place.inside in omega (arith, most, whole_length)

  -- the text is stored at the front
  pub front_place : range_place old to (length text) ≡ Some p
  front_place = range_front (length old.ram) to (length text + zeros) p (length text) place (omega arith)

  abbrev begun : Memory
  begun = after_store old (Some p) text

  begun_length : length begun.ram ≡ length old.ram
  begun_length =
      let most = place.inside in length-with_bytes old.ram p text (omega (arith, most))

  -- the zeros stand behind it, where there are any
  behind_place : 0 < zeros
      → range_place begun (wrapped (to + length text)) zeros ≡ Some (p + length text)
  behind_place some =
      let most = place.inside in
      ap (λ size. range_at size (wrapped (to + length text)) zeros) begun_length
      ∙ range-behind (length old.ram) to p (length text) zeros (small (length old.ram) sound.sized)
      place.place some (omega (arith, most))

  module _ (t : ℕ) (before middle after : Output) (last : Memory)
      (stored : last ≡ after_store begun (range_place begun (wrapped (to + length text)) zeros)
      (replicate zeros 0))
      (first_lines : Gives before middle (store_lines t old (Some p) (length text)))
      (second_lines : Gives middle after
      (store_lines t begun (range_place begun (wrapped (to + length text)) zeros) zeros)) where
    with_zeros : 0 < zeros → last ≡ after_store old (Some p) whole
    with_zeros some =
        stored ∙ ap (λ q. after_store begun q (replicate zeros 0)) (behind_place some)
        ∙ (stores_join old p text (replicate zeros 0) sound inside).memory_is

    lines_with_zeros : 0 < zeros → Gives before after (store_lines t old (Some p) (length whole))
    lines_with_zeros some =
        let second = subst (λ (q : Option ℕ). Gives middle after (store_lines t begun q zeros))
        (behind_place some) second_lines in
        let told = subst
        (λ n. Gives middle after (store_lines t begun (Some (p + length text)) n))
        (sym (length-replicate zeros 0)) second in
        subst (λ (pieces : List Piece). Gives before after pieces)
        ((stores_join old p text (replicate zeros 0) sound inside).lines t)
        (gives_then first_lines told)

    no_zeros : zeros ≡ 0 → whole ≡ text
    no_zeros none = ap (λ n. text ++ replicate n 0) none ∙ append-nil text

    without_zeros : zeros ≡ 0 → last ≡ after_store old (Some p) whole
    without_zeros none =
        stored
        ∙ ap (λ n. after_store begun (range_place begun (wrapped (to + length text)) zeros)
        (replicate n 0)) none
        ∙ after_store-none begun (range_place begun (wrapped (to + length text)) zeros)
        ∙ ap (after_store old (Some p)) (sym (no_zeros none))

    lines_without_zeros : zeros ≡ 0
        → Gives before after (store_lines t old (Some p) (length whole))
    lines_without_zeros none =
        let q = range_place begun (wrapped (to + length text)) zeros in
        let second = subst (λ (pieces : List Piece). Gives middle after pieces)
        (ap (store_lines t begun q) none ∙ store_lines-none t begun q) second_lines in
        subst (λ (pieces : List Piece). Gives before after pieces)
        (append-nil (store_lines t old (Some p) (length text))
        ∙ ap (λ (bytes : List ℕ). store_lines t old (Some p) (length bytes)) (sym (no_zeros none)))
        (gives_then first_lines second)

    served_by : (word : ℕ) → last ≡ after_store old (Some p) whole
        → Gives before after (store_lines t old (Some p) (length whole))
        → IsServed (writes old.ram to whole word) t (Ok word) old last before after
    served_by word memory lines =
        let len = length text + zeros in
        let open_is : is_open old.ram to len ≡ true = rw is (or_some (len == 0)) in
        served_store old to len whole word t whole_length last before after open_is
        (memory ∙ ap (λ q. after_store old q whole) (sym is))
        (subst (λ (pieces : List Piece). Gives before after pieces)
        (ap (λ q. store_lines t old q (length whole)) (sym is)
        ∙ ap (store_lines t old (range_place old to len)) whole_length) lines)

    pub served_padded : (word : ℕ)
        → IsServed (writes old.ram to whole word) t (Ok word) old last before after
    served_padded word =
        ⊎_elim (λ some. served_by word (with_zeros some) (lines_with_zeros some))
        (λ none. let is_zero : zeros ≡ 0 = omega (arith, none) in
        served_by word (without_zeros is_zero) (lines_without_zeros is_zero)) (cases_lt 0 zeros)

-- a text that was stored, and a zero behind it
module _ (old : Memory) (sound : IsSound old) (to : ℕ) (text : List ℕ) (t : ℕ)
    (before middle after : Output) (first last : Memory)
    (first_is : first ≡ after_store old (range_place old to (length text)) text)
    (first_lines : Gives before middle
    (store_lines t old (range_place old to (length text)) (length text)))
    (last_is : last
    ≡ after_store first (range_place first (wrapped (to + length text)) 1) (replicate 1 0))
    (last_lines : Gives middle after
    (store_lines t first (range_place first (wrapped (to + length text)) 1) 1)) where
  text_at : (p : ℕ) → range_place old to (length text + 1) ≡ Some p
      → IsServed (writes old.ram to (text ++ replicate 1 0) (length text)) t (Ok (length text)) old
      last before after
  text_at p is =
      let front = front_place old sound to 1 p text is in
      let begun = first_is ∙ ap (λ q. after_store old q text) front in
      let behind = λ (m : Memory). range_place m (wrapped (to + length text)) 1 in
      served_padded old sound to 1 p text is t before middle after last
      (subst (λ (m : Memory). last ≡ after_store m (behind m) (replicate 1 0)) begun last_is)
      (subst (λ (q : Option ℕ). Gives before middle (store_lines t old q (length text))) front
      first_lines)
      (subst (λ (m : Memory). Gives middle after (store_lines t m (behind m) 1)) begun last_lines)
      (length text)

  text_by : (place : Option ℕ) → range_place old to (length text + 1) ≡ place
      → is_some place ≡ true
      → IsServed (writes old.ram to (text ++ replicate 1 0) (length text)) t (Ok (length text)) old
      last before after
  text_by None is some = absurd (cc some)
  text_by (Some p) is some = text_at p is

  pub served_text : is_some (range_place old to (length text + 1)) ≡ true
      → IsServed (writes old.ram to (text ++ replicate 1 0) (length text)) t (Ok (length text)) old
      last before after
  served_text some = text_by (range_place old to (length text + 1)) refl some
