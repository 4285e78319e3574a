-- A list of values each of which a table takes behind those before is a list that it takes as a
-- whole.
use Rattle.std.proofs.Common.{◌≡◌, ℕ, zero, suc, Bool, true, false, cond, Option, Some, None, is_some, List, [], ◌∷◌, ◌++◌, get_or, refl, ap, ◌∙◌}
use Rattle.std.specs.Prelude.{option_and_then, option_map}
use Rattle.iop_snapshot.specs.Forms.{Form, in_front, if_passes, tested, read_items, read_list}
use Rattle.iop_snapshot.specs.Items.{read_item}
use Rattle.iop_snapshot.specs.Putting.{put_all, may_put, next_form}
use Rattle.iop_snapshot.specs.declared.widths.TheConstants.{COUNT}
use Rattle.iop_snapshot.proofs.Putting.{put_more, same_next}
use Rattle.iop_saved_objects.specs.Lists.{list_of}

abbrev Read : Type 0 → Type 0
Read X = Option (X × List ℕ)

module _ {T X : Type 0} (put : T → X → Option T) (form : Form X) where
  -- whether a table takes all of some values
  abbrev pub may_put_all : T → List X → Bool
  may_put_all table xs = is_some (put_all put table xs)

  module _ (now : T) (x : X) where
    -- where the first one is refused all are
    refused : put now x ≡ None → (read : Read (List X))
        → option_and_then (if_passes (may_put_all now)) (option_map (in_front x) read) ≡ None
    refused is None = refl
    refused is (Some xs) = rw is refl

    -- where it is taken the others are, as it leaves the table
    taken : (next : T) → put now x ≡ Some next → (read : Read (List X))
        → option_map (in_front x) (option_and_then (if_passes (may_put_all next)) read)
        ≡ option_and_then (if_passes (may_put_all now)) (option_map (in_front x) read)
    taken next is None = refl
    taken next is (Some xs) = rw is (by (may_put_all next xs.0))
      where
        by : (b : Bool) → option_map (in_front x) (cond b (Some xs) None)
            ≡ cond b (Some (x ∷ xs.0, xs.1)) None
        by true = refl
        by false = refl

  items_one_by_one : (base now : T) (before : List X) (n : ℕ) (bytes : List ℕ)
      → put_all put base before ≡ Some now
      → read_items (next_form put form base) before n bytes
      ≡ option_and_then (if_passes (may_put_all now)) (read_items (λ _. form) before n bytes)
  unfolding read_items
  items_one_by_one base now before zero bytes there = refl
  items_one_by_one base now before (suc n) bytes there =
      ap (option_and_then (λ (x : X × List ℕ). option_map (in_front x.0) (more x)))
      (same_next put form base now before there bytes)
      ∙ by (form.read bytes) (λ x next is.
      items_one_by_one base next (before ++ x.0 ∷ []) n x.1
      (put_more put base before x.0 ∙ rw there is))
    where
      more : X × List ℕ → Read (List X)
      more x = read_items (next_form put form base) (before ++ x.0 ∷ []) n x.1

      plain : X × List ℕ → Read (List X)
      plain x = read_items (λ _. form) (before ++ x.0 ∷ []) n x.1

      Later : Type 0
      Later =
          (x : X × List ℕ) (next : T) → put now x.0 ≡ Some next
          → more x ≡ option_and_then (if_passes (may_put_all next)) (plain x)

      one : Later → (x : X × List ℕ) (left : Option T) → put now x.0 ≡ left
          → option_and_then (λ (y : X × List ℕ). option_map (in_front y.0) (more y))
          (if_passes (may_put put now) x)
          ≡ option_and_then (if_passes (may_put_all now)) (option_map (in_front x.0) (plain x))
      one later x None is = rw (is, refused now x.0 is (plain x)) refl
      one later x (Some next) is =
          rw is (ap (option_map (in_front x.0)) (later x next is) ∙ taken now x.0 next is (plain x))

      by : (read : Read X) → Later
          → option_and_then (λ (x : X × List ℕ). option_map (in_front x.0) (more x))
          (option_and_then (if_passes (may_put put now)) read)
          ≡ option_and_then (if_passes (may_put_all now))
          (option_and_then (λ (x : X × List ℕ). option_map (in_front x.0) (plain x)) read)
      by None later = refl
      by (Some x) later = one later x (put now x.0) refl

  pub list_one_by_one : (base : T) (bytes : List ℕ)
      → read_list (next_form put form base) bytes
      ≡ (tested (list_of form) (may_put_all base)).read bytes
  unfolding read_list
  list_one_by_one base bytes = by (read_item COUNT bytes)
    where
      by : (counted : Read (List ℕ))
          → option_and_then (λ (c : List ℕ × List ℕ).
          read_items (next_form put form base) [] (get_or c.0 0 0) c.1) counted
          ≡ option_and_then (if_passes (may_put_all base))
          (option_and_then (λ (c : List ℕ × List ℕ). read_items (λ _. form) [] (get_or c.0 0 0) c.1)
          counted)
      by None = refl
      by (Some c) = items_one_by_one base base [] (get_or c.0 0 0) c.1 refl
