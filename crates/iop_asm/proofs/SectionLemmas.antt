-- What a loop makes of the words of a section, one after another.
use Rattle.std.proofs.Common.{◌≡◌, ℕ, ◌+◌, ◌<◌, Option, Some, None, List, [], ◌∷◌, ◌++◌, length, take, get_or, refl, ap, sym, ◌∙◌, arith}
use Rattle.std.proofs.lemmas.List.{take_more, length-map, get_or-map, length-take-le}
use Rattle.std.proofs.lemmas.List.Elements.{filter_map-append}
use Rattle.std.proofs.lemmas.Grind.{flat_map-append}
use Rattle.std.specs.Option.{option_to_list}
use Rattle.std.specs.List.{enumerate_from, filter_map, flat_map, cons_option}
use Rattle.iop_asm.specs.declared.labels.Labels.{Labels}
use Rattle.iop_asm.specs.NumberedCells.{NumberedCell}
use Rattle.iop_asm.specs.Cells.{Cell, plain_cell}
use Rattle.iop_asm.specs.NumberedCells.{cell_in, AreCells}

module _ (labels : Labels) (held : List NumberedCell) (list : List Cell)
    (are : AreCells labels held list) where
  pub AreCells-length : length held ≡ length list
  AreCells-length = sym (length-map held (cell_in labels)) ∙ ap length are ∙ length-map list Some

  -- each word is by name what it is by number
  pub AreCells-at : (i : ℕ) (n : NumberedCell) (c : Cell) → i < length held →
      cell_in labels (get_or held i n) ≡ Some (get_or list i c)
  AreCells-at i n c inside =
      let within : i < length list = omega (arith, AreCells-length) in
      sym (get_or-map (cell_in labels) held i n (Some c) inside)
      ∙ ap (λ l. get_or l i (Some c)) are ∙ get_or-map Some list i c (Some c) within

enumerate_from-append : {X : Type 0} (n m : ℕ) (xs ys : List X) → m ≡ n + length xs →
    enumerate_from n (xs ++ ys) ≡ enumerate_from n xs ++ enumerate_from m ys
enumerate_from-append n m [] ys e =
    let same : n ≡ m = omega (arith, e) in ap (λ k. enumerate_from k ys) same
enumerate_from-append n m (x ∷ xs) ys e =
    let next : m ≡ n + 1 + length xs = omega (arith, e) in
    ap (λ l. (n, x) ∷ l) (enumerate_from-append (n + 1) m xs ys next)

cons_option-nil : {Y : Type 0} (o : Option Y) → cons_option o [] ≡ option_to_list o
cons_option-nil None = refl
cons_option-nil (Some y) = refl

module _ (behind : ℕ) (list : List Cell) (i : ℕ) (inside : i < length list) where
  abbrev next : ℕ × Cell
  next = (behind + i, get_or list i (plain_cell 0))

  numbered_more : enumerate_from behind (take (i + 1) list)
      ≡ enumerate_from behind (take i list) ++ next ∷ []
  numbered_more =
      let before : behind + i ≡ behind + length (take i list) =
      omega (arith, length-take-le i list (omega arith)) in
      ap (enumerate_from behind) (take_more list i (plain_cell 0) inside)
      ∙ enumerate_from-append behind (behind + i) (take i list)
      (get_or list i (plain_cell 0) ∷ []) before

  -- what is made of one word more, where a word may make something
  pub filter_map-more : {Y : Type 0} (h : ℕ × Cell → Option Y) (made : Option Y) → made ≡ h next →
      filter_map h (enumerate_from behind (take (i + 1) list))
      ≡ filter_map h (enumerate_from behind (take i list)) ++ option_to_list made
  filter_map-more h made e =
      let before = filter_map h (enumerate_from behind (take i list)) in
      ap (filter_map h) numbered_more
      ∙ filter_map-append h (enumerate_from behind (take i list)) (next ∷ [])
      ∙ ap (λ l. before ++ l) (cons_option-nil (h next) ∙ ap option_to_list (sym e))

  -- the bytes of one word more
  pub flat_map-more : {Y : Type 0} (h : ℕ × Cell → List Y) →
      flat_map h (enumerate_from behind (take (i + 1) list))
      ≡ flat_map h (enumerate_from behind (take i list)) ++ flat_map h (next ∷ [])
  flat_map-more h =
      ap (flat_map h) numbered_more
      ∙ flat_map-append h (enumerate_from behind (take i list)) (next ∷ [])
