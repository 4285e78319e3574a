-- The ranges in which strings stand.
use Rattle.std.proofs.Common.{◌≡◌, ℕ, ◌+◌, ◌-◌, ◌%◌, ◌^◌, ◌<◌, ◌≤◌, min, Bool, true, false, Option, Some, None, List, [], ◌++◌, length, take, drop, replicate, refl, ap, sym, ◌∙◌, arith, take_all, append-nil, ⊎_elim, subst}
use Rattle.std.specs.Prelude.{◌==◌, ◌||◌}
use Rattle.std.specs.List.{position_or_len}
use Rattle.std.specs.Option.{option_map_or}
use Rattle.std.proofs.lemmas.Bool.{cases_lt, le-leb}
use Rattle.std.proofs.lemmas.List.{length-take, length-drop, take-take, take_min, take-append-le, take-replicate, length-take-le}
use Rattle.std.proofs.Math.Seq.{take-append-add}
use Rattle.iop_base.specs.Numbers.{wrapped}
use Rattle.iop_base.specs.Places.{phys, range_at, IsRamSize}
use Rattle.iop_base.specs.Strings.{before_zero}
use Rattle.iop_printf.specs.Texts.{string_at}
use Rattle.iop_printf.proofs.ShortStrings.{string_whole}
use Rattle.iop_stubs.specs.Stubs.{Memory}
use Rattle.iop_stubs.specs.Copying.{copied_bytes}
use Rattle.iop_sysclib.specs.Outcomes.{is_open, writes}
use Rattle.iop_sysclib.specs.StringCalls.{ended, filled, strcpy, strcat, strncpy}
use Rattle.iop_sysclib.proofs.RangePlaces.{stands, small, word-behind}
use Rattle.iop_sysclib.proofs.StringOrder.{before_zero_is, take-nil}

-- a text is what a range of memory holds, which is read as it is
pub record IsHeld (old : Memory) (from : ℕ) (text : List ℕ) : Type 0 where
  pub bytes : copied_bytes old from (length text) ≡ text
  pub open_is : is_open old.ram from (length text) ≡ true

-- nothing is held anywhere
held_nothing : (old : Memory) (from : ℕ) → phys (length old.ram) from ≡ None → IsHeld old from []
held_nothing old from is = record { bytes = rw is refl; open_is = refl }

or_true : (b : Bool) → (b || true) ≡ true
or_true true = refl
or_true false = refl

-- a front of a front is one by its length
pub front_is : (n : ℕ) (xs : List ℕ) → take (length (take n xs)) xs ≡ take n xs
front_is n xs = ap (λ k. take k xs) (length-take n xs) ∙ take_min n xs

take-min : (m n : ℕ) (xs : List ℕ) → take m (take n xs) ≡ take (min m n) xs
take-min m n xs =
    ⊎_elim
    (λ less. let is : min m n ≡ m = omega (arith, less) in
    take-take m n xs (omega (arith, less)) ∙ ap (λ k. take k xs) (sym is))
    (λ most. let is : min m n ≡ n = omega (arith, most) in
    take_all m (take n xs) (omega (arith, length-take n xs, most)) ∙ ap (λ k. take k xs) (sym is))
    (cases_lt m n)

module _ (old : Memory) (from p : ℕ) (is : phys (length old.ram) from ≡ Some p) where
  held_front : (n : ℕ) → IsHeld old from (take n (drop p old.ram))
  held_front n =
      let text = take n (drop p old.ram) in
      let below = (stands (length old.ram) from p is).below in
      let short : p + length text ≤ length old.ram =
      omega (arith, below, length-take n (drop p old.ram), length-drop p old.ram) in
      let fits = le-leb (p + length text) (length old.ram) short in
      let place : range_at (length old.ram) from (length text) ≡ Some p = rw (is, fits) refl in
      record {
        bytes = rw place (front_is n (drop p old.ram));
        open_is = rw place (or_true (length text == 0));
      }

held_by : (old : Memory) (from most : ℕ) (place : Option ℕ)
    → phys (length old.ram) from ≡ place
    → IsHeld old from
    (take most (option_map_or (λ p. before_zero (drop p old.ram)) place []))
held_by old from most None is =
    subst (IsHeld old from) (sym (take-nil most)) (held_nothing old from is)
held_by old from most (Some p) is =
    let xs = drop p old.ram in
    let k = position_or_len (λ b. b == 0) xs in
    let front = held_front old from p is (min most k) in
    subst (IsHeld old from)
    (sym (take-min most k xs) ∙ ap (take most) (sym (before_zero_is xs))) front

-- a front of a string is held where it stands
pub held_string : (old : Memory) (from most : ℕ)
    → IsHeld old from (take most (string_at old.ram from))
unfolding string_at
held_string old from most = held_by old from most (phys (length old.ram) from) refl

-- what is filled up with zeros
pub filled_is : (n : ℕ) (xs : List ℕ)
    → filled n xs ≡ take n xs ++ replicate (n - length (take n xs)) 0
filled_is n xs =
    ⊎_elim
    (λ less.
    let all = take_all n xs (omega (arith, less)) in
    let more : n - length xs ≤ n = omega arith in
    let split : n ≡ length xs + (n - length xs) = omega (arith, less) in
    ap (λ k. take k (xs ++ replicate n 0)) split
    ∙ take-append-add xs (replicate n 0) (n - length xs)
    ∙ ap (λ zeros. xs ++ zeros) (take-replicate (n - length xs) n 0 more)
    ∙ ap (λ ys. ys ++ replicate (n - length ys) 0) (sym all))
    (λ most.
    let none : n - length (take n xs) ≡ 0 = omega (arith, length-take-le n xs most) in
    take-append-le n xs (replicate n 0) most ∙ sym (append-nil (take n xs))
    ∙ ap (λ k. take n xs ++ replicate k 0) (sym none))
    (cases_lt (length xs) n)

-- a string is held where it stands
pub held_whole : (old : Memory) (from : ℕ) (text : List ℕ) → text ≡ string_at old.ram from
    → IsHeld old from text
held_whole old from text is =
    subst (IsHeld old from) (string_whole old.ram from (length old.ram) refl ∙ sym is)
    (held_string old from (length old.ram))

module _ (ram : List ℕ) (to : ℕ) (sized : IsRamSize (length ram)) (word : to < 2 ^ 32) where
  end_by : (place : Option ℕ) → phys (length ram) to ≡ place
      → to + length (option_map_or (λ p. before_zero (drop p ram)) place []) < 2 ^ 32
  end_by None is = omega (arith, word)
  end_by (Some p) is =
      let below = (stands (length ram) to p is).below in
      let xs = drop p ram in
      let front = ap (λ (t : List ℕ). length t) (before_zero_is xs) in
      let short = length-take (position_or_len (λ b. b == 0) xs) xs in
      word-behind (length ram) to p (length (before_zero xs)) (small (length ram) sized) is
      (omega (arith, below, front, short, length-drop p ram))

  -- the end of a string has an address
  pub end_fits : to + length (string_at ram to) < 2 ^ 32
  unfolding string_at
  end_fits = end_by (phys (length ram) to) refl

module _ (old : Memory) (to from : ℕ) where
  module _ (text : List ℕ) (is : text ≡ string_at old.ram from) where
    stored_is : ended (string_at old.ram from)
        ≡ copied_bytes old from (length text) ++ replicate 1 0
    stored_is =
        ap ended (sym is ∙ sym (held_whole old from text is).bytes)

    pub strcpy_is : strcpy old.ram to from
        ≡ writes old.ram to (copied_bytes old from (length text) ++ replicate 1 0) to
    unfolding strcpy
    strcpy_is = ap (λ bytes. writes old.ram to bytes to) stored_is

    pub strcat_is : (front : List ℕ) → front ≡ string_at old.ram to → to < 2 ^ 32
        → IsRamSize (length old.ram) → strcat old.ram to from
        ≡ writes old.ram (wrapped (to + length front))
        (copied_bytes old from (length text) ++ replicate 1 0) to
    unfolding strcat
    strcat_is front front_is word sized =
        let fits = end_fits old.ram to sized word in
        let end : to + length (string_at old.ram to)
        ≡ (to + length (string_at old.ram to)) % 2 ^ 32 = omega (arith, fits) in
        ap (λ bytes. writes old.ram (to + length (string_at old.ram to)) bytes to) stored_is
        ∙ ap (λ at. writes old.ram at (copied_bytes old from (length text) ++ replicate 1 0) to)
        (end ∙ ap (λ (s : List ℕ). wrapped (to + length s)) (sym front_is))

  module _ (len : ℕ) (text : List ℕ) (is : text ≡ take len (string_at old.ram from)) where
    pub held_text : IsHeld old from text
    held_text = subst (IsHeld old from) (sym is) (held_string old from len)

    pub strncpy_is : strncpy old.ram to from len ≡ writes old.ram to
        (copied_bytes old from (length text) ++ replicate (len - length text) 0) to
    unfolding strncpy
    strncpy_is =
        ap (λ bytes. writes old.ram to bytes to)
        (filled_is len (string_at old.ram from)
        ∙ ap (λ s. s ++ replicate (len - length s) 0) (sym is)
        ∙ ap (λ s. s ++ replicate (len - length text) 0) (sym held_text.bytes))
