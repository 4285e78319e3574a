-- What stood at a place before stubs of a range were bound.
use Rattle.std.proofs.Common.{◌≡◌, ℕ, zero, suc, ◌+◌, ◌-◌, ◌*◌, ◌/◌, ◌%◌, ◌<◌, ◌≤◌, min, Bool, true, false, cond, not, ◌&&◌, ◌||◌, nat_eq, nat_le, nat_lt, Option, Some, None, is_some, List, [], ◌∷◌, length, map, refl, ap, sym, ◌∙◌, arith, subst}
use Rattle.std.specs.List.{All, find, prefix_len, take_while, slice_get}
use Rattle.std.proofs.lemmas.Bool.{ltb-true, ltb-false, leb-true, leb-false, eqb-true, eqb-false, ne_eqb, le-leb, lt-ltb}
use Rattle.std.proofs.lemmas.List.{length-map, get_or-map, get_or-take}
use Rattle.std.proofs.lemmas.List.Elements.{All-head, All-tail}
use Rattle.std.proofs.lemmas.List.Folds.{length-prefix_len}
use Rattle.std.proofs.lemmas.List.Sums.{prefix_len-le-length}
use Rattle.std.proofs.lemmas.Option.{slice_get-get_or}
use Rattle.iop_base.specs.Numbers.{number_at, bytes_of, word_at}
use Rattle.iop_base.proofs.Lists.{number_at_behind}
use Rattle.iop_base.proofs.Memory.{number_at_before, length-with_bytes}
use Rattle.iop_base.specs.declared.words.TheConstants.{JUMP_BACK}
use Rattle.irx_tables.specs.Places.{places}
use Rattle.irx_tables.specs.Exports.{word_room, functions}
use Rattle.irx_tables.specs.declared.words.TheConstants.{HEADER_BYTES, MOST_FUNCTIONS}
use Rattle.irx_tables.proofs.Rows.{length-places, get_or-places}
use Rattle.iop_stubs.specs.Stubs.{Memory, meets, stands_at}
use Rattle.iop_stubs.specs.Binding.{jump_word, with_stub, after_bind, IsBound, IsSound}
use Rattle.iop_stubs.specs.declared.live_stub.Stub.{Stub}
use Rattle.iop_stubs.proofs.Storing.{number_at-live}
use Rattle.iop_linker.specs.Linking.{HasNoLiveStub}
use Rattle.iop_linker.specs.Underway.{former_word, former_functions}

-- rows of words that are read in two ways
module _ (first second : ℕ → ℕ) where
  map_same : ((p : ℕ) → p % 4 ≡ 0 → first p ≡ second p) → (p n : ℕ) → p % 4 ≡ 0
      → map first (places 4 p n) ≡ map second (places 4 p n)
  map_same same p zero aligned = refl
  map_same same p (suc n) aligned =
      ap (λ word. word ∷ map first (places 4 (p + 4) n)) (same p aligned)
      ∙ ap (λ rest. second p ∷ rest) (map_same same (p + 4) n (omega arith))

  abbrev is_function : ℕ → Bool
  is_function word = not (nat_eq word 0)

  count_same : ((p : ℕ) → p % 4 ≡ 0 → nat_eq (first p) 0 ≡ nat_eq (second p) 0) → (p n : ℕ)
      → p % 4 ≡ 0 → prefix_len is_function (map first (places 4 p n))
      ≡ prefix_len is_function (map second (places 4 p n))
  count_same same p zero aligned = refl
  count_same same p (suc n) aligned =
      ap (λ b. cond (not b) (1 + prefix_len is_function (map first (places 4 (p + 4) n))) 0)
      (same p aligned)
      ∙ ap (λ k. cond (is_function (second p)) (1 + k) 0) (count_same same (p + 4) n (omega arith))

-- a word of a row up to one that fails a test
taken_at : (word : ℕ → ℕ) (test : ℕ → Bool) (p n k : ℕ)
    → k < length (take_while test (map word (places 4 p n)))
    → slice_get (take_while test (map word (places 4 p n))) k ≡ Some (word (p + 4 * k))
taken_at word test p n k lt =
    let row : List ℕ = map word (places 4 p n) in
    let below : k < prefix_len test row = omega (arith, length-prefix_len test row) in
    let inside : k < n =
    omega (
      arith,
      prefix_len-le-length test row,
      length-map (places 4 p n) word,
      length-places 4 p n,
    ) in
    slice_get-get_or (take_while test row) k 0 lt
    ∙ ap Some
    (get_or-take (prefix_len test row) row k 0 below
    ∙ get_or-map word (places 4 p n) k 0 0 (omega (arith, length-places 4 p n))
    ∙ ap word (get_or-places 4 p n k 0 inside))

-- a stub that begins at a place lies in a range with that place
meets_there : (from len p : ℕ) (stub : Stub) → from ≤ p → p < from + len → nat_eq stub.at p ≡ true
    → meets from len stub ≡ false → ⊥
meets_there from len p stub low high e far = omega (arith, eqb-true _ _ e, ltb-false _ _ far)

none_by : (from len p : ℕ) (stub : Stub) (later : Option Stub) (b : Bool) → from ≤ p
    → p < from + len → nat_eq stub.at p ≡ b → meets from len stub ≡ false → is_some later ≡ false
    → is_some (cond b (Some stub) later) ≡ false
none_by from len p stub later true low high e far none =
    absurd (meets_there from len p stub low high e far)
none_by from len p stub later false low high e far none = none

none_at : (from len p : ℕ) (live : List Stub) → from ≤ p → p < from + len
    → All (λ stub. meets from len stub ≡ false) live → is_some (find (stands_at p) live) ≡ false
none_at from len p [] low high free = refl
none_at from len p (stub ∷ live) low high free =
    none_by from len p stub (find (stands_at p) live) (nat_eq stub.at p) low high refl
    (All-head (λ s. meets from len s ≡ false) stub live free)
    (none_at from len p live low high (All-tail (λ s. meets from len s ≡ false) stub live free))

not_linked : (a b c : Bool) (x y : ℕ) → (a ≡ true → b ≡ true → c ≡ false)
    → cond (a && (b && c)) x y ≡ y
not_linked false b c x y h = refl
not_linked true false c x y h = refl
not_linked true true false x y h = refl
not_linked true true true x y h = let e = h refl refl in absurd (cc)

-- with no live stub in the range memory is as it was before
pub former_at_first : (from len : ℕ) (memory : Memory) (p : ℕ) → HasNoLiveStub memory from len
    → former_word from len memory p ≡ word_at memory.ram p
former_at_first from len memory p free =
    not_linked (nat_le from p) (nat_lt p (from + len))
    (is_some (find (stands_at p) memory.live)) JUMP_BACK (word_at memory.ram p)
    (λ low high. none_at from len p memory.live (leb-true _ _ low) (ltb-true _ _ high) free)

pub former_functions_at_first : (from len : ℕ) (memory : Memory) (table : ℕ) → table % 4 ≡ 0
    → HasNoLiveStub memory from len
    → former_functions from len memory table ≡ functions memory.ram table
unfolding former_functions functions
former_functions_at_first from len memory table aligned free =
    ap (take_while (λ word. not (nat_eq word 0)))
    (map_same (former_word from len memory) (word_at memory.ram)
    (λ p even. former_at_first from len memory p free) (table + HEADER_BYTES)
    (word_room memory.ram table) (omega arith))

-- where no word changes, the functions stay
pub functions_stay : (from len : ℕ) (old new : Memory) (table : ℕ) → length new.ram ≡ length old.ram
    → ((p : ℕ) → p % 4 ≡ 0 → former_word from len new p ≡ former_word from len old p)
    → table % 4 ≡ 0 → former_functions from len new table ≡ former_functions from len old table
unfolding former_functions
functions_stay from len old new table size same aligned =
    ap (λ n. take_while (λ word. not (nat_eq word 0))
    (map (former_word from len new)
    (places 4 (table + HEADER_BYTES) (min MOST_FUNCTIONS ((n - (table + HEADER_BYTES)) / 4)))))
    size
    ∙ ap (take_while (λ word. not (nat_eq word 0)))
    (map_same (former_word from len new) (former_word from len old) same (table + HEADER_BYTES)
    (word_room old.ram table) (omega arith))

pub former_function : (from len : ℕ) (memory : Memory) (table k : ℕ)
    → k < length (former_functions from len memory table)
    → slice_get (former_functions from len memory table) k
    ≡ Some (former_word from len memory (table + HEADER_BYTES + 4 * k))
unfolding former_functions
former_function from len memory table k lt =
    taken_at (former_word from len memory) (λ word. not (nat_eq word 0)) (table + HEADER_BYTES)
    (word_room memory.ram table) k lt

-- the first word of a live stub is not 0
bound_by : (ram : List ℕ) (stub : Stub) (later : Option Stub) (p : ℕ) (b : Bool)
    → nat_eq stub.at p ≡ b → IsBound ram stub → (is_some later ≡ true → 0 < word_at ram p)
    → is_some (cond b (Some stub) later) ≡ true → 0 < word_at ram p
unfolding word_at
bound_by ram stub later p true e h rest some =
    let same : stub.at ≡ p = eqb-true _ _ e in
    subst (λ (q : ℕ). 0 < number_at ram q 4) same
    (omega (arith, number_at-live ram stub h))
bound_by ram stub later p false e h rest some = rest some

bound_there : (ram : List ℕ) (live : List Stub) (p : ℕ) → All (IsBound ram) live
    → is_some (find (stands_at p) live) ≡ true → 0 < word_at ram p
bound_there ram [] p h some = absurd (cc)
bound_there ram (stub ∷ live) p h some =
    bound_by ram stub (find (stands_at p) live) p (nat_eq stub.at p) refl
    (All-head (IsBound ram) stub live h)
    (bound_there ram live p (All-tail (IsBound ram) stub live h)) some

not_zero : (n : ℕ) → 0 < n → nat_eq n 0 ≡ false
not_zero n lt = ne_eqb n 0 (λ e. omega (arith, e))

zero_by : (a b c : Bool) (word : ℕ) → (c ≡ true → 0 < word)
    → nat_eq word 0 ≡ nat_eq (cond (a && (b && c)) JUMP_BACK word) 0
zero_by false b c word h = refl
zero_by true false c word h = refl
zero_by true true false word h = refl
zero_by true true true word h = not_zero word (h refl)

-- as many functions stand at a place as before
pub count_stays : (from len : ℕ) (memory : Memory) (table : ℕ) → table % 4 ≡ 0 → IsSound memory
    → length (functions memory.ram table) ≡ length (former_functions from len memory table)
unfolding former_functions functions
count_stays from len memory table aligned sound =
    let n : ℕ = word_room memory.ram table in
    let test : ℕ → Bool = λ word. not (nat_eq word 0) in
    length-prefix_len test (map (word_at memory.ram) (places 4 (table + HEADER_BYTES) n))
    ∙ count_same (word_at memory.ram) (former_word from len memory)
    (λ p even. zero_by (nat_le from p) (nat_lt p (from + len))
    (is_some (find (stands_at p) memory.live)) (word_at memory.ram p)
    (bound_there memory.ram memory.live p sound.bound))
    (table + HEADER_BYTES) n (omega arith)
    ∙ sym (length-prefix_len test
    (map (former_word from len memory) (places 4 (table + HEADER_BYTES) n)))

-- whether a stub begins at a place where there is one stub more
found_by : (stub first : Stub) (found later : Option Stub) (before here there : Bool)
    → is_some found ≡ (here || is_some later)
    → is_some (cond before (cond here (Some stub) (cond there (Some first) later))
    (cond there (Some first) found)) ≡ (here || is_some (cond there (Some first) later))
found_by stub first found later true true there e = refl
found_by stub first found later true false there e = refl
found_by stub first found later false true true e = refl
found_by stub first found later false false true e = refl
found_by stub first found later false here false e = e

find_cond : (p : ℕ) (stub first : Stub) (rest : List Stub) (before : Bool)
    → find (stands_at p) (cond before (stub ∷ first ∷ rest) (first ∷ with_stub stub rest))
    ≡ cond before
    (cond (nat_eq stub.at p) (Some stub)
    (cond (nat_eq first.at p) (Some first) (find (stands_at p) rest)))
    (cond (nat_eq first.at p) (Some first) (find (stands_at p) (with_stub stub rest)))
find_cond p stub first rest true = refl
find_cond p stub first rest false = refl

alone : (stub : Stub) (b : Bool) → is_some (cond b (Some stub) None) ≡ (b || false)
alone stub true = refl
alone stub false = refl

found_with : (p : ℕ) (stub : Stub) (live : List Stub)
    → is_some (find (stands_at p) (with_stub stub live))
    ≡ (nat_eq stub.at p || is_some (find (stands_at p) live))
found_with p stub [] = alone stub (nat_eq stub.at p)
found_with p stub (first ∷ rest) =
    ap is_some (find_cond p stub first rest (nat_lt stub.at first.at))
    ∙ found_by stub first (find (stands_at p) (with_stub stub rest)) (find (stands_at p) rest)
    (nat_lt stub.at first.at) (nat_eq stub.at p) (nat_eq first.at p)
    (found_with p stub rest)

-- what stood at the place of the stub, and what at another
there_by : (low high found : Bool) (old new : ℕ) → low ≡ true → high ≡ true → old ≡ JUMP_BACK
    → cond (low && (high && true)) JUMP_BACK new ≡ cond (low && (high && found)) JUMP_BACK old
there_by true true true old new e f g = refl
there_by true true false old new e f g = sym g
there_by true false found old new e f g = absurd (cc)
there_by false high found old new e f g = absurd (cc)

-- a stub of a range that is not bound stands at this place
pub record IsUnbound (from len : ℕ) (ram : List ℕ) (at : ℕ) : Type 0 where
  pub low : from ≤ at
  pub high : at < from + len
  pub aligned : at % 4 ≡ 0
  pub inside : at + 4 ≤ length ram
  pub jump : word_at ram at ≡ JUMP_BACK

module _ (from len : ℕ) (memory : Memory) (stub : Stub)
    (h : IsUnbound from len memory.ram stub.at) where
  word_elsewhere : (p : ℕ) → p % 4 ≡ 0 → nat_eq stub.at p ≡ false
      → word_at (after_bind memory stub).ram p ≡ word_at memory.ram p
  unfolding word_at
  word_elsewhere p even e =
      let bytes = bytes_of 4 (jump_word stub.target) in
      elim (nat_le (p + 4) stub.at) as (λ b. nat_le (p + 4) stub.at ≡ b
      → word_at (after_bind memory stub).ram p ≡ word_at memory.ram p) [
        | true ↦ λ le. number_at_before memory.ram stub.at bytes h.inside p 4 (leb-true _ _ le)
        | false ↦ λ gt. number_at_behind memory.ram stub.at bytes h.inside p 4
            (omega (arith, h.aligned, leb-false _ _ gt, eqb-false _ _ e))
      ] refl

  stays_by : (p : ℕ) → p % 4 ≡ 0 → (b : Bool) → nat_eq stub.at p ≡ b
      → is_some (find (stands_at p) (after_bind memory stub).live)
      ≡ (b || is_some (find (stands_at p) memory.live))
      → former_word from len (after_bind memory stub) p ≡ former_word from len memory p
  stays_by p even true e found =
      let same : stub.at ≡ p = eqb-true _ _ e in
      ap (λ c. cond (nat_le from p && (nat_lt p (from + len) && c)) JUMP_BACK
      (word_at (after_bind memory stub).ram p)) found
      ∙ there_by (nat_le from p) (nat_lt p (from + len)) (is_some (find (stands_at p) memory.live))
      (word_at memory.ram p) (word_at (after_bind memory stub).ram p)
      (le-leb _ _ (omega (arith, h.low))) (lt-ltb _ _ (omega (arith, h.high)))
      (ap (word_at memory.ram) (sym same) ∙ h.jump)
  stays_by p even false e found =
      ap (λ c. cond (nat_le from p && (nat_lt p (from + len) && c)) JUMP_BACK
      (word_at (after_bind memory stub).ram p)) found
      ∙ ap (cond (nat_le from p
      && (nat_lt p (from + len) && is_some (find (stands_at p) memory.live))) JUMP_BACK)
      (word_elsewhere p even e)

  -- binding a stub of the range leaves what stood at every place before
  pub former_stays : (p : ℕ) → p % 4 ≡ 0
      → former_word from len (after_bind memory stub) p ≡ former_word from len memory p
  former_stays p even = stays_by p even (nat_eq stub.at p) refl (found_with p stub memory.live)

  pub former_functions_stay : (table : ℕ) → table % 4 ≡ 0
      → former_functions from len (after_bind memory stub) table
      ≡ former_functions from len memory table
  former_functions_stay table even =
      functions_stay from len memory (after_bind memory stub) table
      (length-with_bytes memory.ram stub.at (bytes_of 4 (jump_word stub.target)) h.inside)
      former_stays even
