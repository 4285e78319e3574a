-- Lists that are searched and filtered, and bytes put into a list of bytes: twice, in either order,
-- or as
-- they stood.
use Rattle.std.proofs.Common.{◌≡◌, ℕ, zero, suc, ◌+◌, ◌-◌, ◌*◌, ◌/◌, ◌%◌, ◌^◌, ◌<◌, ◌≤◌, ◌||◌, Bool, true, false, cond, not, Option, Some, None, List, [], ◌∷◌, ◌++◌, length, take, drop, get_or, append-nil, append_assoc, Bor, refl, ap, sym, ◌∙◌, subst, arith}
use Rattle.std.specs.List.{All, find, filter, list_any, prefix_len, slice_get}
use Rattle.std.specs.Option.{option_copied}
use Rattle.std.specs.Slice.{IsItemAt}
use Rattle.std.proofs.lemmas.Option.{slice_get-get_or, slice_get_past}
use Rattle.std.proofs.lemmas.List.{get_or-append_right, get_or-drop, get_or-take, length-take-le, length-append, take-append-le, take-append-drop, take-take, drop-append-le, drop-drop, drop-take}
use Rattle.std.proofs.lemmas.List.Elements.{All-nil, All-cons, All-head, All-tail, All-append, All-take, All-drop}
use Rattle.std.proofs.Math.Seq.{drop-cons, drop-append_seam, take-append_seam, take-append-add, drop-append-add}
use Rattle.iop_base.specs.Numbers.{IsByte, number_at, bytes_of, with_bytes}

-- what a read by index lends
pub option_copied-item : {X : Type 0} (xs : List X) (i : ℕ) (r : Option (Bor X)) → IsItemAt xs i r →
    option_copied r ≡ slice_get xs i
option_copied-item xs i None h = sym (slice_get_past xs i h.3)
option_copied-item xs i (Some x) h = sym (slice_get-get_or xs i x.now h.3.0 ∙ ap Some (sym h.1))

module _ {X : Type 0} (p : X → Bool) where
  get_by : (b : Bool) (x : X) (xs : List X) (n m : ℕ) → m ≡ suc n →
      slice_get xs n ≡ find (λ y. not (p y)) xs →
      slice_get (x ∷ xs) (cond b m 0) ≡ cond (not b) (Some x) (find (λ y. not (p y)) xs)
  get_by true x xs n m next e = ap (slice_get (x ∷ xs)) next ∙ e
  get_by false x xs n m next e = refl

  -- behind those at the front that pass stands the first that does not
  pub slice_get-prefix_len : (xs : List X) →
      slice_get xs (prefix_len p xs) ≡ find (λ y. not (p y)) xs
  slice_get-prefix_len [] = refl
  slice_get-prefix_len (x ∷ xs) =
      let n = prefix_len p xs in get_by (p x) x xs n (1 + n) (omega arith) (slice_get-prefix_len xs)

  pub find-none : (xs : List X) → All (λ x. p x ≡ false) xs → find p xs ≡ None
  find-none [] h = refl
  find-none (x ∷ xs) h =
      ap (λ b. cond b (Some x) (find p xs)) (All-head (λ y. p y ≡ false) x xs h)
      ∙ find-none xs (All-tail (λ y. p y ≡ false) x xs h)

  fails_by : (b c : Bool) (x : X) (xs ys : List X) → (b || c) ≡ false → (c ≡ false → ys ≡ xs) →
      cond (not b) (x ∷ ys) ys ≡ x ∷ xs
  fails_by true c x xs ys e later = cc
  fails_by false c x xs ys e later = ap (λ l. x ∷ l) (later e)

  -- where none passes all stay
  pub filter-none_fails : (xs : List X) → list_any p xs ≡ false → filter (λ x. not (p x)) xs ≡ xs
  filter-none_fails [] e = refl
  filter-none_fails (x ∷ xs) e =
      fails_by (p x) (list_any p xs) x xs (filter (λ y. not (p y)) xs) e (filter-none_fails xs)

  none_by : (b c : Bool) (x : X) (ys : List X) → (b || c) ≡ false → (c ≡ false → ys ≡ []) →
      cond b (x ∷ ys) ys ≡ []
  none_by true c x ys e later = cc
  none_by false c x ys e later = later e

  pub filter-none_passes : (xs : List X) → list_any p xs ≡ false → filter p xs ≡ []
  filter-none_passes [] e = refl
  filter-none_passes (x ∷ xs) e =
      none_by (p x) (list_any p xs) x (filter p xs) e (filter-none_passes xs)

module _ (memory : List ℕ) (p : ℕ) (bytes : List ℕ) (inside : p + length bytes ≤ length memory)
  where
    front : length (take p memory) ≡ p
    front = length-take-le p memory (omega arith)

    both : length (take p memory ++ bytes) ≡ p + length bytes
    both = length-append (take p memory) bytes ∙ ap (λ n. n + length bytes) front

    byte_behind : (q : ℕ) → p + length bytes ≤ q →
        get_or (with_bytes memory p bytes) q 0 ≡ get_or memory q 0
    byte_behind q after =
        get_or-append_right (take p memory ++ bytes) (drop (p + length bytes) memory)
        (p + length bytes) q 0 both after
        ∙ get_or-drop (p + length bytes) memory (q - (p + length bytes)) 0
        ∙ (let e : p + length bytes + (q - (p + length bytes)) ≡ q = omega arith in
        ap (λ n. get_or memory n 0) e)

    -- a number behind the bytes that were put
    pub number_at_behind : (q n : ℕ) → p + length bytes ≤ q →
        number_at (with_bytes memory p bytes) q n ≡ number_at memory q n
    number_at_behind q zero after = refl
    number_at_behind q (suc n) after =
        ap (λ b. b + 256 * number_at (with_bytes memory p bytes) (q + 1) n) (byte_behind q after)
        ∙ ap (λ h. get_or memory q 0 + 256 * h) (number_at_behind (q + 1) n (omega arith))

    -- what is before the bytes
    take-with_bytes : (n : ℕ) → n ≤ p → take n (with_bytes memory p bytes) ≡ take n memory
    take-with_bytes n le =
        ap (take n) (append_assoc (take p memory) bytes (drop (p + length bytes) memory))
        ∙ take-append-le n (take p memory) (bytes ++ drop (p + length bytes) memory)
        (omega (arith, front))
        ∙ take-take n p memory le

    -- the bytes, and so many more
    take_more-with_bytes : (k : ℕ) →
        take (p + length bytes + k) (with_bytes memory p bytes)
        ≡ take p memory ++ bytes ++ take k (drop (p + length bytes) memory)
    take_more-with_bytes k =
        ap (λ n. take (n + k) (with_bytes memory p bytes)) (sym both)
        ∙ take-append-add (take p memory ++ bytes) (drop (p + length bytes) memory) k

    -- what is behind them
    drop-with_bytes : (k : ℕ) →
        drop (p + length bytes + k) (with_bytes memory p bytes) ≡ drop (p + length bytes + k) memory
    drop-with_bytes k =
        ap (λ n. drop (n + k) (with_bytes memory p bytes)) (sym both)
        ∙ drop-append-add (take p memory ++ bytes) (drop (p + length bytes) memory) k
        ∙ drop-drop k (p + length bytes) memory

    -- the bytes there, those before and those behind
    pub bytes_inside : take (length bytes) (drop p (with_bytes memory p bytes)) ≡ bytes
    bytes_inside =
        let rest = drop (p + length bytes) memory in
        ap (λ l. take (length bytes) (drop p l)) (append_assoc (take p memory) bytes rest)
        ∙ ap (λ n. take (length bytes) (drop n (take p memory ++ (bytes ++ rest)))) (sym front)
        ∙ ap (take (length bytes)) (drop-append_seam (take p memory) (bytes ++ rest))
        ∙ take-append_seam bytes rest

    pub bytes_before : (q n : ℕ) → q + n ≤ p →
        take n (drop q (with_bytes memory p bytes)) ≡ take n (drop q memory)
    bytes_before q n le =
        sym (drop-take q n (with_bytes memory p bytes)) ∙ ap (drop q) (take-with_bytes (q + n) le)
        ∙ drop-take q n memory

    pub bytes_behind : (q n : ℕ) → p + length bytes ≤ q →
        take n (drop q (with_bytes memory p bytes)) ≡ take n (drop q memory)
    bytes_behind q n le =
        let k = q - (p + length bytes) in
        let place : p + length bytes + k ≡ q = omega arith in
        ap (take n) (subst (λ r. drop r (with_bytes memory p bytes) ≡ drop r memory) place
        (drop-with_bytes k))

    -- others, as many, in the same place
    pub with_bytes-again : (others : List ℕ) → length others ≡ length bytes →
        with_bytes (with_bytes memory p bytes) p others ≡ with_bytes memory p others
    with_bytes-again others same =
        let n : p + length others ≡ p + length bytes + 0 = omega arith in
        ap (λ l. l ++ others ++ drop (p + length others) (with_bytes memory p bytes))
        (take-with_bytes p (omega arith))
        ∙ ap (λ l. take p memory ++ others ++ l)
        (ap (λ q. drop q (with_bytes memory p bytes)) n ∙ drop-with_bytes 0
        ∙ ap (λ q. drop q memory) (sym n))

-- no byte
pub with_bytes-none : (memory : List ℕ) (p : ℕ) → with_bytes memory p [] ≡ memory
with_bytes-none memory p =
    ap (λ front. front ++ drop (p + 0) memory) (append-nil (take p memory))
    ∙ (let e : p + 0 ≡ p = omega arith in ap (λ q. take p memory ++ drop q memory) e)
    ∙ take-append-drop p memory

-- bytes in two places, one behind the other
module _ (memory : List ℕ) (p k : ℕ) (a b : List ℕ)
    (inside : p + length a + k + length b ≤ length memory) where
  abbrev q : ℕ
  q = p + length a + k

  abbrev rest : List ℕ
  rest = drop (q + length b) memory

  late_first : with_bytes (with_bytes memory p a) q b
      ≡ take p memory ++ a ++ take k (drop (p + length a) memory) ++ b ++ rest
  late_first =
      let more : q + length b ≡ p + length a + (k + length b) = omega arith in
      ap (λ l. l ++ b ++ drop (q + length b) (with_bytes memory p a))
      (take_more-with_bytes memory p a (omega arith) k)
      ∙ ap (λ l. take p memory ++ a ++ take k (drop (p + length a) memory) ++ b ++ l)
      (ap (λ n. drop n (with_bytes memory p a)) more
      ∙ drop-with_bytes memory p a (omega arith) (k + length b)
      ∙ ap (λ n. drop n memory) (sym more))

  early_behind : drop (p + length a) (with_bytes memory q b)
      ≡ take k (drop (p + length a) memory) ++ (b ++ rest)
  early_behind =
      ap (drop (p + length a)) (append_assoc (take q memory) b rest)
      ∙ drop-append-le (p + length a) (take q memory) (b ++ rest)
      (omega (arith, length-take-le q memory (omega arith)))
      ∙ ap (λ l. l ++ (b ++ rest)) (drop-take (p + length a) k memory)

  early_first : with_bytes (with_bytes memory q b) p a
      ≡ take p memory ++ a ++ (take k (drop (p + length a) memory) ++ (b ++ rest))
  early_first =
      ap (λ l. l ++ a ++ drop (p + length a) (with_bytes memory q b))
      (take-with_bytes memory q b (omega arith) p (omega arith))
      ∙ ap (λ l. take p memory ++ a ++ l) early_behind

  with_bytes-swap : with_bytes (with_bytes memory p a) q b ≡ with_bytes (with_bytes memory q b) p a
  with_bytes-swap =
      let middle = take k (drop (p + length a) memory) in
      late_first
      ∙ append_assoc (take p memory ++ a ++ middle) b rest
      ∙ append_assoc (take p memory ++ a) middle (b ++ rest)
      ∙ sym early_first

-- the same, for any place behind the first bytes
pub with_bytes-apart : (memory : List ℕ) (p q : ℕ) (a b : List ℕ) → p + length a ≤ q →
    q + length b ≤ length memory →
    with_bytes (with_bytes memory p a) q b ≡ with_bytes (with_bytes memory q b) p a
with_bytes-apart memory p q a b behind fits =
    let k = q - (p + length a) in
    let place : p + length a + k ≡ q = omega arith in
    subst (λ r. with_bytes (with_bytes memory p a) r b ≡ with_bytes (with_bytes memory r b) p a)
    place (with_bytes-swap memory p k a b (omega arith))

-- the bytes of a number that is read
pub bytes_of-number_at : (memory : List ℕ) (n p : ℕ) → All IsByte memory → p + n ≤ length memory →
    bytes_of n (number_at memory p n) ≡ take n (drop p memory)
bytes_of-number_at memory zero p all fits = refl
bytes_of-number_at memory (suc n) p all fits =
    let low = get_or memory p 0 in
    let high = number_at memory (p + 1) n in
    let byte : low < 256 = all p 0 (omega arith) in
    let first : (low + 256 * high) % 256 ≡ low = omega arith in
    let others : (low + 256 * high) / 256 ≡ high = omega arith in
    let next : suc p ≡ p + 1 = omega arith in
    ap (λ b. b ∷ bytes_of n ((low + 256 * high) / 256)) first
    ∙ ap (λ h. low ∷ bytes_of n h) others
    ∙ ap (λ l. low ∷ l) (bytes_of-number_at memory n (p + 1) all (omega arith))
    ∙ sym (ap (take (suc n))
    (drop-cons memory p 0 (omega arith) ∙ ap (λ m. low ∷ drop m memory) next))

pub length-bytes_of : (n value : ℕ) → length (bytes_of n value) ≡ n
length-bytes_of zero value = refl
length-bytes_of (suc n) value = ap suc (length-bytes_of n (value / 256))

-- the bytes that stand there
pub with_bytes-same : (memory : List ℕ) (p : ℕ) (bytes : List ℕ) →
    take (length bytes) (drop p memory) ≡ bytes → with_bytes memory p bytes ≡ memory
with_bytes-same memory p bytes there =
    ap (λ l. take p memory ++ l ++ drop (p + length bytes) memory) (sym there)
    ∙ ap (λ l. take p memory ++ take (length bytes) (drop p memory) ++ l)
    (sym (drop-drop (length bytes) p memory))
    ∙ append_assoc (take p memory) (take (length bytes) (drop p memory))
    (drop (length bytes) (drop p memory))
    ∙ ap (λ l. take p memory ++ l) (take-append-drop (length bytes) (drop p memory))
    ∙ take-append-drop p memory

-- a number in a part of memory
number_at-part : (memory : List ℕ) (p n k j : ℕ) → k + j ≤ n →
    number_at (take n (drop p memory)) k j ≡ number_at memory (p + k) j
number_at-part memory p n k zero fits = refl
number_at-part memory p n k (suc j) fits =
    let part = take n (drop p memory) in
    let next : p + (k + 1) ≡ p + k + 1 = omega arith in
    ap (λ b. b + 256 * number_at part (k + 1) j) (get_or-take n (drop p memory) k 0 (omega arith)
    ∙ get_or-drop p memory k 0)
    ∙ ap (λ h. get_or memory (p + k) 0 + 256 * h)
    (number_at-part memory p n (k + 1) j (omega arith) ∙ ap (λ q. number_at memory q j) next)

word_in_bytes : (value : ℕ) → value < 2 ^ 32 → number_at (bytes_of 4 value) 0 4 ≡ value
word_in_bytes value small = omega arith

-- the word in bytes that are known
pub number_at-word : (memory : List ℕ) (p value : ℕ) → value < 2 ^ 32 →
    take 4 (drop p memory) ≡ bytes_of 4 value → number_at memory p 4 ≡ value
number_at-word memory p value small e =
    let place : p + 0 ≡ p = omega arith in
    ap (λ q. number_at memory q 4) (sym place) ∙ sym (number_at-part memory p 4 0 4 (omega arith))
    ∙ ap (λ l. number_at l 0 4) e ∙ word_in_bytes value small

-- memory into which bytes were put has bytes alone
pub All-with_bytes : (memory : List ℕ) (p : ℕ) (bytes : List ℕ) → All IsByte memory →
    All IsByte bytes → All IsByte (with_bytes memory p bytes)
All-with_bytes memory p bytes all new =
    All-append IsByte (take p memory ++ bytes) (drop (p + length bytes) memory)
    (All-append IsByte (take p memory) bytes (All-take IsByte p memory all) new)
    (All-drop IsByte (p + length bytes) memory all)

-- the bytes of a number are bytes
pub All-bytes_of : (n value : ℕ) → All IsByte (bytes_of n value)
All-bytes_of zero value = All-nil IsByte
All-bytes_of (suc n) value =
    All-cons IsByte (value % 256) (bytes_of n (value / 256)) (omega arith)
    (All-bytes_of n (value / 256))
