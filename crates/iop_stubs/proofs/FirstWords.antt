-- Words over the first words of stubs: their order, reads of them, and what stays.
use Rattle.std.proofs.Common.{◌≡◌, ℕ, suc, ◌+◌, ◌≤◌, Bool, true, false, cond, not, List, [], ◌∷◌, length, take, drop, filter, get_or, nat_lt, refl, ap, sym, ◌∙◌, subst, arith}
use Rattle.std.specs.List.{All}
use Rattle.std.proofs.lemmas.List.{nil_from_length}
use Rattle.std.proofs.lemmas.List.Elements.{All-nil, All-cons, All-head, All-tail, All-weaker, All-filter}
use Rattle.std.proofs.lemmas.List.Kept.{AllPairs-filter}
use Rattle.iop_base.specs.Numbers.{number_at, bytes_of, with_bytes}
use Rattle.iop_base.proofs.Lists.{number_at_behind, with_bytes-again, with_bytes-apart, with_bytes-none, with_bytes-same, bytes_inside, bytes_behind}
use Rattle.iop_base.proofs.Memory.{length-with_bytes, number_at_before}
use Rattle.iop_stubs.specs.Binding.{with_stub, IsInOrder}
use Rattle.iop_stubs.specs.Layers.{with_first_words}
use Rattle.iop_stubs.specs.declared.live_stub.Stub.{Stub}
use Rattle.iop_stubs.proofs.Storing.{Apart, before, behind, empty}

-- the stubs lie in memory of this size, in order
pub record AreIn (size : ℕ) (stubs : List Stub) : Type 0 where
  pub fits : All (λ stub. stub.at + 8 ≤ size) stubs
  pub apart : IsInOrder stubs

abbrev pub IsBehind : Stub → Stub → Type 0
IsBehind first second = first.at + 8 ≤ second.at

module _ (size : ℕ) (first : Stub) (rest : List Stub) (h : AreIn size (first ∷ rest)) where
  pub rest_in : AreIn size rest
  rest_in = record {
    fits = All-tail (λ stub. stub.at + 8 ≤ size) first rest h.fits;
    apart = λ i j d lt below. h.apart (suc i) (suc j) d (omega arith) (omega arith);
  }

  pub first_fits : first.at + 8 ≤ size
  first_fits = All-head (λ stub. stub.at + 8 ≤ size) first rest h.fits

  pub rest_behind : All (IsBehind first) rest
  rest_behind = λ k d below. h.apart 0 (suc k) d (omega arith) (omega arith)

  pub rest_apart : All (λ stub. Apart stub.at first.at 4) rest
  rest_apart =
      All-weaker (IsBehind first) (λ stub. Apart stub.at first.at 4)
      (λ stub b. behind (omega arith)) rest rest_behind

pub filter_in : (size : ℕ) (test : Stub → Bool) (stubs : List Stub) → AreIn size stubs →
    AreIn size (filter test stubs)
filter_in size test stubs h = record {
  fits = All-filter test (λ stub. stub.at + 8 ≤ size) stubs h.fits;
  apart = AllPairs-filter IsBehind test stubs h.apart;
}

-- a stub's first word and bytes apart from the stub, in either order
pub put_either : (memory : List ℕ) (p : ℕ) (bytes : List ℕ) (at value : ℕ) →
    Apart at p (length bytes) → p + length bytes ≤ length memory → at + 8 ≤ length memory →
    with_bytes (with_bytes memory p bytes) at (bytes_of 4 value)
    ≡ with_bytes (with_bytes memory at (bytes_of 4 value)) p bytes
put_either memory p bytes at value (before h) inside fits =
    sym (with_bytes-apart memory at p (bytes_of 4 value) bytes (omega arith) inside)
put_either memory p bytes at value (behind h) inside fits =
    with_bytes-apart memory p at bytes (bytes_of 4 value) h (omega arith)
put_either memory p bytes at value (empty h) inside fits =
    let none = nil_from_length bytes h in
    subst (λ (l : List ℕ). with_bytes (with_bytes memory p l) at (bytes_of 4 value)
    ≡ with_bytes (with_bytes memory at (bytes_of 4 value)) p l) (sym none)
    (ap (λ m. with_bytes m at (bytes_of 4 value)) (with_bytes-none memory p)
    ∙ sym (with_bytes-none (with_bytes memory at (bytes_of 4 value)) p))

module _ (word : Stub → ℕ) where
  -- the stub's first word in memory is its word
  abbrev pub Reads : List ℕ → Stub → Type 0
  Reads memory stub = take 4 (drop stub.at memory) ≡ bytes_of 4 (word stub)

  pub length-first_words : (stubs : List Stub) (bytes : List ℕ) → AreIn (length bytes) stubs →
      length (with_first_words word stubs bytes) ≡ length bytes
  length-first_words [] bytes h = refl
  length-first_words (first ∷ rest) bytes h =
      let same = length-first_words rest bytes (rest_in (length bytes) first rest h) in
      length-with_bytes (with_first_words word rest bytes) first.at (bytes_of 4 (word first))
      (omega (arith, same, first_fits (length bytes) first rest h)) ∙ same

  -- bytes apart from the stubs, before or after
  pub first_words-swap : (stubs : List Stub) (memory : List ℕ) (p : ℕ) (bytes : List ℕ) →
      AreIn (length memory) stubs → All (λ stub. Apart stub.at p (length bytes)) stubs →
      p + length bytes ≤ length memory →
      with_first_words word stubs (with_bytes memory p bytes)
      ≡ with_bytes (with_first_words word stubs memory) p bytes
  first_words-swap [] memory p bytes h far inside = refl
  first_words-swap (first ∷ rest) memory p bytes h far inside =
      let later = rest_in (length memory) first rest h in
      let same = length-first_words rest memory later in
      ap (λ m. with_bytes m first.at (bytes_of 4 (word first)))
      (first_words-swap rest memory p bytes later (All-tail (λ stub. Apart stub.at p (length bytes))
      first rest far) inside)
      ∙ put_either (with_first_words word rest memory) p bytes first.at (word first)
      (All-head (λ stub. Apart stub.at p (length bytes)) first rest far) (omega (arith, same))
      (omega (arith, same, first_fits (length memory) first rest h))

  -- the words that stand there
  pub first_words-same : (stubs : List Stub) (memory : List ℕ) → AreIn (length memory) stubs →
      All (Reads memory) stubs → with_first_words word stubs memory ≡ memory
  first_words-same [] memory h words = refl
  first_words-same (first ∷ rest) memory h words =
      ap (λ m. with_bytes m first.at (bytes_of 4 (word first)))
      (first_words-same rest memory (rest_in (length memory) first rest h)
      (All-tail (Reads memory) first rest words))
      ∙ with_bytes-same memory first.at (bytes_of 4 (word first))
      (All-head (Reads memory) first rest words)

  -- a number before them all
  first_words-before : (stubs : List Stub) (memory : List ℕ) (q n : ℕ) →
      AreIn (length memory) stubs → All (λ stub. q + n ≤ stub.at) stubs →
      number_at (with_first_words word stubs memory) q n ≡ number_at memory q n
  first_words-before [] memory q n h all = refl
  first_words-before (first ∷ rest) memory q n h all =
      let later = rest_in (length memory) first rest h in
      let same = length-first_words rest memory later in
      number_at_before (with_first_words word rest memory) first.at (bytes_of 4 (word first))
      (omega (arith, same, first_fits (length memory) first rest h)) q n
      (All-head (λ stub. q + n ≤ stub.at) first rest all)
      ∙ first_words-before rest memory q n later (All-tail (λ stub. q + n ≤ stub.at) first rest all)

  -- each first word, and the words behind them
  pub first_words-read : (stubs : List Stub) (memory : List ℕ) → AreIn (length memory) stubs →
      All (Reads (with_first_words word stubs memory)) stubs
  first_words-read [] memory h = All-nil (Reads memory)
  first_words-read (first ∷ rest) memory h =
      let later = rest_in (length memory) first rest h in
      let below = with_first_words word rest memory in
      let bytes = bytes_of 4 (word first) in
      let fits : first.at + 4 ≤ length below =
      omega (
        arith,
        length-first_words rest memory later,
        first_fits (length memory) first rest h,
      ) in
      All-cons (Reads (with_bytes below first.at bytes)) first rest
      (bytes_inside below first.at bytes fits)
      (λ k d inside. bytes_behind below first.at bytes fits (get_or rest k d).at 4
      (omega (arith, rest_behind (length memory) first rest h k d inside))
      ∙ first_words-read rest memory later k d inside)

  pub first_words-behind : (stubs : List Stub) (memory : List ℕ) → AreIn (length memory) stubs →
      All (λ stub. number_at (with_first_words word stubs memory) (stub.at + 4) 4
      ≡ number_at memory (stub.at + 4) 4) stubs
  first_words-behind [] memory h =
      All-nil (λ stub. number_at memory (stub.at + 4) 4 ≡ number_at memory (stub.at + 4) 4)
  first_words-behind (first ∷ rest) memory h =
      let later = rest_in (length memory) first rest h in
      let below = with_first_words word rest memory in
      let bytes = bytes_of 4 (word first) in
      let fits : first.at + 4 ≤ length below =
      omega (
        arith,
        length-first_words rest memory later,
        first_fits (length memory) first rest h,
      ) in
      let far : All (λ stub. first.at + 4 + 4 ≤ stub.at) rest =
      All-weaker (IsBehind first) (λ stub. first.at + 4 + 4 ≤ stub.at) (λ stub b. omega arith)
      rest (rest_behind (length memory) first rest h) in
      All-cons (λ stub. number_at (with_bytes below first.at bytes) (stub.at + 4) 4
      ≡ number_at memory (stub.at + 4) 4) first rest
      (number_at_behind below first.at bytes fits (first.at + 4) 4 (omega arith)
      ∙ first_words-before rest memory (first.at + 4) 4 later far)
      (λ k d inside. number_at_behind below first.at bytes fits ((get_or rest k d).at + 4) 4
      (omega (arith, rest_behind (length memory) first rest h k d inside))
      ∙ first_words-behind rest memory later k d inside)

  with_by : (b : Bool) (stub first : Stub) (rest : List Stub) (memory : List ℕ) →
      with_bytes (with_first_words word (with_stub stub rest) memory) first.at
      (bytes_of 4 (word first))
      ≡ with_bytes (with_first_words word (first ∷ rest) memory) stub.at (bytes_of 4 (word stub)) →
      with_first_words word (cond b (stub ∷ first ∷ rest) (first ∷ with_stub stub rest)) memory
      ≡ with_bytes (with_first_words word (first ∷ rest) memory) stub.at (bytes_of 4 (word stub))
  with_by true stub first rest memory e = refl
  with_by false stub first rest memory e = e

  -- one stub more, wherever it stands among them
  pub first_words-with_stub : (stub : Stub) (stubs : List Stub) (memory : List ℕ) →
      AreIn (length memory) stubs → All (λ other. Apart other.at stub.at 4) stubs →
      stub.at + 8 ≤ length memory →
      with_first_words word (with_stub stub stubs) memory
      ≡ with_bytes (with_first_words word stubs memory) stub.at (bytes_of 4 (word stub))
  first_words-with_stub stub [] memory h far inside = refl
  first_words-with_stub stub (first ∷ rest) memory h far inside =
      let later = rest_in (length memory) first rest h in
      let same = length-first_words rest memory later in
      with_by (nat_lt stub.at first.at) stub first rest memory
      (ap (λ m. with_bytes m first.at (bytes_of 4 (word first)))
      (first_words-with_stub stub rest memory later
      (All-tail (λ other. Apart other.at stub.at 4) first rest far) inside)
      ∙ put_either (with_first_words word rest memory) stub.at (bytes_of 4 (word stub)) first.at
      (word first) (All-head (λ other. Apart other.at stub.at 4) first rest far)
      (omega (arith, same)) (omega (arith, same, first_fits (length memory) first rest h)))

module _ (word other : Stub → ℕ) where
  -- words over words
  pub first_words-again : (stubs : List Stub) (memory : List ℕ) → AreIn (length memory) stubs →
      with_first_words word stubs (with_first_words other stubs memory)
      ≡ with_first_words word stubs memory
  first_words-again [] memory h = refl
  first_words-again (first ∷ rest) memory h =
      let later = rest_in (length memory) first rest h in
      let below = with_first_words other rest memory in
      let same = length-first_words other rest memory later in
      let in_below : AreIn (length below) rest = subst (λ (n : ℕ). AreIn n rest) (sym same) later in
      let fits : first.at + 4 ≤ length below =
      omega (arith, same, first_fits (length memory) first rest h) in
      ap (λ m. with_bytes m first.at (bytes_of 4 (word first)))
      (first_words-swap word rest below first.at (bytes_of 4 (other first)) in_below
      (rest_apart (length memory) first rest h) fits)
      ∙ with_bytes-again (with_first_words word rest below) first.at (bytes_of 4 (other first))
      (omega (arith, fits, length-first_words word rest below in_below))
      (bytes_of 4 (word first)) refl
      ∙ ap (λ m. with_bytes m first.at (bytes_of 4 (word first)))
      (first_words-again rest memory later)

  module _ (test : Stub → Bool) where
    abbrev passing : List Stub → List Stub
    passing = filter test

    abbrev failing : List Stub → List Stub
    failing = filter (λ stub. not (test stub))

    part_by : (b : Bool) (first : Stub) (rest : List Stub) (memory : List ℕ) →
        AreIn (length memory) (first ∷ rest) → Reads word memory first →
        with_first_words word (passing rest) (with_first_words other rest memory)
        ≡ with_first_words other (failing rest) memory →
        with_first_words word (cond b (first ∷ passing rest) (passing rest))
        (with_first_words other (first ∷ rest) memory)
        ≡ with_first_words other (cond (not b) (first ∷ failing rest) (failing rest)) memory
    part_by b first rest memory h reads e =
        let size = length memory in
        let later = rest_in size first rest h in
        let below = with_first_words other rest memory in
        let same = length-first_words other rest memory later in
        let in_below : AreIn (length below) (passing rest) =
        subst (λ (n : ℕ). AreIn n (passing rest)) (sym same) (filter_in size test rest later) in
        let far : All (λ stub. Apart stub.at first.at 4) (passing rest) =
        All-filter test (λ stub. Apart stub.at first.at 4) rest
        (rest_apart size first rest h) in
        let far_failing : All (λ stub. Apart stub.at first.at 4) (failing rest) =
        All-filter (λ stub. not (test stub)) (λ stub. Apart stub.at first.at 4) rest
        (rest_apart size first rest h) in
        let fits : first.at + 4 ≤ length below =
        omega (arith, same, first_fits size first rest h) in
        let ends : first.at + 4 ≤ size = omega (arith, first_fits size first rest h) in
        let moved =
        first_words-swap word (passing rest) below first.at (bytes_of 4 (other first)) in_below
        far fits in
        let wide : first.at + 4 ≤ length (with_first_words word (passing rest) below) =
        omega (arith, fits, length-first_words word (passing rest) below in_below) in
        elim b as (λ t. with_first_words word (cond t (first ∷ passing rest) (passing rest))
        (with_first_words other (first ∷ rest) memory)
        ≡ with_first_words other (cond (not t) (first ∷ failing rest) (failing rest)) memory) [
          | true ↦ ap (λ m. with_bytes m first.at (bytes_of 4 (word first))) moved
              ∙ with_bytes-again (with_first_words word (passing rest) below) first.at
              (bytes_of 4 (other first)) wide (bytes_of 4 (word first)) refl
              ∙ ap (λ m. with_bytes m first.at (bytes_of 4 (word first))) e
              ∙ sym (first_words-swap other (failing rest) memory first.at (bytes_of 4 (word first))
              (filter_in size (λ stub. not (test stub)) rest later) far_failing ends)
              ∙ ap (with_first_words other (failing rest))
              (with_bytes-same memory first.at (bytes_of 4 (word first)) reads)
          | false ↦ moved ∙ ap (λ m. with_bytes m first.at (bytes_of 4 (other first))) e
        ]

    -- the words of those that pass, over the others of all, where memory has the words
    pub first_words-part : (stubs : List Stub) (memory : List ℕ) → AreIn (length memory) stubs →
        All (Reads word memory) stubs →
        with_first_words word (passing stubs) (with_first_words other stubs memory)
        ≡ with_first_words other (failing stubs) memory
    first_words-part [] memory h reads = refl
    first_words-part (first ∷ rest) memory h reads =
        part_by (test first) first rest memory h (All-head (Reads word memory) first rest reads)
        (first_words-part rest memory (rest_in (length memory) first rest h)
        (All-tail (Reads word memory) first rest reads))
