-- What the services store in memory, and that the places where they store lie in it.
use Rattle.std.proofs.Common.{◌≡◌, ℕ, ◌+◌, ◌*◌, ◌%◌, ◌==◌, ◌≤◌, Option, Some, None, List, [], ◌∷◌, length, All, refl, sym, ◌∙◌, arith, option_map}
use Rattle.std.proofs.lemmas.Bool.{cond_both}
use Rattle.std.proofs.lemmas.Bool.Decides.{nat_tests}
use Rattle.std.proofs.lemmas.List.{length-append, append-nil}
use Rattle.std.proofs.lemmas.Option.{cond_some, option_and_then_some}
use Rattle.iop_base.specs.Piece.{Piece}
use Rattle.iop_base.specs.Places.{phys}
use Rattle.iop_base.proofs.Memory.{length-with_bytes}
use Rattle.iop_stubs.specs.Stubs.{Memory, after_store, store_lines, range_place}
use Rattle.iop_thread.specs.States.{wait_in}
use Rattle.iop_thread.specs.declared.thread.Thread.{Thread}
use Rattle.iop_thread.specs.declared.wait.Wait.{Wait}
use Rattle.iop_kernel.specs.Boards.{optional_place}
use Rattle.iop_kernel.specs.Laws.{Store, after_stores, stores_lines}
use Rattle.iop_kernel.specs.System.{System, words_place}
use Rattle.iop_kernel.specs.ThreadStatus.{status_bytes, status_words, wait_words}
use Rattle.iop_kernel.proofs.Readings.WordBytes.{length-bytes_of_words}

-- what several stores leave, and tell
pub record Stored (clock : ℕ) (old new : Memory) (pieces : List Piece) : Type 0 where
  pub stores : List Store
  pub inside : All (λ x. x.place + length x.bytes ≤ length old.ram) stores
  pub left : new ≡ after_stores old stores
  pub told : pieces ≡ stores_lines clock old stores
  pub size : length new.ram ≡ length old.ram

-- nothing is stored
pub none_stored : (clock : ℕ) (memory : Memory) → Stored clock memory memory []
none_stored clock memory = record {
  stores = [];
  inside = λ k d below. absurd (omega (arith, below));
  left = refl;
  told = refl;
  size = refl;
}

-- bytes are stored at a place, if there is one
pub one_stored : (clock : ℕ) (memory : Memory) (place : Option ℕ) (bytes : List ℕ)
    → ((p : ℕ) → place ≡ Some p → p + length bytes ≤ length memory.ram)
    → Stored clock memory (after_store memory place bytes)
    (store_lines clock memory place (length bytes))
one_stored clock memory None bytes inside = none_stored clock memory
one_stored clock memory (Some p) bytes inside = record {
  stores = record { place = p; bytes = bytes } ∷ [];
  inside = λ k d below.
      let first : k ≡ 0 = omega (arith, below) in rw first (inside p refl);
  left = refl;
  told = sym (append-nil _);
  size = length-with_bytes memory.ram p bytes (inside p refl);
}

-- a range that has a place lies in memory
pub range_inside : (memory : Memory) (at len q : ℕ) → range_place memory at len ≡ Some q
    → q + len ≤ length memory.ram
range_inside memory at len q there =
    option_and_then_some _ (phys (length memory.ram) at) q there (λ p found within.
    let fits = cond_some _ p q within in grind (arith, nat_tests, fits.0, fits.1))

-- words that have a place lie in memory
pub words_inside : (memory : Memory) (at count q : ℕ) → words_place memory at count ≡ Some q
    → q + 4 * count ≤ length memory.ram
words_inside memory at count q =
    cond_both (at % 4 == 0) (range_place memory at (4 * count)) None
    (λ o. o ≡ Some q → q + 4 * count ≤ length memory.ram)
    (λ aligned. range_inside memory at (4 * count) q) (λ other there. absurd (cc there))

-- a wait is told in two words
length-wait_words : (o : Option Wait) → length (wait_words o) ≡ 2
length-wait_words None = refl
length-wait_words (Some wait) = refl

-- the status of a thread is of twelve words
pub length-status_bytes : (t : Thread) → length (status_bytes t) ≡ 48
length-status_bytes t =
    let words = length-append (wait_words (wait_in t.state)) (t.wakeups ∷ []) in
    length-bytes_of_words (status_words t)
    ∙ omega (arith, words, length-wait_words (wait_in t.state))

-- a range of so many words at a place, if there is one, lies in memory
abbrev pub WordsFit : Memory → (place : Option ℕ) → (count : ℕ) → Type 0
WordsFit memory place count = (p : ℕ) → place ≡ Some p → p + 4 * count ≤ length memory.ram

module _ (s : System) where
  -- a place that is a word's, or none
  abbrev pub PlaceFits : Option (Option ℕ) → Type 0
  PlaceFits o = (place : Option ℕ) → o ≡ Some place → WordsFit s.memory place 1

  -- so is the place of a word where 0 stands for none
  word_fits : (o : Option ℕ) → WordsFit s.memory o 1 → PlaceFits (option_map (λ p. Some p) o)
  word_fits None fits place e p is = absurd (cc e)
  word_fits (Some at) fits place e p is = fits p (cc (e, is))

  pub optional_fits : (at : ℕ) → PlaceFits (optional_place s.memory at)
  optional_fits at =
      cond_both (at == 0) _ _ PlaceFits (λ none place e p is. absurd (cc (e, is)))
      (λ some. word_fits (words_place s.memory at 1) (words_inside s.memory at 1))
