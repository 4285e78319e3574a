-- Sets of the words of RAM, each in the bits of many numbers.
use Rattle.std.specs.Prelude.{◌≡◌, ◌≢◌, ℕ, ◌/◌, ◌%◌, ◌<◌, Bool, List, length, slice_index_or}
use Rattle.iop_base.specs.Bits.{has as has_bit}
use Rattle.iop_stubs.specs.declared.word_set.TheConstants.{WORDS}

-- whether a word is in the set
unfoldable pub has : List ℕ → ℕ → Bool
has bits n = has_bit (slice_index_or bits (n / WORDS) 0) (n % WORDS)

-- whether the set has room for a word
abbrev pub HasRoom : List ℕ → ℕ → Type 0
HasRoom bits n = n / WORDS < length bits

-- one word is put into the set, or taken out
pub record ChangesOnly (old new : List ℕ) (word : ℕ) (is_in : Bool) : Type 0 where
  pub room : length new ≡ length old
  pub changed : has new word ≡ is_in
  pub others : (n : ℕ) → n ≢ word → has new n ≡ has old n
