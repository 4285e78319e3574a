-- Sets of numbers, each in the bits of a word.
use Rattle.std.specs.Prelude.{◌≡◌, ◌≢◌, ℕ, ◌<◌, ◌==◌, Bool, true, false}
use Rattle.std.specs.Int.{bit_at}

-- whether a number is in the set
unfoldable pub has : ℕ → ℕ → Bool
has bits n = bit_at bits n == 1

-- one number is put into the set, or taken out
pub record ChangesOnly (old new n : ℕ) (is_in : Bool) : Type 0 where
  pub changed : has new n ≡ is_in
  pub others : (k : ℕ) → k ≢ n → has new k ≡ has old k

-- the least number of the set
pub record IsLeast (bits n : ℕ) : Type 0 where
  pub in_set : has bits n ≡ true
  pub lower : (k : ℕ) → k < n → has bits k ≡ false
