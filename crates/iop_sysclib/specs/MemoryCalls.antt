-- The calls that work on ranges of memory (C99 7.21: memchr, memcmp, memcpy, memmove, memset; BSD:
-- bzero). That a comparison answers -1, 0 or 1, and which ranges fault, is this project's own
-- profile.
use Rattle.std.specs.Prelude.{ℕ, ◌%◌, ◌==◌, Bool, Option, option_map, option_and_then, position, List, replicate}
use Rattle.std.specs.declared.cmp.Ordering.{Ordering}
use Rattle.std.specs.declared.cmp.Ordering.TheVariants.{Less, Equal, Greater}
use Rattle.std.specs.Ordering.{nat_cmp}
use Rattle.std.specs.Cmp.Lexicographic.{slice_cmp}
use Rattle.iop_sysclib.specs.Outcomes.{Outcome, writes, bytes_at, address_or_zero}

-- whether a byte is the one that a word names
abbrev pub is_byte : ℕ → ℕ → Bool
is_byte wanted byte = byte == wanted % 256

-- the word of an order: -1, 0 or 1
abbrev pub order_word : Ordering → ℕ
order_word Less = 0xFFFFFFFF
order_word Equal = 0
order_word Greater = 1

-- the word of the order of bytes, by the first that are not equal, as unsigned numbers
abbrev pub compared : List ℕ → List ℕ → ℕ
compared a b = order_word (slice_cmp nat_cmp a b)

module _ (ram : List ℕ) where
  -- the address of the first byte of a range that is the wanted one, or 0
  unfoldable pub memchr : (at wanted len : ℕ) → Option ℕ
  memchr at wanted len =
      option_map (λ bytes. address_or_zero at (position (is_byte wanted) bytes))
      (bytes_at ram at len)

  unfoldable pub memcmp : (a b len : ℕ) → Option ℕ
  memcmp a b len =
      option_and_then (λ first. option_map (compared first) (bytes_at ram b len))
      (bytes_at ram a len)

  -- the bytes that a range holds are written at another
  unfoldable pub memcpy : (to from len : ℕ) → Option Outcome
  memcpy to from len = option_and_then (λ bytes. writes ram to bytes to) (bytes_at ram from len)

  unfoldable pub memset : (to value len : ℕ) → Option Outcome
  memset to value len = writes ram to (replicate len (value % 256)) to

  unfoldable pub bzero : (to len : ℕ) → Option Outcome
  bzero to len = writes ram to (replicate len 0) 0
