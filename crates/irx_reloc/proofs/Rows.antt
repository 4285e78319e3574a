-- The entries of a section by their indices.
use Rattle.std.proofs.Common.{◌≡◌, ℕ, ◌+◌, ◌*◌, ◌/◌, ◌<◌, ◌≤◌, List, length, get_or, ap, ◌∙◌, arith}
use Rattle.std.proofs.lemmas.List.FromFn.{length-map-range_with_len, get_or-map-range_with_len}
use Rattle.irx_reloc.specs.Entries.{entry_at, entries_of}

pub same_pair : {a b c d : ℕ} → a ≡ b → c ≡ d → ◌≡◌ {A = ℕ × ℕ} (a, c) (b, d)
same_pair {b = b} {c = c} e f = let P : ℕ → ℕ × ℕ = λ x. (x, c) in let Q : ℕ → ℕ × ℕ =
    λ x. (b, x) in ap P e ∙ ap Q f

module _ (bytes : List ℕ) where
  pub length-entries_of : length (entries_of bytes) ≡ length bytes / 8
  unfolding entries_of
  length-entries_of = length-map-range_with_len (entry_at bytes) 0 (length bytes / 8)

  module _ (k : ℕ) (lt : k < length (entries_of bytes)) where
    pub get_or-entries_of : get_or (entries_of bytes) k (0, 0) ≡ entry_at bytes k
    unfolding entries_of
    get_or-entries_of =
        get_or-map-range_with_len (entry_at bytes) 0 (length bytes / 8) k k (0, 0)
        (omega (arith, length-entries_of)) (omega arith)

    pub entry_inside : 8 * k + 8 ≤ length bytes
    entry_inside = omega (arith, length-entries_of)
