-- What a call leaves in the memory that it was lent, where it writes the same bytes whatever stood there.
use Rattle.std.proofs.Common.{◌≡◌, ℕ, Option, Some, None, List, length, sym, ◌∙◌, ap}
use Rattle.std.specs.Prelude.{MatchOption}
use Rattle.std.specs.Borrow.{MutBor}
use Rattle.std.specs.Fn.{Once, FnOnceReturnsAtMut}
use Rattle.iop_stubs.specs.Stubs.{Memory, range_place, after_store}
use Rattle.iop_stubs.specs.Lending.{IsWrittenBy}

module _ {F R : Type 0}
    (calls : Once F (MutBor (List ℕ) × Unit {0}) (R × (MutBor (List ℕ) × Unit {0}))) (write : F)
    (old new : Memory) (at len : ℕ) (image : List ℕ) where
  pub written-always : (result : Option R)
      → MatchOption result (new ≡ old)
      (λ answer. IsWrittenBy calls write old new (range_place old at len) len answer)
      → ((answer : R) (before after : List ℕ)
      → FnOnceReturnsAtMut calls write before answer after → after ≡ image)
      → MatchOption result (new ≡ old) (λ _. (length image ≡ len)
      × (new ≡ after_store old (range_place old at len) image))
  written-always None same all = same
  written-always (Some answer) h all =
      let is = all answer _ h.written h.called in (
        ap length (sym is) ∙ h.whole,
        h.stored ∙ ap (after_store old (range_place old at len)) is,
      )
