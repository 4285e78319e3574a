-- The numbers of the section headers read back.
use Rattle.std.proofs.Common.{◌≡◌, ℕ, ◌+◌, ◌^◌, ◌<◌, List, ◌++◌, length, ◌∙◌, arith}
use Rattle.iop_base.specs.Numbers.{word_at}
use Rattle.irx_build.specs.Files.{section_bytes}
use Rattle.irx_build.proofs.NumberBytes.{word_at-behind, word_again}

-- two section headers from a place on hold these numbers
pub record HoldsSections (file : List ℕ) (at place bytes : ℕ) : Type 0 where
  pub first_kind : word_at file (at + 0 + 4) ≡ 0
  pub kind : word_at file (at + 40 + 4) ≡ 9
  pub offset : word_at file (at + 40 + 16) ≡ place
  pub size : word_at file (at + 40 + 20) ≡ bytes
  pub target : word_at file (at + 40 + 28) ≡ 0

pub sections-held : (front : List ℕ) (at place size : ℕ) → length front ≡ at → place < 2 ^ 32
    → size < 2 ^ 32 → HoldsSections (front ++ section_bytes place size) at place size
unfolding section_bytes word_at
sections-held front at place size here place_fits size_fits =
    let word = word_at-behind front (section_bytes place size) in
    record {
      first_kind = word 4 (at + 0 + 4) (omega arith);
      kind = word 44 (at + 40 + 4) (omega arith);
      offset = word 56 (at + 40 + 16) (omega arith) ∙ word_again place place_fits;
      size = word 60 (at + 40 + 20) (omega arith) ∙ word_again size size_fits;
      target = word 68 (at + 40 + 28) (omega arith);
    }
