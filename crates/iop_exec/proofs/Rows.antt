-- The row of a word, and of the word at pc.
use Rattle.std.proofs.Common.{◌≡◌, ℕ, Some, List, ap}
use Rattle.iop_base.specs.Places.{load_at}
use Rattle.iop_base.specs.declared.width.Width.TheVariants.{Word}
use Rattle.iop_exec.specs.declared.cpu.Cpu.{Cpu}
use Rattle.iop_exec.specs.Row.{row, row_of, word_row}

module _ (memory : List ℕ) (c : Cpu) where
  pub row_some : (word : ℕ)
      → load_at memory c.pc Word ≡ Some word → row memory c ≡ word_row word memory c
  unfolding row
  row_some word e = ap (λ o. row_of o memory c) e
