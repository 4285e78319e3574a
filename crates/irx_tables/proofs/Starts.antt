-- The least start of a table, found by reading one word after another.
use Rattle.std.proofs.Common.{◌≡◌, ℕ, ◌+◌, ◌-◌, ◌*◌, ◌/◌, ◌<◌, true, false, Some, None, List, ap, sym, ◌∙◌, arith, eq-eqb}
use Rattle.std.proofs.lemmas.Bool.{and_from}
use Rattle.iop_base.specs.Numbers.{word_at}
use Rattle.irx_tables.specs.Imports.{is_start, first_start}
use Rattle.iop_base.specs.declared.words.TheConstants.{IMPORT_MAGIC}
use Rattle.irx_tables.proofs.Rows.{find_places, find_no_place}

pub starts_here : (memory : List ℕ) (p q : ℕ) → q ≡ p + 4 → word_at memory p ≡ IMPORT_MAGIC
    → word_at memory q ≡ 0 → is_start memory p ≡ true
starts_here memory p q e first second =
    and_from _ _ (eq-eqb _ _ first) (eq-eqb _ _ (ap (word_at memory) (sym e) ∙ second))

module _ (memory : List ℕ) (stop scan : ℕ) where
  pub start_is : (k q : ℕ) → k + 1 < (stop - scan) / 4 → q ≡ scan + 4 * k
      → ((j : ℕ) → j < k → is_start memory (scan + 4 * j) ≡ false)
      → is_start memory (scan + 4 * k) ≡ true → Some q ≡ first_start memory stop scan
  unfolding first_start
  start_is k q lt e before here =
      ap Some e ∙ sym
      (find_places (is_start memory) 4 scan ((stop - scan) / 4 - 1) k (omega arith) before here)

  pub no_start : ((j : ℕ) → j + 1 < (stop - scan) / 4 → is_start memory (scan + 4 * j) ≡ false)
      → None ≡ first_start memory stop scan
  unfolding first_start
  no_start none =
      sym (find_no_place (is_start memory) 4 scan ((stop - scan) / 4 - 1)
      (λ j lt. none j (omega arith)))

-- the words of the n-th place of a range and of the one before it were read, and no start before
-- them
pub record WereRead (memory : List ℕ) (stop scan n first second : ℕ) : Type 0 where
  pub behind : 0 < n
  pub inside : n < (stop - scan) / 4
  pub no_start : (j : ℕ) → j + 1 < n → is_start memory (scan + 4 * j) ≡ false
  pub first_word : (j : ℕ) → j + 1 ≡ n → first ≡ word_at memory (scan + 4 * j)
  pub second_word : second ≡ word_at memory (scan + 4 * n)

pub start_read : (memory : List ℕ) (stop scan n first second : ℕ)
    → WereRead memory stop scan n first second → first ≡ IMPORT_MAGIC → second ≡ 0
    → Some (scan + 4 * n - 4) ≡ first_start memory stop scan
start_read memory stop scan n first second h magic zeroes =
    let e : scan + 4 * n ≡ scan + 4 * (n - 1) + 4 = omega (arith, h.behind) in
    let word = sym (h.first_word (n - 1) (omega (arith, h.behind))) ∙ magic in
    start_is memory stop scan (n - 1) (scan + 4 * n - 4) (omega (arith, h.behind, h.inside))
    (omega (arith, h.behind)) (λ j below. h.no_start j (omega arith))
    (starts_here memory (scan + 4 * (n - 1)) (scan + 4 * n) e word (sym h.second_word ∙ zeroes))
