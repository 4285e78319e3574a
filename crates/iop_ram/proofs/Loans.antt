-- What a loan of a range leaves in memory.
use Rattle.std.proofs.Common.{◌≡◌, ℕ, ◌+◌, ◌≤◌, Some, List, ◌++◌, length, take, drop, ap, sym, ◌∙◌, append_assoc, arith}
use Rattle.std.proofs.lemmas.List.{take-append-le, length-append, length-take, length-drop, drop-drop}
use Rattle.std.proofs.Math.Seq.{take-length}
use Rattle.iop_base.specs.Numbers.{with_bytes}
use Rattle.iop_base.specs.Places.{range_at}
use Rattle.iop_base.proofs.Memory.{length-with_bytes}
use Rattle.iop_ram.specs.Windows.{after_loan}

module _ (memory : List ℕ) (at len p : ℕ) (written : List ℕ)
    (place : range_at (length memory) at len ≡ Some p) where
  -- what a `Vec` ends as, whose items from p on were lent
  pub after_loan-lent : (size : ℕ) → size ≡ length memory → p ≤ length memory →
      let items = take p memory ++ (written ++ drop (length written) (drop p memory)) in
      take size (items ++ drop (length items) memory) ≡ after_loan memory at len written
  after_loan-lent size same inside =
      let items = take p memory ++ (written ++ drop (length written) (drop p memory)) in
      let all : size ≤ length items =
      simp (length-append, length-take, length-drop) (omega arith) in
      rw place (take-append-le size items (drop (length items) memory) all
      ∙ ap (λ n. take n items) same
      ∙ ap (take (length memory))
      (sym (append_assoc (take p memory) written (drop (length written) (drop p memory)))
      ∙ ap (λ rest. take p memory ++ written ++ rest) (drop-drop (length written) p memory)))

  -- what is written keeps its length, so all of it is there
  pub after_loan-is : length written ≡ len → p + len ≤ length memory →
      after_loan memory at len written ≡ with_bytes memory p written
  after_loan-is same inside =
      let fits : p + length written ≤ length memory = omega arith in
      rw place
      (ap (λ n. take n (with_bytes memory p written)) (sym (length-with_bytes memory p written fits))
      ∙ take-length (with_bytes memory p written))
