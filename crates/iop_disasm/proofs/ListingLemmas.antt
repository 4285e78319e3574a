-- A listing in which a write failed.
use Rattle.std.proofs.Common.{◌≡◌, ℕ, zero, suc, ◌+◌, ◌-◌, ◌*◌, ◌<◌, List, [], ◌++◌, ap, sym, ◌∙◌, append-nil, append_assoc, arith, length-append}
use Rattle.iop_base.specs.Numbers.{wrapped}
use Rattle.iop_ports.specs.Sinks.{SinkTold, after_taking, IsSentShort}
use Rattle.iop_ports.proofs.SinkLemmas.{fails_later}
use Rattle.iop_disasm.specs.Listings.{line_at, listing_bytes}

module _ (memory : List ℕ) (from : ℕ) where
  abbrev lines : ℕ → List ℕ
  lines n = listing_bytes memory from n

  -- the line of the word of this number
  abbrev line : ℕ → List ℕ
  line n = line_at memory (wrapped (from + 4 * n))

  -- k lines behind the first n
  abbrev later_lines : (n k : ℕ) → List ℕ
  later_lines n zero = []
  later_lines n (suc k) = later_lines n k ++ line (k + n)

  lines_split : (n k : ℕ) → lines (k + n) ≡ lines n ++ later_lines n k
  lines_split n zero =
      let none : 0 + n ≡ n = omega arith in
      rw none (sym (append-nil (lines n)))
  lines_split n (suc k) =
      let more : suc k + n ≡ suc (k + n) = omega arith in
      rw more
      (ap (λ t. t ++ line (k + n)) (lines_split n k)
      ∙ append_assoc (lines n) (later_lines n k) (line (k + n)))

  -- the first lines were taken, and a front of the one behind them
  pub listing_short : (n words at : ℕ) (old middle new : SinkTold)
      → n < words → at ≡ wrapped (from + 4 * n) → middle ≡ after_taking (lines n) old
      → IsSentShort (line_at memory at) middle new → IsSentShort (lines words) old new
  listing_short n words at old middle new below place taken s =
      let rest = s.is_front.0 in
      let later = later_lines (suc n) (words - suc n) in
      let count : words - suc n + suc n ≡ words = omega arith in
      let this : s.part ++ rest ≡ line n = rw place at s.is_front.2 in
      let all : lines words ≡ (lines n ++ line n) ++ later =
      rw count at (lines_split (suc n) (words - suc n)) in
      let front : (lines n ++ s.part) ++ rest ≡ lines n ++ line n =
      append_assoc (lines n) s.part rest ∙ ap (λ t. lines n ++ t) this in
      let whole : (lines n ++ s.part) ++ (rest ++ later) ≡ lines words =
      sym (append_assoc (lines n ++ s.part) rest later) ∙ ap (λ t. t ++ later) front ∙ sym all in
      record {
        part = lines n ++ s.part;
        is_front = (rest ++ later, omega (arith, length-append rest later, s.is_front.1), whole);
        fails = fails_later (lines n) s.part taken s.fails;
      }
