-- The bits of a pattern after some are set or cleared.
use Rattle.std.proofs.Common.{◌≡◌, ℕ, ◌≤◌, Some, ap, ◌∙◌, arith}
use Rattle.std.specs.Int.{bit_at}
use Rattle.std.specs.Prelude.{bit_and, bit_or, min, max}
use Rattle.std.proofs.lemmas.Nat.{and_or_self, or_comm}
use Rattle.std.proofs.lemmas.Nat.Bits.{bit_at_and, bit_at_or}
use Rattle.iop_event.specs.EventFlags.{EventFlags, clears_it, sets_it, with_pattern}
use Rattle.iop_event.specs.Laws.{BitsAreSet, BitsAreCleared}
use Rattle.iop_event.specs.declared.event_flag.EventFlag.{EventFlag}
use Rattle.iop_objects.specs.Objects.{state_of, waiters_of}
use Rattle.iop_objects.proofs.Changes.{state_of-with_state, waiters_of-with_state}

bit_and-old : (a b : ℕ) → bit_and (bit_or a b) a ≡ a
bit_and-old a b = ap (λ n. bit_and n a) (or_comm a b) ∙ and_or_self a b

bit_below : (n k : ℕ) → bit_at n k ≤ 1
bit_below n k = omega arith

kept_bit : (a b k : ℕ) → bit_at b k ≡ 1 → bit_at (bit_and a b) k ≡ bit_at a k
kept_bit a b k one =
    let below : bit_at a k ≤ 1 = bit_below a k in
    bit_at_and a b k ∙ ap (min (bit_at a k)) one ∙ grind (arith, below)

module _ (s : EventFlags) (id : ℕ) (x : EventFlag) (number : ℕ) (live : state_of s id ≡ Some x) where
  abbrev more : EventFlag
  more = with_pattern x (bit_or x.pattern number)

  abbrev fewer : EventFlag
  fewer = with_pattern x (bit_and x.pattern number)

  pub bits_set : BitsAreSet s id x number
  bits_set =
      let done = ap (sets_it s id number) live in
      record {
        answer = ap (λ r. r.0) done;
        pattern = bit_or x.pattern number;
        left = ap (λ r. state_of r.1 id) done ∙ state_of-with_state s id x live more;
        new = and_or_self number x.pattern;
        old = bit_and-old x.pattern number;
        alone = λ k none unset. bit_at_or x.pattern number k
            ∙ ap (λ n. max n (bit_at number k)) none ∙ ap (max 0) unset;
        waiters = ap (λ r. waiters_of r.1 id) done ∙ waiters_of-with_state s id more;
      }

  pub bits_cleared : BitsAreCleared s id x number
  bits_cleared =
      let done = ap (clears_it s id number) live in
      record {
        answer = ap (λ r. r.0) done;
        pattern = bit_and x.pattern number;
        left = ap (λ r. state_of r.1 id) done ∙ state_of-with_state s id x live fewer;
        kept = kept_bit x.pattern number;
        cleared = λ k unset. bit_at_and x.pattern number k ∙ ap (min (bit_at x.pattern k)) unset
            ∙ grind arith;
        waiters = ap (λ r. waiters_of r.1 id) done ∙ waiters_of-with_state s id fewer;
      }
