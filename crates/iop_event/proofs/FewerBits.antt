-- A condition that does not hold of a pattern holds of none with fewer bits: not after bits are
-- cleared, and not of the pattern that a thread which is met leaves.
use Rattle.std.proofs.Common.{◌≡◌, ℕ, ◌==◌, Bool, true, false, not, if◌then◌else◌, ap, sym, ◌∙◌, subst}
use Rattle.std.specs.Int.Bits.{and_self}
use Rattle.std.specs.Prelude.{bit_and}
use Rattle.std.proofs.lemmas.Bool.{cond_both, eqb-false, eqb-true, ne_eqb, not-false}
use Rattle.std.proofs.lemmas.Nat.{and_assoc, and_comm}
use Rattle.iop_event.specs.WakeConditions.{is_met, has_bit, pattern_after}
use Rattle.iop_event.specs.declared.wanted.TheConstants.{EITHER, CLEAR}
use Rattle.iop_event.specs.declared.wanted.Wanted.{Wanted}
use Rattle.iop_queues.specs.declared.queued.Queued.{Queued}
use Rattle.iop_objects.specs.declared.waiter.Waiter.{Waiter}

-- the condition of a thread that waits does not hold of a pattern
abbrev pub IsUnmet : ℕ → Queued (Waiter Wanted) → Type 0
IsUnmet pattern x = is_met pattern x.item ≡ false

-- of fewer bits those of a condition are fewer
fewer_bits : (pattern mask bits : ℕ)
    → bit_and (bit_and pattern mask) bits ≡ bit_and (bit_and pattern bits) mask
fewer_bits pattern mask bits =
    and_assoc bits pattern mask ∙ ap (bit_and pattern) (and_comm mask bits)
    ∙ sym (and_assoc mask pattern bits)

-- all that are among them are among all
all_bits : (pattern mask bits : ℕ) → bit_and (bit_and pattern mask) bits ≡ bits
    → bit_and pattern bits ≡ bits
all_bits pattern mask bits all =
    ap (bit_and pattern) (sym all)
    ∙ sym (and_assoc bits pattern (bit_and pattern mask))
    ∙ ap (λ n. bit_and n bits) (sym (and_assoc mask pattern pattern))
    ∙ ap (λ n. bit_and (bit_and n mask) bits) (and_self pattern) ∙ all

-- where bits are cleared
pub unmet_cleared : (pattern mask : ℕ) (x : Queued (Waiter Wanted)) → IsUnmet pattern x
    → IsUnmet (bit_and pattern mask) x
unmet_cleared pattern mask x = by x.item.wants.bits (has_bit x.item.wants.mode EITHER)
  where
    by : (bits : ℕ) (either : Bool)
        → (if either then not (bit_and pattern bits == 0) else bit_and pattern bits == bits) ≡ false
        → (if either then not (bit_and (bit_and pattern mask) bits == 0)
        else bit_and (bit_and pattern mask) bits == bits) ≡ false
    by bits true unmet =
        ap (λ n. not (n == 0)) (fewer_bits pattern mask bits
        ∙ ap (λ n. bit_and n mask) (eqb-true _ 0 (not-false _ unmet)))
    by bits false unmet = ne_eqb _ _ (λ all. eqb-false _ _ unmet (all_bits pattern mask bits all))

-- where all are
unmet_zero : (pattern : ℕ) (x : Queued (Waiter Wanted)) → IsUnmet pattern x → IsUnmet 0 x
unmet_zero pattern x unmet =
    subst (λ pattern. IsUnmet pattern x) (and_comm pattern 0) (unmet_cleared pattern 0 x unmet)

-- a thread that is met leaves the pattern, or clears it
pub unmet_after : (mode pattern : ℕ) (x : Queued (Waiter Wanted)) → IsUnmet pattern x
    → IsUnmet (pattern_after mode pattern) x
unmet_after mode pattern x unmet =
    cond_both (has_bit mode CLEAR) 0 pattern (λ pattern. IsUnmet pattern x)
    (λ clear. unmet_zero pattern x unmet) (λ kept. unmet)
