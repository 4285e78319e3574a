-- Sets of priorities in the bits of a word.
use Rattle.std.proofs.Common.{ℕ, Bool, sym, subst, ⊎_elim, ◌∙◌}
use Rattle.std.proofs.lemmas.Bool.{cases_eq}
use Rattle.iop_base.specs.Bits.{ChangesOnly}
use Rattle.iop_base.proofs.Bits.{has-none}
use Rattle.iop_ready.specs.Priorities.{IsPriority, ArePriorities}

pub none_are : ArePriorities 0
none_are n h = let none = has-none n in cc

-- once a priority is put in or taken out, there are priorities still
pub still_are : (old new n : ℕ) (is_in : Bool) → IsPriority n → ArePriorities old
    → ChangesOnly old new n is_in → ArePriorities new
still_are old new n is_in is are change k h =
    ⊎_elim
    (λ same. subst IsPriority (sym same) is)
    (λ other. are k (sym (change.others k other) ∙ h))
    (cases_eq k n)
