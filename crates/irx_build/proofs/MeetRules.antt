-- Rules that are all met.
use Rattle.std.proofs.Common.{◌≡◌, true, cond, Some, None, List, [], ◌∷◌, refl, ap, ◌∙◌}
use Rattle.irx_elf.specs.Rules.{Rule, first_unmet}

abbrev pub AllMet : List Rule → Type 0
AllMet [] = Unit {0}
AllMet (rule ∷ rules) = (rule.is_met ≡ true) × AllMet rules

pub first_unmet-met : (rules : List Rule) → AllMet rules → first_unmet rules ≡ None
first_unmet-met [] met = refl
first_unmet-met (rule ∷ rules) met =
    ap (λ b. cond b (first_unmet rules) (Some (record { rule = rule.number; at = rule.at }))) met.0
    ∙ first_unmet-met rules met.1
