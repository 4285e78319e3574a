-- Fields that are no statement.
use Rattle.std.proofs.Common.{◌≡◌, ℕ, ◌<◌, ◌==◌, length, arith, Err, List, [], ◌∷◌, refl}
use Rattle.std.proofs.lemmas.List.Splits.{length-slice_split}
use Rattle.iop_script.specs.Statements.{event_of}
use Rattle.iop_script.specs.Texts.{space, parts}
use Rattle.iop_script.specs.declared.rule.Rule.TheVariants as rule
use Rattle.iop_script.specs.declared.version.Version.{Version}

pub more_fields : (version : Version) (tick change line rest : List ℕ)
    → event_of version (tick ∷ change ∷ line ∷ parts space rest) ≡ Err rule.FieldCount
unfolding event_of
more_fields version tick change line rest =
    at (parts space rest) (omega (arith, length-slice_split (λ b. b == space) rest))
  where
    at : (fields : List (List ℕ)) → 0 < length fields
        → event_of version (tick ∷ change ∷ line ∷ fields) ≡ Err rule.FieldCount
    at [] some = absurd (omega arith)
    at (more ∷ others) some = refl

pub ruleset event = (more_fields)
