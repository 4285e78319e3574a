-- What is read of a line, or the first rule that the line breaks: this project's own profile.
use Rattle.std.specs.Prelude.{Bool, if◌then◌else◌, Result, Ok, Err}
use Rattle.iop_script.specs.declared.rule.Rule.{Rule}

-- what follows, unless a rule is broken before
abbrev pub unless_broken : {A B : Type 0} → Result A Rule → (A → Result B Rule) → Result B Rule
unless_broken (Ok x) next = next x
unless_broken (Err rule) next = Err rule

-- what follows, if a rule is met
abbrev pub demand : {A : Type 0} → Rule → Bool → Result A Rule → Result A Rule
demand rule is_met next = if is_met then next else Err rule
