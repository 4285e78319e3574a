-- A good line says nothing, or it is the line of an event, or of words, that the script takes.
use Rattle.std.proofs.Common.{◌≡◌, ℕ, Bool, true, false, cond, ◌&&◌, Result, Ok, Err, List, [], ◌∷◌, length, codes, refl}
use Rattle.std.specs.Str.{bytes_eq}
use Rattle.std.proofs.lemmas.Bool.{and_parts, leb-true}
use Rattle.iop_script.specs.Reading.{BadLine, with_event, with_args, with_named, is_short, with_fields, after_line, unless_bad}
use Rattle.iop_script.specs.Rules.{unless_broken, demand}
use Rattle.iop_script.specs.Scripts.{Args, Named, Script}
use Rattle.iop_script.specs.Statements.{is_remark, event_of, args_of, named_of}
use Rattle.iop_script.specs.Texts.{space, parts}
use Rattle.iop_script.specs.Versions.{allows_more}
use Rattle.iop_script.specs.Writing.{event_line, args_line, named_line}
use Rattle.iop_script.specs.declared.raise.Raise.{Raise}
use Rattle.iop_script.specs.declared.rule.Rule.{Rule}
use Rattle.iop_script.specs.declared.rule.Rule.TheVariants as rule
use Rattle.iop_script.specs.declared.statements.TheConstants.{LONGEST_ARGS}
use Rattle.iop_script.specs.declared.version.Version.{Version}
use Rattle.iop_script.proofs.StatementLaws.{ok_value, no_ok, demand_met, ok_behind, IsEvent, AreArgs, AreNamed}
use Rattle.iop_script.proofs.LinesWritten.{event_of_line, args_of_line, named_of_line}

-- what a line says, and the script behind it
pub data IsGood (version : Version) (script : Script) (line : List ℕ) (next : Script) : Type 0 where
  says_nothing : is_remark line ≡ true → script ≡ next → IsGood version script line next
  says_event : (e : Raise) → IsEvent version e → event_line e ≡ line
      → with_event script e ≡ Ok next → IsGood version script line next
  says_args : (a : Args) → AreArgs a → args_line a ≡ line → with_args script a ≡ Ok next
      → IsGood version script line next
  says_named : (n : Named) → AreNamed n → named_line n ≡ line → allows_more version ≡ true
      → with_named script n ≡ Ok next → IsGood version script line next

module _ (version : Version) (script : Script) (line : List ℕ) (next : Script) where
  module _ (keyword : List ℕ) (fields : List (List ℕ))
      (cut : parts space line ≡ keyword ∷ fields) where
    event_good : bytes_eq keyword (codes "at") ≡ true
        → unless_broken (event_of version fields) (with_event script) ≡ Ok next
        → IsGood version script line next
    event_good is_at is =
        let e = ok_behind (event_of version fields) (with_event script) next is in
        let read = event_of_line version line keyword fields e.0 cut is_at e.1 in
        says_event e.0 read.0 read.1 e.2

    args_good : bytes_eq keyword (codes "args") ≡ true
        → demand rule.LineLength (is_short line)
        (unless_broken (args_of fields) (with_args script)) ≡ Ok next
        → IsGood version script line next
    args_good is_args is =
        let short = demand_met rule.LineLength (is_short line) _ next is in
        let a = ok_behind (args_of fields) (with_args script) next short.1 in
        let read = args_of_line line keyword (leb-true (length line) LONGEST_ARGS short.0) fields
        a.0 cut is_args a.1 in
        says_args a.0 read.0 read.1 a.2

    named_good : (bytes_eq keyword (codes "for") && allows_more version) ≡ true
        → demand rule.LineLength (is_short line)
        (unless_broken (named_of fields) (with_named script)) ≡ Ok next
        → IsGood version script line next
    named_good is_for is =
        let both = and_parts (bytes_eq keyword (codes "for")) (allows_more version) is_for in
        let short = demand_met rule.LineLength (is_short line) _ next is in
        let n = ok_behind (named_of fields) (with_named script) next short.1 in
        let read = named_of_line line keyword (leb-true (length line) LONGEST_ARGS short.0) fields
        n.0 cut both.0 n.1 in
        says_named n.0 read.0 read.1 both.1 n.2

    -- by the keyword
    statement_good : (is_at is_args is_for : Bool) → bytes_eq keyword (codes "at") ≡ is_at
        → bytes_eq keyword (codes "args") ≡ is_args
        → (bytes_eq keyword (codes "for") && allows_more version) ≡ is_for
        → cond is_at (unless_broken (event_of version fields) (with_event script))
        (cond is_args
        (demand rule.LineLength (is_short line)
        (unless_broken (args_of fields) (with_args script)))
        (cond is_for
        (demand rule.LineLength (is_short line)
        (unless_broken (named_of fields) (with_named script)))
        (Err rule.Keyword))) ≡ Ok next
        → IsGood version script line next
    statement_good true is_args is_for at args fors is = event_good at is
    statement_good false true is_for at args fors is = args_good args is
    statement_good false false true at args fors is = named_good fors is
    statement_good false false false at args fors is = no_ok rule.Keyword next is

  fields_good : (fields : List (List ℕ)) → parts space line ≡ fields
      → with_fields version script line fields ≡ Ok next → IsGood version script line next
  fields_good [] cut is = no_ok rule.Keyword next is
  fields_good (keyword ∷ fields) cut is =
      statement_good keyword fields cut (bytes_eq keyword (codes "at"))
      (bytes_eq keyword (codes "args")) (bytes_eq keyword (codes "for") && allows_more version)
      refl refl refl is

  by_remark : (remark : Bool) → is_remark line ≡ remark
      → cond remark (Ok script) (with_fields version script line (parts space line)) ≡ Ok next
      → IsGood version script line next
  by_remark true says is = says_nothing says (ok_value script next is)
  by_remark false says is = fields_good (parts space line) refl is

  pub after_line-good : after_line version script line ≡ Ok next
      → IsGood version script line next
  unfolding after_line
  after_line-good is = by_remark (is_remark line) refl is

-- where lines are good, the first is
pub first_good : (number : ℕ) (make : Script → Result Script BadLine) (after : Result Script Rule)
    (final : Script) → unless_bad number make after ≡ Ok final
    → (next : Script) × (after ≡ Ok next) × (make next ≡ Ok final)
first_good number make (Err rule) final is = absurd (cc)
first_good number make (Ok next) final is = (next, refl, is)
