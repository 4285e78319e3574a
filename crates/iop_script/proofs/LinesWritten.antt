-- The line that a statement was read of is the one that it is written as.
use Rattle.std.proofs.Common.{◌≡◌, ℕ, ◌^◌, ◌<◌, ◌≤◌, ◌==◌, nat_le, Bool, true, false, cond, not, ◌&&◌, ◌||◌, Some, None, Ok, List, [], ◌∷◌, length, codes, decimal, slice_index, refl, ap, sym, ◌∙◌, subst, arith}
use Rattle.std.specs.List.{All, list_all}
use Rattle.std.specs.Char.{is_ascii_digit}
use Rattle.std.specs.Str.{bytes_eq}
use Rattle.std.proofs.lemmas.Bool.{and_parts, eqb-true, eq-eqb, leb-true, true≢false}
use Rattle.std.proofs.lemmas.Fmt.{decimal-digits_value}
use Rattle.std.proofs.lemmas.List.Splits.{join_with_byte-slice_split}
use Rattle.std.proofs.lemmas.Slice.Eq.{bytes_eq-Decides}
use Rattle.iop_script.specs.Laws.{IsWord, FitLine}
use Rattle.iop_script.specs.Scripts.{Args, Named}
use Rattle.iop_script.specs.Statements.{number_in, raises, event_of, args_of, named_of}
use Rattle.iop_script.specs.Texts.{space, parts, is_decimal, value_of, number_of}
use Rattle.iop_script.specs.Versions.{allows_more}
use Rattle.iop_script.specs.Writing.{event_line, args_line, named_line, line_of}
use Rattle.iop_script.specs.declared.raise.Raise.{Raise}
use Rattle.iop_script.specs.declared.rule.Rule.{Rule}
use Rattle.iop_script.specs.declared.rule.Rule.TheVariants as rule
use Rattle.iop_script.specs.declared.statements.TheConstants.{LAST_TICK, LAST_LINE, MOST_MODULES, LONGEST_ARGS}
use Rattle.iop_script.specs.declared.version.Version.{Version}
use Rattle.iop_script.proofs.Decimals.{numerals}
use Rattle.iop_script.proofs.StatementLaws.{if_some, some_value, ok_value, some_behind, demand_met, ok_behind, raised_by, words_within, IsEvent, word_for, event_fields, AreArgs, AreNamed}
use Rattle.iop_script.proofs.Words.{word_told}

-- a zero before others is refused
alone_zero : (field : List ℕ) (b : Bool) → (length field == 1) ≡ b
    → (b || not (slice_index field 0 == 0x30)) ≡ true → slice_index field 0 ≡ 0x30
    → length field ≡ 1
alone_zero field true one h zero_first = eqb-true (length field) 1 one
alone_zero field false more h zero_first =
    let is = eq-eqb (slice_index field 0) 0x30 zero_first in
    absurd (true≢false (sym h ∙ ap not is))

some_digit : (field : List ℕ) → not (length field == 0) ≡ true → 0 < length field
some_digit [] some = absurd (cc)
some_digit (b ∷ rest) some = omega arith

decimal_written : (field : List ℕ) → is_decimal field ≡ true → value_of field < 2 ^ 64
    → decimal (value_of field) ≡ field
unfolding is_decimal
decimal_written field is small =
    let both = and_parts (not (length field == 0)
    && (length field == 1 || not (slice_index field 0 == 0x30)))
    (list_all is_ascii_digit field) is in
    let front = and_parts (not (length field == 0))
    (length field == 1 || not (slice_index field 0 == 0x30)) both.0 in
    decimal-digits_value numerals field both.1 (some_digit field front.0)
    (alone_zero field (length field == 1) refl front.1) small

-- a field that was read as a number
record IsNumber (least most n : ℕ) (field : List ℕ) : Type 0 where
  digits : decimal n ≡ field
  low : least ≤ n
  high : n ≤ most

number_written : (rule : Rule) (least most n : ℕ) (field : List ℕ) → most < 2 ^ 64
    → number_in rule least most field ≡ Ok n → IsNumber least most n field
unfolding number_of
number_written rule least most n field small is =
    let found = if_some _ _ _ (some_behind (number_of least most field) rule n is) in
    let both = and_parts (is_decimal field && nat_le least (value_of field))
    (nat_le (value_of field) most) found.0 in
    let front = and_parts (is_decimal field) (nat_le least (value_of field)) both.0 in
    let value : value_of field ≡ n = some_value _ _ found.1 in
    let high = leb-true (value_of field) most both.1 in
    record {
      digits = sym (ap decimal value) ∙ decimal_written field front.0 (omega (arith, high, small));
      low = subst (λ (v : ℕ). least ≤ v) value (leb-true least (value_of field) front.1);
      high = subst (λ (v : ℕ). v ≤ most) value high;
    }

-- a line joined of the fields that were read of it
joined : (line : List ℕ) (fields : List (List ℕ)) → parts space line ≡ fields
    → line_of fields ≡ line
joined line fields cut = sym (ap line_of cut) ∙ join_with_byte-slice_split space line

-- the word that was read as a change
change_written : (version : Version) (change : List ℕ) (up : Bool)
    → raises version change ≡ Some up → word_for up ≡ change
change_written version change up is =
    at (bytes_eq change (codes "line")) (bytes_eq change (codes "release")) refl refl is
  where
    at : (b c : Bool) → bytes_eq change (codes "line") ≡ b
        → bytes_eq change (codes "release") ≡ c
        → cond b (Some true) (cond (c && allows_more version) (Some false) None) ≡ Some up
        → word_for up ≡ change
    at true c line release is =
        ap word_for (sym (some_value true up is))
        ∙ sym ((bytes_eq-Decides change (codes "line")).0 line)
    at false true line release is =
        ap word_for (sym (some_value false up (if_some (allows_more version) (Some false) up is).1))
        ∙ sym ((bytes_eq-Decides change (codes "release")).0 release)
    at false false line release is = absurd (cc)

-- an event that was read of a line
module _ (version : Version) (line keyword : List ℕ) where
  pub event_of_line : (fields : List (List ℕ)) (e : Raise) → parts space line ≡ keyword ∷ fields
      → bytes_eq keyword (codes "at") ≡ true → event_of version fields ≡ Ok e
      → IsEvent version e × (event_line e ≡ line)
  unfolding event_of
  event_of_line [] e cut is_at is = absurd (cc)
  event_of_line (tick ∷ []) e cut is_at is = absurd (cc)
  event_of_line (tick ∷ change ∷ []) e cut is_at is = absurd (cc)
  event_of_line (tick ∷ change ∷ number ∷ []) e cut is_at is =
      let most_ticks : LAST_TICK < 2 ^ 64 = omega arith in
      let most_lines : LAST_LINE < 2 ^ 64 = omega arith in
      let at = ok_behind _ _ _ is in
      let up = ok_behind _ _ _ at.2 in
      let n = ok_behind _ _ _ up.2 in
      let raised = some_behind (raises version change) rule.Change up.0 up.1 in
      let keyword_is = (bytes_eq-Decides keyword (codes "at")).0 is_at in
      let tick_is = number_written rule.Tick 0 LAST_TICK at.0 tick most_ticks at.1 in
      let change_is = change_written version change up.0 raised in
      let number_is = number_written rule.InterruptLine 0 LAST_LINE n.0 number most_lines n.1 in
      let read : Raise = record { at = at.0; line = n.0; up = up.0 } in
      let same : keyword ∷ tick ∷ change ∷ number ∷ [] ≡ codes "at" ∷ event_fields read =
      cc (keyword_is, tick_is.digits, change_is, number_is.digits) in
      let is_event : IsEvent version read = record {
        tick = omega (arith, tick_is.high);
        line = omega (arith, number_is.high);
        up = raised_by version (bytes_eq change (codes "line"))
            (bytes_eq change (codes "release")) up.0 raised;
      } in
      subst (λ (x : Raise). IsEvent version x × (event_line x ≡ line)) (ok_value _ _ n.2)
      (is_event, joined line (codes "at" ∷ event_fields read) (cut ∙ same))
  event_of_line (tick ∷ change ∷ number ∷ more ∷ rest) e cut is_at is = absurd (cc)

abbrev args_with : ℕ → List (List ℕ) → Args
args_with n words = record { number = n; words = words }

abbrev named_with : List ℕ → List (List ℕ) → Named
named_with name words = record { name = name; words = words }

-- words that were read of a line
module _ (line keyword : List ℕ) (short : length line ≤ LONGEST_ARGS) where
  fit : (words : List (List ℕ)) (written : List ℕ) → All IsWord words → written ≡ line
      → FitLine words written
  fit words written are same = record {
    are_words = are;
    short = subst (λ (l : List ℕ). length l ≤ LONGEST_ARGS) (sym same) short;
  }

  pub args_of_line : (fields : List (List ℕ)) (a : Args) → parts space line ≡ keyword ∷ fields
      → bytes_eq keyword (codes "args") ≡ true → args_of fields ≡ Ok a
      → AreArgs a × (args_line a ≡ line)
  unfolding args_of
  args_of_line [] a cut is_args is = absurd (cc)
  args_of_line (number ∷ fields) a cut is_args is =
      let n = ok_behind _ _ _ is in
      let words = ok_behind _ _ _ n.2 in
      let within = words_within line keyword number fields words.0 cut short words.1 in
      let number_is = number_written rule.Module 1 MOST_MODULES n.0 number (omega arith) n.1 in
      let keyword_is = (bytes_eq-Decides keyword (codes "args")).0 is_args in
      let same : keyword ∷ number ∷ fields ≡ codes "args" ∷ decimal n.0 ∷ words.0 =
      cc (keyword_is, number_is.digits, within.0) in
      let read : Args = args_with n.0 words.0 in
      let written : args_line read ≡ line =
      joined line (codes "args" ∷ decimal n.0 ∷ words.0) (cut ∙ same) in
      let are_args : AreArgs read = record {
        least = number_is.low;
        most = number_is.high;
        room = within.1;
        fit = fit words.0 (args_line read) within.2 written;
      } in
      subst (λ (x : Args). AreArgs x × (args_line x ≡ line)) (ok_value _ _ words.2)
      (are_args, written)

  pub named_of_line : (fields : List (List ℕ)) (n : Named) → parts space line ≡ keyword ∷ fields
      → bytes_eq keyword (codes "for") ≡ true → named_of fields ≡ Ok n
      → AreNamed n × (named_line n ≡ line)
  unfolding named_of
  named_of_line [] n cut is_for is = absurd (cc)
  named_of_line (name ∷ fields) n cut is_for is =
      let named = demand_met _ _ _ n is in
      let words = ok_behind _ _ _ named.1 in
      let within = words_within line keyword name fields words.0 cut short words.1 in
      let keyword_is = (bytes_eq-Decides keyword (codes "for")).0 is_for in
      let same : keyword ∷ name ∷ fields ≡ codes "for" ∷ name ∷ words.0 =
      cc (keyword_is, within.0) in
      let read : Named = named_with name words.0 in
      let written : named_line read ≡ line =
      joined line (codes "for" ∷ name ∷ words.0) (cut ∙ same) in
      let are_named : AreNamed read = record {
        name = word_told name named.0;
        room = within.1;
        fit = fit words.0 (named_line read) within.2 written;
      } in
      subst (λ (x : Named). AreNamed x × (named_line x ≡ line)) (ok_value _ _ words.2)
      (are_named, written)
