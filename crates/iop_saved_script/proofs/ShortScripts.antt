-- The script of a short text has lists with room in their counts.
use Rattle.std.proofs.Common.{◌≡◌, ℕ, ◌+◌, ◌≤◌, ◌==◌, Bool, Option, None, Some, Ok, List, [], ◌∷◌, ◌++◌, length, codes, length-append, ap, arith}
use Rattle.std.specs.List.{join_with_byte}
use Rattle.std.proofs.lemmas.List.Elements.{All-weaker}
use Rattle.std.proofs.lemmas.List.Splits.{length-slice_split}
use Rattle.std.proofs.lemmas.List.Sums.{count_by-le-length, get_or-le-sum_by}
use Rattle.iop_script.specs.Laws.{FitBlock, FitLine}
use Rattle.iop_script.specs.Reading.{empty_script, with_event, with_args, with_named, next_number, read_lines, read_behind, read_all, script_of}
use Rattle.iop_script.specs.Rules.{demand}
use Rattle.iop_script.specs.Scripts.{Args, Named, Script}
use Rattle.iop_script.specs.Texts.{line_feed, space, parts}
use Rattle.iop_script.specs.Versions.{version_of}
use Rattle.iop_script.specs.Writing.{line_of, named_line}
use Rattle.iop_script.specs.declared.raise.Raise.{Raise}
use Rattle.iop_script.specs.declared.rule.Rule.{Rule}
use Rattle.iop_script.specs.declared.version.Version.{Version}
use Rattle.iop_script.proofs.GoodLines.{IsGood, says_nothing, says_event, says_args, says_named, after_line-good, first_good}
use Rattle.iop_script.proofs.ScriptLaws.{script_of-can}
use Rattle.iop_script.proofs.StatementLaws.{ok_value, demand_met}
use Rattle.iop_saved_script.specs.Laws.{ShortTextsGiveShortScripts}
use Rattle.iop_saved_script.specs.Sizes.{IsShort, WordsAreShort, ArgsAreShort}

-- how much a script says
abbrev statements : Script → ℕ
statements script = length script.events + length script.args + length script.named

-- each line says one thing at most
module _ (script : Script) where
  adds_one : (rule : Rule) (is_met : Bool) (made next : Script)
      → demand rule is_met (Ok made) ≡ Ok next → statements made ≡ statements script + 1
      → statements next ≡ statements script + 1
  adds_one rule is_met made next is more =
      let same = ok_value made next (demand_met rule is_met (Ok made) next is).1 in
      omega (arith, ap statements same, more)

  event_adds : (e : Raise) (next : Script) → with_event script e ≡ Ok next
      → statements next ≡ statements script + 1
  event_adds e next is =
      adds_one _ _ (record script { events = script.events ++ e ∷ [] }) next is
      (omega (arith, length-append script.events (e ∷ [])))

  args_add : (a : Args) (next : Script) → with_args script a ≡ Ok next
      → statements next ≡ statements script + 1
  args_add a next is =
      adds_one _ _ (record script { args = script.args ++ a ∷ [] }) next is
      (omega (arith, length-append script.args (a ∷ [])))

  named_adds : (n : Named) (next : Script) → with_named script n ≡ Ok next
      → statements next ≡ statements script + 1
  named_adds n next is =
      adds_one _ _ (record script { named = script.named ++ n ∷ [] }) next is
      (omega (arith, length-append script.named (n ∷ [])))

  line_adds : (version : Version) (line : List ℕ) (next : Script) → IsGood version script line next
      → statements next ≤ statements script + 1
  line_adds version line next (says_nothing remark same) = omega (arith, ap statements same)
  line_adds version line next (says_event e read is taken) =
      omega (arith, event_adds e next taken)
  line_adds version line next (says_args a read is taken) = omega (arith, args_add a next taken)
  line_adds version line next (says_named n read is more taken) =
      omega (arith, named_adds n next taken)

lines_add : (version : Version) (number : ℕ) (script : Script) (lines : List (List ℕ))
    (final : Script) → read_lines version number script lines ≡ Ok final
    → statements final ≤ statements script + length lines
unfolding read_lines
lines_add version number script [] final is =
    let same : script ≡ final = cc in omega (arith, ap statements same)
lines_add version number script (line ∷ rest) final is =
    let good = first_good _ _ _ _ is in
    let here = line_adds script version line good.0
    (after_line-good version script line good.0 good.1) in
    let later = lines_add version (next_number number) good.0 rest final good.2 in
    omega (arith, here, later)

behind_few : (told : Option Version) (rest : List (List ℕ)) (final : Script)
    → read_behind told rest ≡ Ok final → statements final ≤ length rest
behind_few None rest final is = absurd (cc)
behind_few (Some version) rest final is =
    omega (arith, lines_add version 2 empty_script rest final is)

all_few : (lines : List (List ℕ)) (final : Script) → read_all lines ≡ Ok final
    → statements final ≤ length lines
all_few [] final is = absurd (cc)
all_few (first ∷ rest) final is = omega (arith, behind_few (version_of first) rest final is)

-- no more lines than bytes, and one
few_statements : (text : List ℕ) (script : Script) → script_of text ≡ Ok script
    → statements script ≤ length text + 1
unfolding script_of
few_statements text script is =
    omega (
      arith,
      all_few (parts line_feed text) script is,
      length-slice_split (λ b. b == line_feed) text,
      count_by-le-length (λ b. b == line_feed) text,
    )

words_short : (words : List (List ℕ)) → FitBlock words → WordsAreShort words
words_short words room = record {
  all = omega (arith, room.count);
  each = λ k d below.
      omega (arith, room.bytes, get_or-le-sum_by (λ w. length w + 1) words k d below);
}

-- what stands first in a line is no longer than the line
first_within : (c : ℕ) (first : List ℕ) (rest : List (List ℕ))
    → length first ≤ length (join_with_byte c (first ∷ rest))
first_within c first [] = omega arith
first_within c first (next ∷ rest) =
    omega (arith, length-append first (c ∷ join_with_byte c (next ∷ rest)))

name_short : (n : Named) → FitLine n.words (named_line n) → IsShort n.name
name_short n fit =
    omega (
      arith,
      fit.short,
      length-append (codes "for") (space ∷ line_of (n.name ∷ n.words)),
      first_within space n.name n.words,
    )

pub script_of-short : ShortTextsGiveShortScripts
script_of-short text script short is =
    let few = few_statements text script is in
    let can = (script_of-can text script is).2 in
    record {
      events = omega (arith, few, short);
      args = omega (arith, few, short);
      words = All-weaker (λ (a : Args). FitBlock a.words) ArgsAreShort
          (λ a room. words_short a.words room) script.args can.runs.room;
      named = omega (arith, few, short);
      named_words = λ k d below. record {
        name = name_short _ (can.named_fit k d below);
        words = words_short _ (can.runs.named_room k d below);
      };
    }
