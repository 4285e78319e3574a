-- The lines of the words of modules, written and read.
use Rattle.std.proofs.Common.{◌≡◌, ◌≢◌, ℕ, ◌<◌, ◌==◌, false, Ok, List, [], ◌∷◌, ◌++◌, length, map, codes, decimal, get_or, append_assoc, append-nil, refl, ap, sym, ◌∙◌, subst, arith}
use Rattle.std.specs.List.{All, AllPairs, list_any}
use Rattle.std.proofs.lemmas.Bool.{le-leb, ne_eqb}
use Rattle.std.proofs.lemmas.List.{get_or_append_left, get_or_at, length-append}
use Rattle.std.proofs.lemmas.List.Elements.{All-cons, All-head, All-tail}
use Rattle.std.proofs.lemmas.List.Folds.{list_any_none}
use Rattle.iop_script.specs.Laws.{FitBlock, IsWord}
use Rattle.iop_script.specs.Reading.{with_args, is_short, with_fields, after_line, next_number, unless_bad, read_lines}
use Rattle.iop_script.specs.Rules.{unless_broken, demand}
use Rattle.iop_script.specs.Scripts.{Args, Script}
use Rattle.iop_script.specs.Statements.{words_of, args_of}
use Rattle.iop_script.specs.Texts.{line_feed, space, parts}
use Rattle.iop_script.specs.Writing.{args_line}
use Rattle.iop_script.specs.declared.raise.Raise.{Raise}
use Rattle.iop_script.specs.declared.rule.Rule.TheVariants as rule
use Rattle.iop_script.specs.declared.statements.TheConstants.{MOST_MODULES, MOST_WORDS, LONGEST_ARGS}
use Rattle.iop_script.specs.declared.version.Version.{Version}
use Rattle.iop_script.proofs.Decimals.{decimal_read}
use Rattle.iop_script.proofs.EventWriting.{decimal_lacks}
use Rattle.iop_script.proofs.PartsJoined.{Lacks, lacks_tested, joined-lacks, parts-joined}
use Rattle.iop_script.proofs.StatementLaws.{AreArgs}
use Rattle.iop_script.proofs.Words.{words_tested, words_lack}

-- words that can be written are read
pub words_said : (words : List (List ℕ)) → FitBlock words → All IsWord words
    → words_of words ≡ Ok words
unfolding words_of
words_said words room are_words =
    let few = le-leb (length words) MOST_WORDS room.count in
    let all = words_tested words are_words in
    rw (few, all) refl

module _ (a : Args) (h : AreArgs a) where
  fields_lack : (c : ℕ) → c < 0x21 → All (Lacks c) (decimal a.number ∷ a.words)
  fields_lack c low =
      All-cons (Lacks c) (decimal a.number) a.words
      (decimal_lacks c a.number (omega arith) (omega (arith, h.most)))
      (words_lack c low a.words h.fit.are_words)

  -- their line is one line
  pub args_line-lacks : Lacks line_feed (args_line a)
  args_line-lacks =
      joined-lacks line_feed space refl (codes "args" ∷ decimal a.number ∷ a.words)
      (All-cons (Lacks line_feed) (codes "args") (decimal a.number ∷ a.words)
      (lacks_tested line_feed (codes "args") refl)
      (fields_lack line_feed (omega arith)))

  args_parts : parts space (args_line a) ≡ codes "args" ∷ decimal a.number ∷ a.words
  args_parts =
      parts-joined space (codes "args") (decimal a.number ∷ a.words)
      (lacks_tested space (codes "args") refl) (fields_lack space (omega arith))

  -- and says them
  args_said : args_of (decimal a.number ∷ a.words) ≡ Ok a
  unfolding args_of
  args_said =
      let number = decimal_read 1 MOST_MODULES a.number (omega (arith, h.most)) h.least h.most in
      let words = words_said a.words h.room h.fit.are_words in
      rw (number, words) refl

  pub args_taken : (version : Version) (script : Script)
      → list_any (λ other. other.number == a.number) script.args ≡ false
      → after_line version script (args_line a)
      ≡ Ok (record script { args = script.args ++ a ∷ [] })
  unfolding after_line
  args_taken version script other =
      let short = le-leb (length (args_line a)) LONGEST_ARGS h.fit.short in
      ap (with_fields version script (args_line a)) args_parts
      ∙ ap (λ r. demand rule.LineLength (is_short (args_line a))
      (unless_broken r (with_args script))) args_said
      ∙ (rw (short, other) refl)

-- no module twice
others_before : (before : List Args) (a : Args) (rest : List Args)
    → AllPairs (λ x y. x.number ≢ y.number) (before ++ a ∷ rest)
    → list_any (λ other. other.number == a.number) before ≡ false
others_before before a rest pairs =
    list_any_none (λ other. other.number == a.number) before
    (λ k d below.
    let far = pairs k (length before) d below
    (omega (arith, length-append before (a ∷ rest))) in
    let first = get_or_append_left before (a ∷ rest) d k below in
    let last = get_or_at before a rest d (length before) refl in
    ne_eqb (get_or before k d).number a.number
    (λ e. far (ap (λ (x : Args). x.number) first ∙ e ∙ sym (ap (λ (x : Args). x.number) last))))

abbrev pub script_with : List Raise → List Args → Script
script_with events args = record { events = events; args = args; named = [] }

-- the lines of the words of modules, before others
pub args_read : (version : Version) (number : ℕ) (events : List Raise) (before args : List Args)
    (more : List (List ℕ)) (final : Script)
    → AllPairs (λ x y. x.number ≢ y.number) (before ++ args) → All AreArgs args
    → ((n : ℕ) → read_lines version n (script_with events (before ++ args)) more ≡ Ok final)
    → read_lines version number (script_with events before) (map args_line args ++ more) ≡ Ok final
unfolding read_lines
args_read version number events before [] more final pairs all rest =
    ap (λ (xs : List Args). read_lines version number (script_with events xs) more)
    (sym (append-nil before))
    ∙ rest number
args_read version number events before (a ∷ args) more final pairs all rest =
    let taken = args_taken a (All-head AreArgs a args all) version (script_with events before)
    (others_before before a args pairs) in
    let same = append_assoc before (a ∷ []) args in
    let lines = map args_line args ++ more in
    ap (unless_bad number
    (λ (next : Script). read_lines version (next_number number) next lines)) taken
    ∙ args_read version (next_number number) events (before ++ a ∷ []) args more final
    (subst (AllPairs (λ (x y : Args). x.number ≢ y.number)) (sym same) pairs)
    (All-tail AreArgs a args all)
    (λ n. ap (λ (xs : List Args). read_lines version n (script_with events xs) more) same ∙ rest n)
