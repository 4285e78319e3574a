-- The lines of the words for names, written and read.
use Rattle.std.proofs.Common.{◌≡◌, ◌≢◌, ℕ, ◌<◌, Bool, true, false, Ok, List, [], ◌∷◌, ◌++◌, length, map, codes, get_or, append_assoc, append-nil, refl, ap, sym, ◌∙◌, subst, arith}
use Rattle.std.specs.List.{All, AllPairs, list_any}
use Rattle.std.specs.Str.{bytes_eq}
use Rattle.std.proofs.lemmas.Bool.{le-leb}
use Rattle.std.proofs.lemmas.List.{get_or_append_left, get_or_at, length-append}
use Rattle.std.proofs.lemmas.List.Elements.{All-cons, All-head, All-tail}
use Rattle.std.proofs.lemmas.List.Folds.{list_any_none}
use Rattle.std.proofs.lemmas.Slice.Eq.{bytes_eq-Decides}
use Rattle.iop_script.specs.Reading.{with_named, is_short, with_fields, after_line, next_number, unless_bad, read_lines}
use Rattle.iop_script.specs.Rules.{unless_broken, demand}
use Rattle.iop_script.specs.Scripts.{Args, Named, Script}
use Rattle.iop_script.specs.Statements.{named_of}
use Rattle.iop_script.specs.Texts.{line_feed, space, parts}
use Rattle.iop_script.specs.Writing.{named_line}
use Rattle.iop_script.specs.declared.raise.Raise.{Raise}
use Rattle.iop_script.specs.declared.rule.Rule.TheVariants as rule
use Rattle.iop_script.specs.declared.statements.TheConstants.{LONGEST_ARGS}
use Rattle.iop_script.specs.declared.version.Version.TheVariants.{Two}
use Rattle.iop_script.proofs.ArgsWriting.{words_said}
use Rattle.iop_script.proofs.PartsJoined.{Lacks, lacks_tested, joined-lacks, parts-joined}
use Rattle.iop_script.proofs.StatementLaws.{AreNamed}
use Rattle.iop_script.proofs.Words.{word_tested, word_lacks, words_lack}

module _ (n : Named) (h : AreNamed n) where
  fields_lack : (c : ℕ) → c < 0x21 → All (Lacks c) (n.name ∷ n.words)
  fields_lack c low =
      All-cons (Lacks c) n.name n.words (word_lacks c low n.name h.name)
      (words_lack c low n.words h.fit.are_words)

  -- their line is one line
  pub named_line-lacks : Lacks line_feed (named_line n)
  named_line-lacks =
      joined-lacks line_feed space refl (codes "for" ∷ n.name ∷ n.words)
      (All-cons (Lacks line_feed) (codes "for") (n.name ∷ n.words)
      (lacks_tested line_feed (codes "for") refl)
      (fields_lack line_feed (omega arith)))

  named_parts : parts space (named_line n) ≡ codes "for" ∷ n.name ∷ n.words
  named_parts =
      parts-joined space (codes "for") (n.name ∷ n.words) (lacks_tested space (codes "for") refl)
      (fields_lack space (omega arith))

  -- and says them
  named_said : named_of (n.name ∷ n.words) ≡ Ok n
  unfolding named_of
  named_said =
      let name = word_tested n.name h.name in
      let words = words_said n.words h.room h.fit.are_words in
      rw (name, words) refl

  named_taken : (script : Script)
      → list_any (λ other. bytes_eq other.name n.name) script.named ≡ false
      → after_line Two script (named_line n)
      ≡ Ok (record script { named = script.named ++ n ∷ [] })
  unfolding after_line
  named_taken script other =
      let short = le-leb (length (named_line n)) LONGEST_ARGS h.fit.short in
      ap (with_fields Two script (named_line n)) named_parts
      ∙ ap (λ r. demand rule.LineLength (is_short (named_line n))
      (unless_broken r (with_named script))) named_said
      ∙ (rw (short, other) refl)

differ : (a b : List ℕ) → a ≢ b → bytes_eq a b ≡ false
differ a b other = at (bytes_eq a b) refl
  where
    at : (is : Bool) → bytes_eq a b ≡ is → bytes_eq a b ≡ false
    at true same = absurd (other ((bytes_eq-Decides a b).0 same))
    at false is = is

-- no name twice
others_before : (before : List Named) (n : Named) (rest : List Named)
    → AllPairs (λ x y. x.name ≢ y.name) (before ++ n ∷ rest)
    → list_any (λ other. bytes_eq other.name n.name) before ≡ false
others_before before n rest pairs =
    list_any_none (λ other. bytes_eq other.name n.name) before
    (λ k d below.
    let far = pairs k (length before) d below
    (omega (arith, length-append before (n ∷ rest))) in
    let first = get_or_append_left before (n ∷ rest) d k below in
    let last = get_or_at before n rest d (length before) refl in
    differ (get_or before k d).name n.name
    (λ e. far (ap (λ (x : Named). x.name) first ∙ e ∙ sym (ap (λ (x : Named). x.name) last))))

abbrev pub script_of_all : List Raise → List Args → List Named → Script
script_of_all events args named = record { events = events; args = args; named = named }

-- the lines of the words for names
pub named_read : (number : ℕ) (events : List Raise) (args : List Args) (before named : List Named)
    → AllPairs (λ x y. x.name ≢ y.name) (before ++ named) → All AreNamed named
    → read_lines Two number (script_of_all events args before) (map named_line named)
    ≡ Ok (script_of_all events args (before ++ named))
unfolding read_lines
named_read number events args before [] pairs all =
    ap (λ (xs : List Named). Ok (script_of_all events args xs)) (sym (append-nil before))
named_read number events args before (n ∷ named) pairs all =
    let taken = named_taken n (All-head AreNamed n named all) (script_of_all events args before)
    (others_before before n named pairs) in
    let same = append_assoc before (n ∷ []) named in
    ap (unless_bad number
    (λ (next : Script). read_lines Two (next_number number) next (map named_line named))) taken
    ∙ named_read (next_number number) events args (before ++ n ∷ []) named
    (subst (AllPairs (λ (x y : Named). x.name ≢ y.name)) (sym same) pairs)
    (All-tail AreNamed n named all)
    ∙ ap (λ (xs : List Named). Ok (script_of_all events args xs)) same
