-- What `clap` finds of the words is what their parts leave.
use Rattle.std.proofs.Common.{◌≡◌, ◌∙◌, ℕ, Bool, true, false, cond, ◌==◌, Option, Some, None, List, [], ◌∷◌, map, refl, sym, ap}
use Rattle.std.specs.List.{AllByRecursion, before_first}
use Rattle.std.specs.Str.{IsUtf8}
use Rattle.clap.specs.Walk.{Row, Text, Waiting, positional}
use Rattle.iop_options.specs.Words.{Kind, unknown, kind_of, is_option, is_equals, attached}
use Rattle.iop_options.specs.Parts.{Part, value, file, parts_from, word_given, value_given, option_given}
use Rattle.iop_options.proofs.StandLemmas.{unless_fails, unless_fails-None, part_fault, part_used, parts_used, given_used, given_used-before, Stand, ready, wanting, IsKnown, held_at, waiting_at, fault_at, rows_at, trail_at, ended, ended-none, ended_by-at}
use Rattle.iop_options.proofs.WordLemmas.{word_cases, IsPlain, plain-none, plain-hyphen, plain-other, dashed-short}
use Rattle.iop_options.proofs.TurnLemmas.{stands, trail-file, ended-two, ended-dashed, ended-file, ended-value, ended-stray, ended-waits, ended-attached}

-- behind `--` each word is a module
trail_ends : (rows : List Row) (stand : Stand) (waiting : Waiting) (words : List Text) → IsKnown stand
    → ended (trail_at (held_at rows stand) waiting) words
    ≡ unless_fails (fault_at rows stand) (parts_used (rows_at rows stand) (map file words))
trail_ends rows stand waiting [] known =
    ended-none (trail_at (held_at rows stand) waiting) ∙ ended_by-at rows stand known
trail_ends rows stand waiting (word ∷ behind) known =
    trail-file rows stand waiting word behind known
    ∙ ap (unless_fails (fault_at rows stand))
    (trail_ends (rows_at rows stand) (ready (Some (file word))) positional behind tt)

-- what words give where a walk stands, in rows
abbrev wanted_by : List Row → Stand → (Option Text → Option (List Part)) → Option (List Row)
wanted_by rows (ready last) given =
    unless_fails (fault_at rows (ready last)) (given_used (rows_at rows (ready last)) (given None))
wanted_by rows (wanting name) given = given_used rows (given (Some name))

abbrev wanted : List Row → Stand → List Text → Option (List Row)
wanted rows stand words = wanted_by rows stand (λ waiting. parts_from waiting words)

-- the same by what the first word is
abbrev given_by : Kind → Text → List Text → Option Text → Option (List Part)
given_by kind word behind None = word_given kind word behind (λ waiting. parts_from waiting behind)
given_by kind word behind (Some name) =
    value_given name kind word (λ waiting. parts_from waiting behind)

abbrev wanted_of : Kind → List Row → Stand → Text → List Text → Option (List Row)
wanted_of kind rows stand word behind = wanted_by rows stand (given_by kind word behind)

wanted-more : (rows : List Row) (stand : Stand) (word : Text) (behind : List Text)
    → wanted_of (kind_of word) rows stand word behind ≡ wanted rows stand (word ∷ behind)
unfolding parts_from
wanted-more rows (ready last) word behind = refl
wanted-more rows (wanting name) word behind = refl

-- a walk ends as the words ask, wherever it stands before them
abbrev EndsAs : List Text → Type 0
EndsAs words = (rows : List Row) (stand : Stand) → IsKnown stand
    → ended (stands rows stand) words ≡ wanted rows stand words

module _ (behind : List Text) (ends : EndsAs behind) where
  abbrev Turns : Text → Type 0
  Turns word = IsUtf8 word → (rows : List Row) (stand : Stand) → IsKnown stand
      → ended (stands rows stand) (word ∷ behind) ≡ wanted_of (kind_of word) rows stand word behind

  turns-two : Turns (45 ∷ 45 ∷ [])
  turns-two text rows (ready last) known =
      ended-two (held_at rows (ready last)) (waiting_at (ready last)) behind
      ∙ trail_ends rows (ready last) (waiting_at (ready last)) behind known
  turns-two text rows (wanting name) known =
      ended-two (held_at rows (wanting name)) (waiting_at (wanting name)) behind
      ∙ trail_ends rows (wanting name) (waiting_at (wanting name)) behind known

  refused : (rows : List Row) (stand : Stand) (word : Text)
      → None ≡ wanted_of unknown rows stand word behind
  refused rows (ready last) word = sym (unless_fails-None (fault_at rows (ready last)))
  refused rows (wanting name) word = refl

  turns-dashed : (b : ℕ) (rest : List ℕ) → (b == 45) ≡ false → Turns (45 ∷ b ∷ rest)
  turns-dashed b rest other text rows stand known =
      ended-dashed (held_at rows stand) (waiting_at stand) b rest behind other refl text
      ∙ refused rows stand (45 ∷ b ∷ rest)
      ∙ ap (λ k. wanted_of k rows stand (45 ∷ b ∷ rest) behind) (sym (dashed-short b rest other).kind)

  turns-plain : (word : Text) → IsPlain word → Turns word
  turns-plain word looks text rows (ready last) known =
      ended-file rows last word behind known looks
      ∙ ap (unless_fails (fault_at rows (ready last)))
      (ends (rows_at rows (ready last)) (ready (Some (file word))) tt
      ∙ sym (given_used-before (rows_at rows (ready last)) (file word) (parts_from None behind)))
      ∙ ap (λ k. wanted_of k rows (ready last) word behind) (sym looks.kind)
  turns-plain word looks text rows (wanting name) known =
      ended-value rows name word behind known looks
      ∙ ends rows (ready (Some (value name word))) known
      ∙ sym (given_used-before rows (value name word) (parts_from None behind))
      ∙ ap (λ k. wanted_of k rows (wanting name) word behind) (sym looks.kind)

  module _ (b : ℕ) (rest : List ℕ) where
    abbrev long : Text
    long = 45 ∷ 45 ∷ b ∷ rest

    abbrev named : Text
    named = before_first is_equals (b ∷ rest)

    -- what it gives where no option waits, by whether it names one and by its value
    abbrev asked : Bool → Option Text → Option (List Part)
    asked is_known given =
        cond is_known (option_given named given (λ waiting. parts_from waiting behind)) None

    abbrev asked_at : List Row → Option Part → Bool → Option Text → Option (List Row)
    asked_at rows last is_known given = unless_fails (fault_at rows (ready last))
        (given_used (rows_at rows (ready last)) (asked is_known given))

    stray : (rows : List Row) (stand : Stand) → is_option named ≡ false
        → None ≡ wanted_of (kind_of long) rows stand long behind
    stray rows (ready last) e = sym (unless_fails-None (fault_at rows (ready last)))
        ∙ ap (λ k. asked_at rows last k (attached (b ∷ rest))) (sym e)
    stray rows (wanting name) e = refl

    waits : (rows : List Row) (stand : Stand) → is_option named ≡ true
        → attached (b ∷ rest) ≡ None → unless_fails (fault_at rows stand)
        (wanted (rows_at rows stand) (wanting named) behind)
        ≡ wanted_of (kind_of long) rows stand long behind
    waits rows (ready last) e is = λ i. asked_at rows last (sym e i) (sym is i)
    waits rows (wanting name) e is = refl

    has : (rows : List Row) (stand : Stand) (text : Text) → is_option named ≡ true
        → attached (b ∷ rest) ≡ Some text → unless_fails (fault_at rows stand)
        (unless_fails (part_fault (rows_at rows stand) (value named text))
        (wanted (part_used (rows_at rows stand) (value named text)) (ready None) behind))
        ≡ wanted_of (kind_of long) rows stand long behind
    has rows (ready last) text e is =
        let now = rows_at rows (ready last) in
        ap (unless_fails (fault_at rows (ready last)))
        (sym (given_used-before now (value named text) (parts_from None behind)))
        ∙ (λ i. asked_at rows last (sym e i) (sym is i))
    has rows (wanting name) text e is = refl

    turns-by : (k : Bool) → is_option named ≡ k
        → (given : Option Text) → attached (b ∷ rest) ≡ given
        → (rows : List Row) (stand : Stand) → IsKnown stand
        → ended (stands rows stand) (long ∷ behind)
        ≡ wanted_of (kind_of long) rows stand long behind
    turns-by false e given is rows stand known =
        ended-stray b rest behind (held_at rows stand) (waiting_at stand) e ∙ stray rows stand e
    turns-by true e None is rows stand known =
        ended-waits b rest behind rows stand known e is
        ∙ ap (unless_fails (fault_at rows stand)) (ends (rows_at rows stand) (wanting named) e)
        ∙ waits rows stand e is
    turns-by true e (Some text) is rows stand known =
        ended-attached b rest behind rows stand text known e is
        ∙ ap (λ left. unless_fails (fault_at rows stand)
        (unless_fails (part_fault (rows_at rows stand) (value named text)) left))
        (ends (part_used (rows_at rows stand) (value named text)) (ready None) tt)
        ∙ has rows stand text e is

    turns-long : Turns long
    turns-long text =
        turns-by (is_option named) refl (attached (b ∷ rest)) refl

  turns : (word : Text) → Turns word
  turns = word_cases Turns turns-two turns-long turns-dashed
      (turns-plain (45 ∷ []) plain-hyphen) (turns-plain [] plain-none)
      (λ b rest other. turns-plain (b ∷ rest) (plain-other b rest other))

pub walk_ends : (words : List Text) → AllByRecursion IsUtf8 words → EndsAs words
unfolding parts_from
walk_ends [] texts rows (ready last) known =
    ended-none (stands rows (ready last)) ∙ ended_by-at rows (ready last) known
walk_ends [] texts rows (wanting name) known =
    ended-none (stands rows (wanting name)) ∙ ended_by-at rows (wanting name) known
walk_ends (word ∷ behind) texts rows stand known =
    turns behind (walk_ends behind texts.1) word texts.0 rows stand known
    ∙ wanted-more rows stand word behind
