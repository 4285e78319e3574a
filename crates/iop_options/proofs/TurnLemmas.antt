-- What one word does to a walk of `clap`.
use Rattle.std.proofs.Common.{◌≡◌, ◌∙◌, ℕ, Bool, true, false, cond, ◌==◌, Option, Some, None, List, [], ◌∷◌, length, codes, ap}
use Rattle.std.specs.Prelude.{nat_lt, drop, encode_utf8}
use Rattle.std.specs.Option.{option_map_or}
use Rattle.std.proofs.Math.Bool.{and-false}
use Rattle.std.specs.List.{before_first}
use Rattle.std.specs.Str.{bytes_eq, IsUtf8}
use Rattle.clap.specs.Lexer.{long_of}
use Rattle.clap.specs.Walk.{Rule, Row, Text, Held, Step, next, trailing, value as file_step, Waiting, idle, option, positional, Walk, walked, after_step, long_or_other, short_or_plain, plain_word, arg_by_long, positional_held, settled, is_pending, to_positional, pushed, option_word, after_flag, long_met}
use Rattle.clap.specs.Kinds.{Kinds, or_else}
use Rattle.clap.specs.Faults.{step_fault, long_fault, bundle_fault, bundle_step_fault, short_fault, flags_fault, flag_word_fault, settle_fault, positional_fault, stray_fault}
use Rattle.clap.specs.declared.error.kind.ErrorKind.TheVariants as kind
use Rattle.iop_options.specs.Words.{is_option, is_equals, attached}
use Rattle.iop_options.specs.Parts.{Part, value, file}
use Rattle.iop_options.proofs.RuleLemmas.{option_built, file_built, iop_rules, iop_shape, arg_by_id-option, arg_by_long-option, arg_by_long-other, arg_by_short-none, arg_by_index-file, name_is}
use Rattle.iop_options.proofs.StandLemmas.{unless_fails, unless_fails-or_else, part_fault, part_used, Stand, ready, wanting, IsKnown, held_at, waiting_at, fault_at, rows_at, settle_fault-at, settled_rows-at, walk_at, trail_at, ended, ended-more}
use Rattle.iop_options.proofs.WordLemmas.{IsPlain, dashed-short, short_of-dashed, first_char}

-- ---- one word

-- what is left of the words behind one, by its fault and by what it was met as
abbrev left_by : Kinds → Held × Step → Held → Waiting → Text → List Text → Option (List Row)
left_by fault met h waiting word behind =
    unless_fails (or_else fault (step_fault iop_shape 1 met.0 met.1))
    (ended (after_step iop_rules word (walk_at h waiting) met.0 met.1) behind)

-- by whether it is `--`, and by what it is as `--name`
abbrev left_of_word : Bool → Option (Text × Option Text) → Held → Waiting → Text → List Text
    → Option (List Row)
left_of_word two long h waiting word behind =
    left_by (cond two [] (flag_word_fault iop_rules false long word h))
    (cond two (h, trailing 1) (long_or_other iop_rules waiting word long h)) h waiting word behind

-- by what it is as `-abc`
abbrev left_of_short : Option Text → Held → Waiting → Text → List Text → Option (List Row)
left_of_short short h waiting word behind =
    left_by (option_map_or (λ flags. bundle_fault iop_rules false flags h) short [])
    (short_or_plain iop_rules waiting word short h) h waiting word behind

ended-word : (h : Held) (waiting : Waiting) (word : Text) (behind : List Text)
    → ended (walk_at h waiting) (word ∷ behind)
    ≡ left_of_word (bytes_eq word (45 ∷ 45 ∷ [])) (long_of word) h waiting word behind
unfolding walked
ended-word h idle word behind = ended-more (walk_at h idle) word behind
ended-word h (option id) word behind = ended-more (walk_at h (option id)) word behind
ended-word h positional word behind = ended-more (walk_at h positional) word behind

-- a plain word is no fault by itself
ended-plain : (h : Held) (waiting : Waiting) (word : Text) (behind : List Text) → IsPlain word
    → ended (walk_at h waiting) (word ∷ behind)
    ≡ left_by [] (plain_word iop_rules waiting word h) h waiting word behind
ended-plain h waiting word behind looks = ended-word h waiting word behind
    ∙ (λ i. left_of_word (looks.two i) (looks.long i) h waiting word behind)
    ∙ ap (λ o. left_of_short o h waiting word behind) looks.short

-- no option has a short name
bundle_fault-char : (b : ℕ) (rest : List ℕ) (h : Held) → h.skip ≡ 0 → IsUtf8 (45 ∷ b ∷ rest)
    → bundle_fault iop_rules false (b ∷ rest) h ≡ kind.UnknownArgument ∷ []
unfolding flags_fault
bundle_fault-char b rest h none text =
    let first = first_char b rest text in
    let start = record h { skip = 0 } in
    let left = drop (length (encode_utf8 first.0)) (b ∷ rest) in
    let next = λ (t : Text) (skip : ℕ) (now : Held).
    flags_fault iop_rules false (length rest) t skip now in
    (λ i. bundle_step_fault iop_rules false (first.1 i) (b ∷ rest) (none i) start next)
    ∙ ap (λ found. short_fault iop_rules false found left start (λ now. next left 0 now))
    (arg_by_short-none first.0)

-- a word that begins with one hyphen, and is longer, is refused
pub ended-dashed : (h : Held) (waiting : Waiting) (b : ℕ) (rest : List ℕ) (behind : List Text)
    → (b == 45) ≡ false → h.skip ≡ 0 → IsUtf8 (45 ∷ b ∷ rest)
    → ended (walk_at h waiting) ((45 ∷ b ∷ rest) ∷ behind) ≡ None
ended-dashed h waiting b rest behind other none text =
    let word = 45 ∷ b ∷ rest in
    let looks = dashed-short b rest other in
    let met = short_or_plain iop_rules waiting word (Some (b ∷ rest)) h in
    ended-word h waiting word behind
    ∙ (λ i. left_of_word (looks.two i) (looks.long i) h waiting word behind)
    ∙ ap (λ o. left_of_short o h waiting word behind) (short_of-dashed b rest other)
    ∙ ap (λ fault. left_by fault met h waiting word behind) (bundle_fault-char b rest h none text)

-- ---- a word, by where the walk stands

abbrev pub stands : List Row → Stand → Walk
stands rows stand = walk_at (held_at rows stand) (waiting_at stand)

-- a word that goes to the modules counts what was not counted yet
file_fault : (rows : List Row) (stand : Stand) → IsKnown stand
    → step_fault iop_shape 1 (held_at rows stand) file_step ≡ fault_at rows stand
file_fault rows stand known =
    let h = held_at rows stand in
    ap (λ o. option_map_or (λ a. positional_fault iop_rules false a h) o (stray_fault iop_shape))
    arg_by_index-file
    ∙ ap (λ b. cond b [] (settle_fault iop_rules false h)) (and-false (is_pending file_built h.pending))
    ∙ settle_fault-at rows stand known

file_held : (rows : List Row) (stand : Stand) (word : Text) → IsKnown stand
    → positional_held iop_rules file_built word (held_at rows stand)
    ≡ held_at (rows_at rows stand) (ready (Some (file word)))
file_held rows stand word known =
    let h = held_at rows stand in
    ap (λ b. pushed (codes "module") word (cond b h (settled iop_rules h)))
    (and-false (is_pending file_built h.pending))
    ∙ ap (λ r. held_at r (ready (Some (file word)))) (settled_rows-at rows stand known)

file_walk : (rows : List Row) (stand : Stand) (waiting : Waiting) (word : Text) → IsKnown stand
    → after_step iop_rules word (walk_at (held_at rows stand) waiting) (held_at rows stand) file_step
    ≡ stands (rows_at rows stand) (ready (Some (file word)))
file_walk rows stand waiting word known =
    let h = held_at rows stand in
    ap (λ o. to_positional iop_rules o word (walk_at h waiting) h) arg_by_index-file
    ∙ ap (λ held. walk_at held positional) (file_held rows stand word known)

file_trail : (rows : List Row) (stand : Stand) (waiting : Waiting) (word : Text) → IsKnown stand
    → after_step iop_rules word (trail_at (held_at rows stand) waiting) (held_at rows stand) file_step
    ≡ trail_at (held_at (rows_at rows stand) (ready (Some (file word)))) positional
file_trail rows stand waiting word known =
    let h = held_at rows stand in
    ap (λ o. to_positional iop_rules o word (trail_at h waiting) h) arg_by_index-file
    ∙ ap (λ held. trail_at held positional) (file_held rows stand word known)

-- behind `--`
pub trail-file : (rows : List Row) (stand : Stand) (waiting : Waiting) (word : Text)
    (behind : List Text) → IsKnown stand
    → ended (trail_at (held_at rows stand) waiting) (word ∷ behind)
    ≡ unless_fails (fault_at rows stand)
    (ended (trail_at (held_at (rows_at rows stand) (ready (Some (file word)))) positional) behind)
unfolding walked
trail-file rows stand waiting word behind known =
    ended-more (trail_at (held_at rows stand) waiting) word behind
    ∙ (λ i. unless_fails (file_fault rows stand known i)
    (ended (file_trail rows stand waiting word known i) behind))

-- `--` itself
pub ended-two : (h : Held) (waiting : Waiting) (behind : List Text)
    → ended (walk_at h waiting) ((45 ∷ 45 ∷ []) ∷ behind) ≡ ended (trail_at h waiting) behind
ended-two h waiting behind = ended-word h waiting (45 ∷ 45 ∷ []) behind

-- a plain word where no option waits is a module
pub ended-file : (rows : List Row) (last : Option Part) (word : Text) (behind : List Text)
    → IsKnown (ready last) → IsPlain word
    → ended (stands rows (ready last)) (word ∷ behind)
    ≡ unless_fails (fault_at rows (ready last))
    (ended (stands (rows_at rows (ready last)) (ready (Some (file word)))) behind)
ended-file rows None word behind known looks =
    ended-plain (held_at rows (ready None)) idle word behind looks
    ∙ (λ i. unless_fails (file_fault rows (ready None) known i)
    (ended (file_walk rows (ready None) idle word known i) behind))
ended-file rows (Some (value name text)) word behind known looks =
    let stand = ready (Some (value name text)) in
    ended-plain (held_at rows stand) idle word behind looks
    ∙ (λ i. unless_fails (file_fault rows stand known i)
    (ended (file_walk rows stand idle word known i) behind))
ended-file rows (Some (file other)) word behind known looks =
    let stand = ready (Some (file other)) in
    ended-plain (held_at rows stand) positional word behind looks
    ∙ (λ i. unless_fails (file_fault rows stand known i)
    (ended (file_walk rows stand positional word known i) behind))

-- a plain word where an option waits is its value
pub ended-value : (rows : List Row) (name word : Text) (behind : List Text)
    → is_option name ≡ true → IsPlain word
    → ended (stands rows (wanting name)) (word ∷ behind)
    ≡ ended (stands rows (ready (Some (value name word)))) behind
ended-value rows name word behind known looks =
    let h = held_at rows (wanting name) in
    let after = held_at rows (ready (Some (value name word))) in
    ended-plain h (option name) word behind looks
    ∙ ap (λ o. left_by [] ((option_word o name word h).0, next (option_word o name word h).1)
    h (option name) word behind) (arg_by_id-option name known)
    ∙ ap (λ b. ended (walk_at after (cond (nat_lt (cond b 1 0) 1) (option name) idle)) behind)
    (name_is name)

-- ---- a word that begins with two hyphens

abbrev left_of_long : Option Rule → Option Text → Held → Waiting → Text → List Text
    → Option (List Row)
left_of_long found text h waiting word behind =
    left_by (long_fault iop_rules false found text h)
    (after_flag iop_rules waiting word (long_met iop_rules found text h).0
    (long_met iop_rules found text h).1) h waiting word behind

module _ (b : ℕ) (rest : List ℕ) (behind : List Text) where
  abbrev name : Text
  name = before_first is_equals (b ∷ rest)

  abbrev word : Text
  word = 45 ∷ 45 ∷ b ∷ rest

  ended-long : (h : Held) (waiting : Waiting) → ended (walk_at h waiting) (word ∷ behind)
      ≡ left_of_long (arg_by_long iop_rules name) (attached (b ∷ rest)) h waiting word behind
  ended-long h waiting = ended-word h waiting word behind

  -- it names no option
  pub ended-stray : (h : Held) (waiting : Waiting) → is_option name ≡ false
      → ended (walk_at h waiting) (word ∷ behind) ≡ None
  ended-stray h waiting e = ended-long h waiting
      ∙ ap (λ o. left_of_long o (attached (b ∷ rest)) h waiting word behind)
      (arg_by_long-other name e)

  ended-named : (h : Held) (waiting : Waiting) (text : Option Text) → is_option name ≡ true
      → attached (b ∷ rest) ≡ text → ended (walk_at h waiting) (word ∷ behind)
      ≡ left_of_long (Some (option_built name)) text h waiting word behind
  ended-named h waiting text e is = ended-long h waiting
      ∙ (λ i. left_of_long (arg_by_long-option name e i) (is i) h waiting word behind)

  -- it names one, which waits for its value then
  pub ended-waits : (rows : List Row) (stand : Stand) → IsKnown stand → is_option name ≡ true
      → attached (b ∷ rest) ≡ None → ended (stands rows stand) (word ∷ behind)
      ≡ unless_fails (fault_at rows stand)
      (ended (stands (rows_at rows stand) (wanting name)) behind)
  ended-waits rows stand known e is =
      let h = held_at rows stand in
      ended-named h (waiting_at stand) None e is
      ∙ unless_fails-or_else (settle_fault iop_rules false h) [] _
      ∙ (λ i. unless_fails (settle_fault-at rows stand known i)
      (ended (stands (settled_rows-at rows stand known i) (wanting name)) behind))

  -- it names one, and has its value behind `=`
  pub ended-attached : (rows : List Row) (stand : Stand) (text : Text) → IsKnown stand
      → is_option name ≡ true → attached (b ∷ rest) ≡ Some text
      → ended (stands rows stand) (word ∷ behind)
      ≡ unless_fails (fault_at rows stand)
      (unless_fails (part_fault (rows_at rows stand) (value name text))
      (ended (stands (part_used (rows_at rows stand) (value name text)) (ready None)) behind))
  ended-attached rows stand text known e is =
      let h = held_at rows stand in
      let given = value name text in
      let left = λ (r : List Row). ended (stands (part_used r given) (ready None)) behind in
      ended-named h (waiting_at stand) (Some text) e is
      ∙ unless_fails-or_else (or_else (settle_fault iop_rules false h)
      (part_fault (settled iop_rules h).rows given)) [] _
      ∙ unless_fails-or_else (settle_fault iop_rules false h)
      (part_fault (settled iop_rules h).rows given) (left (settled iop_rules h).rows)
      ∙ (λ i. unless_fails (settle_fault-at rows stand known i)
      (unless_fails (part_fault (settled_rows-at rows stand known i) given)
      (left (settled_rows-at rows stand known i))))
