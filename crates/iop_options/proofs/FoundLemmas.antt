-- What `clap` finds of the words of the command.
use Rattle.std.proofs.Common.{◌≡◌, ◌∙◌, Bool, true, false, cond, ◌||◌, Option, Some, None, option_map, is_some, Err, List, [], ◌∷◌, map, fold, find, codes, drop, refl, sym, ap, subst, string_bytes, true≢false}
use Rattle.std.specs.Prelude.{option_and_then, slice_get, String}
use Rattle.std.specs.List.{AllByRecursion}
use Rattle.std.specs.Str.{bytes_eq, IsUtf8}
use Rattle.std.proofs.lemmas.Str.{IsUtf8-string_bytes}
use Rattle.clap.specs.Matches.{found_of, first_value}
use Rattle.clap.specs.Walk.{Rule, Row, Text, all_of, first_of, rows_of, has_row, is_empty, with_default, default_rows, reading_by, finished, settled, nothing_held, walk, rows_after}
use Rattle.clap.specs.Simple.{matches_of, names_of}
use Rattle.clap.specs.Kinds.{Kinds, IsAmong, or_else}
use Rattle.clap.specs.declared.error.kind.ErrorKind.{ErrorKind}
use Rattle.clap.specs.Faults.{fault_of, built_fault, level_fault, defaults_fault, default_fault, given_default_fault, check_fault, settle_fault, walk_fault}
use Rattle.clap.specs.declared.parser.matches.ArgMatches.{ArgMatches}
use Rattle.clap.proofs.FaultLemmas.{leaf_fault}
use Rattle.clap.proofs.WalkLemmas.{first_value-rows, raw_values-rows}
use Rattle.iop_options.specs.Words.{Kind, separator, option, unknown, plain, kind_of, is_option}
use Rattle.iop_options.specs.Parts.{Part, value, file, parts_from, part_before, word_given, value_given, option_given, values_of, unless_repeated, value_of}
use Rattle.iop_options.specs.Matched.{iop_app, unless_empty, HoldsParts, FindsParts}
use Rattle.iop_options.specs.declared.fault.WordFault.{WordFault}
use Rattle.iop_options.specs.declared.fault.WordFault.TheVariants.{Bad, Memory}
use Rattle.iop_options.proofs.RuleLemmas.{iop_rules, iop_shape, iop_is_built, iop_has_no_name}
use Rattle.iop_options.proofs.StandLemmas.{unless_fails, unless_fails-or_else, given_used, ready, ended}
use Rattle.iop_options.proofs.TurnLemmas.{stands}
use Rattle.iop_options.proofs.WalkLemmas.{walk_ends}
use Rattle.iop_options.proofs.RepeatLemmas.{AreOptions, RowsHold, hold-nothing, Fits, parts_fit}

-- ---- the words give parts of the command's own options

abbrev GivesOptions : Option (List Part) → Type 0
GivesOptions None = Unit {0}
GivesOptions (Some parts) = AreOptions parts

abbrev Awaits : Option Text → Type 0
Awaits None = Unit {0}
Awaits (Some name) = is_option name ≡ true

files_known : (words : List Text) → AreOptions (map file words)
files_known [] = tt
files_known (word ∷ words) = files_known words

file_known : (word : Text) (given : Option (List Part)) → GivesOptions given
    → GivesOptions (part_before (file word) given)
file_known word None known = tt
file_known word (Some parts) known = known

value_known : (name text : Text) (given : Option (List Part)) → is_option name ≡ true
    → GivesOptions given → GivesOptions (part_before (value name text) given)
value_known name text None e known = tt
value_known name text (Some parts) e known = (e, known)

module _ (behind : List Text)
    (known : (waiting : Option Text) → Awaits waiting → GivesOptions (parts_from waiting behind)) where
  option_known : (name : Text) (text : Option Text) → is_option name ≡ true
      → GivesOptions (option_given name text (λ waiting. parts_from waiting behind))
  option_known name None e = known (Some name) e
  option_known name (Some text) e = value_known name text (parts_from None behind) e (known None tt)

  word_known : (kind : Kind) (word : Text)
      → GivesOptions (word_given kind word behind (λ waiting. parts_from waiting behind))
  word_known separator word = files_known behind
  word_known (option name text) word =
      go (is_option name) (option_known name text)
    where
      go : (b : Bool) → (b ≡ true
          → GivesOptions (option_given name text (λ waiting. parts_from waiting behind)))
          → GivesOptions (cond b (option_given name text (λ waiting. parts_from waiting behind)) None)
      go true good = good refl
      go false good = tt
  word_known unknown word = tt
  word_known plain word = file_known word (parts_from None behind) (known None tt)

  waited_known : (name : Text) (kind : Kind) (word : Text) → is_option name ≡ true
      → GivesOptions (value_given name kind word (λ waiting. parts_from waiting behind))
  waited_known name separator word e = tt
  waited_known name (option other text) word e = tt
  waited_known name unknown word e = tt
  waited_known name plain word e =
      value_known name word (parts_from None behind) e (known None tt)

gives_options : (words : List Text) (waiting : Option Text) → Awaits waiting
    → GivesOptions (parts_from waiting words)
unfolding parts_from
gives_options [] None awaits = tt
gives_options [] (Some name) awaits = tt
gives_options (word ∷ behind) None awaits =
    word_known behind (gives_options behind) (kind_of word) word
gives_options (word ∷ behind) (Some name) awaits =
    waited_known behind (gives_options behind) name (kind_of word) word awaits

-- ---- behind the walk

abbrev LeftOut : Rule → Type 0
LeftOut rule = rule.defaults ≡ []

iop_left_out : AllByRecursion LeftOut iop_rules
unfolding iop_rules
iop_left_out = (refl, (refl, (refl, (refl, (refl, (refl, (refl, (refl, tt))))))))

with_default-none : (rows : List Row) (rule : Rule) → LeftOut rule → with_default rows rule ≡ rows
with_default-none rows rule none =
    ap (λ ds. cond (has_row rule.id rows) rows (default_rows rule.id (reading_by rule) ds rows)) none
    ∙ go (has_row rule.id rows)
  where
    go : (b : Bool) → cond b rows rows ≡ rows
    go true = refl
    go false = refl

with_defaults-none : (rules : List Rule) (rows : List Row) → AllByRecursion LeftOut rules
    → fold with_default rows rules ≡ rows
with_defaults-none [] rows none = refl
with_defaults-none (rule ∷ rules) rows none =
    ap (λ rs. fold with_default rs rules) (with_default-none rows rule none.0)
    ∙ with_defaults-none rules rows none.1

default_fault-none : (rows : List Row) (rule : Rule) → LeftOut rule → default_fault rows rule ≡ []
default_fault-none rows rule none =
    ap (λ ds. cond (has_row rule.id rows || is_empty ds) [] (given_default_fault rule ds)) none
    ∙ go (has_row rule.id rows)
  where
    go : (b : Bool) → cond (b || true) [] (given_default_fault rule []) ≡ []
    go true = refl
    go false = refl

defaults_fault-none : (rules : List Rule) (rows : List Row) → AllByRecursion LeftOut rules
    → defaults_fault rows rules ≡ []
unfolding defaults_fault
defaults_fault-none [] rows none = refl
defaults_fault-none (rule ∷ rules) rows none =
    ap (λ f. or_else f (defaults_fault (with_default rows rule) rules))
    (default_fault-none rows rule none.0)
    ∙ defaults_fault-none rules (with_default rows rule) none.1

check_fault-none : (rows : List Row) → check_fault iop_shape rows false ≡ []
unfolding iop_rules
check_fault-none rows = refl

-- ---- the whole parse

level_of : (words : List Text)
    → fault_of iop_app words ≡ level_fault iop_shape [] nothing_held words false []
level_of words =
    (λ i. built_fault (iop_is_built i) nothing_held (cond (iop_has_no_name i) words (drop 1 words)))
    ∙ leaf_fault (record { top = iop_shape; subs = [] }) nothing_held words refl

rows_found : (words : List Text)
    → matches_of iop_app words ≡ finished iop_rules (walk iop_rules [] nothing_held words).held
rows_found words i = rows_after (iop_is_built i).top.rules (names_of (iop_is_built i))
    (cond (iop_has_no_name i) words (drop 1 words))

ended-parse : (words : List Text)
    → unless_fails (fault_of iop_app words) (Some (matches_of iop_app words))
    ≡ ended (stands [] (ready None)) words
ended-parse words =
    let end = (walk iop_rules [] nothing_held words).held in
    let rows = (settled iop_rules end).rows in
    let fault = walk_fault iop_shape [] (stands [] (ready None)) words in
    let settling = settle_fault iop_rules false end in
    (λ i. unless_fails (level_of words i)
    (Some ((rows_found words ∙ with_defaults-none iop_rules rows iop_left_out) i)))
    ∙ (λ i. unless_fails (or_else fault (or_else settling
    (or_else (defaults_fault-none iop_rules rows iop_left_out i)
    (check_fault-none (finished iop_rules end) i)))) (Some rows))
    ∙ unless_fails-or_else fault (or_else settling []) (Some rows)
    ∙ ap (unless_fails fault) (unless_fails-or_else settling [] (Some rows))

-- no kind of fault, and the rows hold the wanted parts; or none are wanted
abbrev pub Found : Kinds → List Row → Option (List Part) → Type 0
Found [] rows wanted = (parts : List Part) × (wanted ≡ Some parts) × RowsHold rows parts
Found (k ∷ ks) rows wanted = wanted ≡ None

kinds_found : (kinds : Kinds) (rows : List Row) (given : Option (List Part)) → GivesOptions given
    → unless_fails kinds (Some rows) ≡ given_used [] given
    → Found kinds rows (option_and_then unless_repeated given)
kinds_found [] rows None known e = absurd (true≢false (ap is_some e))
kinds_found (k ∷ ks) rows None known e = refl
kinds_found [] rows (Some parts) known e =
    let all : Fits (Some rows) parts =
    subst (λ o. Fits o parts) (sym e) (parts_fit parts [] [] known refl hold-nothing) in
    (parts, ap (λ b. cond b (Some parts) None) all.0, all.1)
kinds_found (k ∷ ks) rows (Some parts) known e =
    let all : Fits None parts =
    subst (λ o. Fits o parts) (sym e) (parts_fit parts [] [] known refl hold-nothing) in
    ap (λ b. cond b (Some parts) None) all

pub parse_found : (words : List Text) → AllByRecursion IsUtf8 words
    → Found (fault_of iop_app words) (matches_of iop_app words)
    (option_and_then unless_repeated (parts_from None words))
parse_found words texts = kinds_found (fault_of iop_app words) (matches_of iop_app words)
    (parts_from None words) (gives_options words None tt)
    (ended-parse words ∙ walk_ends words texts [] (ready None) tt)

-- ---- as the caller has words and matches

pub strings_are_texts : {Z : Type 0} (words : List (String Z)) → AllByRecursion IsUtf8 (map string_bytes words)
strings_are_texts [] = tt
strings_are_texts (word ∷ words) = (IsUtf8-string_bytes word, strings_are_texts words)

first_of-all : (id : Text) (rows : List Row) → first_of id rows
    ≡ option_and_then (λ (vs : List Text). slice_get vs 0) (all_of id rows)
first_of-all id rows = go (find (λ r. bytes_eq r.id id) rows)
  where
    go : (o : Option Row) → option_and_then (λ (r : Row). slice_get r.values 0) o
        ≡ option_and_then (λ (vs : List Text). slice_get vs 0) (option_map (λ (r : Row). r.values) o)
    go None = refl
    go (Some r) = refl

first_unless_empty : (texts : List Text)
    → option_and_then (λ (vs : List Text). slice_get vs 0) (unless_empty texts)
    ≡ slice_get texts 0
first_unless_empty [] = refl
first_unless_empty (text ∷ texts) = refl

value_found : (rows : List Row) (parts : List Part) (name : Text) → is_option name ≡ true
    → RowsHold rows parts → first_of name rows ≡ value_of name parts
value_found rows parts name e hold = first_of-all name rows
    ∙ ap (option_and_then (λ (vs : List Text). slice_get vs 0)) (hold.options name e)
    ∙ first_unless_empty (values_of name parts)

pub holds_parts : (matches : ArgMatches) (parts : List Part)
    → RowsHold (rows_of (found_of matches)) parts → HoldsParts matches parts
holds_parts matches parts hold =
    let f = found_of matches in
    let value_is : (name : Text) → is_option name ≡ true → first_value f name ≡ value_of name parts =
    λ name e. first_value-rows f name ∙ value_found (rows_of f) parts name e hold in
    record {
      budget = value_is (codes "budget") refl;
      script = value_is (codes "script") refl;
      dump = value_is (codes "dump") refl;
      ram = value_is (codes "ram") refl;
      generate = value_is (codes "generate") refl;
      save = value_is (codes "save") refl;
      restore = value_is (codes "restore") refl;
      files = raw_values-rows f (codes "module") ∙ hold.files;
    }

abbrev wanted : List Text → Option (List Part)
wanted words = option_and_then unless_repeated (parts_from None words)

-- where nothing is at fault, the matches hold the parts of the words
pub parts_held : {Z : Type 0} (words : List (String Z)) (matches : ArgMatches)
    → fault_of iop_app (map string_bytes words) ≡ []
    → rows_of (found_of matches) ≡ matches_of iop_app (map string_bytes words)
    → (parts : List Part) × (wanted (map string_bytes words) ≡ Some parts)
    × HoldsParts matches parts
parts_held words matches passes rows =
    let texts = map string_bytes words in
    let all = subst (λ kinds. Found kinds (matches_of iop_app texts) (wanted texts)) passes
    (parse_found texts (strings_are_texts words)) in
    (all.0, all.1, holds_parts matches all.0 (subst (λ rs. RowsHold rs all.0) (sym rows) all.2))

-- and where something is, the words have none
pub none_wanted : {Z : Type 0} (words : List (String Z)) (k : ErrorKind)
    → IsAmong k (fault_of iop_app (map string_bytes words))
    → wanted (map string_bytes words) ≡ None
none_wanted words k among =
    go (fault_of iop_app (map string_bytes words)) (parse_found (map string_bytes words) (strings_are_texts words)) among
  where
    go : (kinds : Kinds) → Found kinds (matches_of iop_app (map string_bytes words))
        (wanted (map string_bytes words)) → IsAmong k kinds → wanted (map string_bytes words) ≡ None
    go [] all among = absurd among
    go (k ∷ ks) all among = all

-- a fault finds no parts, if words that are bad have none
pub fault_finds : (fault : WordFault) (given : Option (List Part))
    → (fault ≡ Bad → given ≡ None) → FindsParts (Err fault) given
fault_finds Bad given none = none refl
fault_finds Memory given none = tt
