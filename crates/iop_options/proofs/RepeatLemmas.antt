-- Parts are counted exactly where no option stands twice.
use Rattle.std.proofs.Common.{◌≡◌, ◌∙◌, nat_le, Bool, true, false, cond, ◌&&◌, ◌||◌, Option, Some, None, unwrap_or, is_some, List, [], ◌∷◌, ◌++◌, length, codes, refl, sym, ap, subst, append-nil, append_assoc, true≢false, length-append, arith}
use Rattle.std.proofs.lemmas.Bool.Decides.{nat_tests}
use Rattle.std.specs.List.{list_all, list_any}
use Rattle.std.specs.Str.{bytes_eq}
use Rattle.clap.specs.Walk.{Row, Text, all_of, has_row, with_values}
use Rattle.clap.specs.Kinds.{or_else}
use Rattle.clap.specs.declared.error.kind.ErrorKind.TheVariants as kind
use Rattle.clap.specs.declared.builder.value_parser.Reading.TheVariants.{AsWritten}
use Rattle.clap.specs.declared.parser.matches.ValueSource.TheVariants.{CommandLine}
use Rattle.iop_options.specs.Words.{option_names, is_option}
use Rattle.iop_options.specs.Parts.{Part, value, file, values_of, files_of, has_no_repeats}
use Rattle.iop_options.specs.Matched.{unless_empty}
use Rattle.iop_options.proofs.RuleLemmas.{same_name, name_is}
use Rattle.iop_options.proofs.RowLemmas.{has_row-all_of, without-absent, all_of-added, all_of-others}
use Rattle.iop_options.proofs.StandLemmas.{unless_fails, part_fault, part_used, parts_used}

-- ---- names among the options

passes_all : (p q : Text → Bool) → ((name : Text) → p name ≡ true → q name ≡ true)
    → (names : List Text) → list_all p names ≡ true → list_all q names ≡ true
passes_all p q each [] all = refl
passes_all p q each (name ∷ names) all =
    go (p name) (each name) all (passes_all p q each names)
  where
    go : (b : Bool) → (b ≡ true → q name ≡ true) → (b && list_all p names) ≡ true
        → (list_all p names ≡ true → list_all q names ≡ true)
        → (q name && list_all q names) ≡ true
    go true here both next = (λ i. here refl i && next both i)
    go false here both next = absurd (true≢false (sym both))

fails_one : (p : Text → Bool) (name : Text) (names : List Text)
    → list_any (λ o. bytes_eq o name) names ≡ true → p name ≡ false
    → list_all p names ≡ false
fails_one p name [] e fails = absurd (true≢false (sym e))
fails_one p name (other ∷ names) e fails =
    go (bytes_eq other name) refl e (λ f. fails_one p name names f fails)
  where
    after : (b : Bool) → (b && false) ≡ false
    after true = refl
    after false = refl

    go : (b : Bool) → bytes_eq other name ≡ b
        → (b || list_any (λ o. bytes_eq o name) names) ≡ true
        → (list_any (λ o. bytes_eq o name) names ≡ true → list_all p names ≡ false)
        → (p other && list_all p names) ≡ false
    go true same f next =
        ap (λ b. b && list_all p names) (ap p (same_name other name same) ∙ fails)
    go false same f next = ap (λ b. p other && b) (next f) ∙ after (p other)

-- the modules are no option
file_id-other : (name : Text) → is_option name ≡ true → bytes_eq name (codes "module") ≡ false
file_id-other name e = go (bytes_eq name (codes "module")) refl
  where
    go : (b : Bool) → bytes_eq name (codes "module") ≡ b → b ≡ false
    go false same = refl
    go true same = absurd (true≢false (sym e ∙ ap is_option (same_name name (codes "module") same)))

other_file_id : (name : Text) → is_option name ≡ true → bytes_eq (codes "module") name ≡ false
other_file_id name e = go (bytes_eq (codes "module") name) refl
  where
    go : (b : Bool) → bytes_eq (codes "module") name ≡ b → b ≡ false
    go false same = refl
    go true same =
        absurd (true≢false (sym e ∙ ap is_option (sym (same_name (codes "module") name same))))

-- ---- values and files of parts

pub values_of-append : (name : Text) (xs ys : List Part)
    → values_of name (xs ++ ys) ≡ values_of name xs ++ values_of name ys
values_of-append name [] ys = refl
values_of-append name (value other text ∷ xs) ys =
    go (bytes_eq other name) (values_of-append name xs ys)
  where
    go : (b : Bool) → values_of name (xs ++ ys) ≡ values_of name xs ++ values_of name ys
        → cond b (text ∷ values_of name (xs ++ ys)) (values_of name (xs ++ ys))
        ≡ cond b (text ∷ values_of name xs) (values_of name xs) ++ values_of name ys
    go true e = ap (λ rest. text ∷ rest) e
    go false e = e
values_of-append name (file word ∷ xs) ys = values_of-append name xs ys

files_of-append : (xs ys : List Part) → files_of (xs ++ ys) ≡ files_of xs ++ files_of ys
files_of-append [] ys = refl
files_of-append (value name text ∷ xs) ys = files_of-append xs ys
files_of-append (file word ∷ xs) ys = ap (λ rest. word ∷ rest) (files_of-append xs ys)

-- each part is an option's of the command, or a file
abbrev pub AreOptions : List Part → Type 0
AreOptions [] = Unit {0}
AreOptions (value name text ∷ rest) = (is_option name ≡ true) × AreOptions rest
AreOptions (file word ∷ rest) = AreOptions rest

-- ---- rows that hold parts

pub record RowsHold (rows : List Row) (parts : List Part) : Type 0 where
  pub options : (name : Text) → is_option name ≡ true
      → all_of name rows ≡ unless_empty (values_of name parts)
  pub files : all_of (codes "module") rows ≡ unless_empty (files_of parts)

pub hold-nothing : RowsHold [] []
hold-nothing = record { options = λ name e. refl; files = refl }

-- a list with one more is not empty
unless_empty-more : (texts : List Text) (text : Text)
    → Some (unwrap_or (unless_empty texts) [] ++ text ∷ []) ≡ unless_empty (texts ++ text ∷ [])
unless_empty-more [] text = refl
unless_empty-more (first ∷ texts) text = refl

-- what a list has where it is empty, or not
empty_from : (texts : List Text) → is_some (unless_empty texts) ≡ false → texts ≡ []
empty_from [] e = refl
empty_from (text ∷ texts) e = absurd (true≢false e)

not_empty_from : (texts : List Text) → is_some (unless_empty texts) ≡ true
    → (first : Text) × (rest : List Text) × (texts ≡ first ∷ rest)
not_empty_from [] e = absurd (true≢false (sym e))
not_empty_from (text ∷ texts) e = (text, texts, refl)

-- ---- one more file

abbrev with_file : List Part → Text → List Part
with_file parts word = parts ++ file word ∷ []

values-with_file : (name : Text) (parts : List Part) (word : Text)
    → values_of name (with_file parts word) ≡ values_of name parts
values-with_file name parts word =
    values_of-append name parts (file word ∷ []) ∙ append-nil (values_of name parts)

no_repeats-with_file : (parts : List Part) (word : Text)
    → has_no_repeats (with_file parts word) ≡ has_no_repeats parts
no_repeats-with_file parts word i =
    list_all (λ name. nat_le (length (values-with_file name parts word i)) 1) option_names

hold-with_file : (rows : List Row) (parts : List Part) (word : Text) → RowsHold rows parts
    → RowsHold (part_used rows (file word)) (with_file parts word)
hold-with_file rows parts word hold = record {
  options = λ name e.
      all_of-others (codes "module") AsWritten CommandLine (word ∷ []) name rows (other_file_id name e)
      ∙ hold.options name e ∙ ap unless_empty (sym (values-with_file name parts word));
  files =
      all_of-added (codes "module") AsWritten CommandLine (word ∷ []) rows
      ∙ ap (λ o. Some (unwrap_or o [] ++ word ∷ [])) hold.files
      ∙ unless_empty-more (files_of parts) word
      ∙ ap unless_empty (sym (files_of-append parts (file word ∷ [])));
}

-- ---- one more value

abbrev with_value : List Part → Text → Text → List Part
with_value parts name text = parts ++ value name text ∷ []

values-with_value : (parts : List Part) (name text other : Text)
    → values_of other (with_value parts name text)
    ≡ values_of other parts ++ cond (bytes_eq name other) (text ∷ []) []
values-with_value parts name text other = values_of-append other parts (value name text ∷ [])

-- where the option has no value yet, it has one then
values-first : (parts : List Part) (name text other : Text) → values_of name parts ≡ []
    → values_of other (with_value parts name text)
    ≡ cond (bytes_eq name other) (text ∷ []) (values_of other parts)
values-first parts name text other none =
    values-with_value parts name text other ∙ go (bytes_eq name other) refl
  where
    go : (b : Bool) → bytes_eq name other ≡ b
        → values_of other parts ++ cond b (text ∷ []) []
        ≡ cond b (text ∷ []) (values_of other parts)
    go true same = ap (λ vs. vs ++ text ∷ [])
        (ap (λ n. values_of n parts) (sym (same_name name other same)) ∙ none)
    go false same = append-nil (values_of other parts)

no_repeats-first : (parts : List Part) (name text : Text) → values_of name parts ≡ []
    → has_no_repeats parts ≡ true → has_no_repeats (with_value parts name text) ≡ true
no_repeats-first parts name text none once =
    passes_all (λ other. nat_le (length (values_of other parts)) 1)
    (λ other. nat_le (length (values_of other (with_value parts name text))) 1)
    (λ other e. ap (λ vs. nat_le (length vs) 1) (values-first parts name text other none)
    ∙ go (bytes_eq name other) (values_of other parts) e) option_names once
  where
    go : (b : Bool) (vs : List Text) → nat_le (length vs) 1 ≡ true
        → nat_le (length (cond b (text ∷ []) vs)) 1 ≡ true
    go true vs e = refl
    go false vs e = e

-- a second value is one too many
repeats-second : (parts behind : List Part) (name text : Text) → is_option name ≡ true
    → is_some (unless_empty (values_of name parts)) ≡ true
    → has_no_repeats (parts ++ value name text ∷ behind) ≡ false
repeats-second parts behind name text known some =
    let first = not_empty_from (values_of name parts) some in
    let all : values_of name (parts ++ value name text ∷ behind)
    ≡ (first.0 ∷ first.1) ++ text ∷ values_of name behind =
    values_of-append name parts (value name text ∷ behind)
    ∙ (λ i. first.2 i
    ++ cond (name_is name i) (text ∷ values_of name behind) (values_of name behind)) in
    fails_one (λ other. nat_le (length (values_of other (parts ++ value name text ∷ behind))) 1)
    name option_names known
    (ap (λ vs. nat_le (length vs) 1) all ∙ two first.1 (values_of name behind))
  where
    two : (xs ys : List Text) → nat_le (length ((text ∷ xs) ++ text ∷ ys)) 1 ≡ false
    two xs ys = grind (arith, nat_tests, length-append xs (text ∷ ys))

hold-with_value : (rows : List Row) (parts : List Part) (name text : Text) → is_option name ≡ true
    → has_row name rows ≡ false → values_of name parts ≡ [] → RowsHold rows parts
    → RowsHold (part_used rows (value name text)) (with_value parts name text)
hold-with_value rows parts name text known absent none hold =
    subst (λ rs. RowsHold (with_values name AsWritten CommandLine (text ∷ []) rs)
    (with_value parts name text)) (sym (without-absent name rows absent)) (record {
      options = λ other e. go other e (bytes_eq name other) refl;
      files = all_of-others name AsWritten CommandLine (text ∷ []) (codes "module") rows
          (file_id-other name known)
          ∙ hold.files
          ∙ ap unless_empty (sym (files_of-append parts (value name text ∷ [])
          ∙ append-nil (files_of parts)));
    })
  where
    own : all_of name (with_values name AsWritten CommandLine (text ∷ []) rows)
        ≡ unless_empty (values_of name (with_value parts name text))
    own = all_of-added name AsWritten CommandLine (text ∷ []) rows
        ∙ ap (λ o. Some (unwrap_or o [] ++ text ∷ [])) (hold.options name known ∙ ap unless_empty none)
        ∙ ap unless_empty (sym (values-first parts name text name none
        ∙ ap (λ b. cond b (text ∷ []) (values_of name parts)) (name_is name)))

    go : (other : Text) → is_option other ≡ true → (b : Bool) → bytes_eq name other ≡ b
        → all_of other (with_values name AsWritten CommandLine (text ∷ []) rows)
        ≡ unless_empty (values_of other (with_value parts name text))
    go other e true same = subst (λ n. all_of n (with_values name AsWritten CommandLine (text ∷ []) rows)
        ≡ unless_empty (values_of n (with_value parts name text))) (same_name name other same) own
    go other e false same =
        all_of-others name AsWritten CommandLine (text ∷ []) other rows same
        ∙ hold.options other e
        ∙ ap unless_empty (sym (values-first parts name text other none
        ∙ ap (λ b. cond b (text ∷ []) (values_of other parts)) same))

-- ---- parts, counted one after the other

-- parts are counted, or some option stands twice
abbrev pub Fits : Option (List Row) → List Part → Type 0
Fits None parts = has_no_repeats parts ≡ false
Fits (Some rows) parts = (has_no_repeats parts ≡ true) × RowsHold rows parts

part_fault-value : (rows : List Row) (name text : Text)
    → part_fault rows (value name text)
    ≡ cond (has_row name rows) (kind.ArgumentConflict ∷ []) []
part_fault-value rows name text = go (has_row name rows)
  where
    go : (b : Bool) → or_else (cond (b && true) (kind.ArgumentConflict ∷ []) []) []
        ≡ cond b (kind.ArgumentConflict ∷ []) []
    go true = refl
    go false = refl

pub parts_fit : (parts : List Part) (rows : List Row) (before : List Part) → AreOptions parts
    → has_no_repeats before ≡ true → RowsHold rows before
    → Fits (parts_used rows parts) (before ++ parts)
parts_fit [] rows before known once hold =
    subst (Fits (Some rows)) (sym (append-nil before)) (once, hold)
parts_fit (file word ∷ parts) rows before known once hold =
    subst (Fits (parts_used (part_used rows (file word)) parts))
    (append_assoc before (file word ∷ []) parts)
    (parts_fit parts (part_used rows (file word)) (with_file before word) known
    (no_repeats-with_file before word ∙ once) (hold-with_file rows before word hold))
parts_fit (value name text ∷ parts) rows before known once hold =
    subst (λ o. Fits o (before ++ value name text ∷ parts))
    (sym (ap (λ fault. unless_fails fault left) (part_fault-value rows name text)))
    (go (has_row name rows) refl (λ absent none.
    parts_fit parts (part_used rows (value name text)) (with_value before name text) known.1
    (no_repeats-first before name text none once)
    (hold-with_value rows before name text known.0 absent none hold)))
  where
    left : Option (List Row)
    left = parts_used (part_used rows (value name text)) parts

    has : has_row name rows ≡ is_some (unless_empty (values_of name before))
    has = has_row-all_of name rows ∙ ap is_some (hold.options name known.0)

    go : (b : Bool) → has_row name rows ≡ b
        → (has_row name rows ≡ false → values_of name before ≡ []
        → Fits left (with_value before name text ++ parts))
        → Fits (unless_fails (cond b (kind.ArgumentConflict ∷ []) []) left)
        (before ++ value name text ∷ parts)
    go true e next = repeats-second before parts name text known.0 (sym has ∙ e)
    go false e next = subst (Fits left) (append_assoc before (value name text ∷ []) parts)
        (next e (empty_from (values_of name before) (sym has ∙ e)))
