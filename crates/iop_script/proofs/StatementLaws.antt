-- What holds of a statement that can be written, and of each that was read.
use Rattle.std.proofs.Common.{◌≡◌, ℕ, ◌+◌, ◌^◌, ◌<◌, ◌≤◌, nat_le, ◌==◌, Bool, true, false, cond, ◌&&◌, Option, None, Some, Result, Ok, Err, List, [], ◌∷◌, length, codes, decimal, refl, ◌∙◌, ap, sym, subst, arith}
use Rattle.std.specs.List.{All, list_all, slice_split, onto_first}
use Rattle.std.specs.Option.{ok_or}
use Rattle.std.proofs.lemmas.Bool.{leb-true}
use Rattle.std.proofs.lemmas.List.Sums.{sum_by-cons}
use Rattle.std.proofs.lemmas.List.Splits.{length-slice_split, slice_split-cons_yes, slice_split-cons_no}
use Rattle.iop_script.specs.Laws.{bytes_of_words, FitBlock, IsWord, FitLine}
use Rattle.iop_script.specs.Rules.{unless_broken, demand}
use Rattle.iop_script.specs.Scripts.{Args, Named}
use Rattle.iop_script.specs.Statements.{is_word, words_of}
use Rattle.iop_script.specs.Texts.{space, parts}
use Rattle.iop_script.specs.Versions.{allows_more}
use Rattle.iop_script.specs.Writing.{change_word, args_line, named_line}
use Rattle.iop_script.specs.declared.raise.Raise.{Raise}
use Rattle.iop_script.specs.declared.rule.Rule.{Rule}
use Rattle.iop_script.specs.declared.rule.Rule.TheVariants as rule
use Rattle.iop_script.specs.declared.statements.TheConstants.{MOST_MODULES, MOST_WORDS, LONGEST_ARGS}
use Rattle.iop_script.specs.declared.version.Version.{Version}
use Rattle.iop_script.specs.declared.version.Version.TheVariants.{One, Two}
use Rattle.iop_script.proofs.Words.{words_told}

module _ {A : Type 0} where
  -- a value behind a test
  pub if_some : (b : Bool) (x : Option A) (y : A) → cond b x None ≡ Some y
      → (b ≡ true) × (x ≡ Some y)
  if_some true x y is = (refl, is)
  if_some false x y is = absurd (cc)

  pub some_value : (x y : A) → Some x ≡ Some y → x ≡ y
  some_value x y is = cc

  pub ok_value : (x y : A) → ◌≡◌ {A = Result A Rule} (Ok x) (Ok y) → x ≡ y
  ok_value x y is = cc

  pub no_ok : {P : Type 0} (rule : Rule) (y : A)
      → ◌≡◌ {A = Result A Rule} (Err rule) (Ok y) → P
  no_ok rule y is = absurd (cc)

  pub some_behind : (o : Option A) (rule : Rule) (y : A) → ok_or o rule ≡ Ok y → o ≡ Some y
  some_behind None rule y is = absurd (cc)
  some_behind (Some x) rule y is = ap Some (ok_value x y is)

  pub demand_met : (rule : Rule) (b : Bool) (next : Result A Rule) (y : A)
      → demand rule b next ≡ Ok y → (b ≡ true) × (next ≡ Ok y)
  demand_met rule true next y is = (refl, is)
  demand_met rule false next y is = absurd (cc)

-- a value made of another
pub ok_behind : {A B : Type 0} (r : Result A Rule) (next : A → Result B Rule) (y : B)
    → unless_broken r next ≡ Ok y → (x : A) × (r ≡ Ok x) × (next x ≡ Ok y)
ok_behind (Err rule) next y is = absurd (cc)
ok_behind (Ok x) next y is = (x, refl, is)

-- version 1 lowers no line
abbrev pub CanChange : Version → Bool → Type 0
CanChange One up = up ≡ true
CanChange Two up = Unit {0}

pub raised_by : (version : Version) (b c up : Bool)
    → cond b (Some true) (cond (c && allows_more version) (Some false) None) ≡ Some up
    → CanChange version up
raised_by One true c up is = sym (some_value true up is)
raised_by One false true up is = absurd (cc)
raised_by One false false up is = absurd (cc)
raised_by Two b c up is = tt

-- an event that can be written
pub record IsEvent (version : Version) (e : Raise) : Type 0 where
  pub tick : e.at < 2 ^ 63
  pub line : e.line < 64
  pub up : CanChange version e.up

-- the word for its change, and its fields behind `at`
abbrev pub word_for : Bool → List ℕ
word_for up = cond up (codes "line") (codes "release")

abbrev pub event_fields : Raise → List (List ℕ)
event_fields e = decimal e.at ∷ change_word e ∷ decimal e.line ∷ []

-- words of a module that can be written
pub record AreArgs (a : Args) : Type 0 where
  pub least : 1 ≤ a.number
  pub most : a.number ≤ MOST_MODULES
  pub room : FitBlock a.words
  pub fit : FitLine a.words (args_line a)

-- and of a name
pub record AreNamed (n : Named) : Type 0 where
  pub name : IsWord n.name
  pub room : FitBlock n.words
  pub fit : FitLine n.words (named_line n)

bytes-cons : (word : List ℕ) (words : List (List ℕ)) →
    bytes_of_words (word ∷ words) ≡ length word + 1 + bytes_of_words words
bytes-cons word words = sum_by-cons (λ (w : List ℕ). length w + 1) word words

module _ (p : ℕ → Bool) where
  onto_first-bytes : (x : ℕ) (words : List (List ℕ)) → 0 < length words →
      bytes_of_words (onto_first x words) ≡ bytes_of_words words + 1
  onto_first-bytes x [] some = absurd (omega arith)
  onto_first-bytes x (word ∷ words) some =
      omega (arith, bytes-cons (x ∷ word) words, bytes-cons word words)

  slice_split-bytes : (text : List ℕ) → bytes_of_words (slice_split p text) ≡ length text + 1
  slice_split-bytes [] = refl
  slice_split-bytes (x ∷ xs) = at (p x) refl (slice_split-bytes xs)
    where
      at : (b : Bool) → p x ≡ b → bytes_of_words (slice_split p xs) ≡ length xs + 1 →
          bytes_of_words (slice_split p (x ∷ xs)) ≡ length (x ∷ xs) + 1
      at true is rest =
          ap bytes_of_words (slice_split-cons_yes p x xs is)
          ∙ omega (arith, bytes-cons [] (slice_split p xs))
      at false is rest =
          ap bytes_of_words (slice_split-cons_no p x xs is)
          ∙ onto_first-bytes x (slice_split p xs) (omega (arith, length-slice_split p xs))
          ∙ omega arith

-- the words of a line, behind two fields
pub words_within : (line keyword second : List ℕ) (fields words : List (List ℕ))
    → parts space line ≡ keyword ∷ second ∷ fields → length line ≤ LONGEST_ARGS
    → words_of fields ≡ Ok words → (fields ≡ words) × FitBlock words × All IsWord words
unfolding words_of
words_within line keyword second fields words cut short is =
    let few = demand_met rule.WordCount (nat_le (length fields) MOST_WORDS)
    (demand rule.WordBytes (list_all is_word fields) (Ok fields)) words is in
    let all = demand_met rule.WordBytes (list_all is_word fields) (Ok fields) words few.1 in
    let same : fields ≡ words = ok_value fields words all.1 in
    let whole : bytes_of_words (keyword ∷ second ∷ fields) ≡ length line + 1 =
    sym (ap bytes_of_words cut) ∙ slice_split-bytes (λ b. b == space) line in
    let room : FitBlock fields = record {
      count = leb-true (length fields) MOST_WORDS few.0;
      bytes = omega (
        arith,
        whole,
        short,
        bytes-cons keyword (second ∷ fields),
        bytes-cons second fields,
      );
    } in
    (same, subst FitBlock same room, subst (All IsWord) same (words_told fields all.0))
