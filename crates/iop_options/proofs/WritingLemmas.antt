-- What may be changed in the words of a command without changing the command.
use Rattle.std.proofs.Common.{◌≡◌, ℕ, nat_le, Bool, true, false, not, cond, if◌then◌else◌, Option, None, Some, is_some, List, [], ◌∷◌, ◌++◌, map, length, codes, refl, sym, ◌∙◌, ap, arith}
use Rattle.std.specs.List.{list_all}
use Rattle.std.specs.Str.{bytes_eq}
use Rattle.std.specs.Option.{option_map, option_and_then}
use Rattle.std.proofs.lemmas.Bool.{and_parts, leb-true}
use Rattle.std.proofs.lemmas.List.{length-append}
use Rattle.iop_options.specs.Words.{Kind, separator, option, unknown, plain, kind_of, option_names, is_option}
use Rattle.iop_options.specs.Parts.{Part, value, file, part_before, option_given, word_given, value_given, parts_from, values_of, files_of, has_no_repeats, unless_repeated}
use Rattle.iop_options.specs.Commands.{Command, command_given, command_of}
use Rattle.iop_options.specs.Laws.{option_word, joined_word, is_plain, IsFront, CommandsMayBeWrittenOtherwise}
use Rattle.iop_options.proofs.KindLemmas.{is_separator, plain_kind, option_kind, joined_kind, other_kind}

-- ---- words behind others

-- the parts that follow these
abbrev behind_parts : List Part → Option (List Part) → Option (List Part)
behind_parts parts given = option_map (λ rest. parts ++ rest) given

behind_no_parts : (given : Option (List Part)) → behind_parts [] given ≡ given
behind_no_parts None = refl
behind_no_parts (Some rest) = refl

behind_part : (part : Part) (parts : List Part) (given : Option (List Part)) →
    part_before part (behind_parts parts given) ≡ behind_parts (part ∷ parts) given
behind_part part parts None = refl
behind_part part parts (Some rest) = refl

part_then : (part : Part) (given later tail : Option (List Part)) (parts : List Part) →
    part_before part given ≡ Some parts →
    ((rest : List Part) → given ≡ Some rest → later ≡ behind_parts rest tail) →
    part_before part later ≡ behind_parts parts tail
part_then part None later tail parts is follows = absurd (cc)
part_then part (Some rest) later tail parts is follows =
    let same : part ∷ rest ≡ parts = cc in
    ap (part_before part) (follows rest refl)
    ∙ behind_part part rest tail
    ∙ ap (λ ps. behind_parts ps tail) same

abbrev AreFree : List (List ℕ) → Type 0
AreFree words = list_all (λ word. not (bytes_eq word (codes "--"))) words ≡ true

-- what the words behind `before` give, whatever waits there
module _ (before behind : List (List ℕ))
    (follows : (waiting : Option (List ℕ)) (rest : List Part) →
    parts_from waiting before ≡ Some rest →
    parts_from waiting (before ++ behind) ≡ behind_parts rest (parts_from None behind)) where
  abbrev tail : Option (List Part)
  tail = parts_from None behind

  option_then : (name : List ℕ) (text : Option (List ℕ)) (known : Bool) (parts : List Part) →
      cond known (option_given name text (λ waiting. parts_from waiting before)) None ≡ Some parts →
      cond known (option_given name text (λ waiting. parts_from waiting (before ++ behind))) None
      ≡ behind_parts parts tail
  option_then name text false parts is = absurd (cc)
  option_then name None true parts is = follows (Some name) parts is
  option_then name (Some text) true parts is =
      part_then (value name text) _ _ tail parts is (follows None)

  word_then : (word : List ℕ) (kind : Kind) (parts : List Part) → not (is_separator kind) ≡ true →
      word_given kind word before (λ waiting. parts_from waiting before) ≡ Some parts →
      word_given kind word (before ++ behind) (λ waiting. parts_from waiting (before ++ behind))
      ≡ behind_parts parts tail
  word_then word separator parts other is = absurd (cc)
  word_then word (option name text) parts other is = option_then name text (is_option name) parts is
  word_then word unknown parts other is = absurd (cc)
  word_then word plain parts other is = part_then (file word) _ _ tail parts is (follows None)

  value_then : (name word : List ℕ) (kind : Kind) (parts : List Part) →
      value_given name kind word (λ waiting. parts_from waiting before) ≡ Some parts →
      value_given name kind word (λ waiting. parts_from waiting (before ++ behind))
      ≡ behind_parts parts tail
  value_then name word separator parts is = absurd (cc)
  value_then name word (option other text) parts is = absurd (cc)
  value_then name word unknown parts is = absurd (cc)
  value_then name word plain parts is =
      part_then (value name word) _ _ tail parts is (follows None)

parts_then : (waiting : Option (List ℕ)) (before behind : List (List ℕ)) (parts : List Part) →
    parts_from waiting before ≡ Some parts → AreFree before →
    parts_from waiting (before ++ behind) ≡ behind_parts parts (parts_from None behind)
unfolding parts_from
parts_then None [] behind parts is free =
    let none : [] ≡ parts = cc in
    sym (behind_no_parts (parts_from None behind))
    ∙ ap (λ ps. behind_parts ps (parts_from None behind)) none
parts_then (Some name) [] behind parts is free = absurd (cc)
parts_then None (word ∷ before) behind parts is free =
    let apart = and_parts (not (bytes_eq word (codes "--"))) _ free in
    word_then before behind
    (λ waiting rest given. parts_then waiting before behind rest given apart.1)
    word (kind_of word) parts (other_kind word apart.0) is
parts_then (Some name) (word ∷ before) behind parts is free =
    let apart = and_parts (not (bytes_eq word (codes "--"))) _ free in
    value_then before behind
    (λ waiting rest given. parts_then waiting before behind rest given apart.1)
    name word (kind_of word) parts is

some_of : {A : Type 0} (o : Option A) → is_some o ≡ true → (x : A) × (o ≡ Some x)
some_of None is = absurd (cc)
some_of (Some x) is = (x, refl)

-- ---- an option that stands elsewhere

values_of-append : (name : List ℕ) (parts rest : List Part) →
    values_of name (parts ++ rest) ≡ values_of name parts ++ values_of name rest
values_of-append name [] rest = refl
values_of-append name (value other text ∷ parts) rest =
    rw (values_of-append name parts rest) (go (bytes_eq other name))
  where
    go : (same : Bool) →
        cond same (text ∷ (values_of name parts ++ values_of name rest))
        (values_of name parts ++ values_of name rest)
        ≡ cond same (text ∷ values_of name parts) (values_of name parts) ++ values_of name rest
    go true = refl
    go false = refl
values_of-append name (file word ∷ parts) rest = values_of-append name parts rest

files_of-append : (parts rest : List Part) →
    files_of (parts ++ rest) ≡ files_of parts ++ files_of rest
files_of-append [] rest = refl
files_of-append (value name text ∷ parts) rest = files_of-append parts rest
files_of-append (file word ∷ parts) rest = ap (λ fs. word ∷ fs) (files_of-append parts rest)

-- where one value at most stands in it, it is where it was
single_moves : (x : List ℕ) (xs ys : List (List ℕ)) → nat_le (length (x ∷ (xs ++ ys))) 1 ≡ true →
    xs ++ x ∷ ys ≡ x ∷ (xs ++ ys)
single_moves x [] ys few = refl
single_moves x (y ∷ xs) ys few = absurd (let le = leb-true _ _ few in omega (arith, le))

module _ (name text : List ℕ) (parts rest : List Part) where
  abbrev there : List Part
  there = parts ++ value name text ∷ rest

  abbrev here : List Part
  here = value name text ∷ (parts ++ rest)

  values_there : (other : List ℕ) → values_of other there
      ≡ values_of other parts ++ values_of other (value name text ∷ rest)
  values_there other = values_of-append other parts (value name text ∷ rest)

  -- as many values, and where there is one at most, the same
  values_move : (other : List ℕ) → (length (values_of other there) ≡ length (values_of other here))
      × (nat_le (length (values_of other here)) 1 ≡ true →
      values_of other there ≡ values_of other here)
  values_move other =
      rw (values_there other, values_of-append other parts rest) (go (bytes_eq name other))
    where
      xs : List (List ℕ)
      xs = values_of other parts

      ys : List (List ℕ)
      ys = values_of other rest

      go : (same : Bool) →
          (length (xs ++ cond same (text ∷ ys) ys) ≡ length (cond same (text ∷ (xs ++ ys)) (xs ++ ys)))
          × (nat_le (length (cond same (text ∷ (xs ++ ys)) (xs ++ ys))) 1 ≡ true →
          xs ++ cond same (text ∷ ys) ys ≡ cond same (text ∷ (xs ++ ys)) (xs ++ ys))
      go true = (
        let there = length-append xs (text ∷ ys) in let here = length-append xs ys in
            omega (arith, there, here),
        single_moves text xs ys,
      )
      go false = (refl, λ few. refl)

  files_move : files_of there ≡ files_of here
  files_move = files_of-append parts (value name text ∷ rest) ∙ sym (files_of-append parts rest)

  abbrev is_single : List Part → List ℕ → Bool
  is_single ps other = nat_le (length (values_of other ps)) 1

  singles : (names : List (List ℕ)) → list_all (is_single there) names ≡ list_all (is_single here) names
  singles [] = refl
  singles (other ∷ names) =
      rw ((values_move other).0, singles names) refl

  command_moves : option_and_then command_given (unless_repeated there)
      ≡ option_and_then command_given (unless_repeated here)
  command_moves = rw (singles option_names) (go (has_no_repeats here) refl)
    where
      go : (single : Bool) → has_no_repeats here ≡ single →
          option_and_then command_given (cond single (Some there) None)
          ≡ option_and_then command_given (cond single (Some here) None)
      go false is = refl
      go true is =
          let budget = and_parts (is_single here (codes "budget")) _ is in
          let script = and_parts (is_single here (codes "script")) _ budget.1 in
          let dumped = and_parts (is_single here (codes "dump")) _ script.1 in
          let sized = and_parts (is_single here (codes "ram")) _ dumped.1 in
          let generate = and_parts (is_single here (codes "generate")) _ sized.1 in
          let saved = and_parts (is_single here (codes "save")) _ generate.1 in
          let restored = and_parts (is_single here (codes "restore")) _ saved.1 in
          rw (
            (values_move (codes "budget")).1 budget.0,
            (values_move (codes "script")).1 script.0,
            (values_move (codes "dump")).1 dumped.0,
            (values_move (codes "ram")).1 sized.0,
            (values_move (codes "generate")).1 generate.0,
            (values_move (codes "save")).1 saved.0,
            (values_move (codes "restore")).1 restored.0,
            files_move,
          ) refl

-- ---- the law

abbrev given_by : Option (List Part) → Option Command
given_by parts = option_and_then command_given (option_and_then unless_repeated parts)

parts_of_plain : (modules : List (List ℕ)) → list_all is_plain modules ≡ true →
    parts_from None modules ≡ Some (map file modules)
unfolding parts_from
parts_of_plain [] are = refl
parts_of_plain (word ∷ modules) are =
    let apart = and_parts (is_plain word) _ are in
    rw (plain_kind word apart.0) (ap (part_before (file word)) (parts_of_plain modules apart.1))

-- a value, if it is one of an option
abbrev value_if : Bool → (name text : List ℕ) → Option (List Part) → Option (List Part)
value_if known name text given = if known then part_before (value name text) given else None

option_first : (word : List ℕ) (behind : List (List ℕ)) (name text : List ℕ) →
    kind_of word ≡ option name (Some text) →
    parts_from None (word ∷ behind) ≡ value_if (is_option name) name text (parts_from None behind)
unfolding parts_from
option_first word behind name text is = rw is refl

module _ (before : List (List ℕ)) (front : IsFront before) where
  parts : (ps : List Part) × (parts_from None before ≡ Some ps)
  parts = some_of (parts_from None before) front.good

  goes_on : (behind : List (List ℕ)) →
      parts_from None (before ++ behind) ≡ behind_parts parts.0 (parts_from None behind)
  goes_on behind = parts_then None before behind parts.0 parts.1 front.free

  -- what is the same behind them is the same command
  same_goes_on : (some others : List (List ℕ)) → parts_from None some ≡ parts_from None others →
      command_of (before ++ some) ≡ command_of (before ++ others)
  unfolding command_of
  same_goes_on some others same =
      ap given_by (goes_on some ∙ ap (behind_parts parts.0) same ∙ sym (goes_on others))

  moves : (word : List ℕ) (behind : List (List ℕ)) (name text : List ℕ) →
      kind_of word ≡ option name (Some text) →
      command_of (before ++ word ∷ behind) ≡ command_of (word ∷ before ++ behind)
  unfolding command_of
  moves word behind name text is =
      ap given_by (goes_on (word ∷ behind)
      ∙ ap (behind_parts parts.0) (option_first word behind name text is))
      ∙ go (is_option name) (parts_from None behind)
      ∙ sym (ap given_by (option_first word (before ++ behind) name text is
      ∙ ap (value_if (is_option name) name text) (goes_on behind)))
    where
      go : (known : Bool) (given : Option (List Part)) →
          given_by (behind_parts parts.0 (value_if known name text given))
          ≡ given_by (value_if known name text (behind_parts parts.0 given))
      go false given = refl
      go true None = refl
      go true (Some rest) = command_moves name text parts.0 rest

  joins : (word text both : List ℕ) (behind : List (List ℕ)) (name : List ℕ) →
      kind_of word ≡ option name None → kind_of text ≡ plain →
      kind_of both ≡ option name (Some text) →
      command_of (before ++ word ∷ text ∷ behind) ≡ command_of (before ++ both ∷ behind)
  unfolding parts_from
  joins word text both behind name first second whole =
      same_goes_on (word ∷ text ∷ behind) (both ∷ behind) (rw (first, second, whole) refl)

  separates : (modules : List (List ℕ)) → list_all is_plain modules ≡ true →
      command_of (before ++ codes "--" ∷ modules) ≡ command_of (before ++ modules)
  unfolding parts_from
  separates modules are =
      same_goes_on (codes "--" ∷ modules) modules (sym (parts_of_plain modules are))

pub may_be_written_otherwise : CommandsMayBeWrittenOtherwise
may_be_written_otherwise before front = record {
  moved = λ name text behind is.
      moves before front (joined_word name text) behind name text (joined_kind name text is);
  joined = λ name text behind is plain.
      joins before front (option_word name) text (joined_word name text) behind name
      (option_kind name is) (plain_kind text plain) (joined_kind name text is);
  separated = separates before front;
}
