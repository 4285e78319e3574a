use Rattle.std.proofs.Common.{◌≡◌, ℕ, ◌≤◌, List, [], ◌∷◌, length, sym, subst, arith}
use Rattle.std.specs.Prelude.{All}
use Rattle.std.proofs.lemmas.List.{length-append}
use Rattle.std.proofs.lemmas.List.Elements.{All-cons, All-nil}
use Rattle.iop_script.specs.Scripts.{Args, Named, Script}
use Rattle.iop_saved_script.specs.Sizes as sizes
use Rattle.iop_saved_script.specs.Sizes.{ScriptIsShort, ArgsAreShort, NamedIsShort}
use Rattle.iop_script.specs.declared.raise.Raise.{Raise}
use Rattle.iop_machine.specs.Modules.{NamedFile, Module, HasRoom, modules_from, strings}
use Rattle.iop_machine_tests.proofs.tests.loads_it_twice.Goals as goal

-- the files of the test are short
record IsShort (file : NamedFile) : Type 0 where
  name : length file.name ≤ 5
  bytes : length file.file ≤ 152

room : (number : ℕ) (file : NamedFile) (words : List (List ℕ)) → IsShort file → length words ≤ 2
    → length (strings words) ≤ 5
    → HasRoom (record { number = number; words = file.name ∷ words; file = file.file })
room number file words short few long = record {
  file = omega (arith, short.bytes);
  words = omega (arith, few);
  strings = omega (arith, short.name, long, length-append file.name (0 ∷ strings words));
}

abbrev some_words : List Args
some_words = record { number = 1; words = (97 ∷ []) ∷ (98 ∷ 99 ∷ []) ∷ [] } ∷ []

rooms : (first second : NamedFile) → IsShort first → IsShort second
    → All HasRoom (modules_from some_words [] 1 (first ∷ second ∷ []))
rooms first second f s =
    let last : Module = record { number = 2; words = second.name ∷ []; file = second.file } in
    All-cons HasRoom _ (last ∷ []) (room 1 first _ f (omega arith) (omega arith))
    (All-cons HasRoom last [] (room 2 second [] s (omega arith) (omega arith)) (All-nil HasRoom))

pub new-requires-clause-room : goal.new-requires-clause-room
new-requires-clause-room c =
    let files = c.in_ok-modules.modules.items in
    let script = c.in_ok-words_for_first.ensures in
    subst (λ args. All HasRoom (modules_from args c.in_ok-words_for_first.field-0.named 1 files))
    (sym script.args)
    (subst (λ (named : List Named). All HasRoom (modules_from some_words named 1 files))
    (sym script.named)
    (subst (λ files. All HasRoom (modules_from some_words [] 1 files))
    (sym c.in_ok-modules.ensures.items) (rooms _ _
    (record { name = c.in_ok-first.ensures.name; bytes = c.in_ok-first.ensures.file })
    (record { name = c.in_ok-second.ensures.name; bytes = c.in_ok-second.ensures.file }))))

-- and so is its script
words_short : ArgsAreShort (record { number = 1; words = (97 ∷ []) ∷ (98 ∷ 99 ∷ []) ∷ [] })
words_short = record {
  all = omega arith;
  each = All-cons sizes.IsShort (97 ∷ []) ((98 ∷ 99 ∷ []) ∷ []) (omega arith)
      (All-cons sizes.IsShort (98 ∷ 99 ∷ []) [] (omega arith) (All-nil sizes.IsShort));
}

script_short : (script : Script) → script.events ≡ [] → script.args ≡ some_words
    → script.named ≡ [] → ScriptIsShort script
script_short script events args named = record {
  events = subst (λ (es : List Raise). sizes.IsShort es) (sym events) (omega arith);
  args = subst (λ (xs : List Args). sizes.IsShort xs) (sym args) (omega arith);
  words = subst (All ArgsAreShort) (sym args)
      (All-cons ArgsAreShort _ [] words_short (All-nil ArgsAreShort));
  named = subst (λ (ns : List Named). sizes.IsShort ns) (sym named) (omega arith);
  named_words = subst (All NamedIsShort) (sym named) (All-nil NamedIsShort);
}

pub new-requires-clause-short : goal.new-requires-clause-short
new-requires-clause-short c =
    let is = c.in_ok-words_for_first.ensures in
    script_short c.in_ok-words_for_first.field-0 is.events is.args is.named
