-- The modules that a command names are few and short, and those that were read have room in the
-- machine, each with its words of the script.
use Rattle.std.proofs.Common.{◌≡◌, ℕ, suc, ◌+◌, ◌≤◌, ◌==◌, bytes_eq, Bool, true, false, cond, Option, Some, None, IfSome, option_map, unwrap_or, List, [], ◌∷◌, All, map, find, length, refl, sym, subst, arith}
use Rattle.std.proofs.lemmas.List.{length-append, length-map}
use Rattle.std.proofs.lemmas.List.Elements.{All-nil, All-cons, All-head, All-tail}
use Rattle.std.proofs.lemmas.List.Sums.{sum_by-cons}
use Rattle.std.specs.Option.{option_or}
use Rattle.iop_machine.specs.Modules.{NamedFile, HasRoom, modules_from, strings}
use Rattle.iop_options.specs.Commands.{HasOneSource}
use Rattle.iop_options.specs.declared.limits.TheConstants.{LONGEST_WORD}
use Rattle.iop_script.specs.Laws.{FitBlock, CanRun, bytes_of_words}
use Rattle.iop_script.specs.Scripts.{Args, Named, Script, words_of_number, words_of_name, words_for}
use Rattle.iop_script.specs.declared.statements.TheConstants.{MOST_MODULES}
use Rattle.iop_front.specs.Inputs.{IsShort}

-- a word of the command line that is not too long
abbrev pub IsShortWord : List ℕ → Type 0
IsShortWord word = length word ≤ LONGEST_WORD

-- what holds of all images holds of the image of each
unmap : {S : Type 0} (f : S → List ℕ) (P : List ℕ → Type 0) (xs : List S) → All P (map f xs)
    → All (λ x. P (f x)) xs
unmap f P [] h = All-nil (λ x. P (f x))
unmap f P (x ∷ xs) h =
    All-cons (λ x. P (f x)) x xs (All-head P (f x) (map f xs) h)
    (unmap f P xs (All-tail P (f x) (map f xs) h))

-- no words are few and short
no_words_short : (words : List (List ℕ)) → words ≡ []
    → (length words ≤ MOST_MODULES) × All IsShortWord words
no_words_short words none =
    subst (λ words. (length words ≤ MOST_MODULES) × All IsShortWord words) (sym none)
    (omega arith, All-nil IsShortWord)

-- the modules that a command names are few and short, and none where one is generated, or where it
-- goes on from a snapshot
modules_short : (generate : Option ℕ) (restore : Option (List ℕ)) (words : List (List ℕ))
    → HasOneSource generate restore words
    → (length words ≤ MOST_MODULES) × All IsShortWord words
modules_short None None words h = (h.few, h.short)
modules_short None (Some name) words none = no_words_short words none
modules_short (Some workers) None words none = no_words_short words none
modules_short (Some workers) (Some name) words never = absurd never

-- the words as the program holds them
pub record AreShortWords {S : Type 0} (bytes : S → List ℕ) (words : List S) : Type 0 where
  pub few : length words ≤ MOST_MODULES
  pub short : All (λ word. IsShortWord (bytes word)) words

-- those of a command are few and short
pub words_short : {S : Type 0} (bytes : S → List ℕ) (generate : Option ℕ)
    (restore : Option (List ℕ)) (words : List S)
    → HasOneSource generate restore (map bytes words) → AreShortWords bytes words
words_short bytes generate restore words h =
    let short = modules_short generate restore (map bytes words) h in
    record {
      few = subst (λ n. n ≤ MOST_MODULES) (length-map words bytes) short.0;
      short = unmap bytes IsShortWord words short.1;
    }

-- where a script has no words for a module, nothing is there
none_fit : FitBlock []
none_fit = record { count = omega arith; bytes = omega arith }

-- each word is ended by a zero byte
strings_length : (words : List (List ℕ)) → length (strings words) ≡ bytes_of_words words
strings_length [] = refl
strings_length (word ∷ words) =
    omega (
      arith,
      length-append word (0 ∷ strings words),
      strings_length words,
      sum_by-cons (λ (w : List ℕ). length w + 1) word words,
    )

-- entries of a script, each with words, and a test that one may meet
module _ {S : Type 0} (words : S → List (List ℕ)) (test : S → Bool) where
  -- what is found is the first, or another
  found_by : (b : Bool) (first : S) (rest : List S) → FitBlock (words first)
      → IfSome (option_map words (find test rest)) FitBlock
      → IfSome (option_map words (cond b (Some first) (find test rest))) FitBlock
  found_by true first rest fit later = fit
  found_by false first rest fit later = later

  -- there is room for the words of the one that is found, where there is for those of each
  found_fit : (entries : List S) → All (λ x. FitBlock (words x)) entries
      → IfSome (option_map words (find test entries)) FitBlock
  found_fit [] all = tt
  found_fit (first ∷ rest) all =
      let fits : S → Type 0 = λ x. FitBlock (words x) in
      found_by (test first) first rest (All-head fits first rest all)
      (found_fit rest (All-tail fits first rest all))

-- those of a number, else those of a name, else none
either_fit : (one other : Option (List (List ℕ))) → IfSome one FitBlock → IfSome other FitBlock
    → FitBlock (unwrap_or (option_or one other) [])
either_fit None None h k = none_fit
either_fit None (Some words) h k = k
either_fit (Some words) other h k = h

-- a module has room with them
has_room : (number : ℕ) (named : NamedFile) (words : List (List ℕ)) → IsShort named → FitBlock words
    → HasRoom (record { number = number; words = named.name ∷ words; file = named.file })
has_room number named words h fit = record {
  file = h.file;
  words = let few = fit.count in omega (arith, few);
  strings =
      let all = length-append named.name (0 ∷ strings words) in
      omega (arith, all, h.name, strings_length words, fit.bytes);
}

-- of a script that can run
module _ (script : Script) (runs : CanRun script) where
  -- there is room for the words for each module
  handed_fit : (number : ℕ) (name : List ℕ)
      → FitBlock (words_for script.args script.named number name)
  handed_fit number name =
      either_fit (words_of_number script.args number) (words_of_name script.named name)
      (found_fit (λ (a : Args). a.words) (λ (a : Args). a.number == number) script.args runs.room)
      (found_fit (λ (n : Named). n.words) (λ (n : Named). bytes_eq n.name name) script.named
      runs.named_room)

  -- so each module has room
  pub have_room : (number : ℕ) (files : List NamedFile) → All IsShort files
      → All HasRoom (modules_from script.args script.named number files)
  have_room number [] h = All-nil HasRoom
  have_room number (named ∷ files) h =
      All-cons HasRoom (record {
        number = number;
        words = named.name ∷ words_for script.args script.named number named.name;
        file = named.file;
      }) (modules_from script.args script.named (suc number) files)
      (has_room number named (words_for script.args script.named number named.name)
      (All-head IsShort named files h) (handed_fit number named.name))
      (have_room (suc number) files (All-tail IsShort named files h))
