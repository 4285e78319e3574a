-- The words that a script has for a module: those of its number, else those of its name.
use mathlib.Core.Logic.{inl, inr}
use Rattle.std.proofs.Common.{◌≡◌, ◌≢◌, ℕ, ◌==◌, Bool, true, false, Option, Some, None, List, [], ◌∷◌, eqb-true, refl, ap, sym, ◌∙◌, arith}
use Rattle.std.specs.Prelude.{All, AllPairs, Contains, find, option_map, unwrap_or}
use Rattle.std.specs.Option.{option_or}
use Rattle.std.specs.Str.{bytes_eq}
use Rattle.std.proofs.lemmas.Bool.{eq-eqb}
use Rattle.std.proofs.lemmas.List.Elements.{All-contains, All-head, All-tail, Contains-append_cases}
use Rattle.std.proofs.lemmas.Slice.Eq.{bytes_eq-Decides}
use Rattle.iop_base.proofs.Searching.{AllPairs-head, AllPairs-tail}
use Rattle.iop_script.specs.Scripts.{Args, Named}
use Rattle.iop_machine.specs.ArgumentLaws.{WordsAreOfModules}
use Rattle.iop_machine.proofs.Elements.{only}

-- a test that finds the entries of a key, each of which is that of one entry alone
module _ {X K : Type 0} (key : X → K) (wanted : K) (test : X → Bool)
    (passes : (x : X) → key x ≡ wanted → test x ≡ true)
    (is_wanted : (x : X) → test x ≡ true → key x ≡ wanted) where
  -- by whether the first one passes
  found_by : (first : X) (rest : List X) (x : X) (b : Bool) → test first ≡ b
      → All (λ y. key first ≢ key y) rest → Contains (first ∷ rest) x → key x ≡ wanted
      → (Contains rest x → find test rest ≡ Some x) → find test (first ∷ rest) ≡ Some x
  found_by first rest x b is other has key_is later =
      elim (Contains-append_cases (first ∷ []) rest x has) [
        | inl here ↦ rw (passes first (ap key (only here) ∙ key_is)) (ap Some (only here))
        | inr there ↦ behind b is there
      ]
    where
      behind : (b : Bool) → test first ≡ b → Contains rest x → find test (first ∷ rest) ≡ Some x
      behind true is there =
          absurd (All-contains (λ y. key first ≢ key y) rest x other there
          (is_wanted first is ∙ sym key_is))
      behind false is there = rw is (later there)

  -- the entry of the key is found
  found : (xs : List X) (x : X) → AllPairs (λ a b. key a ≢ key b) xs → Contains xs x
      → key x ≡ wanted → find test xs ≡ Some x
  found [] x apart has key_is = absurd (omega (arith, has.1))
  found (first ∷ rest) x apart has key_is =
      found_by first rest x (test first) refl
      (AllPairs-head (λ a b. key a ≢ key b) first rest apart) has key_is
      (λ there. found rest x (AllPairs-tail (λ a b. key a ≢ key b) first rest apart) there key_is)

  -- where there is none, none is
  none_found : (xs : List X) → All (λ x. key x ≢ wanted) xs → find test xs ≡ None
  none_found [] none = refl
  none_found (first ∷ rest) none =
      by (test first) refl (All-head (λ x. key x ≢ wanted) first rest none)
      (none_found rest (All-tail (λ x. key x ≢ wanted) first rest none))
    where
      by : (b : Bool) → test first ≡ b → key first ≢ wanted → find test rest ≡ None
          → find test (first ∷ rest) ≡ None
      by true is other later = absurd (other (is_wanted first is))
      by false is other later = rw is later

module _ (number : ℕ) (args : List Args) where
  number_found : (a : Args) → AllPairs (λ a b. a.number ≢ b.number) args → Contains args a
      → a.number ≡ number → find (λ (a : Args). a.number == number) args ≡ Some a
  number_found a =
      found (λ (a : Args). a.number) number (λ a. a.number == number)
      (λ a is. eq-eqb a.number number is) (λ a is. eqb-true a.number number is) args a

  no_number_found : All (λ a. a.number ≢ number) args
      → find (λ (a : Args). a.number == number) args ≡ None
  no_number_found =
      none_found (λ (a : Args). a.number) number (λ a. a.number == number)
      (λ a is. eq-eqb a.number number is) (λ a is. eqb-true a.number number is) args

module _ (name : List ℕ) (named : List Named) where
  name_found : (n : Named) → AllPairs (λ m n. m.name ≢ n.name) named → Contains named n
      → n.name ≡ name → find (λ (n : Named). bytes_eq n.name name) named ≡ Some n
  name_found n =
      found (λ (n : Named). n.name) name (λ n. bytes_eq n.name name)
      (λ n is. (bytes_eq-Decides n.name name).1 is) (λ n is. (bytes_eq-Decides n.name name).0 is)
      named n

  no_name_found : All (λ n. n.name ≢ name) named
      → find (λ (n : Named). bytes_eq n.name name) named ≡ None
  no_name_found =
      none_found (λ (n : Named). n.name) name (λ n. bytes_eq n.name name)
      (λ n is. (bytes_eq-Decides n.name name).1 is) (λ n is. (bytes_eq-Decides n.name name).0 is)
      named

-- what was found of both says which words they are
abbrev words_by : Option Args → Option Named → List (List ℕ)
words_by a n = unwrap_or (option_or (option_map (λ (a : Args). a.words) a)
    (option_map (λ (n : Named). n.words) n)) []

pub words_are_of_modules : WordsAreOfModules
words_are_of_modules script runs number name =
    let of_name = find (λ (n : Named). bytes_eq n.name name) script.named in
    record {
      by_number = λ a has is.
          ap (λ o. words_by o of_name) (number_found number script.args a runs.modules has is);
      by_name = λ other n has is.
          ap (λ o. words_by o of_name) (no_number_found number script.args other)
          ∙ ap (words_by None) (name_found name script.named n runs.names has is);
      by_none = λ other none.
          ap (λ o. words_by o of_name) (no_number_found number script.args other)
          ∙ ap (words_by None) (no_name_found name script.named none);
    }
