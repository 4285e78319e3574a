-- No two lists of words are for one number or one name, and names are short, exactly where the test
-- passes.
use Rattle.std.proofs.Common.{◌≡◌, ◌≢◌, ◌==◌, ◌&&◌, ◌||◌, not, Bool, true, false, List, [], ◌∷◌, arith, refl, ap, sym, ◌∙◌}
use Rattle.std.specs.Prelude.{All, AllPairs}
use Rattle.std.specs.List.{list_all, list_any}
use Rattle.std.specs.Str.{bytes_eq}
use Rattle.std.proofs.lemmas.Bool.{and_from, and_parts, eq-eqb, eqb-true, false_from_ne_true, le-leb, leb-true}
use Rattle.std.proofs.lemmas.List.Elements.{All-nil, All-cons, All-head, All-tail}
use Rattle.std.proofs.lemmas.List.Kept.{AllPairs-cons}
use Rattle.std.proofs.lemmas.Slice.Eq.{bytes_eq-Decides}
use Rattle.iop_base.proofs.Searching.{AllPairs-head, AllPairs-tail}
use Rattle.iop_machine.specs.ScriptWords.{IsShortName, WordsCanStand, has_short_name, names_differ, numbers_differ, words_may_stand}
use Rattle.iop_saved_checks.proofs.Lists.{all_pass, each_is}
use Rattle.iop_saved_machine.specs.Loading.{LoadingParts}
use Rattle.iop_script.specs.Scripts.{Args, Named}

-- neither of two is true, and back
neither : (x y : Bool) → x ≡ false → not y ≡ true → not (x || y) ≡ true
neither true y first rest = absurd (cc first)
neither false y first rest = rest

both_false : (x y : Bool) → not (x || y) ≡ true → (x ≡ false) × (not y ≡ true)
both_false true y none = absurd (cc none)
both_false false y none = (refl, none)

module _ {X : Type 0} (same : X → X → Bool) (Apart : X → X → Type 0)
    (off : (a b : X) → Apart a b → same a b ≡ false)
    (on : (a b : X) → same a b ≡ false → Apart a b) where
  -- whether no two elements are the same
  abbrev differ : List X → Bool
  differ [] = true
  differ (a ∷ xs) = not (list_any (same a) xs) && differ xs

  none_same : (a : X) (xs : List X) → All (Apart a) xs → not (list_any (same a) xs) ≡ true
  none_same a [] apart = refl
  none_same a (b ∷ xs) apart =
      neither (same a b) (list_any (same a) xs) (off a b (All-head (Apart a) b xs apart))
      (none_same a xs (All-tail (Apart a) b xs apart))

  pass : (xs : List X) → AllPairs Apart xs → differ xs ≡ true
  pass [] apart = refl
  pass (a ∷ xs) apart =
      and_from _ _ (none_same a xs (AllPairs-head Apart a xs apart))
      (pass xs (AllPairs-tail Apart a xs apart))

  each_apart : (a : X) (xs : List X) → not (list_any (same a) xs) ≡ true → All (Apart a) xs
  each_apart a [] none = All-nil (Apart a)
  each_apart a (b ∷ xs) none =
      let parts = both_false (same a b) (list_any (same a) xs) none in
      All-cons (Apart a) b xs (on a b parts.0) (each_apart a xs parts.1)

  apart_of : (xs : List X) → differ xs ≡ true → AllPairs Apart xs
  apart_of [] passes = λ i j d before inside. absurd (omega (arith, inside))
  apart_of (a ∷ xs) passes =
      let parts = and_parts (not (list_any (same a) xs)) (differ xs) passes in
      AllPairs-cons Apart a xs (each_apart a xs parts.0) (apart_of xs parts.1)

-- ---- numbers

abbrev same_number : Args → Args → Bool
same_number a b = b.number == a.number

abbrev NumbersApart : Args → Args → Type 0
NumbersApart a b = a.number ≢ b.number

numbers_off : (a b : Args) → NumbersApart a b → same_number a b ≡ false
numbers_off a b apart =
    false_from_ne_true (same_number a b) (λ is. apart (sym (eqb-true b.number a.number is)))

numbers_on : (a b : Args) → same_number a b ≡ false → NumbersApart a b
numbers_on a b other same =
    let is = eq-eqb b.number a.number (sym same) in absurd (cc (is, other))

as_numbers : (args : List Args)
    → numbers_differ args ≡ differ same_number NumbersApart numbers_off numbers_on args
as_numbers [] = refl
as_numbers (a ∷ args) =
    ap (λ (rest : Bool). not (list_any (same_number a) args) && rest) (as_numbers args)

-- ---- names

abbrev same_name : Named → Named → Bool
same_name m n = bytes_eq n.name m.name

abbrev NamesApart : Named → Named → Type 0
NamesApart m n = m.name ≢ n.name

names_off : (m n : Named) → NamesApart m n → same_name m n ≡ false
names_off m n apart =
    false_from_ne_true (same_name m n)
    (λ is. apart (sym ((bytes_eq-Decides n.name m.name).0 is)))

names_on : (m n : Named) → same_name m n ≡ false → NamesApart m n
names_on m n other same =
    let is = (bytes_eq-Decides n.name m.name).1 (sym same) in absurd (cc (is, other))

as_names : (named : List Named)
    → names_differ named ≡ differ same_name NamesApart names_off names_on named
as_names [] = refl
as_names (m ∷ named) =
    ap (λ (rest : Bool). not (list_any (same_name m) named) && rest) (as_names named)

-- ---- all of them

-- the words and the modules of what a snapshot has
abbrev pub parts_stand : LoadingParts → Type 0
parts_stand p =
    WordsCanStand (record { args = p.args; named = p.named; next = p.next; files = p.modules })

pub words_pass : (p : LoadingParts) → parts_stand p → words_may_stand p ≡ true
words_pass p h =
    and_from _ _ (and_from _ _
    (as_numbers p.args ∙ pass same_number NumbersApart numbers_off numbers_on p.args h.numbers)
    (as_names p.named ∙ pass same_name NamesApart names_off names_on p.named h.names))
    (all_pass has_short_name IsShortName (λ named is. le-leb _ _ is) p.modules h.short)

pub words_of : (p : LoadingParts) → words_may_stand p ≡ true → parts_stand p
words_of p passes =
    let short =
    and_parts (numbers_differ p.args && names_differ p.named) (list_all has_short_name p.modules)
    passes in
    let two = and_parts (numbers_differ p.args) (names_differ p.named) short.0 in
    record {
      numbers = apart_of same_number NumbersApart numbers_off numbers_on p.args
          (sym (as_numbers p.args) ∙ two.0);
      names = apart_of same_name NamesApart names_off names_on p.named
          (sym (as_names p.named) ∙ two.1);
      short = each_is has_short_name IsShortName (λ named is. leb-true _ _ is) p.modules short.1;
    }
