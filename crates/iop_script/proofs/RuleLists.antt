-- The rule that is told of a line is the first that the line breaks.
use Rattle.std.proofs.Common.{◌≡◌, ℕ, ◌==◌, nat_le, Bool, true, false, cond, not, ◌&&◌, is_some, Option, None, Some, Result, Ok, Err, List, [], ◌∷◌, length, codes, refl, ap, sym, ◌∙◌, arith}
use Rattle.std.specs.List.{list_all, list_any}
use Rattle.std.specs.Option.{ok_or}
use Rattle.std.specs.Result.{result_err}
use Rattle.std.specs.Str.{bytes_eq}
use Rattle.std.proofs.lemmas.Bool.{ne_eqb}
use Rattle.iop_script.specs.Reading.{last_tick, with_event, with_args, with_named, is_short, with_fields, after_line}
use Rattle.iop_script.specs.RuleLists.{Demand, must, first_broken, is_number, change_rules, event_rules, word_rules, module_once, name_once, module_rules, name_rules, rules_behind, line_rules, FirstBrokenRulesAreTold}
use Rattle.iop_script.specs.Rules.{unless_broken, demand}
use Rattle.iop_script.specs.Scripts.{Args, Named, Script}
use Rattle.iop_script.specs.Statements.{is_remark, is_word, raises, event_of, words_of, args_of, named_of}
use Rattle.iop_script.specs.Texts.{space, parts, is_decimal, value_of, number_of}
use Rattle.iop_script.specs.Versions.{allows_more}
use Rattle.iop_script.specs.declared.rule.Rule.{Rule}
use Rattle.iop_script.specs.declared.rule.Rule.TheVariants as rule
use Rattle.iop_script.specs.declared.statements.TheConstants.{LAST_TICK, LAST_LINE, MOST_MODULES, MOST_WORDS}
use Rattle.iop_script.specs.declared.version.Version.{Version}
use Rattle.iop_script.proofs.StatementLaws.{if_some, some_value}

-- what is told by a result is the first of some rules that is broken
abbrev Tells : {A : Type 0} → Result A Rule → List Demand → Type 0
Tells result rules = result_err result ≡ first_broken rules

module _ {A : Type 0} where
  demand_tells : (rule : Rule) (b : Bool) (next : Result A Rule) (rest : List Demand)
      → Tells next rest → Tells (demand rule b next) (must rule b ∷ rest)
  demand_tells rule true next rest h = h
  demand_tells rule false next rest h = refl

  last_tells : (rule : Rule) (b : Bool) (x : A) → Tells (demand rule b (Ok x)) (must rule b ∷ [])
  last_tells rule true x = refl
  last_tells rule false x = refl

  demand_then : {B : Type 0} (rule : Rule) (b : Bool) (r : Result A Rule) (g : A → Result B Rule)
      (rest : List Demand) → Tells (unless_broken r g) rest
      → Tells (unless_broken (demand rule b r) g) (must rule b ∷ rest)
  demand_then rule true r g rest h = h
  demand_then rule false r g rest h = refl

-- a value that is asked for, and what is made of it
option_tells : {A B C : Type 0} (rule : Rule) (o : Option A) (f : A → Result B Rule)
    (g : B → Result C Rule) (rest : List Demand)
    → ((x : A) → o ≡ Some x → Tells (unless_broken (f x) g) rest)
    → Tells (unless_broken (unless_broken (ok_or o rule) f) g) (must rule (is_some o) ∷ rest)
option_tells rule None f g rest h = refl
option_tells rule (Some x) f g rest h = h x refl

number_value : (least most : ℕ) (digits : List ℕ) (n : ℕ) → number_of least most digits ≡ Some n
    → value_of digits ≡ n
unfolding number_of
number_value least most digits n is = some_value _ _ (if_some _ _ _ is).1

module _ {A B : Type 0} (fields : List (List ℕ)) (make : List (List ℕ) → A)
    (g : A → Result B Rule) (once : Demand) (h : Tells (g (make fields)) (once ∷ [])) where
  words_by : (few are_words : Bool)
      → Tells (unless_broken (unless_broken
      (demand rule.WordCount few (demand rule.WordBytes are_words (Ok fields)))
      (λ words. Ok (make words))) g)
      (must rule.WordCount few ∷ must rule.WordBytes are_words ∷ once ∷ [])
  words_by false are_words = refl
  words_by true false = refl
  words_by true true = h

  words_tell : Tells (unless_broken (unless_broken (words_of fields) (λ words. Ok (make words))) g)
      (word_rules fields once)
  unfolding words_of
  words_tell = words_by (nat_le (length fields) MOST_WORDS) (list_all is_word fields)

module _ (version : Version) (script : Script) where
  abbrev order_rules : List ℕ → List Demand
  order_rules tick =
      must rule.TickOrder (nat_le (last_tick script.events) (value_of tick)) ∷ []

  abbrev line_and_order : List ℕ → List ℕ → List Demand
  line_and_order tick line =
      must rule.InterruptLine (is_number 0 LAST_LINE line) ∷ order_rules tick

  order_tells : (tick : List ℕ) (at n : ℕ) (up : Bool) → number_of 0 LAST_TICK tick ≡ Some at
      → Tells (with_event script (record { at = at; line = n; up = up })) (order_rules tick)
  order_tells tick at n up is =
      last_tells rule.TickOrder (nat_le (last_tick script.events) at) _
      ∙ ap (λ (v : ℕ).
      first_broken (must rule.TickOrder (nat_le (last_tick script.events) v) ∷ []))
      (sym (number_value 0 LAST_TICK tick at is))

  too_many : (tick change line more : List ℕ) (rest : List (List ℕ))
      → (length (tick ∷ change ∷ line ∷ more ∷ rest) == 3) ≡ false
  too_many tick change line more rest =
      ne_eqb (length (tick ∷ change ∷ line ∷ more ∷ rest)) 3 (λ e. omega (arith, e))

  event_tells : (fields : List (List ℕ))
      → Tells (unless_broken (event_of version fields) (with_event script))
      (event_rules version script fields)
  unfolding event_of
  event_tells [] = refl
  event_tells (tick ∷ []) = refl
  event_tells (tick ∷ change ∷ []) = refl
  event_tells (tick ∷ change ∷ line ∷ []) =
      option_tells rule.Tick (number_of 0 LAST_TICK tick) _ (with_event script)
      (must rule.Change (is_some (raises version change)) ∷ line_and_order tick line)
      (λ at is. option_tells rule.Change (raises version change) _ (with_event script)
      (line_and_order tick line)
      (λ up can. option_tells rule.InterruptLine (number_of 0 LAST_LINE line) _
      (with_event script) (order_rules tick)
      (λ n low. order_tells tick at n up is)))
  event_tells (tick ∷ change ∷ line ∷ more ∷ rest) =
      ap (λ (b : Bool). first_broken (must rule.FieldCount b
      ∷ change_rules version script (tick ∷ change ∷ line ∷ more ∷ rest)))
      (sym (too_many tick change line more rest))

module _ (script : Script) where
  once_tells : (number : List ℕ) (n : ℕ) (words : List (List ℕ))
      → number_of 1 MOST_MODULES number ≡ Some n
      → Tells (with_args script (record { number = n; words = words }))
      (module_once script number ∷ [])
  once_tells number n words is =
      last_tells rule.ModuleOnce (not (list_any (λ (a : Args). a.number == n) script.args)) _
      ∙ ap (λ (v : ℕ). first_broken (must rule.ModuleOnce
      (not (list_any (λ (a : Args). a.number == v) script.args)) ∷ []))
      (sym (number_value 1 MOST_MODULES number n is))

  args_tell : (fields : List (List ℕ))
      → Tells (unless_broken (args_of fields) (with_args script)) (module_rules script fields)
  unfolding args_of number_of is_decimal
  args_tell [] = refl
  args_tell (number ∷ fields) =
      option_tells rule.Module (number_of 1 MOST_MODULES number) _ (with_args script)
      (word_rules fields (module_once script number))
      (λ n is. words_tell fields (λ words. record { number = n; words = words })
      (with_args script) (module_once script number) (once_tells number n fields is))

  named_tell : (fields : List (List ℕ))
      → Tells (unless_broken (named_of fields) (with_named script)) (name_rules script fields)
  unfolding named_of
  named_tell [] = refl
  named_tell (name ∷ fields) =
      demand_then rule.Name (is_word name) _ (with_named script)
      (word_rules fields (name_once script name))
      (words_tell fields (λ words. record { name = name; words = words }) (with_named script)
      (name_once script name)
      (last_tells rule.NameOnce
      (not (list_any (λ (n : Named). bytes_eq n.name name) script.named)) _))

module _ (version : Version) (script : Script) (line : List ℕ) where
  -- by the keyword
  by_keyword : (is_at is_args is_for : Bool) (fields : List (List ℕ))
      → Tells
      (cond is_at (unless_broken (event_of version fields) (with_event script))
      (cond is_args
      (demand rule.LineLength (is_short line) (unless_broken (args_of fields) (with_args script)))
      (cond is_for
      (demand rule.LineLength (is_short line) (unless_broken (named_of fields) (with_named script)))
      (Err rule.Keyword))))
      (cond is_at (event_rules version script fields)
      (cond is_args (must rule.LineLength (is_short line) ∷ module_rules script fields)
      (cond is_for (must rule.LineLength (is_short line) ∷ name_rules script fields)
      (must rule.Keyword false ∷ []))))
  by_keyword true is_args is_for fields = event_tells version script fields
  by_keyword false true is_for fields =
      demand_tells rule.LineLength (is_short line) (unless_broken (args_of fields) (with_args script))
      (module_rules script fields) (args_tell script fields)
  by_keyword false false true fields =
      demand_tells rule.LineLength (is_short line)
      (unless_broken (named_of fields) (with_named script)) (name_rules script fields)
      (named_tell script fields)
  by_keyword false false false fields = refl

  fields_tell : (fields : List (List ℕ))
      → Tells (with_fields version script line fields) (rules_behind version script line fields)
  fields_tell [] = refl
  fields_tell (keyword ∷ fields) =
      by_keyword (bytes_eq keyword (codes "at")) (bytes_eq keyword (codes "args"))
      (bytes_eq keyword (codes "for") && allows_more version) fields

  by_remark : (remark : Bool)
      → Tells (cond remark (Ok script) (with_fields version script line (parts space line)))
      (cond remark [] (rules_behind version script line (parts space line)))
  by_remark true = refl
  by_remark false = fields_tell (parts space line)

  line_tells : Tells (after_line version script line) (line_rules version script line)
  unfolding after_line
  line_tells = by_remark (is_remark line)

pub first_broken_told : FirstBrokenRulesAreTold
first_broken_told = line_tells
