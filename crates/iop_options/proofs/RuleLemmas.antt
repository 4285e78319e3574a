-- What building makes of the command for `clap`, and how its arguments are found.
use Rattle.std.proofs.Common.{◌≡◌, ◌∙◌, ℕ, Bool, true, false, cond, ◌||◌, Option, Some, None, List, [], ◌∷◌, codes, refl, sym, ap, true≢false}
use Rattle.std.specs.List.{list_any}
use Rattle.std.specs.Str.{bytes_eq}
use Rattle.std.proofs.Math.Bool.{or-false}
use Rattle.std.proofs.lemmas.Slice.Eq.{bytes_eq-Decides}
use Rattle.clap.specs.Walk.{Rule, arg_by_id, arg_by_long, arg_by_short, arg_by_index}
use Rattle.clap.specs.Simple.{Shape, built, is_simple}
use Rattle.clap.specs.Faults.{is_simple_and_free}
use Rattle.clap.specs.declared.builder.value_parser.ValueParser.TheVariants as vp
use Rattle.iop_options.specs.Words.{option_names, is_option}
use Rattle.iop_options.specs.Matched.{iop_app, option_rule, file_rule}

-- an option as building leaves it
abbrev pub option_built : List ℕ → Rule
option_built name = record (option_rule name) {
  range = Some (record { start_inclusive = 1; end_inclusive = 1 });
  parser = Some vp.String;
}

-- the modules as building leaves them
abbrev pub file_built : Rule
file_built = record file_rule {
  index = Some 1;
  range = Some (record { start_inclusive = 1; end_inclusive = 1 });
  parser = Some vp.String;
}

unfoldable pub iop_rules : List Rule
iop_rules = option_built (codes "budget") ∷ option_built (codes "script")
    ∷ option_built (codes "dump") ∷ option_built (codes "ram")
    ∷ option_built (codes "generate") ∷ option_built (codes "save")
    ∷ option_built (codes "restore") ∷ file_built ∷ []

abbrev pub iop_shape : Shape
iop_shape = record {
  name = codes "iop";
  aliases = [];
  rules = iop_rules;
  is_plain = true;
  is_leaf = true;
  no_binary_name = true;
  disable_help_flag = true;
  disable_help_subcommand = true;
  disable_version_flag = false;
  propagate_version = false;
  has_version = false;
  has_long_version = false;
  args_override_self = false;
  arg_required_else_help = false;
  subcommand_required = false;
  subcommand_negates_reqs = false;
  is_built = true;
}

pub iop_is_built : built iop_app ≡ record { top = iop_shape; subs = [] }
unfolding iop_app iop_rules
iop_is_built = refl

pub iop_is_simple : is_simple iop_app ≡ true
unfolding iop_app
iop_is_simple = refl

pub iop_is_free : is_simple_and_free iop_app ≡ true
unfolding iop_app
iop_is_free = refl

pub iop_has_no_name : iop_app.top.no_binary_name ≡ true
unfolding iop_app
iop_has_no_name = refl

-- the test of names, and what it decides
pub same_name : (a b : List ℕ) → bytes_eq a b ≡ true → a ≡ b
same_name a b e = (bytes_eq-Decides a b).0 e

pub name_is : (a : List ℕ) → bytes_eq a a ≡ true
name_is a = (bytes_eq-Decides a a).1 refl

-- the rule of the first option that passes a test, or what else is found
abbrev first_option : (List ℕ → Bool) → List (List ℕ) → Option Rule → Option Rule
first_option test [] others = others
first_option test (name ∷ names) others =
    cond (test name) (Some (option_built name)) (first_option test names others)

-- an option's own rule is found by its name
first_option-named : (name : List ℕ) (names : List (List ℕ)) (others : Option Rule)
    → list_any (λ option. bytes_eq option name) names ≡ true
    → first_option (λ option. bytes_eq option name) names others ≡ Some (option_built name)
first_option-named name [] others e = absurd (true≢false (sym e))
first_option-named name (option ∷ names) others e =
    go (bytes_eq option name) refl e (first_option-named name names others)
  where
    go : (b : Bool) → bytes_eq option name ≡ b
        → (b || list_any (λ o. bytes_eq o name) names) ≡ true
        → (list_any (λ o. bytes_eq o name) names ≡ true
        → first_option (λ o. bytes_eq o name) names others ≡ Some (option_built name))
        → cond b (Some (option_built option)) (first_option (λ o. bytes_eq o name) names others)
        ≡ Some (option_built name)
    go true same f next = ap (λ n. Some (option_built n)) (same_name option name same)
    go false same f next = next f

-- where no option passes
first_option-none : (test : List ℕ → Bool) (names : List (List ℕ)) (others : Option Rule)
    → list_any test names ≡ false → first_option test names others ≡ others
first_option-none test [] others e = refl
first_option-none test (option ∷ names) others e =
    go (test option) e (first_option-none test names others)
  where
    go : (b : Bool) → (b || list_any test names) ≡ false
        → (list_any test names ≡ false → first_option test names others ≡ others)
        → cond b (Some (option_built option)) (first_option test names others) ≡ others
    go true f next = absurd (true≢false f)
    go false f next = next f

by_long : (name : List ℕ) → arg_by_long iop_rules name
    ≡ first_option (λ option. bytes_eq option name) option_names None
unfolding iop_rules
by_long name i =
    first_option (λ option. or-false (bytes_eq option name) i) option_names None

pub arg_by_long-option : (name : List ℕ) → is_option name ≡ true
    → arg_by_long iop_rules name ≡ Some (option_built name)
arg_by_long-option name e = by_long name ∙ first_option-named name option_names None e

pub arg_by_long-other : (name : List ℕ) → is_option name ≡ false
    → arg_by_long iop_rules name ≡ None
arg_by_long-other name e =
    by_long name ∙ first_option-none (λ option. bytes_eq option name) option_names None e

pub arg_by_id-option : (name : List ℕ) → is_option name ≡ true
    → arg_by_id iop_rules name ≡ Some (option_built name)
unfolding iop_rules
arg_by_id-option name e = first_option-named name option_names
    (cond (bytes_eq (codes "module") name) (Some file_built) None) e

pub arg_by_id-file : arg_by_id iop_rules (codes "module") ≡ Some file_built
unfolding iop_rules
arg_by_id-file = refl

pub arg_by_short-none : (c : ℕ) → arg_by_short iop_rules c ≡ None
unfolding iop_rules
arg_by_short-none c = refl

pub arg_by_index-file : arg_by_index iop_rules 1 ≡ Some file_built
unfolding iop_rules
arg_by_index-file = refl
