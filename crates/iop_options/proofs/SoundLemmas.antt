-- What always holds of a command.
use Rattle.std.proofs.Common.{◌≡◌, ℕ, ◌≤◌, ◌==◌, nat_le, Bool, true, false, cond, ◌&&◌, Option, Some, None, IfSome, is_some, All, List, [], ◌∷◌, length, refl, sym, subst, true≢false, leb-true, eqb-true, lit≤, arith}
use Rattle.std.specs.Option.{option_map, option_and_then}
use Rattle.std.specs.List.{list_all, before_first, after_first}
use Rattle.std.proofs.lemmas.List.Elements.{All-nil, All-cons}
use Rattle.clap.proofs.WalkLemmas.{both}
use Rattle.iop_base.specs.declared.limits.TheConstants.{MOST_WORKERS}
use Rattle.iop_base.specs.Places.{range_at}
use Rattle.iop_options.specs.Values.{DumpRange, IsInside, budget_of, script_of, is_short_name, snapshot_of, workers_of, ram_of, hex_of, range_of, is_colon, dump_of}
use Rattle.iop_options.specs.Commands.{AreModules, are_modules, has_one_source, is_unmixed, HasOneSource, IsShortName, if_given}
use Rattle.iop_options.specs.declared.limits.TheConstants.{MOST_BUDGET, LONGEST_DUMP, LONGEST_WORD}
use Rattle.iop_options.specs.declared.ram_size.RamSize.{RamSize}
use Rattle.iop_options.specs.declared.ram_size.RamSize.TheVariants.{TwoMiB}
use Rattle.iop_script.specs.declared.statements.TheConstants.{MOST_MODULES}
use Rattle.iop_options.proofs.NumberLemmas.{number_between}

pub budget_within : (text : Option (List ℕ)) (budget : ℕ) → budget_of text ≡ Some budget
    → budget ≤ MOST_BUDGET
budget_within None budget e = subst (λ o. IfSome o (λ n. n ≤ MOST_BUDGET)) e (lit≤ tt)
budget_within (Some text) budget e =
    (subst (λ o. IfSome o (λ n. (0 ≤ n) × (n ≤ MOST_BUDGET))) e (number_between 10 0 MOST_BUDGET text)).1

-- what holds of each value that can be read holds of one that is
if_given_holds : {A : Type 0} (P : A → Type 0) (read : List ℕ → Option A)
    → ((text : List ℕ) → IfSome (read text) P) → (text : Option (List ℕ)) (value : Option A)
    → if_given read text ≡ Some value → IfSome value P
if_given_holds {A = A} P read holds text value e =
    subst (λ (o : Option (Option A)). IfSome o (λ v. IfSome v P)) e (all text)
  where
    go : (o : Option A) → IfSome o P
        → IfSome (option_map (λ it. Some it) o) (λ (v : Option A). IfSome v P)
    go None h = tt
    go (Some it) h = h

    all : (t : Option (List ℕ)) → IfSome (if_given read t) (λ (v : Option A). IfSome v P)
    all None = tt
    all (Some t) = go (read t) (holds t)

-- what passes a test, where the test is enough
if_passes : {A : Type 0} (P : A → Type 0) (test : Bool) (it : A) → (test ≡ true → P it)
    → IfSome (cond test (Some it) None) P
if_passes P true it holds = holds refl
if_passes P false it holds = tt

pub script_named : (text script : Option (List ℕ)) → if_given script_of text ≡ Some script
    → IfSome script (λ name. 1 ≤ length name)
script_named text script e =
    if_given_holds (λ name. 1 ≤ length name) script_of named text script e
  where
    named : (name : List ℕ) → IfSome (script_of name) (λ n. 1 ≤ length n)
    named name =
        if_passes (λ n. 1 ≤ length n) (nat_le 1 (length name)) name (leb-true 1 (length name))

short_name : (name : List ℕ) → is_short_name name ≡ true → IsShortName name
short_name name e =
    let parts = both (nat_le 1 (length name)) (nat_le (length name) LONGEST_WORD) e in
    record {
      some = leb-true 1 (length name) parts.0;
      short = leb-true (length name) LONGEST_WORD parts.1;
    }

pub snapshot_named : (text name : Option (List ℕ)) → if_given snapshot_of text ≡ Some name
    → IfSome name IsShortName
snapshot_named text name e = if_given_holds IsShortName snapshot_of
    (λ n. if_passes IsShortName (is_short_name n) n (short_name n)) text name e

module _ (size : ℕ) where
  range_inside : (from len : ℕ) → IfSome (range_of size from len) (IsInside size)
  range_inside from len =
      let fits = nat_le 1 len && nat_le len LONGEST_DUMP in
      let inside = is_some (range_at size from len) in
      if_passes (IsInside size) (fits && inside) (record { from = from; len = len })
      (λ e. (both fits inside e).1)

  written_inside : (text : List ℕ) → IfSome (dump_of size text) (IsInside size)
  written_inside text =
      go (hex_of (before_first is_colon text)) (hex_of (after_first is_colon text))
    where
      go : (from len : Option ℕ) → IfSome
          (option_and_then (λ f. option_and_then (λ l. range_of size f l) len) from) (IsInside size)
      go None len = tt
      go (Some f) None = tt
      go (Some f) (Some l) = range_inside f l

  pub dump_inside : (text : Option (List ℕ)) (dump : Option DumpRange)
      → if_given (dump_of size) text ≡ Some dump → IfSome dump (IsInside size)
  dump_inside text dump e = if_given_holds (IsInside size) (dump_of size) written_inside text dump e

pub workers_within : (text : Option (List ℕ)) (workers : Option ℕ)
    → if_given workers_of text ≡ Some workers
    → IfSome workers (λ n. (1 ≤ n) × (n ≤ MOST_WORKERS))
workers_within text workers e =
    if_given_holds (λ n. (1 ≤ n) × (n ≤ MOST_WORKERS)) workers_of
    (number_between 10 1 MOST_WORKERS) text workers e

each_module : (words : List (List ℕ)) → list_all is_short_name words ≡ true
    → All (λ word. 1 ≤ length word) words × All (λ word. length word ≤ LONGEST_WORD) words
each_module [] e = (All-nil _, All-nil _)
each_module (word ∷ words) e =
    let parts = both (is_short_name word) (list_all is_short_name words) e in
    let here = short_name word parts.0 in
    let rest = each_module words parts.1 in (
      All-cons (λ w. 1 ≤ length w) word words here.some rest.0,
      All-cons (λ w. length w ≤ LONGEST_WORD) word words here.short rest.1,
    )

modules_fit : (words : List (List ℕ)) → are_modules words ≡ true → AreModules words
modules_fit words e =
    let parts = both (nat_le 1 (length words) && nat_le (length words) MOST_MODULES)
    (list_all is_short_name words) e in
    let counts = both (nat_le 1 (length words)) (nat_le (length words) MOST_MODULES) parts.0 in
    let each = each_module words parts.1 in
    record {
      some = leb-true 1 (length words) counts.0;
      few = leb-true (length words) MOST_MODULES counts.1;
      named = each.0;
      short = each.1;
    }

no_words : (words : List (List ℕ)) → (length words == 0) ≡ true → words ≡ []
no_words [] e = refl
no_words (word ∷ words) e = absurd (omega (arith, eqb-true _ _ e))

pub source_fits : (workers : Option ℕ) (restore : Option (List ℕ)) (words : List (List ℕ))
    → has_one_source workers restore words ≡ true → HasOneSource workers restore words
source_fits None None words e = modules_fit words e
source_fits None (Some name) words e = no_words words e
source_fits (Some workers) None words e = no_words words e
source_fits (Some workers) (Some name) words e = absurd (true≢false (sym e))

always : {A : Type 0} (P : Type 0) (o : Option A) → P → IfSome o (λ it. P)
always P None holds = tt
always P (Some it) holds = holds

-- beside a snapshot no script is named, and the size is the one that is left out
pub restored_alone : (restore script ram name said : Option (List ℕ)) (size : RamSize)
    → is_unmixed restore script ram ≡ true → if_given snapshot_of restore ≡ Some name
    → if_given script_of script ≡ Some said → ram_of ram ≡ Some size
    → IfSome name (λ n. (said ≡ None) × (size ≡ TwoMiB))
restored_alone None script ram name said size unmixed is says sized =
    subst (λ (o : Option (Option (List ℕ))). IfSome o (λ (v : Option (List ℕ)).
    IfSome v (λ n. (said ≡ None) × (size ≡ TwoMiB)))) is tt
restored_alone (Some text) None None name said size unmixed is says sized =
    always ((said ≡ None) × (size ≡ TwoMiB)) name (cc, cc)
restored_alone (Some text) None (Some mebibytes) name said size unmixed is says sized =
    absurd (true≢false (sym unmixed))
restored_alone (Some text) (Some file) ram name said size unmixed is says sized =
    absurd (true≢false (sym unmixed))
