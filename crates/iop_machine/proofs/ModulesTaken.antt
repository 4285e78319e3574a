-- The modules that were not loaded yet, as they are taken one by one.
use Rattle.std.proofs.Common.{◌≡◌, ℕ, suc, ◌+◌, ◌<◌, ◌≤◌, Option, Some, None, List, [], ◌∷◌, drop, length, refl, ap, sym, ◌∙◌, arith, subst}
use Rattle.std.specs.Prelude.{All, option_map, unwrap_or}
use Rattle.std.specs.Option.{option_or}
use Rattle.std.specs.List.{slice_get}
use Rattle.std.proofs.lemmas.List.{drop_all, drop_more, length-append}
use Rattle.std.proofs.lemmas.List.Elements.{All-nil, All-cons, All-head, All-tail}
use Rattle.std.proofs.lemmas.Option.{get_or_from_slice_get, slice_get_within}
use Rattle.iop_script.specs.Scripts.{Args, Named, words_for}
use Rattle.iop_saved_script.specs.Sizes.{FileIsShort}
use Rattle.iop_machine.specs.Modules.{NamedFile, Module, ModulesLeft, HasRoom, modules_from, modules_of, next_behind, strings, without_first}
use Rattle.iop_machine.specs.ModulesLeft.{modules_left, module_of}
use Rattle.iop_machine.specs.declared.modules_left.Next.{Next}
use Rattle.iop_machine.specs.declared.modules_left.ModulesLeft.TheInside.{Inside}

-- one of two, or a default
pub first_of : {X : Type 0} (one other : Option X) (none : X)
    → unwrap_or one (unwrap_or other none) ≡ unwrap_or (option_or one other) none
first_of None other none = refl
first_of (Some x) other none = refl

-- the module of a file
abbrev module_at : List Args → List Named → ℕ → NamedFile → Module
module_at args named number first = record {
  number = number;
  words = first.name ∷ words_for args named number first.name;
  file = first.file;
}

module _ (args : List Args) (named : List Named) where
  -- the first module is that of the first file
  first_module : (number : ℕ) (files : List NamedFile)
      → slice_get (modules_from args named number files) 0
      ≡ option_map (module_at args named number) (slice_get files 0)
  first_module number [] = refl
  first_module number (first ∷ rest) = refl

  -- one module less is left
  rest_modules : (number : ℕ) (files : List NamedFile)
      → modules_from args named (next_behind number files) (drop 1 files)
      ≡ drop 1 (modules_from args named number files)
  rest_modules number [] = refl
  rest_modules number (first ∷ rest) = refl

  -- modules that have room have names and files that can be counted
  first_short : (number : ℕ) (first : NamedFile) → HasRoom (module_at args named number first)
      → FileIsShort first
  first_short number first room = record {
    name = omega (
      arith,
      room.strings,
      length-append first.name (0 ∷ strings (words_for args named number first.name)),
    );
    file = omega (arith, room.file);
  }

  pub files_short : (number : ℕ) (files : List NamedFile)
      → All HasRoom (modules_from args named number files) → All FileIsShort files
  files_short number [] room = All-nil FileIsShort
  files_short number (first ∷ rest) room =
      let first_of = module_at args named number first in
      let later = modules_from args named (suc number) rest in
      All-cons FileIsShort first rest
      (first_short number first (All-head HasRoom first_of later room))
      (files_short (suc number) rest (All-tail HasRoom first_of later room))

-- the modules behind the first one
pub rest_is : (left : ModulesLeft) → modules_of (without_first left) ≡ drop 1 (modules_of left)
rest_is left = rest_modules left.args left.named left.next left.files

-- the module that is taken next
pub next_is : (left : ModulesLeft) (file : NamedFile) (next : Next)
    → slice_get left.files 0 ≡ Some file → next.number ≡ left.next → next.name.now ≡ file.name
    → next.words.now ≡ words_for left.args left.named next.number file.name
    → next.file.now ≡ file.file → Some (module_of next) ≡ slice_get (modules_of left) 0
next_is left file next at n a b f =
    rw (a, b, f)
    (ap (λ x. Some (module_at left.args left.named x file)) n
    ∙ sym (first_module left.args left.named left.next left.files
    ∙ ap (option_map (module_at left.args left.named left.next)) at))

-- it has room
pub has_room : (modules : List Module) (m : Module) → All HasRoom modules
    → Some m ≡ slice_get modules 0 → HasRoom m
has_room modules m h e =
    subst HasRoom (get_or_from_slice_get modules 0 m m (sym e))
    (h 0 m (slice_get_within modules 0 m (sym e)))

-- what the program holds, with another number and other files
abbrev left_with : Inside → ℕ → List NamedFile → ModulesLeft
left_with w next files =
    record { args = w.args.items; named = w.named.items; next = next; files = files }

abbrev no_file : NamedFile
no_file = record { name = []; file = [] }

-- one module was taken
pub one_taken : (w : Inside) → w.taken < length w.modules.items
    → modules_left (record w { taken = w.taken + 1 }) ≡ without_first (modules_left w)
one_taken w lt =
    let number = w.first_number + w.taken in
    let next : w.first_number + (w.taken + 1) ≡ suc number = omega arith in
    ap (λ n. left_with w n (drop (w.taken + 1) w.modules.items)) next
    ∙ sym (ap (λ files. without_first (left_with w number files))
    (drop_more w.modules.items w.taken no_file lt))

-- where none is left none is taken
pub none_taken : (w : Inside) → length w.modules.items ≤ w.taken
    → modules_left w ≡ without_first (modules_left w)
none_taken w all =
    let number = w.first_number + w.taken in
    subst (λ files. left_with w number files ≡ without_first (left_with w number files))
    (sym (drop_all w.taken w.modules.items all)) refl
