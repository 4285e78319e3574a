-- The parts that can be read are those that have a spelling and can be put back.
use Rattle.std.proofs.Common.{◌≡◌, ℕ, Bool, true, false, if◌then◌else◌, ◌&&◌, is_some, Option, Some, None, List, [], ◌∷◌, ◌++◌, length, refl, ap, ◌∙◌, arith}
use Rattle.std.specs.Prelude.{nat_lt, option_map, option_and_then}
use Rattle.std.proofs.lemmas.Bool.{and_parts, lt-ltb}
use Rattle.std.proofs.lemmas.Option.{cond_some}
use Rattle.iop_saved_script.specs.Forms.{list_of}
use Rattle.iop_saved_tables.proofs.Opening.{came}
use Rattle.iop_saved_tables.specs.Records.{stub_form, next_stub}
use Rattle.iop_saved_tables.specs.Tables.{is_kernels, put_block, put_stub, put_used, unopened}
use Rattle.iop_snapshot.proofs.Combining.{then_some}
use Rattle.iop_snapshot.proofs.Putting.{put_more}
use Rattle.iop_snapshot.specs.Forms.{Form, fits_items, fits_list, series}
use Rattle.iop_snapshot.specs.Items.{fits_item}
use Rattle.iop_snapshot.specs.Putting.{put_all, next_form}
use Rattle.iop_snapshot.specs.declared.widths.TheConstants.{COUNT}
use Rattle.iop_stubs.specs.Restoring.{stub_may_follow, with_last_stub, has_room_behind, is_bound}
use Rattle.iop_stubs.specs.Stubs.{Memory}
use Rattle.iop_stubs.specs.declared.live_stub.Stub.{Stub}
use Rattle.iop_sysmem.specs.BlockMap.{BlockMap}
use Rattle.iop_sysmem.specs.declared.block.Block.{Block}
use Rattle.iop_saved_machine.specs.Back.{if_opened, used_back}
use Rattle.iop_saved_machine.specs.Tables.{kernel_alone}
use Rattle.iop_saved_machine.proofs.ComingBack.{behind_kernels}

-- ---- lists that a table takes one behind the other

refused_fit : (a b c : Bool) → ((a && false) && b) ≡ ((a && c) && false)
refused_fit true b true = refl
refused_fit true b false = refl
refused_fit false b c = refl

taken_fit : (a b c : Bool) → ((a && true) && (b && c)) ≡ ((a && b) && c)
taken_fit true b c = refl
taken_fit false b c = refl

counted_fit : (a b c : Bool) → (a && (b && c)) ≡ ((a && b) && c)
counted_fit true b c = refl
counted_fit false b c = refl

module _ {T X : Type 0} (put : T → X → Option T) (form : Form X) (base : T) where
  items_fit : (before xs : List X) (now : T) → put_all put base before ≡ Some now
      → fits_items (next_form put form base) before xs
      ≡ (fits_items (λ _. form) before xs && is_some (put_all put now xs))
  unfolding fits_items
  items_fit before [] now there = refl
  items_fit before (x ∷ xs) now there =
      by (put now x) refl
      (λ next is. items_fit (before ++ x ∷ []) xs next (put_more put base before x ∙ rw there is))
    where
      plain : Bool
      plain = fits_items (λ _. form) (before ++ x ∷ []) xs

      by : (o : Option T) → put now x ≡ o
          → ((next : T) → put now x ≡ Some next
          → fits_items (next_form put form base) (before ++ x ∷ []) xs
          ≡ (plain && is_some (put_all put next xs)))
          → ((form.fits x
          && is_some (option_and_then (λ left. put left x) (put_all put base before)))
          && fits_items (next_form put form base) (before ++ x ∷ []) xs)
          ≡ ((form.fits x && plain)
          && is_some (option_and_then (λ left. put_all put left xs) (put now x)))
      by None is later = rw (there, is) (refused_fit (form.fits x) _ plain)
      by (Some next) is later =
          rw (there, is, later next is)
          (taken_fit (form.fits x) plain (is_some (put_all put next xs)))

  pub list_fits : (xs : List X) → (series form (next_form put form base)).fits xs
      ≡ ((list_of form).fits xs && is_some (put_all put base xs))
  unfolding fits_list
  list_fits xs =
      ap (λ (b : Bool). fits_item COUNT (length xs ∷ []) && b) (items_fit [] xs base refl)
      ∙ counted_fit (fits_item COUNT (length xs ∷ [])) (fits_items (λ _. form) [] xs)
      (is_some (put_all put base xs))

-- ---- the tables

-- blocks that can be put back, and one at least, are those among which the kernel's is
pub opened_where : (size : ℕ) (used : List Block)
    → (is_some (put_all put_used (unopened (kernel_alone size)) used) && nat_lt 0 (length used))
    ≡ is_some (used_back size used)
opened_where size [] = refl
opened_where size (x ∷ xs) =
    ap (λ (b : Bool). is_some (put_all put_used (unopened (kernel_alone size)) (x ∷ xs)) && b)
    (lt-ltb 0 (length (x ∷ xs)) (omega arith)) ∙ by (is_kernels x)
  where
    last : (o : Option BlockMap)
        → (is_some (option_map came o) && true)
        ≡ is_some (option_and_then if_opened (option_map came o))
    last None = refl
    last (Some map) = refl

    by : (b : Bool)
        → (is_some (option_and_then (λ o. put_all put_used o xs)
        (if b then Some (came (kernel_alone size)) else None)) && true)
        ≡ is_some (option_and_then if_opened (option_and_then (λ o. put_all put_used o xs)
        (if b then Some (came (kernel_alone size)) else None)))
    by true = rw (behind_kernels (kernel_alone size) xs)
        (last (put_all put_block (kernel_alone size) xs))
    by false = refl

-- stubs that come to life are no more than can be live
pub stubs_fit : (memory new : Memory) (xs : List Stub) → put_all put_stub memory xs ≡ Some new
    → fits_items next_stub memory.live xs ≡ fits_items (λ _. stub_form) memory.live xs
unfolding fits_items
stubs_fit memory new [] is = refl
stubs_fit memory new (x ∷ xs) is =
    let one = then_some (put_stub memory x) (λ left. put_all put_stub left xs) new is in
    let put = cond_some (stub_may_follow memory x) (with_last_stub memory x) one.0 one.1 in
    let room =
    (and_parts _ _ (and_parts (has_room_behind x.at memory.live) (is_bound memory.ram x) put.0).0).0
    in
    ap (λ (b : Bool). (stub_form.fits x && b)
    && fits_items next_stub (memory.live ++ x ∷ []) xs) room
    ∙ ap (λ (b : Bool). (stub_form.fits x && true) && b)
    (stubs_fit (with_last_stub memory x) new xs
    (ap (λ (left : Memory). put_all put_stub left xs) put.1 ∙ one.2))
    ∙ ap (λ (b : Bool). b && fits_items (λ _. stub_form) (memory.live ++ x ∷ []) xs)
    (by (stub_form.fits x))
  where
    by : (b : Bool) → (b && true) ≡ b
    by true = refl
    by false = refl
