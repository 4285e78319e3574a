-- The forms are lawful.
use Rattle.std.proofs.Common.{◌≡◌, ℕ, eqb, List, [], ◌∷◌, length, get_or, Some, refl, sym, ap, ◌∙◌}
use Rattle.std.specs.Str.{is_utf8}
use Rattle.std.proofs.lemmas.Bool.{and_parts, eqb-true}
use Rattle.std.proofs.lemmas.Option.{same_Some}
use Rattle.iop_script.specs.declared.raise.Raise.{Raise}
use Rattle.iop_snapshot.specs.Flags.{flag_of}
use Rattle.iop_snapshot.specs.Forms.{Form, IsLawful, item, bytes, both}
use Rattle.iop_snapshot.specs.Items.{fits_item}
use Rattle.iop_snapshot.specs.declared.widths.TheConstants.{ARGUMENTS_MODULE, COUNT, SCRIPT_EVENT}
use Rattle.iop_snapshot.proofs.Combining.{item_lawful, bytes_lawful, both_lawful, seen_lawful, tested_lawful, map_some}
use Rattle.iop_snapshot.proofs.Flags.{flag_again, flag_is}
use Rattle.iop_snapshot.proofs.Listing.{series_lawful}
use Rattle.iop_snapshot.proofs.Numbers.{numbers_from-all, fits_long}
use Rattle.iop_saved_script.specs.Forms.{list_of, event_numbers, event_with, event_of, event_form, counted, counted_form, bytes_form, text_form, words_form, args_parts, args_of, args_form, named_parts, named_of, named_form, file_parts, file_of, file_form}
use Rattle.iop_saved_script.specs.Laws.{FormsAreLawful}

list_lawful : {X : Type 0} (form : Form X) → IsLawful form → IsLawful (list_of form)
list_lawful form law =
    series_lawful form (λ _. form) (record { lawful = λ before. law; same = λ before x. refl })

event_again : (e : Raise) → event_of (event_numbers e) ≡ Some e
event_again e = rw (flag_again e.up) refl

event_back : (ns : List ℕ) (e : Raise) → length ns ≡ 3 → event_of ns ≡ Some e
    → event_numbers e ≡ ns
event_back ns e long is =
    let one = map_some (flag_of (get_or ns 2 0)) (event_with ns) e is in
    ap event_numbers (sym one.2)
    ∙ ap (λ (n : ℕ). get_or ns 0 0 ∷ get_or ns 1 0 ∷ n ∷ []) (flag_is (get_or ns 2 0) one.0 one.1)
    ∙ numbers_from-all 0 3 ns long

event_lawful : IsLawful event_form
unfolding event_form item
event_lawful =
    seen_lawful (item SCRIPT_EVENT) event_of event_numbers (item_lawful SCRIPT_EVENT)
    (λ e fits. event_again e)
    (λ ns e fits is. event_back ns e (fits_long SCRIPT_EVENT ns fits) is)

-- one number is the list of it
one_alone : (ns : List ℕ) → length ns ≡ 1 → get_or ns 0 0 ∷ [] ≡ ns
one_alone ns long = numbers_from-all 0 1 ns long

counted_back : (ns xs ys : List ℕ) → length ns ≡ 1 → length xs ≡ get_or ns 0 0 → xs ≡ ys
    → counted ys ≡ (ns, xs)
counted_back ns xs ys long count is =
    rw (← is) (ap (λ (l : List ℕ). (l, xs)) (ap (λ (n : ℕ). n ∷ []) count ∙ one_alone ns long))

bytes_form_lawful : IsLawful bytes_form
unfolding bytes_form item bytes
bytes_form_lawful =
    seen_lawful counted_form (λ parts. Some parts.1) counted
    (both_lawful (item COUNT) (λ ns. bytes (get_or ns 0 0)) (item_lawful COUNT)
    (λ ns. bytes_lawful (get_or ns 0 0)))
    (λ xs fits. refl)
    (λ parts xs fits is.
    let two = and_parts (fits_item COUNT parts.0) (eqb (length parts.1) (get_or parts.0 0 0))
    fits in
    counted_back parts.0 parts.1 xs (fits_long COUNT parts.0 two.0)
    (eqb-true (length parts.1) (get_or parts.0 0 0) two.1) (same_Some parts.1 xs is))

words_lawful : IsLawful words_form
unfolding words_form
words_lawful = list_lawful bytes_form bytes_form_lawful

args_lawful : IsLawful args_form
unfolding args_form item
args_lawful =
    seen_lawful (both (item ARGUMENTS_MODULE) (λ _. words_form)) args_of args_parts
    (both_lawful (item ARGUMENTS_MODULE) (λ _. words_form) (item_lawful ARGUMENTS_MODULE)
    (λ ns. words_lawful))
    (λ args fits. refl)
    (λ parts args fits is.
    let two = and_parts (fits_item ARGUMENTS_MODULE parts.0) (words_form.fits parts.1) fits in
    ap args_parts (sym (same_Some _ args is))
    ∙ ap (λ (l : List ℕ). (l, parts.1))
    (one_alone parts.0 (fits_long ARGUMENTS_MODULE parts.0 two.0)))

named_lawful : IsLawful named_form
unfolding named_form
named_lawful =
    seen_lawful (both bytes_form (λ _. words_form)) named_of named_parts
    (both_lawful bytes_form (λ _. words_form) bytes_form_lawful (λ name. words_lawful))
    (λ named fits. refl)
    (λ parts named fits is. ap named_parts (sym (same_Some _ named is)))

file_lawful : IsLawful file_form
unfolding file_form
file_lawful =
    seen_lawful (both text_form (λ _. bytes_form)) file_of file_parts
    (both_lawful text_form (λ _. bytes_form) (tested_lawful bytes_form is_utf8 bytes_form_lawful)
    (λ name. bytes_form_lawful))
    (λ file fits. refl)
    (λ parts file fits is. ap file_parts (sym (same_Some _ file is)))

pub forms_lawful : FormsAreLawful
forms_lawful = record {
  events = list_lawful event_form event_lawful;
  args = list_lawful args_form args_lawful;
  named = list_lawful named_form named_lawful;
  files = list_lawful file_form file_lawful;
}
