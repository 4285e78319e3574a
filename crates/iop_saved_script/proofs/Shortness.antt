-- What has a spelling has lists with room in their counts.
use Rattle.std.proofs.Common.{◌≡◌, ℕ, true, eqb, List, [], ◌∷◌, length, sym, ◌∙◌, arith}
use Rattle.std.specs.Prelude.{All}
use Rattle.std.specs.Str.{is_utf8}
use Rattle.std.proofs.lemmas.Bool.{and_parts}
use Rattle.std.proofs.lemmas.List.Elements.{All-weaker}
use Rattle.std.proofs.lemmas.List.Sums.{AllPass-from_list_all}
use Rattle.iop_script.specs.Scripts.{Args, Named}
use Rattle.iop_snapshot.specs.Forms.{Form, fits_items, fits_list, item, bytes}
use Rattle.iop_snapshot.specs.Items.{fits_item}
use Rattle.iop_snapshot.specs.declared.widths.TheConstants.{ARGUMENTS_MODULE, COUNT}
use Rattle.iop_snapshot.proofs.Numbers.{fits_at}
use Rattle.iop_snapshot.proofs.Saving.{plain_fits}
use Rattle.iop_saved_script.specs.Files.{NamedFile}
use Rattle.iop_saved_script.specs.Forms.{list_of, event_form, bytes_form, text_form, words_form, args_form, named_form, file_form}
use Rattle.iop_saved_script.specs.Laws.{FittingIsShort}
use Rattle.iop_saved_script.specs.Sizes.{IsShort, WordsAreShort, ArgsAreShort, NamedIsShort, FileIsShort}

module _ {X : Type 0} (form : Form X) (xs : List X) (fits : (list_of form).fits xs ≡ true) where
  list_short : IsShort xs
  unfolding fits_list
  list_short =
      let two = and_parts (fits_item COUNT (length xs ∷ [])) (fits_items (λ _. form) [] xs) fits in
      fits_at COUNT (length xs ∷ []) 0 two.0 (omega arith)

  -- and what holds of each item that has one
  each_of : (P : X → Type 0) → ((x : X) → form.fits x ≡ true → P x) → All P xs
  unfolding fits_list
  each_of P h =
      let two = and_parts (fits_item COUNT (length xs ∷ [])) (fits_items (λ _. form) [] xs) fits in
      All-weaker (λ x. form.fits x ≡ true) P h xs
      (AllPass-from_list_all form.fits xs (sym (plain_fits form [] xs) ∙ two.1))

bytes_short : (xs : List ℕ) → bytes_form.fits xs ≡ true → IsShort xs
unfolding bytes_form item bytes
bytes_short xs fits =
    let two = and_parts (fits_item COUNT (length xs ∷ [])) (eqb (length xs) (length xs)) fits in
    fits_at COUNT (length xs ∷ []) 0 two.0 (omega arith)

words_short : (words : List (List ℕ)) → words_form.fits words ≡ true → WordsAreShort words
unfolding words_form
words_short words fits = record {
  all = list_short bytes_form words fits;
  each = each_of bytes_form words fits IsShort bytes_short;
}

args_short : (args : Args) → args_form.fits args ≡ true → ArgsAreShort args
unfolding args_form item
args_short args fits =
    words_short args.words
    (and_parts (fits_item ARGUMENTS_MODULE (args.number ∷ [])) (words_form.fits args.words) fits).1

named_short : (named : Named) → named_form.fits named ≡ true → NamedIsShort named
unfolding named_form
named_short named fits =
    let two = and_parts (bytes_form.fits named.name) (words_form.fits named.words) fits in record {
      name = bytes_short named.name two.0;
      words = words_short named.words two.1;
    }

file_short : (file : NamedFile) → file_form.fits file ≡ true → FileIsShort file
unfolding file_form
file_short file fits =
    let two = and_parts (text_form.fits file.name) (bytes_form.fits file.file) fits in
    let name = and_parts (bytes_form.fits file.name) (is_utf8 file.name) two.0 in record {
      name = bytes_short file.name name.0;
      file = bytes_short file.file two.1;
    }

pub fitting_short : FittingIsShort
fitting_short = record {
  events = list_short event_form;
  args = λ args fits.
      (list_short args_form args fits, each_of args_form args fits ArgsAreShort args_short);
  named = λ named fits.
      (list_short named_form named fits, each_of named_form named fits NamedIsShort named_short);
  files = λ files fits.
      (list_short file_form files fits, each_of file_form files fits FileIsShort file_short);
}
