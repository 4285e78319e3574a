use Rattle.std.proofs.Common.{◌≡◌, ℕ, true, List, subst}
use Rattle.std.specs.Str.{is_utf8}
use Rattle.std.proofs.lemmas.Bool.{and_from}
use Rattle.std.proofs.lemmas.Str.{is_utf8-from_IsUtf8}
use Rattle.iop_saved_script.specs.Forms.{bytes_form}
use Rattle.iop_saved_script.proofs.text.save_text.Goals as goal

pub returns-clause-fits : goal.returns-clause-fits
returns-clause-fits g c =
    let text = c.args.text.now in
    and_from (bytes_form.fits text) (is_utf8 text)
    (subst (λ (bs : List ℕ). bytes_form.fits bs ≡ true) c.as_bytes.ensures.value
    c.save_bytes.ensures.fits)
    (is_utf8-from_IsUtf8 text c.utf8.text)
