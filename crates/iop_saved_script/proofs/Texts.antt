-- Bytes that are a text, and others.
use Rattle.std.proofs.Common.{◌≡◌, ℕ, Option, Some, None, List, refl}
use Rattle.std.specs.Prelude.{option_and_then}
use Rattle.std.specs.Str.{IsUtf8, is_utf8}
use Rattle.std.proofs.lemmas.Bool.{false_from_ne_true}
use Rattle.std.proofs.lemmas.Str.{IsUtf8-from_is_utf8, is_utf8-from_IsUtf8}
use Rattle.iop_snapshot.specs.Forms.{if_passes}

-- what is read of bytes that are one
pub text_read : (read : Option (List ℕ × List ℕ)) (bs rest : List ℕ) → read ≡ Some (bs, rest)
    → IsUtf8 bs → option_and_then (if_passes is_utf8) read ≡ Some (bs, rest)
text_read read bs rest e text = rw (e, is_utf8-from_IsUtf8 bs text) refl

-- and of others
pub no_text : (read : Option (List ℕ × List ℕ)) (bs rest : List ℕ) → read ≡ Some (bs, rest)
    → (IsUtf8 bs → ⊥) → option_and_then (if_passes is_utf8) read ≡ None
no_text read bs rest e none =
    let no = false_from_ne_true (is_utf8 bs) (λ is. none (IsUtf8-from_is_utf8 bs is)) in
    rw (e, no) refl
