-- What is read of a string, one byte after another.
use Rattle.std.proofs.Common.{◌≡◌, ℕ, ◌+◌, ◌<◌, ◌≤◌, Bool, true, false, cond, if◌then◌else◌, Option, Some, None, List, [], ◌∷◌, ◌++◌, length, drop, get_or, refl, ap, sym, ◌∙◌}
use Rattle.std.specs.List.{list_all}
use Rattle.std.proofs.lemmas.List.{append-nil, at_drop_all, at_drop_more, take_rest}
use Rattle.iop_asm.specs.Texts.{is_blank, is_quote, is_backslash, escaped_byte, and_rest, string_rest}
use Rattle.iop_asm.proofs.ReadLemmas.{read_on, read_on-nil, read_on-and_rest, option_map-then_some}

module _ (front quoted : List ℕ) (i : ℕ) (inside : i < length quoted) where
  abbrev b : ℕ
  b = get_or quoted i 0

  abbrev behind : List ℕ
  behind = drop (i + 1) quoted

  string_rest_escaped : (meant : Option ℕ) → escaped_byte b ≡ meant →
      string_rest true (drop i quoted) ≡ and_rest meant (string_rest false behind)
  unfolding string_rest
  string_rest_escaped meant e =
      at_drop_more (string_rest true) quoted i 0 inside
      ∙ ap (λ m. and_rest m (string_rest false behind)) e

  -- an escape
  pub read_on_escape : (c : ℕ) → escaped_byte b ≡ Some c →
      read_on (front ++ c ∷ []) (string_rest false behind)
      ≡ read_on front (string_rest true (drop i quoted))
  read_on_escape c e =
      sym (ap (read_on front) (string_rest_escaped (Some c) e)
      ∙ read_on-and_rest front c (string_rest false behind))

  -- no escape
  pub read_on_wrong : escaped_byte b ≡ None →
      read_on front (string_rest true (drop i quoted)) ≡ None
  read_on_wrong e = ap (read_on front) (string_rest_escaped None e)

  -- what is read where the byte is not escaped
  abbrev choice : Bool → Bool → Option (List ℕ)
  choice quote backslash =
      if quote then (if list_all is_blank behind then Some [] else None)
      else if backslash then string_rest true behind
      else and_rest (Some b) (string_rest false behind)

  string_rest_unescaped : (quote backslash : Bool) → is_quote b ≡ quote →
      is_backslash b ≡ backslash → string_rest false (drop i quoted) ≡ choice quote backslash
  unfolding string_rest
  string_rest_unescaped quote backslash is_q is_b =
      at_drop_more (string_rest false) quoted i 0 inside
      ∙ ap (λ v. choice v (is_backslash b)) is_q ∙ ap (λ v. choice quote v) is_b

  closed_by : (v : Bool) → read_on front (cond v (Some []) None) ≡ cond v (Some front) None
  closed_by true = ap Some (append-nil front)
  closed_by false = refl

  -- the closing quote
  pub read_on_quote : is_quote b ≡ true →
      read_on front (string_rest false (drop i quoted))
      ≡ cond (list_all is_blank behind) (Some front) None
  read_on_quote e =
      ap (read_on front) (string_rest_unescaped true (is_backslash b) e refl)
      ∙ closed_by (list_all is_blank behind)

  -- a backslash
  pub read_on_backslash : is_quote b ≡ false → is_backslash b ≡ true →
      read_on front (string_rest true behind)
      ≡ read_on front (string_rest false (drop i quoted))
  read_on_backslash e f = ap (read_on front) (sym (string_rest_unescaped false true e f))

  -- another byte
  pub read_on_byte : is_quote b ≡ false → is_backslash b ≡ false →
      read_on (front ++ b ∷ []) (string_rest false behind)
      ≡ read_on front (string_rest false (drop i quoted))
  read_on_byte e f =
      sym (ap (read_on front) (string_rest_unescaped false false e f)
      ∙ read_on-and_rest front b (string_rest false behind))

-- a string without a closing quote
pub read_on_end : (front : List ℕ) (escaped : Bool) (quoted : List ℕ) (i : ℕ) → length quoted ≤ i →
    read_on front (string_rest escaped (drop i quoted)) ≡ None
unfolding string_rest
read_on_end front escaped quoted i past =
    ap (read_on front) (at_drop_all (string_rest escaped) quoted i past)

pub ruleset strings = (
  read_on-nil,
  read_on_escape,
  read_on_wrong,
  read_on_quote,
  read_on_backslash,
  read_on_byte,
  read_on_end,
  take_rest,
  option_map-then_some,
)
