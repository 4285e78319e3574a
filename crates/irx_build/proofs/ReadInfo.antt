-- The module information read back.
use Rattle.std.proofs.Common.{◌≡◌, ℕ, ◌+◌, ◌^◌, ◌<◌, ◌≤◌, ◌==◌, Bool, true, false, not, cond, Some, None, List, [], ◌∷◌, ◌++◌, length, drop, refl, ap, ◌∙◌, eq-eqb, arith}
use Rattle.std.specs.Prelude.{nat_lt, option_map}
use Rattle.std.specs.List.{position_or_len}
use Rattle.std.proofs.lemmas.Bool.{le-leb, lt-ltb, ltb-false}
use Rattle.std.proofs.lemmas.List.{length-append, take_at}
use Rattle.std.proofs.lemmas.List.Folds.{position_or_len_push}
use Rattle.std.proofs.lemmas.List.Sums.{prefix_len-le-length}
use Rattle.iop_base.specs.Strings.{first_zero}
use Rattle.irx_info.specs.Information.{Information, information_in, information_with}
use Rattle.irx_build.specs.Files.{info_bytes}
use Rattle.irx_build.proofs.NumberBytes.{half_again, word_again}

abbrev zero_place : List ℕ → ℕ
zero_place bytes = position_or_len (λ byte. byte == 0) bytes

past_by : (n m : ℕ) (b : Bool) → nat_lt n m ≡ b → cond b (Some n) None ≡ None → m ≤ n
past_by n m true test none = absurd (cc)
past_by n m false test none = ltb-false n m test

place-no_zero : (name : List ℕ) → first_zero name ≡ None → length name ≤ zero_place name
place-no_zero name none = past_by (zero_place name) (length name) _ refl none

-- where no byte is zero, a zero byte put behind them is the first
pub first_zero-ended : (name : List ℕ) → first_zero name ≡ None
    → first_zero (name ++ 0 ∷ []) ≡ Some (length name)
first_zero-ended name none =
    let ended = name ++ 0 ∷ [] in
    let short = prefix_len-le-length (λ byte. not (byte == 0)) name in
    let past : zero_place name ≡ length name = omega (arith, short, place-no_zero name none) in
    let none_more : length name + 0 ≡ length name = omega arith in
    let place : zero_place ended ≡ length name =
    position_or_len_push (λ byte. byte == 0) name 0
    ∙ ap (λ b. cond b (length name + 0) (zero_place name)) (eq-eqb _ _ past)
    ∙ none_more in
    let inside : zero_place ended < length ended = omega (arith, length-append name (0 ∷ [])) in
    ap (λ b. cond b (Some (zero_place ended)) None) (lt-ltb _ _ inside) ∙ ap Some place

pub length-info_bytes : (info : Information) → length (info_bytes info) ≡ 27 + length info.name
unfolding info_bytes
length-info_bytes info = omega (arith, length-append info.name (0 ∷ []))

-- the words among the numbers of module information
pub record FitWords (info : Information) : Type 0 where
  pub id : info.id < 2 ^ 32
  pub entry : info.entry < 2 ^ 32
  pub gp : info.gp < 2 ^ 32
  pub text_size : info.text_size < 2 ^ 32
  pub data_size : info.data_size < 2 ^ 32
  pub bss_size : info.bss_size < 2 ^ 32
  pub version : info.version < 2 ^ 16

abbrev information : ℕ → ℕ → ℕ → ℕ → ℕ → ℕ → ℕ → List ℕ → Information
information id entry gp text_size data_size bss_size version name = record {
  id = id;
  entry = entry;
  gp = gp;
  text_size = text_size;
  data_size = data_size;
  bss_size = bss_size;
  version = version;
  name = name;
}

same_information : {a b c d e f g a' b' c' d' e' f' g' : ℕ} {n n' : List ℕ} → a ≡ a' → b ≡ b'
    → c ≡ c' → d ≡ d' → e ≡ e' → f ≡ f' → g ≡ g' → n ≡ n'
    → information a b c d e f g n ≡ information a' b' c' d' e' f' g' n'
same_information id entry gp text_size data_size bss_size version name = cc

information_with-bytes : (info : Information) → FitWords info
    → information_with (info_bytes info) (length info.name) ≡ info
unfolding info_bytes
information_with-bytes info fit =
    same_information (word_again info.id fit.id) (word_again info.entry fit.entry)
    (word_again info.gp fit.gp) (word_again info.text_size fit.text_size)
    (word_again info.data_size fit.data_size) (word_again info.bss_size fit.bss_size)
    (half_again info.version fit.version) (take_at info.name (0 ∷ []) (length info.name) refl)

pub information_in-bytes : (info : Information) → FitWords info → first_zero info.name ≡ None
    → information_in (info_bytes info) ≡ Some info
unfolding info_bytes
information_in-bytes info fit none =
    let bytes = info_bytes info in
    ap (λ b. cond b (option_map (information_with bytes) (first_zero (drop 26 bytes))) None)
    (le-leb 27 (length bytes) (omega (arith, length-info_bytes info)))
    ∙ ap (option_map (information_with bytes)) (first_zero-ended info.name none)
    ∙ ap Some (information_with-bytes info fit)
