-- The words of a line, as the test of them says.
use Rattle.std.proofs.Common.{◌≡◌, ℕ, ◌<◌, ◌≤◌, ◌==◌, nat_le, Bool, true, not, ◌&&◌, List, [], ◌∷◌, length, arith}
use Rattle.std.specs.List.{All, list_all}
use Rattle.std.proofs.lemmas.Bool.{and_from, and_parts, le-leb, leb-true, ne_eqb, not_from_false}
use Rattle.std.proofs.lemmas.List.Elements.{All-weaker}
use Rattle.std.proofs.lemmas.List.Sums.{AllPass-from_list_all, list_all-from_AllPass}
use Rattle.iop_script.specs.Laws.{IsWord}
use Rattle.iop_script.specs.Statements.{is_word}
use Rattle.iop_script.proofs.PartsJoined.{Differs, Lacks}

abbrev is_byte : ℕ → Bool
is_byte b = nat_le 0x21 b && nat_le b 0x7E

abbrev IsByte : ℕ → Type 0
IsByte b = (0x21 ≤ b) × (b ≤ 0x7E)

byte_told : (b : ℕ) → is_byte b ≡ true → IsByte b
byte_told b is =
    let both = and_parts (nat_le 0x21 b) (nat_le b 0x7E) is in
    (leb-true 0x21 b both.0, leb-true b 0x7E both.1)

byte_tested : (b : ℕ) → IsByte b → is_byte b ≡ true
byte_tested b is =
    and_from (nat_le 0x21 b) (nat_le b 0x7E) (le-leb 0x21 b is.0) (le-leb b 0x7E is.1)

some_byte : (word : List ℕ) → not (length word == 0) ≡ true → 1 ≤ length word
some_byte [] some = absurd (cc)
some_byte (b ∷ rest) some = omega arith

pub word_told : (word : List ℕ) → is_word word ≡ true → IsWord word
word_told word is =
    let both = and_parts (not (length word == 0)) (list_all is_byte word) is in
    record {
      some = some_byte word both.0;
      bytes = All-weaker (λ b. is_byte b ≡ true) IsByte byte_told word
          (AllPass-from_list_all is_byte word both.1);
    }

pub word_tested : (word : List ℕ) → IsWord word → is_word word ≡ true
word_tested word is =
    let some = is.some in
    and_from (not (length word == 0)) (list_all is_byte word)
    (not_from_false (length word == 0) (ne_eqb (length word) 0 (λ e. omega (arith, some, e))))
    (list_all-from_AllPass is_byte word
    (All-weaker IsByte (λ b. is_byte b ≡ true) byte_tested word is.bytes))

pub words_told : (words : List (List ℕ)) → list_all is_word words ≡ true → All IsWord words
words_told words are =
    All-weaker (λ w. is_word w ≡ true) IsWord word_told words
    (AllPass-from_list_all is_word words are)

pub words_tested : (words : List (List ℕ)) → All IsWord words → list_all is_word words ≡ true
words_tested words are =
    list_all-from_AllPass is_word words
    (All-weaker IsWord (λ w. is_word w ≡ true) word_tested words are)

-- they have no byte below theirs
pub word_lacks : (c : ℕ) → c < 0x21 → (word : List ℕ) → IsWord word → Lacks c word
word_lacks c low word is =
    All-weaker IsByte (Differs c) (λ b within. ne_eqb b c (λ e. omega (arith, low, within, e))) word
    is.bytes

pub words_lack : (c : ℕ) → c < 0x21 → (words : List (List ℕ)) → All IsWord words
    → All (Lacks c) words
words_lack c low words are = All-weaker IsWord (Lacks c) (word_lacks c low) words are
