-- What the texts in a line of source say: words, names, numbers and strings. The language is this
-- project's own profile.
use Rattle.std.specs.Prelude.{ℕ, ◌+◌, ◌*◌, ◌-◌, ◌^◌, ◌==◌, min, Bool, true, false, not, ◌&&◌, ◌||◌, if◌then◌else◌, Option, Some, None, option_map, option_and_then, List, [], ◌∷◌, codes, length, take, drop, filter, map, fold}
use Rattle.std.specs.List.{list_all, slice_split, prefix_len}
use Rattle.std.specs.Char.{digit_value, is_digit, is_ascii_digit, is_ascii_alphanumeric}
use Rattle.std.specs.Str.{byte, bytes_eq}
use Rattle.iop_asm.specs.declared.number.Number.{Number}
use Rattle.iop_asm.specs.declared.quoting.Quoting.{Quoting}
use Rattle.iop_asm.specs.declared.quoting.Quoting.TheVariants.{Outside, Inside, Escaped}

-- a space or a tab
abbrev pub is_blank : ℕ → Bool
is_blank b = b == byte " " || b == 9

abbrev pub is_empty : List ℕ → Bool
is_empty text = length text == 0

-- a text without the blanks that it begins with
abbrev pub after_blanks : List ℕ → List ℕ
after_blanks text = drop (prefix_len is_blank text) text

-- the words between blanks
unfoldable pub words : List ℕ → List (List ℕ)
words text = filter (λ word. not (is_empty word)) (slice_split is_blank text)

-- the one word of a text
abbrev pub only : List (List ℕ) → Option (List ℕ)
only (word ∷ []) = Some word
only words = None

-- the two words of a text
abbrev pub pair : List (List ℕ) → Option (List ℕ × List ℕ)
pair (first ∷ second ∷ []) = Some (first, second)
pair words = None

-- the three words of a text
abbrev pub triple : List (List ℕ) → Option (List ℕ × List ℕ × List ℕ)
triple (first ∷ second ∷ third ∷ []) = Some (first, second, third)
triple words = None

abbrev pub is_comma : ℕ → Bool
is_comma b = b == byte ","

-- the parts between commas of what stands behind a comma, if there is one
abbrev pub parts_behind : Option (List ℕ) → List (List ℕ)
parts_behind None = []
parts_behind (Some rest) = slice_split is_comma rest

-- an item and those behind it, where all are there
abbrev pub and_rest : {A : Type 0} → Option A → Option (List A) → Option (List A)
and_rest first rest = option_and_then (λ x. option_map (λ xs. x ∷ xs) rest) first

-- what all of these are, where each is there
abbrev pub all_of : {A : Type 0} → List (Option A) → Option (List A)
all_of [] = Some []
all_of (first ∷ rest) = and_rest first (all_of rest)

-- the words between commas, one between each two; none of a text without a word
unfoldable pub comma_words : List ℕ → Option (List (List ℕ))
comma_words text =
    if is_empty (after_blanks text) then Some []
    else all_of (map (λ part. only (words part)) (slice_split is_comma text))

abbrev pub is_quote : ℕ → Bool
is_quote b = b == byte "\""

abbrev pub is_backslash : ℕ → Bool
is_backslash b = b == byte "\\"

-- where the byte behind this one stands
abbrev pub quoting_behind : Quoting → ℕ → Quoting
quoting_behind Outside b = if is_quote b then Inside else Outside
quoting_behind Inside b =
    if is_quote b then Outside else if is_backslash b then Escaped else Inside
quoting_behind Escaped b = Inside

-- whether this byte begins a comment
abbrev pub begins_comment : Quoting → ℕ → Bool
begins_comment Outside b = b == byte ";"
begins_comment quoting b = false

-- the bytes before a comment
unfoldable pub before_comment : Quoting → List ℕ → List ℕ
before_comment quoting [] = []
before_comment quoting (b ∷ rest) =
    if begins_comment quoting b then []
    else b ∷ before_comment (quoting_behind quoting b) rest

abbrev pub is_name_byte : ℕ → Bool
is_name_byte b = is_ascii_alphanumeric b || b == byte "_"

-- letters, digits and _, and no digit first
unfoldable pub is_name : List ℕ → Bool
is_name [] = false
is_name (first ∷ rest) =
    not (is_ascii_digit first) && list_all is_name_byte (first ∷ rest)

abbrev pub symbol_of : List ℕ → Option (List ℕ)
symbol_of word = if is_name word then Some word else None

-- what stands in a word behind what it begins with
abbrev pub behind : List ℕ → List ℕ → Option (List ℕ)
behind prefix word =
    if bytes_eq (take (length prefix) word) prefix then Some (drop (length prefix) word) else None

-- what stands in a word before what it ends with
abbrev pub before : List ℕ → List ℕ → Option (List ℕ)
before suffix word =
    let len = length word - length suffix in
    if bytes_eq (drop len word) suffix then Some (take len word) else None

-- the greatest magnitude that is told apart
abbrev pub most : ℕ
most = 2 ^ 64 - 1

-- the number of some digits, one at least, to a base
abbrev pub digits_number : ℕ → List ℕ → Option ℕ
digits_number base digits =
    if not (is_empty digits) && list_all (λ b. is_digit b base) digits
    then Some (min most (fold (λ n b. n * base + digit_value b) 0 digits))
    else None

abbrev pub number_with : Bool → Option ℕ → Option Number
number_with negative digits =
    option_map (λ n. record { negative = negative; magnitude = n }) digits

-- the number of a word: 0x and hexadecimal digits, or decimal digits with or without a minus
unfoldable pub number_of : List ℕ → Option Number
number_of word =
    if bytes_eq (take 2 word) (codes "0x") then number_with false (digits_number 16 (drop 2 word))
    else if bytes_eq (take 1 word) (codes "-")
    then number_with true (digits_number 10 (drop 1 word))
    else number_with false (digits_number 10 word)

-- the byte that an escape stands for: \n, \\ and \"
abbrev pub escaped_byte : ℕ → Option ℕ
escaped_byte b =
    if b == byte "n" then Some 10
    else if is_backslash b || is_quote b then Some b
    else None

-- the bytes of a string from some place behind its opening quote on, by whether a backslash that
-- begins an escape stands right before it; only blanks follow the closing quote
unfoldable pub string_rest : Bool → List ℕ → Option (List ℕ)
string_rest escaped [] = None
string_rest true (b ∷ rest) = and_rest (escaped_byte b) (string_rest false rest)
string_rest false (b ∷ rest) =
    if is_quote b then (if list_all is_blank rest then Some [] else None)
    else if is_backslash b then string_rest true rest
    else and_rest (Some b) (string_rest false rest)

-- the bytes of the string that a text is
abbrev pub string_of : List ℕ → Option (List ℕ)
string_of text = option_and_then (string_rest false) (behind (codes "\"") (after_blanks text))
