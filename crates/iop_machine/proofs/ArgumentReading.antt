-- The argument block as it is written, word after word, and as a module reads it.
use Rattle.std.proofs.Common.{◌≡◌, ℕ, zero, suc, ◌+◌, ◌*◌, ◌/◌, ◌%◌, ◌<◌, ◌≤◌, Some, List, [], ◌∷◌, ◌++◌, length, take, drop, get_or, replicate, append_assoc, drop-cons, refl, ap, sym, ◌∙◌, subst, arith, inl, inr}
use Rattle.std.specs.Prelude.{slice_get, slice_index}
use Rattle.std.proofs.lemmas.Bool.{lt-ltb, le-leb}
use Rattle.std.proofs.lemmas.Option.{get_or_from_slice_get}
use Rattle.std.proofs.lemmas.List.{get_or-replicate, length-append, length-replicate}
use Rattle.iop_base.specs.Numbers.{number_at, bytes_of, with_bytes}
use Rattle.iop_base.specs.Places.{IsRamSize, range_at}
use Rattle.iop_base.proofs.Lists.{bytes_inside, number_at-word, number_at_behind, length-bytes_of}
use Rattle.iop_base.proofs.Memory.{length-with_bytes, number_at_inside}
use Rattle.iop_stubs.specs.Stubs.{after_store}
use Rattle.iop_machine.specs.declared.arguments.TheConstants.{ARGUMENTS, ARGUMENTS_LEN, MOST_WORDS, MOST_WORD_BYTES}
use Rattle.iop_machine.specs.ArgumentLaws.{HasString, HasWords, ArgumentsAreRead}
use Rattle.iop_machine.specs.Iop.{Iop}
use Rattle.iop_machine.specs.Loading.{passes}
use Rattle.iop_machine.specs.Modules.{addresses, strings, argument_block}
use Rattle.iop_machine.specs.Storing.{fills, stores_bytes}
use Rattle.iop_machine.proofs.Area.{HasBytes, has_first, has_second}

-- an address has four bytes
pub length-addresses : (at : ℕ) (words : List (List ℕ))
    → length (addresses at words) ≡ 4 * length words
length-addresses at [] = refl
length-addresses at (word ∷ words) =
    omega (
      arith,
      length-append (bytes_of 4 at) (addresses (at + length word + 1) words),
      length-bytes_of 4 at,
      length-addresses (at + length word + 1) words,
    )

-- behind the addresses a word 0 stands, and then the strings
pub length-argument_block : (words : List (List ℕ))
    → length (argument_block words) ≡ 4 * (length words + 1) + length (strings words)
unfolding argument_block
length-argument_block words =
    let heads = addresses (ARGUMENTS + 4 * (length words + 1)) words in
    omega (
      arith,
      length-append (heads ++ bytes_of 4 0) (strings words),
      length-append heads (bytes_of 4 0),
      length-addresses (ARGUMENTS + 4 * (length words + 1)) words,
    )

-- the words that are left at an index
module _ (words : List (List ℕ)) (i : ℕ) (word : List ℕ) (inside : i < length words)
    (is : word ≡ get_or words i word) where
  words_left : drop i words ≡ word ∷ drop (i + 1) words
  words_left =
      let next : suc i ≡ i + 1 = omega arith in
      drop-cons words i word inside ∙ ap (λ x. x ∷ drop (suc i) words) (sym is)
      ∙ ap (λ n. word ∷ drop n words) next

  -- one word more was appended
  pub strings_go_on : (block whole : List ℕ) → block ++ strings (drop i words) ≡ whole
      → block ++ word ++ 0 ∷ [] ++ strings (drop (i + 1) words) ≡ whole
  strings_go_on block whole e =
      append_assoc (block ++ word) (0 ∷ []) (strings (drop (i + 1) words))
      ∙ append_assoc block word (0 ∷ strings (drop (i + 1) words))
      ∙ ap (λ ws. block ++ strings ws) (sym words_left) ∙ e

  -- it has room
  pub strings_fit : (block whole : List ℕ) (room : ℕ) → block ++ strings (drop i words) ≡ whole
      → length whole ≤ room → length block + length word + 1 ≤ room
  strings_fit block whole room e fits =
      omega (
        arith,
        ap length e,
        length-append block (strings (drop i words)),
        ap (λ ws. length (strings ws)) words_left,
        length-append word (0 ∷ strings (drop (i + 1) words)),
        fits,
      )

  -- one address more was appended
  pub addresses_go_on : (at : ℕ) (block whole : List ℕ)
      → block ++ addresses at (drop i words) ≡ whole
      → block ++ bytes_of 4 at ++ addresses (at + length word + 1) (drop (i + 1) words) ≡ whole
  addresses_go_on at block whole e =
      append_assoc block (bytes_of 4 at) (addresses (at + length word + 1) (drop (i + 1) words))
      ∙ ap (λ ws. block ++ addresses at ws) (sym words_left) ∙ e

  -- it has room
  pub address_fits : (at : ℕ) (block whole : List ℕ) (room : ℕ)
      → block ++ addresses at (drop i words) ≡ whole
      → length whole ≤ room → length block + 4 ≤ room
  address_fits at block whole room e fits =
      omega (
        arith,
        ap length e,
        length-append block (addresses at (drop i words)),
        ap (λ ws. length (addresses at ws)) words_left,
        length-append (bytes_of 4 at) (addresses (at + length word + 1) (drop (i + 1) words)),
        length-bytes_of 4 at,
        fits,
      )

  -- where the words end
  pub strings_end : length (strings (drop i words))
      ≡ length word + 1 + length (strings (drop (i + 1) words))
  strings_end =
      omega (
        arith,
        ap (λ ws. length (strings ws)) words_left,
        length-append word (0 ∷ strings (drop (i + 1) words)),
      )

-- the four bytes of a word, the lowest first
pub le_bytes : (value : ℕ) → value % 256 ∷ value / 256 % 256 ∷ value / 65536 % 256
    ∷ value / 16777216 % 256 ∷ [] ≡ bytes_of 4 value
le_bytes value =
    let third : value / 65536 ≡ value / 256 / 256 = omega arith in
    let fourth : value / 16777216 ≡ value / 256 / 256 / 256 = omega arith in
    ap (λ n. value % 256 ∷ value / 256 % 256 ∷ n % 256 ∷ value / 16777216 % 256 ∷ []) third
    ∙ ap (λ n. value % 256 ∷ value / 256 % 256 ∷ value / 256 / 256 % 256 ∷ n % 256 ∷ []) fourth

-- a word stands at a place among those from a place on, and its address in a row of addresses
record StandsAt (memory : List ℕ) (row at : ℕ) (words : List (List ℕ)) (i : ℕ) (word : List ℕ)
    : Type 0 where
  place : ℕ
  begins : at ≤ place
  ends : place + (length word + 1) ≤ at + length (strings words)
  string : HasBytes memory place (word ++ 0 ∷ [])
  address : HasBytes memory (row + 4 * i) (bytes_of 4 place)

module _ {memory : List ℕ} where
  -- the first word and the others
  parted : (at : ℕ) (word : List ℕ) (words : List (List ℕ))
      → HasBytes memory at (strings (word ∷ words))
      → HasBytes memory at ((word ++ 0 ∷ []) ++ strings words)
  parted at word words =
      subst (HasBytes memory at) (sym (append_assoc word (0 ∷ []) (strings words)))

  -- each of the words does
  word_stands : (row at : ℕ) (words : List (List ℕ)) (i : ℕ) (word : List ℕ)
      → slice_get words i ≡ Some word → HasBytes memory row (addresses at words)
      → HasBytes memory at (strings words) → StandsAt memory row at words i word
  word_stands row at [] i word e heads texts = absurd (cc e)
  word_stands row at (first ∷ words) zero word e heads texts =
      let row_is : row ≡ row + 4 * 0 = omega arith in
      subst (StandsAt memory row at (first ∷ words) 0)
      (get_or_from_slice_get (first ∷ words) 0 word [] e) (record {
        place = at;
        begins = omega arith;
        ends = omega (arith, length-append first (0 ∷ strings words));
        string = has_first (first ++ 0 ∷ []) (strings words) (parted at first words texts);
        address = subst (λ p. HasBytes memory p (bytes_of 4 at)) row_is
            (has_first (bytes_of 4 at) (addresses (at + length first + 1) words) heads);
      })
  word_stands row at (first ∷ words) (suc i) word e heads texts =
      let next = at + length first + 1 in
      let next_is : at + length (first ++ 0 ∷ []) ≡ next =
      omega (arith, length-append first (0 ∷ [])) in
      let row_is : row + 4 + 4 * i ≡ row + 4 * suc i = omega arith in
      let is = word_stands (row + 4) next words i word e
      (has_second (bytes_of 4 at) (addresses next words) heads)
      (subst (λ p. HasBytes memory p (strings words)) next_is
      (has_second (first ++ 0 ∷ []) (strings words) (parted at first words texts))) in
      record {
        place = is.place;
        begins = omega (arith, is.begins);
        ends = omega (arith, is.ends, length-append first (0 ∷ strings words));
        string = is.string;
        address = subst (λ p. HasBytes memory p (bytes_of 4 is.place)) row_is is.address;
      }

-- bytes that the kernel stores into the block
pub stored : (s : Iop) (bytes : List ℕ) → ARGUMENTS + ARGUMENTS_LEN ≤ length s.memory.ram
    → length bytes ≤ ARGUMENTS_LEN
    → (stores_bytes s ARGUMENTS bytes).state.memory.ram ≡ with_bytes s.memory.ram ARGUMENTS bytes
stored s bytes long fits =
    let size = length s.memory.ram in
    let low = lt-ltb ARGUMENTS size (omega arith) in
    let inside = le-leb (ARGUMENTS + length bytes) size (omega arith) in
    let place : range_at size ARGUMENTS (length bytes) ≡ Some ARGUMENTS = rw (low, inside) refl in
    ap (λ p. (after_store s.memory p bytes).ram) place

long_enough : (size : ℕ) → IsRamSize size → ARGUMENTS + ARGUMENTS_LEN ≤ size
long_enough size (inl e) = omega (arith, e)
long_enough size (inr e) = omega (arith, e)

module _ (s : Iop) (sized : IsRamSize (length s.memory.ram)) where
  long : ARGUMENTS + ARGUMENTS_LEN ≤ length s.memory.ram
  long = long_enough (length s.memory.ram) sized

  abbrev zeros : List ℕ
  zeros = replicate ARGUMENTS_LEN 0

  length-zeros : length zeros ≡ ARGUMENTS_LEN
  length-zeros = length-replicate {A = ℕ} ARGUMENTS_LEN 0

  -- memory with the zeros alone
  zeroed : List ℕ
  zeroed = with_bytes s.memory.ram ARGUMENTS zeros

  length-zeroed : length zeroed ≡ length s.memory.ram
  unfolding zeroed
  length-zeroed =
      length-with_bytes s.memory.ram ARGUMENTS zeros (omega (arith, length-zeros, long))

  zero_there : (k : ℕ) → k < ARGUMENTS_LEN → number_at zeroed (ARGUMENTS + k) 1 ≡ 0
  unfolding zeroed
  zero_there k below =
      let none : get_or zeros k 0 ≡ 0 = get_or-replicate ARGUMENTS_LEN k 0 0 below in
      number_at_inside s.memory.ram ARGUMENTS zeros (omega (arith, length-zeros, long)) k 1
      (omega (arith, length-zeros))
      ∙ ap (λ b. b + 256 * 0) none

  abbrev filled : Iop
  filled = (fills s ARGUMENTS ARGUMENTS_LEN).state

  filled_is : filled.memory.ram ≡ zeroed
  unfolding zeroed
  filled_is = stored s zeros long (omega (arith, length-zeros))

  module _ (words : List (List ℕ)) (few : length words ≤ MOST_WORDS)
      (short : length (strings words) ≤ MOST_WORD_BYTES) where
    abbrev at : ℕ
    at = ARGUMENTS + 4 * (length words + 1)

    abbrev block : List ℕ
    block = argument_block words

    abbrev heads : List ℕ
    heads = addresses at words

    length-heads : length (heads ++ bytes_of 4 0) ≡ 4 * (length words + 1)
    length-heads = omega (arith, length-append heads (bytes_of 4 0), length-addresses at words)

    length-block : length block ≡ 4 * (length words + 1) + length (strings words)
    length-block = length-argument_block words

    fits : length block ≤ ARGUMENTS_LEN
    fits = omega (arith, length-block, few, short)

    -- memory with the block
    passed : List ℕ
    passed = with_bytes zeroed ARGUMENTS block

    inside : ARGUMENTS + length block ≤ length zeroed
    inside = omega (arith, fits, length-zeroed, long)

    -- the addresses, the word 0 behind the last one, and the strings
    heads_there : HasBytes passed ARGUMENTS (heads ++ bytes_of 4 0)
    unfolding passed argument_block
    heads_there =
        has_first (heads ++ bytes_of 4 0) (strings words)
        (record { part = bytes_inside zeroed ARGUMENTS block inside })

    strings_there : HasBytes passed at (strings words)
    unfolding passed argument_block
    strings_there =
        let place : ARGUMENTS + length (heads ++ bytes_of 4 0) ≡ at = omega (arith, length-heads) in
        subst (λ p. HasBytes passed p (strings words)) place
        (has_second (heads ++ bytes_of 4 0) (strings words)
        (record { part = bytes_inside zeroed ARGUMENTS block inside }))

    last_is : number_at passed (ARGUMENTS + 4 * length words) 4 ≡ 0
    last_is =
        let place : ARGUMENTS + length heads ≡ ARGUMENTS + 4 * length words =
        omega (arith, length-addresses at words) in
        number_at-word passed (ARGUMENTS + 4 * length words) 0 (omega arith)
        (subst (λ p. HasBytes passed p (bytes_of 4 0)) place
        (has_second heads (bytes_of 4 0) heads_there)).part

    behind_is : (k : ℕ) → length block ≤ k → k < ARGUMENTS_LEN
        → slice_index passed (ARGUMENTS + k) ≡ 0
    unfolding passed
    behind_is k after below =
        let at_end : ARGUMENTS + length block ≤ ARGUMENTS + k = omega arith in
        let same = number_at_behind zeroed ARGUMENTS block inside (ARGUMENTS + k) 1 at_end in
        omega (arith, same, zero_there k below)

    string_is : (i : ℕ) (word : List ℕ) → slice_get words i ≡ Some word
        → HasString passed (number_at passed (ARGUMENTS + 4 * i) 4) word
    string_is i word e =
        let is = word_stands ARGUMENTS at words i word e
        (has_first heads (bytes_of 4 0) heads_there) strings_there in
        let address = number_at-word passed (ARGUMENTS + 4 * i) is.place
        (omega (arith, is.ends, few, short)) is.address.part in
        subst (λ a. HasString passed a word) (sym address) (record {
          begins = omega (arith, is.begins);
          ends = omega (arith, is.ends, few, short);
          bytes = subst (λ n. take n (drop is.place passed) ≡ word ++ 0 ∷ [])
              (length-append word (0 ∷ [])) is.string.part;
        })

    passes_is : (passes s block).state.memory.ram ≡ passed
    unfolding passed
    passes_is =
        stored filled block (omega (arith, long, ap length filled_is, length-zeroed)) fits
        ∙ ap (λ r. with_bytes r ARGUMENTS block) filled_is

    words_are : HasWords (passes s block).state.memory.ram words
    words_are =
        subst (λ r. HasWords r words) (sym passes_is)
        (record { string = string_is; last = last_is; behind = behind_is })

pub arguments_are_read : ArgumentsAreRead
arguments_are_read = λ s words sized few short. words_are s sized words few short
