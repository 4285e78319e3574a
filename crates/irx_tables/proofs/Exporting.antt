-- The functions of an export table, counted one after another.
use Rattle.std.proofs.Common.{◌≡◌, ℕ, ◌+◌, ◌*◌, ◌<◌, ◌≤◌, Bool, true, false, not, Some, List, length, get_or, nat_eq, ap, sym, ◌∙◌, arith}
use Rattle.std.specs.List.{prefix_len, slice_get}
use Rattle.std.proofs.lemmas.List.{length-map, get_or-map, get_or-take}
use Rattle.std.proofs.lemmas.List.Folds.{length-prefix_len}
use Rattle.std.proofs.lemmas.List.Sums.{prefix_len_is, prefix_len-le-length}
use Rattle.std.proofs.lemmas.Option.{slice_get-get_or}
use Rattle.iop_base.specs.Numbers.{word_at}
use Rattle.irx_tables.specs.Places.{places}
use Rattle.irx_tables.specs.Exports.{word_room, words_behind, functions}
use Rattle.irx_tables.specs.declared.words.TheConstants.{HEADER_BYTES}
use Rattle.irx_tables.proofs.Rows.{length-places, get_or-places}

module _ (memory : List ℕ) (table : ℕ) where
  abbrev room : ℕ
  room = word_room memory table

  abbrev is_function : ℕ → Bool
  is_function word = not (nat_eq word 0)

  length-words : length (words_behind memory table) ≡ room
  length-words =
      length-map (places 4 (table + HEADER_BYTES) room) (word_at memory)
      ∙ length-places 4 (table + HEADER_BYTES) room

  word_behind : (k d : ℕ) → k < room
      → get_or (words_behind memory table) k d ≡ word_at memory (table + HEADER_BYTES + 4 * k)
  word_behind k d lt =
      get_or-map (word_at memory) (places 4 (table + HEADER_BYTES) room) k d d
      (omega (arith, length-places 4 (table + HEADER_BYTES) room))
      ∙ ap (word_at memory) (get_or-places 4 (table + HEADER_BYTES) room k d lt)

  length-functions : length (functions memory table)
      ≡ prefix_len is_function (words_behind memory table)
  unfolding functions
  length-functions = length-prefix_len is_function (words_behind memory table)

  pub functions-le : length (functions memory table) ≤ room
  functions-le =
      omega (
        arith,
        length-functions,
        length-words,
        prefix_len-le-length is_function (words_behind memory table),
      )

  -- a count that went on over words not 0 and stopped at a word 0 or at the end
  pub functions_are : (k : ℕ) → k ≤ room
      → ((j : ℕ) → j < k → nat_eq (word_at memory (table + HEADER_BYTES + 4 * j)) 0 ≡ false)
      → (k < room → nat_eq (word_at memory (table + HEADER_BYTES + 4 * k)) 0 ≡ true)
      → k ≡ length (functions memory table)
  functions_are k le before here =
      sym (length-functions
      ∙ prefix_len_is is_function (words_behind memory table) k 0 (omega (arith, length-words))
      (λ j lt. let below : j < room = omega arith in
      ap is_function (word_behind j 0 below) ∙ ap not (before j lt))
      (λ lt. let below : k < room = omega (arith, length-words) in
      ap is_function (word_behind k 0 below) ∙ ap not (here below)))

  taken : (k : ℕ) → k < length (functions memory table)
      → get_or (functions memory table) k 0 ≡ get_or (words_behind memory table) k 0
  unfolding functions
  taken k lt =
      get_or-take (prefix_len is_function (words_behind memory table))
      (words_behind memory table) k 0 (omega (arith, length-functions))

  pub function_is : (k : ℕ) → k < length (functions memory table)
      → slice_get (functions memory table) k ≡ Some (word_at memory (table + HEADER_BYTES + 4 * k))
  function_is k lt =
      let inside : k < room = omega (arith, functions-le) in
      slice_get-get_or (functions memory table) k 0 lt
      ∙ ap Some (taken k lt ∙ word_behind k 0 inside)
