-- A list of words, as it is written and read.
use Rattle.std.specs.Prelude.{◌≡◌, ℕ, nat_lt, Some, List, [], ◌∷◌, ◌++◌, length, slice_index}
use Rattle.std.proofs.Common.{sym, append-nil}
use Rattle.iop_snapshot.specs.declared.widths.TheConstants.{COUNT}
use Rattle.iop_snapshot.specs.Forms.{Form, item, seen_as, tested}
use Rattle.iop_snapshot_tests.specs.declared.words.TheConstants.{MOST_WORDS}

-- a word is an item of one number of 4 bytes
abbrev pub word_form : Form ℕ
word_form = seen_as (item COUNT) (λ numbers. Some (slice_index numbers 0)) (λ word. word ∷ [])

-- the next word, of which there is none where the list is full
abbrev pub next_word : List ℕ → Form ℕ
next_word before = tested word_form (λ _. nat_lt (length before) MOST_WORDS)

pub grown_none : (words : List ℕ) → Unit {0} → words ≡ words ++ []
grown_none words u = sym (append-nil words)
