-- Services that look at the kernel, its processor and memory alone: what they read and write there.
use Rattle.std.specs.Prelude.{ℕ, ◌+◌, ◌*◌, ◌==◌, if◌then◌else◌, Option, Some, None, option_map, List, [], ◌∷◌, ◌++◌, length}
use Rattle.iop_base.specs.Numbers.{number_at, bytes_of}
use Rattle.iop_base.specs.declared.code.Code.{Code}
use Rattle.iop_base.specs.declared.code.TheConstants.Code.{OK}
use Rattle.iop_stubs.specs.Stubs.{Memory, after_store, store_lines}
use Rattle.iop_kernel.specs.System.{Core, Left, System, Done, Served, answers, words_place}

-- the kernel with its processor, and the memory
pub record Board : Type 0 where
  pub core : Core
  pub memory : Memory

abbrev pub board_of : System → Board
board_of s = record { core = s.core; memory = s.memory }

-- a call that leaves all else as it was
abbrev pub on_board : System → Done Board → Served
on_board s done = record {
  left = record {
    state = record s { core = done.left.state.core; memory = done.left.state.memory };
    after = done.left.after;
  };
  pieces = done.pieces;
}

-- a call that leaves memory as it was, and gives nothing
abbrev pub quiet : Memory → Left Core → Done Board
quiet memory left = record {
  left = record { state = record { core = left.state; memory = memory }; after = left.after };
  pieces = [];
}

-- the bytes of words, the lowest of each first
abbrev pub bytes_of_words : List ℕ → List ℕ
bytes_of_words [] = []
bytes_of_words (word ∷ words) = bytes_of 4 word ++ bytes_of_words words

-- words are written at a physical place, if there is one, and the caller goes on with a code
abbrev pub writes_with : Memory → Option ℕ → List ℕ → Core → Code → Done Board
writes_with memory place words c code = record {
  left = record {
    state = record {
      core = (answers c code).state;
      memory = after_store memory place (bytes_of_words words);
    };
    after = (answers c code).after;
  };
  pieces = store_lines c.kernel.clock memory place (length (bytes_of_words words));
}

-- the same, with 0
abbrev pub writes : Memory → Option ℕ → List ℕ → Core → Done Board
writes memory place words c = writes_with memory place words c OK

-- word k of those that stand at a physical place
abbrev pub word_in : Memory → (place k : ℕ) → ℕ
word_in memory place k = number_at memory.ram (place + 4 * k) 4

-- the physical place of a word, if it has one; 0 has none
abbrev pub place_of_word : Memory → ℕ → Option ℕ
place_of_word memory at = if at == 0 then None else words_place memory at 1

-- the physical place of a word where 0 stands for none; there is none at all where it is bad
abbrev pub optional_place : Memory → ℕ → Option (Option ℕ)
optional_place memory at =
    if at == 0 then Some None else option_map (λ place. Some place) (words_place memory at 1)
