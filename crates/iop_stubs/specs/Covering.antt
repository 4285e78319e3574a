-- The words of RAM that live stubs cover.
use Rattle.std.specs.Prelude.{◌≡◌, ℕ, ◌+◌, ◌*◌, ◌%◌, ◌≤◌, ◌&&◌, not, Bool, List, length, All}
use Rattle.std.specs.List.{list_any}
use Rattle.iop_stubs.specs.Stubs.{meets}
use Rattle.iop_stubs.specs.Binding.{IsInOrder}
use Rattle.iop_stubs.specs.WordSets.{has, HasRoom}
use Rattle.iop_stubs.specs.declared.live_stub.Stub.{Stub}
use Rattle.iop_stubs.specs.declared.live_stub.TheConstants.Stub.{SIZE}
use Rattle.iop_stubs.specs.declared.word_set.TheConstants.{WORDS, WORD_BYTES}

-- whether a stub covers a word of RAM: word n is that at place 4 n
abbrev pub covers : ℕ → Stub → Bool
covers n stub = meets (n * 4) 4 stub

-- a word is in the set exactly where one of the stubs covers it
abbrev pub AreCovered : List ℕ → List Stub → Type 0
AreCovered bits stubs = (n : ℕ) → HasRoom bits n → has bits n ≡ list_any (covers n) stubs

-- whether the range meets a stub that covers the word
abbrev pub is_met_over : (place len n : ℕ) → Stub → Bool
is_met_over place len n stub = meets place len stub && covers n stub

-- the words that are covered by a stub which a range meets are not in the set any more
pub record Uncovers (place len : ℕ) (stubs : List Stub) (old new : List ℕ) : Type 0 where
  pub room : length new ≡ length old
  pub words : (n : ℕ) → HasRoom old n
      → has new n ≡ (has old n && not (list_any (is_met_over place len n) stubs))

-- live stubs, and how many bytes of RAM they stand in
pub record LiveTable : Type 0 where
  pub stubs : List Stub
  pub ram : ℕ

-- the bytes of RAM for whose words a set has room
abbrev pub bytes_of_room : List ℕ → ℕ
bytes_of_room bits = length bits * (WORD_BYTES * WORDS)

-- a stub stands at a multiple of 4 in so many bytes
pub record StandsIn (ram : ℕ) (stub : Stub) : Type 0 where
  pub aligned : stub.at % 4 ≡ 0
  pub inside : stub.at + SIZE ≤ ram

-- the stubs stand in order in RAM, and the words that they cover are in the set
pub record IsTable (bits : List ℕ) (stubs : List Stub) : Type 0 where
  pub order : IsInOrder stubs
  pub stand : All (StandsIn (bytes_of_room bits)) stubs
  pub covered : AreCovered bits stubs
