-- Memory in two layers: base, the bytes as they would read if no stub were bound, and the live
-- stubs, each with a jump over its first word. What the guest reads is both, one over the other
-- (ps2sdk's irx.h: the words of a stub; MIPS I: j). That a store ends each stub of which it meets a
-- byte, and leaves the jump in base there, is this project's own profile.
use Rattle.std.specs.Prelude.{◌≡◌, ℕ, ◌+◌, ◌%◌, ◌^◌, ◌<◌, ◌≤◌, Option, Some, None, List, [], ◌∷◌, length, take, drop, All}
use Rattle.iop_base.specs.Numbers.{number_at, bytes_of, with_bytes}
use Rattle.iop_base.specs.Places.{IsRamSize}
use Rattle.iop_base.specs.declared.words.TheConstants.{JUMP_BACK, STUB_INDEX}
use Rattle.iop_stubs.specs.Stubs.{Memory, met_stubs, remaining_stubs}
use Rattle.iop_stubs.specs.Binding.{jump_word, with_stub, IsInOrder}
use Rattle.iop_stubs.specs.declared.live_stub.Stub.{Stub}
use Rattle.iop_stubs.specs.declared.live_stub.TheConstants.Stub.{SIZE, MOST_LIVE}

pub record Layers : Type 0 where
  -- the bytes of RAM below the jumps
  pub base : List ℕ
  -- the live stubs in the order of their places
  pub live : List Stub

-- the bytes with a word over the first word of each stub
abbrev pub with_first_words : (Stub → ℕ) → List Stub → List ℕ → List ℕ
with_first_words word [] bytes = bytes
with_first_words word (stub ∷ rest) bytes =
    with_bytes (with_first_words word rest bytes) stub.at (bytes_of 4 (word stub))

-- the bytes that are seen where these stubs jump over base
abbrev pub seen : List ℕ → List Stub → List ℕ
seen base live = with_first_words (λ stub. jump_word stub.target) live base

-- the bytes of a memory without the jumps of its live stubs
abbrev pub base_of : Memory → List ℕ
base_of memory = with_first_words (λ stub. JUMP_BACK) memory.live memory.ram

abbrev pub layers_of : Memory → Layers
layers_of memory = record { base = base_of memory; live = memory.live }

abbrev pub memory_of : Layers → Memory
memory_of layers = record { ram = seen layers.base layers.live; live = layers.live }

-- the stub's words in base are jr $ra and its index
pub record IsUnpatched (base : List ℕ) (stub : Stub) : Type 0 where
  pub aligned : stub.at % 4 ≡ 0
  pub inside : stub.at + SIZE ≤ length base
  pub jump_back : take 4 (drop stub.at base) ≡ bytes_of 4 JUMP_BACK
  pub index : number_at base (stub.at + 4) 4 ≡ STUB_INDEX + stub.index
  pub index_small : stub.index < 2 ^ 16
  pub target_aligned : stub.target % 4 ≡ 0
  pub target_near : stub.target < 2 ^ 28

-- what holds of the layers of every memory
pub record AreSound (layers : Layers) : Type 0 where
  pub sized : IsRamSize (length layers.base)
  pub few : length layers.live ≤ MOST_LIVE
  pub unpatched : All (IsUnpatched layers.base) layers.live
  pub apart : IsInOrder layers.live

-- the layers after these bytes were stored at a physical place: the jump of each stub that is met
-- stays in base, the bytes go over it, and the stub lives no more
abbrev pub layers_after_store : Layers → Option ℕ → List ℕ → Layers
layers_after_store layers None bytes = layers
layers_after_store layers (Some place) bytes = record {
  base = with_bytes (seen layers.base (met_stubs place (length bytes) layers.live)) place bytes;
  live = remaining_stubs place (length bytes) layers.live;
}

-- the layers after a stub was bound: base is as it was
abbrev pub layers_after_bind : Layers → Stub → Layers
layers_after_bind layers stub = record { base = layers.base; live = with_stub stub layers.live }
