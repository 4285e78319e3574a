-- What binding a stub does and asks for, and what holds of every memory (ps2sdk's irx.h: the words
-- of a stub; MIPS I: j). That at most 65,536 stubs are live is this project's own profile.
use Rattle.std.specs.Prelude.{◌≡◌, ℕ, ◌+◌, ◌/◌, ◌%◌, ◌^◌, ◌<◌, ◌≤◌, nat_lt, false, if◌then◌else◌, List, [], ◌∷◌, length, take, drop, All, AllPairs}
use Rattle.iop_base.specs.Numbers.{IsByte, number_at, bytes_of, with_bytes}
use Rattle.iop_base.specs.Places.{IsRamSize}
use Rattle.iop_base.specs.declared.words.TheConstants.{JUMP_BACK, STUB_INDEX}
use Rattle.iop_stubs.specs.Stubs.{Memory, meets}
use Rattle.iop_stubs.specs.declared.live_stub.Stub.{Stub}
use Rattle.iop_stubs.specs.declared.live_stub.TheConstants.Stub.{SIZE, JUMP_WORD, MOST_LIVE}

-- j target
abbrev pub jump_word : ℕ → ℕ
jump_word target = JUMP_WORD + target / 4

-- the stubs with one more before the first that stands behind it
abbrev pub with_stub : Stub → List Stub → List Stub
with_stub stub [] = stub ∷ []
with_stub stub (first ∷ rest) =
    if nat_lt stub.at first.at then stub ∷ first ∷ rest else first ∷ with_stub stub rest

-- memory after a stub was bound
abbrev pub after_bind : Memory → Stub → Memory
after_bind memory stub = record {
  ram = with_bytes memory.ram stub.at (bytes_of 4 (jump_word stub.target));
  live = with_stub stub memory.live;
}

-- the stub may be bound in this memory
pub record MayBind (memory : Memory) (stub : Stub) : Type 0 where
  pub aligned : stub.at % 4 ≡ 0
  pub inside : stub.at + SIZE ≤ length memory.ram
  pub jump_back : number_at memory.ram stub.at 4 ≡ JUMP_BACK
  pub index : number_at memory.ram (stub.at + 4) 4 ≡ STUB_INDEX + stub.index
  pub index_small : stub.index < 2 ^ 16
  pub target_aligned : stub.target % 4 ≡ 0
  pub target_near : stub.target < 2 ^ 28
  -- no live stub overlaps it
  pub apart : All (λ other. meets stub.at SIZE other ≡ false) memory.live
  pub room : length memory.live < MOST_LIVE

-- the stub's words in RAM are the jump and its index
pub record IsBound (ram : List ℕ) (stub : Stub) : Type 0 where
  pub aligned : stub.at % 4 ≡ 0
  pub inside : stub.at + SIZE ≤ length ram
  pub jump : take 4 (drop stub.at ram) ≡ bytes_of 4 (jump_word stub.target)
  pub index : number_at ram (stub.at + 4) 4 ≡ STUB_INDEX + stub.index
  pub index_small : stub.index < 2 ^ 16
  pub target_aligned : stub.target % 4 ≡ 0
  pub target_near : stub.target < 2 ^ 28

-- the stubs stand in the order of their places, and no two overlap
abbrev pub IsInOrder : List Stub → Type 0
IsInOrder live = AllPairs (λ first second. first.at + SIZE ≤ second.at) live

-- what holds of every memory
pub record IsSound (memory : Memory) : Type 0 where
  pub sized : IsRamSize (length memory.ram)
  pub few : length memory.live ≤ MOST_LIVE
  pub bound : All (IsBound memory.ram) memory.live
  pub apart : IsInOrder memory.live

-- what holds of every memory of a guest: it is sound, and consists of bytes
pub record IsGuestMemory (memory : Memory) : Type 0 where
  pub sound : IsSound memory
  pub bytes : All IsByte memory.ram
