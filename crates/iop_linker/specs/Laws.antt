-- What the laws on linking say.
use Rattle.std.specs.Prelude.{◌≡◌, ℕ, ◌+◌, ◌%◌, ◌≤◌, ◌⊎◌, Ok, List, length, All, Contains}
use Rattle.iop_registry.specs.declared.registry.Entry.{Entry}
use Rattle.iop_stubs.specs.Stubs.{Memory}
use Rattle.iop_stubs.specs.Binding.{IsSound}
use Rattle.iop_stubs.specs.declared.live_stub.Stub.{Stub}
use Rattle.iop_linker.specs.Linking.{linking, linked_memory, HasNoLiveStub}

-- the live stubs after these were bound: each of these, each that was live, and no other
pub record AreLive (memory : Memory) (stubs : List Stub) : Type 0 where
  pub new : All (Contains (linked_memory memory stubs).live) stubs
  pub old : All (Contains (linked_memory memory stubs).live) memory.live
  pub others : All (λ stub. Contains stubs stub ⊎ Contains memory.live stub)
      (linked_memory memory stubs).live
  pub count : length (linked_memory memory stubs).live ≡ length memory.live + length stubs

abbrev pub LinkedStubsAreLive : Type 0
LinkedStubsAreLive = (memory : Memory) (stubs : List Stub) → AreLive memory stubs

-- the range is one that may be linked in this memory
pub record MayLink (memory : Memory) (from len : ℕ) : Type 0 where
  pub sound : IsSound memory
  pub aligned : from % 4 ≡ 0
  pub inside : from + len ≤ length memory.ram
  pub apart : HasNoLiveStub memory from len

abbrev pub LinkedMemoryIsSound : Type 0
LinkedMemoryIsSound =
    (memory : Memory) (entries : List Entry) (from len : ℕ) (stubs : List Stub)
    → MayLink memory from len
    → linking memory entries from len ≡ Ok stubs
    → IsSound (linked_memory memory stubs)
