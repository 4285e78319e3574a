-- What the laws of memory say.
use Rattle.std.specs.Prelude.{◌≡◌, ℕ, ◌+◌, ◌≤◌, Option, Some, List, ◌++◌, length, IfSome}
use Rattle.iop_stubs.specs.Stubs.{Memory, after_store, store_lines}
use Rattle.iop_stubs.specs.Binding.{after_bind, MayBind, IsSound, IsGuestMemory}
use Rattle.iop_stubs.specs.Layers.{Layers, layers_of, memory_of, layers_after_store, layers_after_bind, AreSound}
use Rattle.iop_stubs.specs.declared.live_stub.Stub.{Stub}

-- sound, and of these layers
pub record IsMemoryOf (layers : Layers) (memory : Memory) : Type 0 where
  pub sound : IsSound memory
  pub same : layers_of memory ≡ layers

-- sound, and seen as this memory
pub record AreLayersOf (memory : Memory) (layers : Layers) : Type 0 where
  pub sound : AreSound layers
  pub same : memory_of layers ≡ memory

abbrev pub LayersAreSeen : Type 0
LayersAreSeen = (memory : Memory) → IsSound memory → AreLayersOf memory (layers_of memory)

abbrev pub LayersAreFound : Type 0
LayersAreFound = (layers : Layers) → AreSound layers → IsMemoryOf layers (memory_of layers)

abbrev pub StoresKeepLayers : Type 0
StoresKeepLayers = (memory : Memory) (place : Option ℕ) (bytes : List ℕ) →
    IsSound memory → IfSome place (λ p. p + length bytes ≤ length memory.ram) →
    IsMemoryOf (layers_after_store (layers_of memory) place bytes) (after_store memory place bytes)

abbrev pub BindingsKeepLayers : Type 0
BindingsKeepLayers =
    (memory : Memory) (stub : Stub) → IsGuestMemory memory → MayBind memory stub →
    IsMemoryOf (layers_after_bind (layers_of memory) stub) (after_bind memory stub)

-- the bytes in front are stored at a place, then those behind them, as one store of all of them
pub record IsOneStore (memory : Memory) (place : ℕ) (front back : List ℕ) : Type 0 where
  pub memory_is : after_store (after_store memory (Some place) front)
      (Some (place + length front)) back
      ≡ after_store memory (Some place) (front ++ back)
  pub lines : (t : ℕ) → store_lines t memory (Some place) (length front)
      ++ store_lines t (after_store memory (Some place) front) (Some (place + length front))
      (length back)
      ≡ store_lines t memory (Some place) (length (front ++ back))

abbrev pub StoresJoin : Type 0
StoresJoin = (memory : Memory) (place : ℕ) (front back : List ℕ) →
    IsSound memory → place + length (front ++ back) ≤ length memory.ram →
    IsOneStore memory place front back
