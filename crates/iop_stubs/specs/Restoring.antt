-- How stubs that were live in one memory are put back into another of the same RAM, each behind
-- those that live there. It asks for what holds of every memory, and for nothing else.
use Rattle.std.specs.Prelude.{◌≡◌, ℕ, ◌+◌, ◌%◌, ◌^◌, ◌==◌, nat_le, nat_lt, Bool, ◌&&◌, if◌then◌else◌, Option, Some, None, List, [], ◌∷◌, ◌++◌, length}
use Rattle.std.specs.List.{list_all}
use Rattle.iop_base.specs.Numbers.{number_at}
use Rattle.iop_base.specs.declared.words.TheConstants.{STUB_INDEX}
use Rattle.iop_stubs.specs.Stubs.{Memory}
use Rattle.iop_stubs.specs.Binding.{jump_word, IsSound}
use Rattle.iop_stubs.specs.declared.live_stub.Stub.{Stub}
use Rattle.iop_stubs.specs.declared.live_stub.TheConstants.Stub.{SIZE, MOST_LIVE}

-- whether a stub ends at a place or before it
abbrev pub ends_by : ℕ → Stub → Bool
ends_by place stub = nat_le (stub.at + SIZE) place

-- whether one more stub can be live, and all end at a place or before it
abbrev pub has_room_behind : ℕ → List Stub → Bool
has_room_behind place live = nat_lt (length live) MOST_LIVE && list_all (ends_by place) live

-- whether its place and its target may be those of a stub in so many bytes of RAM
abbrev pub is_placed : ℕ → Stub → Bool
is_placed size stub =
    stub.at % 4 == 0 && ends_by size stub && stub.target % 4 == 0 && nat_lt stub.target (2 ^ 28)

-- whether its two words in RAM are the jump to its target and its index
abbrev pub is_bound : List ℕ → Stub → Bool
is_bound ram stub =
    is_placed (length ram) stub && number_at ram stub.at 4 == jump_word stub.target
    && number_at ram (stub.at + 4) 4 == STUB_INDEX + stub.index

-- whether a stub may live behind those that live in a memory
abbrev pub stub_may_follow : Memory → Stub → Bool
stub_may_follow memory stub =
    has_room_behind stub.at memory.live && is_bound memory.ram stub

-- the memory where this stub lives behind the others
abbrev pub with_last_stub : Memory → Stub → Memory
with_last_stub memory stub = record memory { live = memory.live ++ stub ∷ [] }

-- what putting each of them back leaves, one after the other; none where one is refused
abbrev pub stubs_put_back : Memory → List Stub → Option Memory
stubs_put_back memory [] = Some memory
stubs_put_back memory (stub ∷ rest) =
    if stub_may_follow memory stub then stubs_put_back (with_last_stub memory stub) rest else None

-- none of those that live in a memory is refused where none lives, and it is the same memory again
abbrev pub StubsComeBack : Type 0
StubsComeBack =
    (memory : Memory) → IsSound memory
    → stubs_put_back (record { ram = memory.ram; live = [] }) memory.live ≡ Some memory
