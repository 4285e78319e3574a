-- Live stubs: import stubs whose first word was made a jump (ps2sdk's irx.h: a stub is the two
-- words 0x03E00008, jr $ra, and 0x24000000 + index, addiu $0, $0, index; MIPS I: j). That a store
-- into a stub ends its life and is told is this project's own profile.
use Rattle.std.specs.Prelude.{ℕ, ◌+◌, ◌==◌, nat_lt, min, max, Bool, ◌&&◌, not, Option, Some, None, List, [], length, filter, map}
use Rattle.std.specs.Str.{bytes_eq}
use Rattle.iop_base.specs.Numbers.{width_bytes, with_bytes}
use Rattle.iop_base.specs.Places.{access_at, range_at}
use Rattle.iop_base.specs.Piece.{Piece, Traced}
use Rattle.iop_base.specs.Text.{line_bytes}
use Rattle.iop_base.specs.declared.line.Line.TheVariants.{Stub as StubLine}
use Rattle.iop_base.specs.declared.width.Width.{Width}
use Rattle.iop_stubs.specs.declared.live_stub.Stub.{Stub}
use Rattle.iop_stubs.specs.declared.live_stub.TheConstants.Stub.{SIZE}

pub record Memory : Type 0 where
  -- the bytes of RAM as the guest reads them
  pub ram : List ℕ
  -- the live stubs in the order of their places
  pub live : List Stub

-- the physical place of an access of this width in a memory
abbrev pub access_place : Memory → ℕ → Width → Option ℕ
access_place memory at width = access_at (length memory.ram) at (width_bytes width)

-- the physical place of a range in a memory
abbrev pub range_place : Memory → ℕ → ℕ → Option ℕ
range_place memory at len = range_at (length memory.ram) at len

-- whether it is a stub of the library of this name and major version
abbrev pub is_of : List ℕ → ℕ → Stub → Bool
is_of name major stub = bytes_eq stub.name name && stub.major == major

abbrev pub stands_at : ℕ → Stub → Bool
stands_at place stub = stub.at == place

abbrev pub stands_before : ℕ → Stub → Bool
stands_before place stub = nat_lt stub.at place

abbrev pub stands_from : ℕ → Stub → Bool
stands_from place stub = not (stands_before place stub)

-- whether one of its 8 bytes lies in the range of `len` bytes from `place` on
abbrev pub meets : ℕ → ℕ → Stub → Bool
meets place len stub = nat_lt (max stub.at place) (min (stub.at + SIZE) (place + len))

-- the stubs that a store into the range meets
abbrev pub met_stubs : ℕ → ℕ → List Stub → List Stub
met_stubs place len live = filter (meets place len) live

-- the stubs that a store into the range does not meet
abbrev pub remaining_stubs : ℕ → ℕ → List Stub → List Stub
remaining_stubs place len live = filter (λ stub. not (meets place len stub)) live

-- the line that tells of a store into a stub
abbrev pub stub_line : ℕ → Stub → Piece
stub_line t stub = Traced (line_bytes t (StubLine stub.at))

-- a line for each stub that the range meets, in the order of their places
abbrev pub stub_lines : ℕ → ℕ → ℕ → List Stub → List Piece
stub_lines t place len live = map (stub_line t) (met_stubs place len live)

-- memory after these bytes were stored at a physical place; without a place nothing changes
abbrev pub after_store : Memory → Option ℕ → List ℕ → Memory
after_store memory None bytes = memory
after_store memory (Some place) bytes = record {
  ram = with_bytes memory.ram place bytes;
  live = remaining_stubs place (length bytes) memory.live;
}

-- the lines of a store of so many bytes at a physical place
abbrev pub store_lines : ℕ → Memory → Option ℕ → ℕ → List Piece
store_lines t memory None len = []
store_lines t memory (Some place) len = stub_lines t place len memory.live
