-- How a library is put back behind the others. That there is room for it, that none has its name
-- and its major version, and that its table is a place, is what holds of every registry.
use Rattle.std.specs.Prelude.{◌%◌, ◌^◌, ◌==◌, nat_lt, Bool, ◌&&◌, not, if◌then◌else◌, is_some, Option, Some, None, List, [], ◌∷◌, ◌++◌, length, find}
use Rattle.iop_registry.specs.Entries.{is_library}
use Rattle.iop_registry.specs.declared.registry.Entry.{Entry}
use Rattle.iop_registry.specs.declared.registry.TheConstants.{MOST_LIBRARIES}

-- whether a table is a physical place, a multiple of 4
abbrev pub has_place : Entry → Bool
has_place entry = nat_lt entry.table (2 ^ 29) && entry.table % 4 == 0

-- whether a library may stand behind all others
abbrev pub may_follow : List Entry → Entry → Bool
may_follow entries entry =
    has_place entry && nat_lt (length entries) MOST_LIBRARIES
    && not (is_some (find (is_library entry.name entry.major) entries))

-- it stands there
abbrev pub with_last : List Entry → Entry → List Entry
with_last entries entry = entries ++ entry ∷ []

-- the registry with all of these put back in their order. None where one is refused
abbrev pub with_all : List Entry → List Entry → Option (List Entry)
with_all entries [] = Some entries
with_all entries (entry ∷ later) =
    if may_follow entries entry then with_all (with_last entries entry) later else None
