-- Where threads that wait are told what they waited for, at all times: a law of the services
-- (ps2sdk: thevent.h, thmsgbx.h).
use Rattle.std.specs.Prelude.{◌≡◌, ℕ, ⊤, true, is_some, All}
use Rattle.iop_objects.specs.Objects.{waiters_of}
use Rattle.iop_stubs.specs.Stubs.{Memory}
use Rattle.iop_thread.specs.declared.kind.Kind.{Kind}
use Rattle.iop_thread.specs.declared.kind.Kind.TheVariants.{Semaphore, EventFlag, Mailbox, VariablePool, FixedPool}
use Rattle.iop_kernel.specs.Boards.{optional_place}
use Rattle.iop_kernel.specs.Kinds.{Wants, Table, table}
use Rattle.iop_kernel.specs.System.{Kernel, words_place}

-- a pattern is written to a word of RAM, unless the address is 0, and a message always
abbrev pub HasPlace : (kind : Kind) → Memory → Wants kind → Type 0
HasPlace Semaphore memory wants = ⊤
HasPlace EventFlag memory wants = is_some (optional_place memory wants.place) ≡ true
HasPlace Mailbox memory at = is_some (words_place memory at 1) ≡ true
HasPlace VariablePool memory size = ⊤
HasPlace FixedPool memory wants = ⊤

-- each thread that waits for an object of a kind has such a place
abbrev pub HavePlacesFor : Memory → (kind : Kind) → Table kind → Type 0
HavePlacesFor memory kind s =
    (id : ℕ) → All (λ x. HasPlace kind memory x.item.wants) (waiters_of s id)

-- so it is of all kinds
abbrev pub HavePlaces : Memory → Kernel → Type 0
HavePlaces memory k = (kind : Kind) → HavePlacesFor memory kind (table kind k)
