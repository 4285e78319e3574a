-- What a store and a binding keep of a guest's memory.
use Rattle.std.proofs.Common.{◌≡◌, ℕ, ◌+◌, ◌≤◌, List, length, ap, sym, ◌∙◌, subst, arith}
use Rattle.std.specs.List.{All}
use Rattle.iop_base.specs.Numbers.{IsByte, bytes_of, with_bytes}
use Rattle.iop_base.proofs.Lists.{All-with_bytes, All-bytes_of, length-bytes_of}
use Rattle.iop_base.proofs.Memory.{length-with_bytes}
use Rattle.iop_stubs.specs.Stubs.{Memory, remaining_stubs}
use Rattle.iop_stubs.specs.Binding.{jump_word, with_stub, after_bind, MayBind, IsGuestMemory}
use Rattle.iop_stubs.specs.declared.live_stub.Stub.{Stub}
use Rattle.iop_stubs.proofs.Binding.{bind_sound}
use Rattle.iop_stubs.proofs.Storing.{store_sound}

pub guest-store : (old : Memory) (ram : List ℕ) (live : List Stub) (p len : ℕ) (bytes : List ℕ)
    → ram ≡ with_bytes old.ram p bytes → live ≡ remaining_stubs p len old.live
    → length bytes ≡ len → p + len ≤ length old.ram → All IsByte bytes → IsGuestMemory old
    → IsGuestMemory (record { ram = ram; live = live })
guest-store old ram live p len bytes ram_is live_is len_is inside are_bytes h = record {
  sound = store_sound old ram live p len bytes ram_is live_is len_is inside h.sound;
  bytes =
      subst (All IsByte) (sym ram_is) (All-with_bytes old.ram p bytes h.bytes are_bytes);
}

pub guest-bind : (old : Memory) (ram : List ℕ) (live : List Stub) (stub : Stub)
    → ram ≡ (after_bind old stub).ram → live ≡ with_stub stub old.live → MayBind old stub
    → IsGuestMemory old → IsGuestMemory (record { ram = ram; live = live })
guest-bind old ram live stub ram_is live_is may h = record {
  sound = bind_sound old ram live stub ram_is live_is may h.sound;
  bytes =
      subst (All IsByte) (sym ram_is)
      (All-with_bytes old.ram stub.at (bytes_of 4 (jump_word stub.target)) h.bytes
      (All-bytes_of 4 (jump_word stub.target)));
}

-- a store leaves RAM as long as it was
pub stored_length : (old ram : List ℕ) (p len : ℕ) (bytes : List ℕ) → ram ≡ with_bytes old p bytes
    → length bytes ≡ len → p + len ≤ length old → length ram ≡ length old
stored_length old ram p len bytes ram_is len_is inside =
    ap length ram_is ∙ length-with_bytes old p bytes (omega (arith, len_is, inside))

-- and so does a binding
pub bound_length : (old : Memory) (ram : List ℕ) (stub : Stub) → ram ≡ (after_bind old stub).ram
    → MayBind old stub → length ram ≡ length old.ram
bound_length old ram stub ram_is may =
    stored_length old.ram ram stub.at 4 (bytes_of 4 (jump_word stub.target)) ram_is
    (length-bytes_of 4 (jump_word stub.target)) (omega (arith, may.inside))
