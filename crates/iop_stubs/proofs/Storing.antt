-- What a store leaves as it was: the words of the stubs that it does not meet.
use Rattle.std.proofs.Common.{◌≡◌, ℕ, ◌+◌, ◌≤◌, Bool, true, false, not, List, length, take, drop, get_or, min, max, nat_le, nat_lt, refl, ap, sym, ◌∙◌, arith, subst}
use Rattle.std.specs.List.{All}
use Rattle.std.proofs.lemmas.List.{nil_from_length}
use Rattle.std.proofs.lemmas.List.Elements.{All-filter, filter_passes}
use Rattle.std.proofs.lemmas.List.Kept.{AllPairs-filter}
use Rattle.std.proofs.lemmas.List.Sums.{length-filter, count_by-le-length}
use Rattle.std.proofs.lemmas.Bool.{leb-true, leb-false, ltb-false}
use Rattle.iop_base.specs.Numbers.{number_at, with_bytes}
use Rattle.iop_base.specs.Places.{IsRamSize}
use Rattle.iop_base.proofs.Lists.{number_at_behind, bytes_before, bytes_behind, with_bytes-none, number_at-word}
use Rattle.iop_base.proofs.Memory.{length-with_bytes, number_at_before}
use Rattle.iop_stubs.specs.Stubs.{Memory, meets, remaining_stubs}
use Rattle.iop_stubs.specs.Binding.{jump_word, IsBound, IsSound}
use Rattle.iop_stubs.specs.declared.live_stub.Stub.{Stub}

-- the two ranges lie apart, or the store has no byte
pub data Apart (at p len : ℕ) : Type 0 where
  before : at + 8 ≤ p → Apart at p len
  behind : p + len ≤ at → Apart at p len
  empty : len ≡ 0 → Apart at p len

apart_by : (at p len : ℕ) (b c : Bool) → nat_le (at + 8) p ≡ b → nat_le (p + len) at ≡ c →
    min (at + 8) (p + len) ≤ max at p → Apart at p len
apart_by at p len true c e f h = before (leb-true _ _ e)
apart_by at p len false true e f h = behind (leb-true _ _ f)
apart_by at p len false false e f h =
    empty (omega (arith, leb-false _ _ e, leb-false _ _ f))

pub apart : (at p len : ℕ) → nat_lt (max at p) (min (at + 8) (p + len)) ≡ false → Apart at p len
apart at p len e =
    apart_by at p len (nat_le (at + 8) p) (nat_le (p + len) at) refl refl (ltb-false _ _ e)

module _ (memory : List ℕ) (p : ℕ) (bytes : List ℕ) (inside : p + length bytes ≤ length memory)
  where
    -- a word of a stub that lies apart
    first_word_stays : (at : ℕ) → Apart at p (length bytes) →
        take 4 (drop at (with_bytes memory p bytes)) ≡ take 4 (drop at memory)
    first_word_stays at (before h) = bytes_before memory p bytes inside at 4 (omega arith)
    first_word_stays at (behind h) = bytes_behind memory p bytes inside at 4 (omega arith)
    first_word_stays at (empty h) =
        ap (λ none. take 4 (drop at (with_bytes memory p none))) (nil_from_length bytes h)
        ∙ ap (λ same. take 4 (drop at same)) (with_bytes-none memory p)

    word_stays : (at q : ℕ) → at ≤ q → q + 4 ≤ at + 8 → Apart at p (length bytes) →
        number_at (with_bytes memory p bytes) q 4 ≡ number_at memory q 4
    word_stays at q low high (before h) = number_at_before memory p bytes inside q 4 (omega arith)
    word_stays at q low high (behind h) = number_at_behind memory p bytes inside q 4 (omega arith)
    word_stays at q low high (empty h) =
        ap (λ none. number_at (with_bytes memory p none) q 4) (nil_from_length bytes h)
        ∙ ap (λ same. number_at same q 4) (with_bytes-none memory p)

    pub stays_bound : (stub : Stub) → Apart stub.at p (length bytes) → IsBound memory stub →
        IsBound (with_bytes memory p bytes) stub
    stays_bound stub e h = record {
      aligned = h.aligned;
      inside = omega (arith, h.inside, length-with_bytes memory p bytes inside);
      jump = first_word_stays stub.at e ∙ h.jump;
      index = word_stays stub.at (stub.at + 4) (omega arith) (omega arith) e ∙ h.index;
      index_small = h.index_small;
      target_aligned = h.target_aligned;
      target_near = h.target_near;
    }

not_true : (b : Bool) → not b ≡ true → b ≡ false
not_true true e = cc
not_true false e = refl

-- the word that is read at a live stub's place
pub number_at-live : (ram : List ℕ) (stub : Stub) → IsBound ram stub →
    number_at ram stub.at 4 ≡ jump_word stub.target
number_at-live ram stub h =
    number_at-word ram stub.at (jump_word stub.target) (omega (arith, h.target_near)) h.jump

-- the stubs that a store does not meet
pub remaining_apart : (p len : ℕ) (live : List Stub) →
    All (λ stub. Apart stub.at p len) (remaining_stubs p len live)
remaining_apart p len live k d below =
    let stub = get_or (remaining_stubs p len live) k d in
    apart stub.at p len (not_true (meets p len stub)
    (filter_passes (λ s. not (meets p len s)) live k d below))

-- what a store leaves is sound
pub store_sound : (old : Memory) (ram : List ℕ) (live : List Stub) (p len : ℕ) (bytes : List ℕ) →
    ram ≡ with_bytes old.ram p bytes → live ≡ remaining_stubs p len old.live → length bytes ≡ len →
    p + len ≤ length old.ram → IsSound old → IsSound (record { ram = ram; live = live })
store_sound old ram live p len bytes ram_is live_is len_is inside h =
    let test : Stub → Bool = λ stub. not (meets p len stub) in
    let fits : p + length bytes ≤ length old.ram = omega (arith, len_is, inside) in
    let all : All (IsBound (with_bytes old.ram p bytes)) (remaining_stubs p len old.live) =
    λ k d below.
    let stub = get_or (remaining_stubs p len old.live) k d in
    let far : Apart stub.at p len = remaining_apart p len old.live k d below in
    stays_bound old.ram p bytes fits stub (subst (Apart stub.at p) (sym len_is) far)
    (All-filter test (IsBound old.ram) old.live h.bound k d below) in
    let sound : IsSound (record
    { ram = with_bytes old.ram p bytes; live = remaining_stubs p len old.live }) = record {
      sized = subst IsRamSize (sym (length-with_bytes old.ram p bytes fits)) h.sized;
      few = omega (arith, length-filter test old.live, count_by-le-length test old.live, h.few);
      bound = all;
      apart = AllPairs-filter (λ first second. first.at + 8 ≤ second.at) test old.live h.apart;
    } in
    rw (ram_is, live_is) sound
