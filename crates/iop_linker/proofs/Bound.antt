-- One stub that is bound, and those of a table one after another.
use Rattle.std.proofs.Common.{◌≡◌, ℕ, suc, ◌+◌, ◌-◌, ◌*◌, ◌/◌, ◌%◌, ◌^◌, ◌<◌, ◌≤◌, min, max, true, false, Option, Some, None, List, [], ◌∷◌, ◌++◌, length, take, drop, map, get_or, refl, ap, sym, ◌∙◌, arith, subst}
use Rattle.std.specs.List.{filter_map, cons_option, slice_get}
use Rattle.std.proofs.lemmas.Bool.{ltb-false, le-ltb}
use Rattle.std.proofs.lemmas.List.{length-append, length-take-le}
use Rattle.std.proofs.lemmas.Slice.{drop-append-drop}
use Rattle.iop_base.specs.declared.words.TheConstants.{STUB_INDEX}
use Rattle.iop_base.specs.Numbers.{bytes_of, word_at}
use Rattle.iop_base.proofs.Memory.{length-with_bytes}
use Rattle.irx_tables.specs.Places.{places}
use Rattle.irx_tables.specs.Imports.{is_stub, stub_at}
use Rattle.irx_tables.specs.declared.words.TheConstants.{HEADER_BYTES}
use Rattle.irx_tables.proofs.Stubs.{stub_words}
use Rattle.irx_tables.specs.Results.{HasExtent}
use Rattle.irx_tables.specs.declared.import_tables.Import.{Import}
use Rattle.iop_stubs.specs.Stubs.{Memory, meets}
use Rattle.iop_stubs.specs.Binding.{jump_word, after_bind, MayBind}
use Rattle.iop_stubs.specs.declared.live_stub.Stub.{Stub}
use Rattle.iop_stubs.specs.declared.live_stub.TheConstants.Stub.{SIZE, MOST_LIVE}
use Rattle.iop_stubs.proofs.Binding.{length-with_stub, All-with_stub}
use Rattle.iop_linker.specs.Linking.{target_of, bound_stub, bound_stubs, linked_memory}
use Rattle.iop_linker.specs.Underway.{import_stubs, former_functions, table_stubs, stubs_at, HasRoom, IsRestFree, IsNextStub, StaysReadable, Binds}
use Rattle.iop_linker.proofs.Ahead.{drop_ahead, stub_at_ahead}
use Rattle.iop_linker.proofs.Former.{IsUnbound, former_functions_stay}

-- what does not meet a range meets no part of it
free_within : (p len q part : ℕ) (stub : Stub) → p ≤ q → q + part ≤ p + len
    → meets p len stub ≡ false → meets q part stub ≡ false
free_within p len q part stub low high far =
    le-ltb (max stub.at q) (min (stub.at + 8) (q + part)) (omega (arith, ltb-false _ _ far))

pub rest_free_on : (from len scan next : ℕ) (memory : Memory) → scan ≤ next → next ≤ from + len
    → IsRestFree from len scan memory → IsRestFree from len next memory
rest_free_on from len scan next memory le inside free = λ k d below.
    free_within scan (from + len - scan) next (from + len - next) (get_or memory.live k d) le
    (omega arith) (free k d below)

-- the low half of a stub's second word is its index
pub index_is : (ram read : List ℕ) (at : ℕ) {word : ℕ} → is_stub ram at ≡ true → read ≡ ram
    → word ≡ word_at read (at + 4) → word % 2 ^ 16 ≡ word_at ram (at + 4) - STUB_INDEX
index_is ram read at test same is =
    let h = stub_words ram at test in
    omega (arith, h.low, h.high, is, ap (λ m. word_at m (at + 4)) same)

module _ (from len : ℕ) (memory : Memory) (stub : Stub)
    (h : IsNextStub from len memory stub.at) where
  pub may_bind : stub.index ≡ word_at memory.ram (stub.at + 4) - STUB_INDEX → stub.target % 4 ≡ 0
      → stub.target < 2 ^ 28 → length memory.live < MOST_LIVE → MayBind memory stub
  unfolding word_at
  may_bind index target_aligned target_near room =
      let words = stub_words memory.ram stub.at h.stands in
      record {
        aligned = h.aligned;
        inside = omega (arith, h.before, h.inside);
        jump_back = words.jump;
        index = omega (arith, words.low, words.high, index);
        index_small = omega (arith, words.low, words.high, index);
        target_aligned = target_aligned;
        target_near = target_near;
        apart = λ k d below.
            free_within stub.at (from + len - stub.at) stub.at SIZE (get_or memory.live k d)
            (omega arith) (omega (arith, h.before)) (h.free k d below);
        room = room;
      }

  is_unbound : IsUnbound from len memory.ram stub.at
  is_unbound = record {
    low = h.after;
    high = omega (arith, h.before);
    aligned = h.aligned;
    inside = omega (arith, h.before, h.inside);
    jump = (stub_words memory.ram stub.at h.stands).jump;
  }

  pub bind_size : length (after_bind memory stub).ram ≡ length memory.ram
  bind_size =
      length-with_bytes memory.ram stub.at (bytes_of 4 (jump_word stub.target)) is_unbound.inside

  pub bind_ahead : drop (stub.at + SIZE) (after_bind memory stub).ram
      ≡ drop (stub.at + SIZE) memory.ram
  bind_ahead =
      let bytes = bytes_of 4 (jump_word stub.target) in
      let front : length (take stub.at memory.ram ++ bytes) ≡ stub.at + length bytes =
      length-append (take stub.at memory.ram) bytes
      ∙ ap (λ n. n + length bytes)
      (length-take-le stub.at memory.ram (omega (arith, is_unbound.inside))) in
      drop-append-drop (stub.at + length bytes) memory.ram (take stub.at memory.ram ++ bytes)
      (stub.at + SIZE) (omega arith) front

  bind_readable : StaysReadable from len (stub.at + SIZE) memory (after_bind memory stub)
  bind_readable = record {
    size = bind_size;
    ahead = bind_ahead;
    former = former_functions_stay from len memory stub is_unbound;
  }

  pub bind_free : IsRestFree from len (stub.at + SIZE) (after_bind memory stub)
  bind_free =
      All-with_stub stub
      (λ other. meets (stub.at + SIZE) (from + len - (stub.at + SIZE)) other ≡ false)
      memory.live
      (le-ltb (max stub.at (stub.at + SIZE))
      (min (stub.at + SIZE) (stub.at + SIZE + (from + len - (stub.at + SIZE)))) (omega arith))
      (rest_free_on from len stub.at (stub.at + SIZE) memory (omega arith) h.before h.free)

  -- to bind the stub is what linking does at its place
  pub bind_binds : (new : Memory) → new ≡ after_bind memory stub
      → Binds from len (stub.at + SIZE) memory new (stub ∷ [])
  bind_binds new e = record {
    memory = e;
    readable = subst (λ (m : Memory). StaysReadable from len (stub.at + SIZE) memory m)
        (sym e) bind_readable;
    free = subst (λ (m : Memory). IsRestFree from len (stub.at + SIZE) m) (sym e) bind_free;
  }

pub readable_then : (from len scan next : ℕ) (old now new : Memory) → scan ≤ next
    → StaysReadable from len scan old now → StaysReadable from len next now new
    → StaysReadable from len next old new
readable_then from len scan next old now new le first second = record {
  size = second.size ∙ first.size;
  ahead = second.ahead ∙ drop_ahead scan old.ram now.ram first.ahead next le;
  former = λ table even. second.former table even ∙ first.former table even;
}

pub readable_none : (from len scan : ℕ) (memory : Memory)
    → StaysReadable from len scan memory memory
readable_none from len scan memory =
    record { size = refl; ahead = refl; former = λ table even. refl }

-- where nothing is bound
pub rest_binds : (from len scan next : ℕ) (memory : Memory) → scan ≤ next → next ≤ from + len
    → IsRestFree from len scan memory → Binds from len next memory memory []
rest_binds from len scan next memory le inside free = record {
  memory = refl;
  readable = readable_none from len next memory;
  free = rest_free_on from len scan next memory le inside free;
}

-- one stub, if any, is bound before the rest
memory_step : (found : Option Stub) (rest : List Stub) (now new : Memory)
    → new ≡ linked_memory now (cons_option found [])
    → linked_memory new rest ≡ linked_memory now (cons_option found rest)
memory_step None rest now new e = ap (λ m. linked_memory m rest) e
memory_step (Some stub) rest now new e = ap (λ m. linked_memory m rest) e

room_step : (found : Option Stub) (rest : List Stub) (now new : Memory)
    → new ≡ linked_memory now (cons_option found [])
    → length now.live + length (cons_option found rest) ≤ MOST_LIVE
    → length new.live + length rest ≤ MOST_LIVE
room_step None rest now new e room = omega (arith, ap (λ (m : Memory). length m.live) e)
room_step (Some stub) rest now new e room =
    omega (arith, ap (λ (m : Memory). length m.live) e, length-with_stub stub now.live)

room_first : (found : Option Stub) (rest : List Stub) (n : ℕ)
    → n + length (cons_option found rest) ≤ MOST_LIVE
    → n + length (cons_option found []) ≤ MOST_LIVE
room_first None rest n room = omega arith
room_first (Some stub) rest n room = omega arith

-- the stubs of an import from its i-th on
abbrev pub later_stubs : List ℕ → Import → ℕ → List (ℕ × ℕ)
later_stubs ram import i =
    map (stub_at ram) (places 8 (import.at + HEADER_BYTES + 8 * i) (import.stubs - i))

pub later_next : (ram : List ℕ) (import : Import) (i : ℕ) → i < import.stubs
    → later_stubs ram import i
    ≡ stub_at ram (import.at + HEADER_BYTES + 8 * i) ∷ later_stubs ram import (i + 1)
later_next ram import i lt =
    let count : import.stubs - i ≡ suc (import.stubs - (i + 1)) = omega arith in
    let place : import.at + HEADER_BYTES + 8 * i + 8 ≡ import.at + HEADER_BYTES + 8 * (i + 1) =
    omega arith in
    ap (λ n. map (stub_at ram) (places 8 (import.at + HEADER_BYTES + 8 * i) n)) count
    ∙ ap (λ q. stub_at ram (import.at + HEADER_BYTES + 8 * i)
    ∷ map (stub_at ram) (places 8 q (import.stubs - (i + 1)))) place

pub later_none : (ram : List ℕ) (import : Import) (i : ℕ) → import.stubs ≤ i
    → later_stubs ram import i ≡ []
later_none ram import i le =
    let count : import.stubs - i ≡ 0 = omega arith in
    ap (λ n. map (stub_at ram) (places 8 (import.at + HEADER_BYTES + 8 * i) n)) count

-- the stubs of an import are bound up to its i-th
module _ (from len : ℕ) (import : Import) (table : ℕ) (old : Memory) where
  abbrev pub binds : ℕ × ℕ → Option Stub
  binds stub =
      bound_stub import.name (import.version / 256) (former_functions from len old table) stub

  abbrev pub place_of : ℕ → ℕ
  place_of i = import.at + HEADER_BYTES + 8 * i

pub record IsBinding (from len : ℕ) (import : Import) (table : ℕ) (old now : Memory)
    (i : ℕ) : Type 0 where
  pub left : linked_memory now
      (filter_map (binds from len import table old) (later_stubs old.ram import i))
      ≡ linked_memory old
      (filter_map (binds from len import table old) (import_stubs old.ram import))
  pub readable : StaysReadable from len (import.at + HEADER_BYTES + 8 * i) old now
  pub free : IsRestFree from len (import.at + HEADER_BYTES + 8 * i) now
  pub room : length now.live
      + length (filter_map (binds from len import table old) (later_stubs old.ram import i))
      ≤ MOST_LIVE

module _ (from len : ℕ) (import : Import) (table : ℕ) (old : Memory) where
  pub binding_last : (now : Memory) (i : ℕ) → import.stubs ≤ i
      → IsBinding from len import table old now i
      → now ≡ linked_memory old
      (filter_map (binds from len import table old) (import_stubs old.ram import))
  binding_last now i le h =
      sym (ap (λ stubs. linked_memory now (filter_map (binds from len import table old) stubs))
      (later_none old.ram import i le)) ∙ h.left

  -- where all stubs of the import were gone through
  pub binding_binds : (now : Memory) → HasExtent (from + len) import
      → IsBinding from len import table old now import.stubs
      → Binds from len import.end old now (table_stubs from len old import (Some table))
  binding_binds now extent h =
      let place : ℕ = import.at + HEADER_BYTES + 8 * import.stubs in
      let behind : place ≤ import.end = omega (arith, extent.extent) in
      record {
        memory = binding_last now import.stubs (omega arith) h;
        readable = readable_then from len place import.end old now now behind h.readable
            (readable_none from len import.end now);
        free = rest_free_on from len place import.end now behind extent.inside h.free;
      }

  module _ (now : Memory) (i : ℕ) (lt : i < import.stubs) (even : table % 4 ≡ 0)
      (h : IsBinding from len import table old now i) where
    abbrev here : ℕ
    here = import.at + HEADER_BYTES + 8 * i

    abbrev found : Option Stub
    found = binds from len import table old (stub_at old.ram here)

    abbrev rest : List Stub
    rest = filter_map (binds from len import table old) (later_stubs old.ram import (i + 1))

    rest_is : filter_map (binds from len import table old) (later_stubs old.ram import i)
        ≡ cons_option found rest
    rest_is = ap (filter_map (binds from len import table old)) (later_next old.ram import i lt)

    -- what is read here is what was read before
    one_is : stubs_at from len now import table here ≡ cons_option found []
    one_is =
        ap (λ words. bound_stubs import.name (import.version / 256) words
        (stub_at now.ram here ∷ [])) (h.readable.former table even)
        ∙ ap (λ stub. bound_stubs import.name (import.version / 256)
        (former_functions from len old table) (stub ∷ []))
        (stub_at_ahead here old.ram now.ram h.readable.ahead here (omega arith))

    pub room_here : HasRoom now (stubs_at from len now import table here)
    room_here =
        let first = room_first found rest (length now.live)
        (omega (arith, h.room, ap length rest_is)) in
        omega (arith, ap length one_is, first)

    pub binding_next : (new : Memory)
        → Binds from len (here + SIZE) now new (stubs_at from len now import table here)
        → IsBinding from len import table old new (i + 1)
    binding_next new binds =
        let e : new ≡ linked_memory now (cons_option found []) =
        binds.memory ∙ ap (linked_memory now) one_is in
        let next : here + SIZE ≡ import.at + HEADER_BYTES + 8 * (i + 1) = omega arith in
        record {
          left = memory_step found rest now new e ∙ sym (ap (linked_memory now) rest_is) ∙ h.left;
          readable = readable_then from len here
              (import.at + HEADER_BYTES + 8 * (i + 1)) old now new (omega arith) h.readable
              (subst (λ (q : ℕ). StaysReadable from len q now new) next binds.readable);
          free = subst (λ (q : ℕ). IsRestFree from len q new) next binds.free;
          room = room_step found rest now new e (omega (arith, h.room, ap length rest_is));
        }

-- a stub whose library has the function of its index is the one that is bound
pub bound_here : (ram name words : List ℕ) (version at : ℕ) {major index target word : ℕ}
    → major ≡ version / 256 → index ≡ word_at ram (at + 4) - STUB_INDEX
    → Some word ≡ slice_get words index → target ≡ target_of word
    → bound_stubs name (version / 256) words (stub_at ram at ∷ [])
    ≡ record { at = at; name = name; major = major; index = index; target = target } ∷ []
bound_here ram name words version at {major} {index} {target} {word} e f found g =
    let here : slice_get words (word_at ram (at + 4) - STUB_INDEX) ≡ Some word =
    ap (slice_get words) (sym f) ∙ sym found in
    rw (here, e, f, g) refl
