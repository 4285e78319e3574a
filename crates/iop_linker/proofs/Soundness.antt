-- The memory that a successful linking leaves is sound, and its base is as it was.
use Rattle.std.proofs.Common.{◌≡◌, ℕ, ◌+◌, ◌-◌, ◌≤◌, Bool, true, false, cond, nat_le, Option, Some, None, Result, Ok, Err, List, [], ◌∷◌, length, take, drop, refl, ap, sym, ◌∙◌, arith, subst}
use Rattle.std.specs.List.{All}
use Rattle.std.proofs.lemmas.Bool.{leb-true}
use Rattle.iop_base.specs.declared.words.TheConstants.{STUB_INDEX}
use Rattle.iop_base.specs.Numbers.{IsByte, bytes_of}
use Rattle.iop_base.proofs.Lists.{bytes_before, All-with_bytes, All-bytes_of}
use Rattle.iop_base.proofs.Memory.{length-with_bytes}
use Rattle.irx_tables.specs.Imports.{ImportTable, tables_of}
use Rattle.irx_tables.proofs.Following.{all_there}
use Rattle.iop_registry.specs.declared.registry.Entry.{Entry}
use Rattle.iop_stubs.specs.Stubs.{Memory}
use Rattle.iop_stubs.specs.Binding.{after_bind, jump_word, IsSound, MayBind}
use Rattle.iop_stubs.specs.Layers.{base_of}
use Rattle.iop_stubs.specs.declared.live_stub.Stub.{Stub}
use Rattle.iop_stubs.specs.declared.live_stub.TheConstants.Stub.{MOST_LIVE}
use Rattle.iop_stubs.proofs.Binding.{bind_sound, length-with_stub}
use Rattle.iop_stubs.proofs.LayersLemmas.{base_bound}
use Rattle.iop_linker.specs.Linking.{text_stubs, first_without_library, links, links_by, linked_memory, after_linking, HasNoLiveStub}
use Rattle.iop_linker.specs.Underway.{IsRestFree, IsNextStub}
use Rattle.iop_linker.specs.Laws.{MayLink}
use Rattle.iop_linker.specs.declared.link_fault.LinkFault.{LinkFault}
use Rattle.iop_linker.specs.declared.link_fault.LinkFault.TheVariants.{Room}
use Rattle.iop_linker.proofs.Ahead.{word_ahead, stub_ahead, drop_ahead}
use Rattle.iop_linker.proofs.Bound.{may_bind, bind_size, bind_ahead, bind_free, rest_free_on}
use Rattle.iop_linker.proofs.Standing.{StandBetween, between-le, by_tables}

-- what holds while stubs of a range are bound: the rest of it is as it was, and free
record IsOnWay (from len : ℕ) (old : List ℕ) (now : Memory) (scan : ℕ) : Type 0 where
  sound : IsSound now
  after : from ≤ scan
  inside : from + len ≤ length now.ram
  ahead : drop scan now.ram ≡ drop scan old
  free : IsRestFree from len scan now

module _ (from len : ℕ) (old : List ℕ) where
  -- the next stub, seen in memory as it stands now
  next_stub : (now : Memory) (scan : ℕ) (stub : Stub) (rest : List Stub)
      → IsOnWay from len old now scan → StandBetween old scan (from + len) (stub ∷ rest)
      → IsNextStub from len now stub.at
  next_stub now scan stub rest h between =
      let behind = between-le old (stub.at + 8) (from + len) rest between.2 in
      record {
        after = omega (arith, h.after, between.0);
        before = behind;
        inside = h.inside;
        aligned = between.1.aligned;
        stands = stub_ahead scan old now.ram h.ahead stub.at between.0 ∙ between.1.stands;
        free = rest_free_on from len scan stub.at now between.0 (omega (arith, behind)) h.free;
      }

  -- it may be bound, and the stubs behind it are still to come
  record IsStep (now : Memory) (stub : Stub) (rest : List Stub) : Type 0 where
    may : MayBind now stub
    later : IsOnWay from len old (after_bind now stub) (stub.at + 8)
    room : length (after_bind now stub).live + length rest ≤ MOST_LIVE

  next_step : (now : Memory) (scan : ℕ) (stub : Stub) (rest : List Stub)
      → IsOnWay from len old now scan → StandBetween old scan (from + len) (stub ∷ rest)
      → length now.live + length (stub ∷ rest) ≤ MOST_LIVE → IsStep now stub rest
  next_step now scan stub rest h between room =
      let next = next_stub now scan stub rest h between in
      let new : Memory = after_bind now stub in
      let index = between.1.index
      ∙ ap (λ (w : ℕ). w - STUB_INDEX)
      (sym (word_ahead scan old now.ram h.ahead (stub.at + 4)
      (omega (arith, between.0)))) in
      let may = may_bind from len now stub next index between.1.target_aligned between.1.target_near
      (omega arith) in
      record {
        may = may;
        later = record {
          sound = bind_sound now new.ram new.live stub refl refl may h.sound;
          after = omega (arith, next.after);
          inside = omega (arith, h.inside, bind_size from len now stub next);
          ahead = bind_ahead from len now stub next
              ∙ drop_ahead scan old now.ram h.ahead (stub.at + 8) (omega (arith, between.0));
          free = bind_free from len now stub next;
        };
        room = omega (arith, length-with_stub stub now.live, room);
      }

  stays_sound : (now : Memory) (scan : ℕ) (stubs : List Stub) → IsOnWay from len old now scan
      → StandBetween old scan (from + len) stubs → length now.live + length stubs ≤ MOST_LIVE
      → IsSound (linked_memory now stubs)
  stays_sound now scan [] h between room = h.sound
  stays_sound now scan (stub ∷ stubs) h between room =
      let step = next_step now scan stub stubs h between room in
      stays_sound (after_bind now stub) (stub.at + 8) stubs step.later between.2 step.room

  -- base stays as it is
  stays_based : (now : Memory) (scan : ℕ) (stubs : List Stub) → All IsByte now.ram
      → IsOnWay from len old now scan → StandBetween old scan (from + len) stubs
      → length now.live + length stubs ≤ MOST_LIVE
      → base_of (linked_memory now stubs) ≡ base_of now
  stays_based now scan [] bytes h between room = refl
  stays_based now scan (stub ∷ stubs) bytes h between room =
      let step = next_step now scan stub stubs h between room in
      let jump = jump_word stub.target in
      let new_bytes = All-with_bytes now.ram stub.at (bytes_of 4 jump) bytes
      (All-bytes_of 4 jump) in
      stays_based (after_bind now stub) (stub.at + 8) stubs new_bytes step.later between.2 step.room
      ∙ base_bound now h.sound stub bytes step.may

-- a linking that is not refused gives the stubs of the text, and there is room for them
fits_by : (b : Bool) (live : ℕ) (all stubs : List Stub) → nat_le (live + length all) MOST_LIVE ≡ b
    → cond b (Ok all) (Err Room) ≡ Ok stubs → (all ≡ stubs) × (live + length all ≤ MOST_LIVE)
fits_by true live all stubs e given = (cc, leb-true _ _ e)
fits_by false live all stubs e given = absurd (cc)

links_given : (bad : Option ℕ) (without : Option ImportTable) (live : ℕ) (all stubs : List Stub)
    → links_by bad without live all ≡ Ok stubs
    → (all ≡ stubs) × (live + length all ≤ MOST_LIVE)
links_given (Some at) without live all stubs e = absurd (cc)
links_given None (Some table) live all stubs e = absurd (cc)
links_given None None live all stubs e =
    fits_by (nat_le (live + length all) MOST_LIVE) live all stubs refl e

-- before the first stub of a linking that is not refused
record IsBegun (memory : Memory) (from len : ℕ) (stubs : List Stub) : Type 0 where
  way : IsOnWay from len memory.ram memory from
  between : StandBetween memory.ram from (from + len) stubs
  room : length memory.live + length stubs ≤ MOST_LIVE

module _ (memory : Memory) (entries : List Entry) (from len : ℕ) (stubs : List Stub)
    (h : MayLink memory from len)
    (e : links memory.ram entries (length memory.live) from len ≡ Ok stubs) where
  linking_begun : IsBegun memory from len stubs
  unfolding links
  linking_begun =
      let tables = tables_of memory.ram from len in
      let all : List Stub = text_stubs memory.ram entries from len in
      let given = links_given tables.bad (first_without_library entries tables.whole)
      (length memory.live) all stubs e in
      let rest : from + len - from ≡ len = omega arith in
      let begun : IsBegun memory from len all = record {
        way = record {
          sound = h.sound;
          after = omega arith;
          inside = h.inside;
          ahead = refl;
          free = subst (λ (n : ℕ). HasNoLiveStub memory from n) (sym rest) h.apart;
        };
        between = by_tables memory.ram entries (from + len) from tables.whole tables.bad h.inside
            (omega arith) (all_there memory.ram from len h.aligned);
        room = given.1;
      } in
      subst (λ (xs : List Stub). IsBegun memory from len xs) given.0 begun

  pub linking_sound : IsSound (linked_memory memory stubs)
  linking_sound =
      let begun = linking_begun in
      stays_sound from len memory.ram memory from stubs begun.way begun.between begun.room

  pub linking_based : All IsByte memory.ram → base_of (linked_memory memory stubs) ≡ base_of memory
  linking_based bytes =
      let begun = linking_begun in
      stays_based from len memory.ram memory from stubs bytes begun.way begun.between begun.room

-- what lies before the linked range stays, and so does the size of memory
pub record KeepsBelow (from : ℕ) (old new : List ℕ) : Type 0 where
  pub size : length new ≡ length old
  pub bytes : (q n : ℕ) → q + n ≤ from → take n (drop q new) ≡ take n (drop q old)

keeps_below : (from : ℕ) (old : List ℕ) (now : Memory) (low high : ℕ) (stubs : List Stub)
    → from ≤ low → high ≤ length now.ram → StandBetween old low high stubs
    → KeepsBelow from now.ram (linked_memory now stubs).ram
keeps_below from old now low high [] after inside h =
    record { size = refl; bytes = λ q n before. refl }
keeps_below from old now low high (stub ∷ stubs) after inside h =
    let new : Memory = after_bind now stub in
    let word = bytes_of 4 (jump_word stub.target) in
    let fits : stub.at + length word ≤ length now.ram =
    omega (arith, between-le old (stub.at + 8) high stubs h.2) in
    let size : length new.ram ≡ length now.ram = length-with_bytes now.ram stub.at word fits in
    let rest = keeps_below from old new (stub.at + 8) high stubs (omega (arith, h.0))
    (omega (arith, size)) h.2 in
    record {
      size = rest.size ∙ size;
      bytes = λ q n before. rest.bytes q n before
          ∙ bytes_before now.ram stub.at word fits q n (omega (arith, h.0));
    }

pub linking_keeps_below : (memory : Memory) (entries : List Entry) (from len : ℕ)
    (stubs : List Stub)
    → MayLink memory from len → links memory.ram entries (length memory.live) from len ≡ Ok stubs
    → KeepsBelow from memory.ram (linked_memory memory stubs).ram
linking_keeps_below memory entries from len stubs h e =
    keeps_below from memory.ram memory from (from + len) stubs (omega arith) h.inside
    (linking_begun memory entries from len stubs h e).between

-- also of a linking that is refused
pub based_by : (memory : Memory) (entries : List Entry) (from len : ℕ)
    (outcome : Result (List Stub) LinkFault) → MayLink memory from len → All IsByte memory.ram
    → links memory.ram entries (length memory.live) from len ≡ outcome
    → base_of (after_linking memory outcome) ≡ base_of memory
based_by memory entries from len (Ok stubs) h bytes e =
    linking_based memory entries from len stubs h e bytes
based_by memory entries from len (Err fault) h bytes e = refl
