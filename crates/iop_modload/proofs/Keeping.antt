-- What a store and a linking keep of memory.
use Rattle.std.proofs.Common.{◌≡◌, ◌⊎◌, inl, inr, ℕ, suc, ◌+◌, ◌≤◌, Bool, true, false, cond, not, Some, Ok, List, [], ◌∷◌, length, map, take, drop, get_or, refl, ap, sym, ◌∙◌, arith}
use Rattle.std.specs.List.{All, Contains}
use Rattle.std.proofs.lemmas.List.{get_or-take, get_or-drop}
use Rattle.std.proofs.lemmas.List.Elements.{All-cons, All-weaker, All-contains, All-contains_itself, All-filter}
use Rattle.iop_base.specs.Piece.{Piece}
use Rattle.iop_base.proofs.Lists.{bytes_before}
use Rattle.iop_base.proofs.Memory.{length-with_bytes}
use Rattle.iop_registry.specs.declared.registry.Entry.{Entry}
use Rattle.iop_sysmem.specs.BlockMap.{BlockMap}
use Rattle.iop_sysmem.specs.declared.blocks.TheConstants.{KERNEL}
use Rattle.iop_stubs.specs.Stubs.{Memory, meets, after_store, remaining_stubs, met_stubs, stub_line, stub_lines}
use Rattle.iop_stubs.specs.declared.live_stub.Stub.{Stub}
use Rattle.iop_stubs.proofs.Storing.{store_sound}
use Rattle.iop_linker.specs.Linking.{links, linked_memory}
use Rattle.iop_linker.specs.Laws.{MayLink}
use Rattle.iop_linker.proofs.Living.{all_live}
use Rattle.iop_linker.proofs.Soundness.{linking_sound, linking_keeps_below}
use Rattle.iop_modload.specs.Laws.{IsLiveOrTold, HasBlocks, Keeps}

pub in_tail : {X : Type 0} (first x : X) (rest : List X) → Contains rest x → Contains (first ∷ rest) x
in_tail first x rest h = (suc h.0, omega (arith, h.1), h.2)

in_head : {X : Type 0} (x : X) (rest : List X) → Contains (x ∷ rest) x
in_head x rest = (0, omega arith, refl)

-- bytes that are the same by themselves
pub byte_from_take : (a b : List ℕ) (p : ℕ) → take 1 (drop p a) ≡ take 1 (drop p b)
    → get_or a p 0 ≡ get_or b p 0
byte_from_take a b p e = sym (first a) ∙ ap (λ (l : List ℕ). get_or l 0 0) e ∙ first b
  where
    first : (l : List ℕ) → get_or (take 1 (drop p l)) 0 0 ≡ get_or l p 0
    first l =
        let place : p + 0 ≡ p = omega arith in
        get_or-take 1 (drop p l) 0 0 (omega arith) ∙ get_or-drop p l 0 0
        ∙ ap (λ (n : ℕ). get_or l n 0) place

-- each live stub lives after a store, or has its line
module _ (t p len : ℕ) where
  abbrev LivesOrTold : List Stub → List Stub → Stub → Type 0
  LivesOrTold live met stub = Contains live stub ⊎ Contains (map (stub_line t) met) (stub_line t stub)

  told_by : (b : Bool) (first : Stub) (rest : List Stub)
      → All (LivesOrTold (remaining_stubs p len rest) (met_stubs p len rest)) rest
      → All (LivesOrTold
      (cond (not b) (first ∷ remaining_stubs p len rest) (remaining_stubs p len rest))
      (cond b (first ∷ met_stubs p len rest) (met_stubs p len rest))) (first ∷ rest)
  told_by true first rest h =
      let live = remaining_stubs p len rest in
      let met = met_stubs p len rest in
      let line = map (stub_line t) met in
      let now = LivesOrTold live (first ∷ met) in
      let one : (stub : Stub) → LivesOrTold live met stub → now stub = λ stub h.
      elim h as (λ _. now stub) [
        | inl x ↦ inl x
        | inr x ↦ inr (in_tail (stub_line t first) (stub_line t stub) line x)
      ] in
      All-cons now first rest (inr (in_head (stub_line t first) line))
      (All-weaker (LivesOrTold live met) now one rest h)
  told_by false first rest h =
      let live = remaining_stubs p len rest in
      let met = met_stubs p len rest in
      let now = LivesOrTold (first ∷ live) met in
      let one : (stub : Stub) → LivesOrTold live met stub → now stub = λ stub h.
      elim h as (λ _. now stub) [
        | inl x ↦ inl (in_tail first stub live x)
        | inr x ↦ inr x
      ] in
      All-cons now first rest (inl (in_head first live))
      (All-weaker (LivesOrTold live met) now one rest h)

  ends_told : (live : List Stub)
      → All (LivesOrTold (remaining_stubs p len live) (met_stubs p len live)) live
  ends_told [] = λ k d below. absurd (omega arith)
  ends_told (first ∷ rest) = told_by (meets p len first) first rest (ends_told rest)

pub whole-same : (memory same : Memory) (blocks others : BlockMap) → HasBlocks memory blocks
    → same ≡ memory → others ≡ blocks → HasBlocks same others
whole-same memory same blocks others h e f = rw (e, f) h

pub keeps-nothing : (t : ℕ) (memory : Memory) (blocks : BlockMap) → HasBlocks memory blocks
    → Keeps t memory memory blocks [] []
keeps-nothing t memory blocks h = record {
  whole = h;
  size = refl;
  kernel = λ p lt. refl;
  others = λ k d below. inl (All-contains_itself memory.live k d below);
  were_live = λ k d below. inl (All-contains_itself memory.live k d below);
  were_bound = λ k d below. absurd (omega arith);
}

-- a store behind the kernel's block, with the blocks of memory after it
pub keeps-store : (t : ℕ) (memory : Memory) (blocks : BlockMap) (p : ℕ) (bytes : List ℕ)
    → HasBlocks memory blocks → KERNEL.size ≤ p → p + length bytes ≤ length memory.ram
    → Keeps t memory (after_store memory (Some p) bytes) blocks []
    (stub_lines t p (length bytes) memory.live)
keeps-store t memory blocks p bytes h behind inside =
    let size = length-with_bytes memory.ram p bytes inside in
    record {
      whole = record {
        sound = store_sound memory _ _ p (length bytes) bytes refl refl refl inside h.sound;
        are_blocks = h.are_blocks;
        same_size = h.same_size ∙ sym size;
      };
      size = size;
      kernel = λ q lt. byte_from_take _ _ q
          (bytes_before memory.ram p bytes inside q 1 (omega arith));
      others = λ k d below. inl
          (All-filter (λ s. not (meets p (length bytes) s)) (Contains memory.live) memory.live
          (All-contains_itself memory.live) k d below);
      were_live = ends_told t p (length bytes) memory.live;
      were_bound = λ k d below. absurd (omega arith);
    }

-- a linking after that
pub keeps-linked : (t : ℕ) (old memory : Memory) (blocks : BlockMap) (pieces : List Piece)
    (libraries : List Entry) (from len : ℕ) (stubs : List Stub)
    → Keeps t old memory blocks [] pieces → MayLink memory from len → KERNEL.size ≤ from
    → links memory.ram libraries (length memory.live) from len ≡ Ok stubs
    → Keeps t old (linked_memory memory stubs) blocks stubs pieces
keeps-linked t old memory blocks pieces libraries from len stubs h may behind e =
    let below = linking_keeps_below memory libraries from len stubs may e in
    let live = all_live memory stubs in
    let new = linked_memory memory stubs in
    let Other : Stub → Type 0 = λ stub. Contains old.live stub ⊎ Contains stubs stub in
    let was : (stub : Stub) → Contains old.live stub ⊎ Contains [] stub → Other stub = λ stub o.
    elim o as (λ _. Other stub) [ inl x ↦ inl x | inr x ↦ absurd (omega (arith, x.1)) ] in
    let other : (stub : Stub) → Contains stubs stub ⊎ Contains memory.live stub → Other stub =
    λ stub o. elim o as (λ _. Other stub) [
      | inl x ↦ inr x
      | inr x ↦ was stub (All-contains (λ s. Contains old.live s ⊎ Contains [] s) memory.live stub
          h.others x)
    ] in
    let told : (stub : Stub) → IsLiveOrTold t memory pieces stub → IsLiveOrTold t new pieces stub =
    λ stub o. elim o as (λ _. IsLiveOrTold t new pieces stub) [
      | inl x ↦ inl (All-contains (Contains new.live) memory.live stub live.old x)
      | inr x ↦ inr x
    ] in
    record {
      whole = record {
        sound = linking_sound memory libraries from len stubs may e;
        are_blocks = h.whole.are_blocks;
        same_size = h.whole.same_size ∙ sym below.size;
      };
      size = below.size ∙ h.size;
      kernel = λ p lt. byte_from_take _ _ p (below.bytes p 1 (omega arith)) ∙ h.kernel p lt;
      others = λ k d lt. other (get_or new.live k d) (live.others k d lt);
      were_live = λ k d lt. told (get_or old.live k d) (h.were_live k d lt);
      were_bound = λ k d lt. inl (live.new k d lt);
    }
