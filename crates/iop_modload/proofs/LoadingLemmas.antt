-- What a loading keeps, and what a refused one leaves.
use Rattle.std.proofs.Common.{◌≡◌, ◌⊎◌, inl, inr, ℕ, zero, suc, ◌+◌, ◌<◌, ◌≤◌, false, List, [], length, take, drop, refl, ap, sym, ◌∙◌, subst, arith}
use Rattle.std.specs.Prelude.{Result, Ok, Err, OnErr}
use Rattle.std.specs.List.{All}
use Rattle.iop_base.specs.declared.code.Code.{Code}
use Rattle.iop_base.proofs.Lists.{bytes_before, bytes_behind, bytes_inside}
use Rattle.iop_registry.specs.declared.registry.Entry.{Entry}
use Rattle.iop_sysmem.specs.Allocating.{allocating}
use Rattle.iop_sysmem.specs.BlockMap.{BlockMap}
use Rattle.iop_stubs.specs.Stubs.{Memory, meets, stub_lines, remaining_stubs}
use Rattle.iop_stubs.specs.declared.live_stub.Stub.{Stub}
use Rattle.iop_linker.specs.Linking.{linking, answer_of}
use Rattle.iop_linker.specs.Laws.{MayLink}
use Rattle.iop_linker.specs.declared.link_fault.LinkFault.{LinkFault}
use Rattle.irx_elf.specs.Parts.{Parts, IsSound}
use Rattle.iop_modload.specs.Laws.{HasBlocks, Keeps}
use Rattle.iop_modload.specs.Loading.{Loads, LeavesImage, LeavesRefused, with_image, links_it, loads_at, loads_parts, loads}
use Rattle.iop_modload.specs.Modules.{image_at, module_of_file}
use Rattle.iop_modload.proofs.Blocks.{AreStill}
use Rattle.iop_modload.proofs.Images.{length-image_at}
use Rattle.iop_modload.proofs.Keeping.{byte_from_take, keeps-nothing, keeps-store, keeps-linked}
use Rattle.iop_modload.proofs.Placed.{IsPlaced, placed, part_unmet, small}
use Rattle.iop_modload.proofs.Reading.{IsModule, is_module}

module _ (t : ℕ) (memory : Memory) (blocks : BlockMap) (libraries : List Entry)
    (h : HasBlocks memory blocks) where
  -- what the law says of a loading
  abbrev pub KeepsBy : Loads → Type 0
  KeepsBy l = Keeps t memory l.memory l.blocks l.bound l.pieces

  -- the same for what a refused one leaves
  abbrev pub LeavesBy : List ℕ → Loads → Type 0
  LeavesBy file l = OnErr l.answer ((l.blocks ≡ blocks)
      × LeavesRefused t file memory l.memory blocks l.pieces)

  module _ (parts : Parts) (is : IsSound parts) (taken : BlockMap) (base : ℕ)
      (long : length (image_at parts base) ≡ parts.length)
      (at : IsPlaced memory blocks taken parts.length base) where
    abbrev copied : Memory
    copied = with_image t memory blocks libraries parts base

    within : parts.info.text_size ≤ parts.length
    within = omega (arith, is.text_within, is.image_within)

    some : 0 < parts.length
    some = omega (arith, is.text, within)

    image_inside : base + length (image_at parts base) ≤ length memory.ram
    image_inside = omega (arith, at.inside, long)

    keeps-image : (after : BlockMap) → AreStill blocks after
        → Keeps t memory copied after [] (stub_lines t base parts.length memory.live)
    keeps-image after still =
        subst (λ (n : ℕ). Keeps t memory copied after [] (stub_lines t base n memory.live))
        long
        (keeps-store t memory after base (image_at parts base)
        (record {
          sound = h.sound;
          are_blocks = still.are_blocks;
          same_size = still.size ∙ h.same_size;
        }) at.behind_kernel image_inside)

    outside_bytes : (p : ℕ) → (p < base) ⊎ (base + parts.length ≤ p)
        → take 1 (drop p copied.ram) ≡ take 1 (drop p memory.ram)
    outside_bytes p (inl lt) =
        bytes_before memory.ram base (image_at parts base) image_inside p 1 (omega arith)
    outside_bytes p (inr le) =
        bytes_behind memory.ram base (image_at parts base) image_inside p 1
        (omega (arith, long))

    pub may_link : MayLink copied base parts.info.text_size
    may_link = record {
      sound = (keeps-image blocks (record { are_blocks = h.are_blocks; size = refl })).whole.sound;
      aligned = omega (arith, at.unit);
      inside = omega (
        arith,
        at.inside,
        within,
        (keeps-image blocks (record { are_blocks = h.are_blocks; size = refl })).size,
      );
      apart =
          subst (λ (n : ℕ).
          All (λ stub. meets base parts.info.text_size stub ≡ false)
          (remaining_stubs base n memory.live)) (sym long)
          (part_unmet base parts.length parts.info.text_size memory.live within some);
    }

    links_it-keeps : (r : Result (List Stub) LinkFault)
        → linking copied libraries base parts.info.text_size ≡ r
        → KeepsBy (links_it t memory blocks libraries parts base taken r)
    links_it-keeps (Ok stubs) e =
        keeps-linked t memory copied taken (stub_lines t base parts.length memory.live) libraries
        base parts.info.text_size stubs (keeps-image taken at.still) may_link at.behind_kernel e
    links_it-keeps (Err fault) e =
        keeps-image blocks (record { are_blocks = h.are_blocks; size = refl })

    leaves-image : LeavesImage t memory copied blocks parts (stub_lines t base parts.length memory.live)
    leaves-image = record {
      base = base;
      least = at.least;
      image = ap (λ (n : ℕ). take n (drop base copied.ram)) (sym long)
          ∙ bytes_inside memory.ram base (image_at parts base) image_inside;
      others = λ p outside. byte_from_take _ _ p (outside_bytes p outside);
      live = ap (λ (n : ℕ). remaining_stubs base n memory.live) long;
      lines = refl;
    }

    links_it-leaves : (file : List ℕ) → module_of_file file ≡ Ok parts
        → (r : Result (List Stub) LinkFault)
        → LeavesBy file (links_it t memory blocks libraries parts base taken r)
    links_it-leaves file e (Ok stubs) = tt
    links_it-leaves file e (Err fault) = (refl, inr (parts, e, leaves-image))

  taken_at : (parts : Parts) → IsModule parts → (n : ℕ)
      → (allocating blocks 0 parts.length 0).0 ≡ suc n
      → IsPlaced memory blocks (allocating blocks 0 parts.length 0).1 parts.length (suc n)
  taken_at parts is n e =
      let text : 4 ≤ parts.info.text_size = is.sound.text in
      subst (IsPlaced memory blocks (allocating blocks 0 parts.length 0).1 parts.length) e
      (placed memory blocks parts.length h.are_blocks h.same_size
      (omega (arith, h.same_size, small (length memory.ram) h.sound.sized))
      (omega (arith, is.sound.text_within, is.sound.image_within)) (omega arith))

  loads_at-keeps : (parts : Parts) → IsModule parts → (place : ℕ)
      → (allocating blocks 0 parts.length 0).0 ≡ place
      → KeepsBy (loads_at t memory blocks libraries parts
      (place, (allocating blocks 0 parts.length 0).1))
  loads_at-keeps parts is zero e = keeps-nothing t memory blocks h
  loads_at-keeps parts is (suc n) e =
      links_it-keeps parts is.sound (allocating blocks 0 parts.length 0).1 (suc n)
      (length-image_at parts (suc n) is) (taken_at parts is n e)
      (linking (with_image t memory blocks libraries parts (suc n)) libraries (suc n)
      parts.info.text_size) refl

  leaves-nothing : (file : List ℕ) → LeavesRefused t file memory memory blocks []
  leaves-nothing file = inl (refl, refl)

  loads_at-leaves : (file : List ℕ) (parts : Parts) → module_of_file file ≡ Ok parts → (place : ℕ)
      → (allocating blocks 0 parts.length 0).0 ≡ place
      → LeavesBy file (loads_at t memory blocks libraries parts
      (place, (allocating blocks 0 parts.length 0).1))
  loads_at-leaves file parts f zero e = (refl, leaves-nothing file)
  loads_at-leaves file parts f (suc n) e =
      let is = is_module file parts f in
      links_it-leaves parts is.sound (allocating blocks 0 parts.length 0).1 (suc n)
      (length-image_at parts (suc n) is) (taken_at parts is n e) file f
      (linking (with_image t memory blocks libraries parts (suc n)) libraries (suc n)
      parts.info.text_size)

  loads_parts-leaves : (r : Result Parts Code) (file : List ℕ) → module_of_file file ≡ r
      → LeavesBy file (loads_parts t memory blocks libraries r)
  loads_parts-leaves (Err code) file e = (refl, leaves-nothing file)
  loads_parts-leaves (Ok parts) file e = loads_at-leaves file parts e
      (allocating blocks 0 parts.length 0).0 refl

  pub loading_leaves : (file : List ℕ) → LeavesBy file (loads t memory blocks libraries file)
  unfolding loads
  loading_leaves file = loads_parts-leaves (module_of_file file) file refl

  loads_parts-keeps : (r : Result Parts Code) (file : List ℕ) → module_of_file file ≡ r
      → KeepsBy (loads_parts t memory blocks libraries r)
  loads_parts-keeps (Err code) file e = keeps-nothing t memory blocks h
  loads_parts-keeps (Ok parts) file e = loads_at-keeps parts (is_module file parts e)
      (allocating blocks 0 parts.length 0).0 refl

  pub loading_keeps : (file : List ℕ) → KeepsBy (loads t memory blocks libraries file)
  unfolding loads
  loading_keeps file = loads_parts-keeps (module_of_file file) file refl

-- a text that is not linked leaves the blocks
pub loads_at-refused : (t : ℕ) (memory : Memory) (blocks : BlockMap) (libraries : List Entry)
    (parts : Parts) (place : ℕ × BlockMap) (now : Memory) (base text : ℕ) (fault : LinkFault)
    → 0 < base → base ≡ place.0 → now ≡ with_image t memory blocks libraries parts base
    → text ≡ parts.info.text_size → Err fault ≡ answer_of (linking now libraries base text)
    → (loads_at t memory blocks libraries parts place).blocks ≡ blocks
loads_at-refused t memory blocks libraries parts (zero, taken) now base text fault some at is len e =
    absurd (omega arith)
loads_at-refused t memory blocks libraries parts (suc n, taken) now base text fault some at is len e =
    let copied : ℕ → Memory = with_image t memory blocks libraries parts in
    by (linking (copied (suc n)) libraries (suc n) parts.info.text_size)
    (e ∙ ap (λ (m : Memory). answer_of (linking m libraries base text)) is
    ∙ ap (λ (l : ℕ). answer_of (linking (copied base) libraries base l)) len
    ∙ ap (λ (b : ℕ). answer_of (linking (copied b) libraries b parts.info.text_size)) at)
  where
    by : (r : Result (List Stub) LinkFault) → Err fault ≡ answer_of r
        → (links_it t memory blocks libraries parts (suc n) taken r).blocks ≡ blocks
    by (Ok stubs) f = absurd (cc)
    by (Err other) f = refl

-- and so does a module for which there is no room
pub loads_at-nowhere : (t : ℕ) (memory : Memory) (blocks : BlockMap) (libraries : List Entry)
    (parts : Parts) (place : ℕ × BlockMap) → place.0 ≡ 0
    → (loads_at t memory blocks libraries parts place).blocks ≡ blocks
loads_at-nowhere t memory blocks libraries parts (zero, taken) e = refl
loads_at-nowhere t memory blocks libraries parts (suc n, taken) e = absurd (omega arith)

pub on_err-same : {T E P Q : Type 0} (r s : Result T E) → r ≡ s → (P → Q) → OnErr s P → OnErr r Q
on_err-same (Ok value) (Ok other) e weaker h = tt
on_err-same (Ok value) (Err error) e weaker h = tt
on_err-same (Err error) (Ok value) e weaker h = absurd (cc)
on_err-same (Err error) (Err other) e weaker h = weaker h
