-- Tables that were put back are as they can be put back.
use Rattle.std.proofs.Common.{◌≡◌, ℕ, zero, suc, ◌^◌, ◌%◌, ◌<◌, ◌≤◌, Bool, true, false, if◌then◌else◌, Option, Some, None, List, [], ◌∷◌, ◌++◌, length, get_or, refl, sym, ap, subst, ◌∙◌, arith, inl, inr}
use Rattle.std.specs.Prelude.{All, option_map, option_and_then}
use Rattle.std.specs.List.{list_all}
use Rattle.std.proofs.lemmas.Bool.{and_parts, ltb-true}
use Rattle.std.proofs.lemmas.List.{get_or-append_right, length-append}
use Rattle.std.proofs.lemmas.List.Elements.{All-nil, All-head, All-tail, All-weaker}
use Rattle.std.proofs.lemmas.List.Sums.{AllPass-from_list_all}
use Rattle.std.proofs.lemmas.Option.{same_Some, cond_some}
use Rattle.iop_base.specs.Numbers.{IsByte}
use Rattle.iop_base.specs.Places.{IsRamSize}
use Rattle.iop_base.specs.declared.blocks.TheConstants.{BLOCK_UNIT}
use Rattle.iop_registry.proofs.PuttingBack.{one_behind}
use Rattle.iop_registry.specs.Entries.{IsTable, IsRegistry}
use Rattle.iop_registry.specs.Restoring as registry
use Rattle.iop_registry.specs.declared.registry.Entry.{Entry}
use Rattle.iop_saved_script.specs.Forms.{list_of}
use Rattle.iop_saved_tables.proofs.Opening.{came}
use Rattle.iop_saved_tables.specs.Records.{stub_numbers, stub_form}
use Rattle.iop_saved_tables.specs.Tables.{is_kernels, put_block, put_used}
use Rattle.iop_snapshot.proofs.Combining.{then_some}
use Rattle.iop_snapshot.proofs.Numbers.{fits_at, fits_long}
use Rattle.iop_snapshot.proofs.Saving.{plain_fits}
use Rattle.iop_snapshot.specs.Forms.{item, fits_items, fits_list}
use Rattle.iop_snapshot.specs.Items.{fits_item}
use Rattle.iop_snapshot.specs.Putting.{put_all}
use Rattle.iop_snapshot.specs.declared.widths.TheConstants.{COUNT, STUB}
use Rattle.iop_stubs.proofs.PuttingBack.{follows, last_sound}
use Rattle.iop_stubs.specs.Binding.{IsBound, IsGuestMemory}
use Rattle.iop_stubs.specs.Restoring.{stub_may_follow, with_last_stub}
use Rattle.iop_stubs.specs.Stubs.{Memory}
use Rattle.iop_stubs.specs.declared.live_stub.Stub.{Stub}
use Rattle.iop_sysmem.proofs.PuttingBack.{put_back-blocks}
use Rattle.iop_sysmem.specs.BlockMap.{BlockMap, AreBlocks, IsBlockSize, block_of, end_of}
use Rattle.iop_sysmem.specs.Restoring as blocks
use Rattle.iop_sysmem.specs.declared.block.Block.{Block}
use Rattle.iop_sysmem.specs.declared.blocks.TheConstants.{KERNEL}
use Rattle.iop_saved_machine.specs.Back.{if_opened, used_back, libraries_back, bare, stubs_back}
use Rattle.iop_saved_machine.specs.Parts.{is_byte}
use Rattle.iop_saved_machine.specs.Tables.{kernel_alone}
use Rattle.iop_saved_machine.proofs.ComingBack.{behind_kernels}

-- what a value that is put last keeps, all that are put one by one keep
module _ {T X : Type 0} (may : T → X → Bool) (with_last : T → X → T) (P : T → Type 0)
    (Q : X → Type 0)
    (keeps : (table : T) (x : X) → P table → Q x → may table x ≡ true → P (with_last table x))
  where
    abbrev put_if : T → X → Option T
    put_if table x = if may table x then Some (with_last table x) else None

    all_keep : (old new : T) (xs : List X) → P old → All Q xs → put_all put_if old xs ≡ Some new
        → P new
    all_keep old new [] h all is = subst P (same_Some old new is) h
    all_keep old new (x ∷ xs) h all is =
        let one = then_some (put_if old x) (λ left. put_all put_if left xs) new is in
        let put = cond_some (may old x) (with_last old x) one.0 one.1 in
        all_keep one.0 new xs (subst P put.1 (keeps old x h (All-head Q x xs all) put.0))
        (All-tail Q x xs all) one.2

-- ---- the blocks

-- those behind the kernel's were put back into the map
later_were : (size : ℕ) (used : List Block) (map : BlockMap) → used_back size used ≡ Some map
    → (later : List Block) × (put_all put_block (kernel_alone size) later ≡ Some map)
later_were size [] map e = absurd cc
later_were size (x ∷ xs) map e = (xs, by (is_kernels x) e)
  where
    last : (o : Option BlockMap) → option_and_then if_opened (option_map came o) ≡ Some map
        → o ≡ Some map
    last None e = absurd cc
    last (Some made) e = e

    by : (b : Bool)
        → option_and_then if_opened (option_and_then (λ o. put_all put_used o xs)
        (if b then Some (came (kernel_alone size)) else None)) ≡ Some map
        → put_all put_block (kernel_alone size) xs ≡ Some map
    by true e =
        last (put_all put_block (kernel_alone size) xs)
        (ap (option_and_then if_opened) (sym (behind_kernels (kernel_alone size) xs)) ∙ e)
    by false e = absurd cc

module _ (size : ℕ) (sized : IsRamSize size) where
  only : (P : Block → Type 0) → P KERNEL → (i : ℕ) → i < 1 → P (block_of (kernel_alone size) i)
  only P kernel zero below = kernel
  only P kernel (suc i) below = absurd (omega (arith, below))

  -- the kernel's block alone
  alone_is : AreBlocks (kernel_alone size)
  alone_is = record {
    some = omega arith;
    kernel = refl;
    starts = only (λ block. block.start % BLOCK_UNIT ≡ 0) refl;
    sizes = only (λ block. IsBlockSize block.size) (refl, omega arith);
    order = λ i j less below. absurd (omega (arith, less, below));
    inside = only (λ block. end_of block ≤ size)
        (elim sized [ inl e ↦ omega (arith, e) | inr e ↦ omega (arith, e) ]);
    sized = elim sized [
      | inl e ↦ ap (λ n. n % BLOCK_UNIT) e
      | inr e ↦ ap (λ n. n % BLOCK_UNIT) e
    ];
  }

  pub blocks_sound : (used : List Block) (map : BlockMap) → used_back size used ≡ Some map
      → AreBlocks map
  blocks_sound used map back =
      let (later, put) = later_were size used map back in
      all_keep blocks.may_follow blocks.with_last AreBlocks (λ _. Unit {0})
      (λ map block are u may. put_back-blocks map block are may) (kernel_alone size) map later
      alone_is (λ k d below. tt) put

-- ---- the libraries

none_registered : IsRegistry []
none_registered = record {
  few = omega arith;
  tables = All-nil (λ (entry : Entry). IsTable entry.table);
  distinct = λ i j d below inside. absurd (omega (arith, inside));
}

pub libraries_sound : (libraries new : List Entry) → libraries_back libraries ≡ Some new
    → IsRegistry new
libraries_sound libraries new put =
    all_keep registry.may_follow registry.with_last IsRegistry (λ _. Unit {0})
    (λ entries entry h u may. one_behind entries entry h may) [] new libraries none_registered
    (λ k d below. tt) put

-- ---- the stubs

-- a stub that has a spelling has an index with room in it
stub_small : (s : Stub) → stub_form.fits s ≡ true → s.index < 2 ^ 16
unfolding stub_form item
stub_small s fits =
    let behind = s.major ∷ s.index ∷ s.target ∷ [] in
    let long = fits_long STUB (stub_numbers s) fits in
    let eight : length s.name ≡ 8 = omega (arith, long, length-append s.name behind) in
    let index : get_or (s.name ++ behind) 9 0 ≡ s.index =
    get_or-append_right s.name behind 8 9 0 eight (omega arith) in
    omega (arith, index, fits_at STUB (stub_numbers s) 10 fits (omega arith))

stubs_small : (stubs : List Stub) → (list_of stub_form).fits stubs ≡ true
    → All (λ s. s.index < 2 ^ 16) stubs
unfolding fits_list
stubs_small stubs fits =
    let two =
    and_parts (fits_item COUNT (length stubs ∷ [])) (fits_items (λ _. stub_form) [] stubs) fits in
    All-weaker (λ s. stub_form.fits s ≡ true) (λ s. s.index < 2 ^ 16) stub_small stubs
    (AllPass-from_list_all stub_form.fits stubs (sym (plain_fits stub_form [] stubs) ∙ two.1))

-- RAM that has a spelling is bytes
ram_bytes : (ram : List ℕ) → list_all is_byte ram ≡ true → All IsByte ram
ram_bytes ram all =
    All-weaker (λ n. is_byte n ≡ true) IsByte (λ n. ltb-true n (2 ^ 8)) ram
    (AllPass-from_list_all is_byte ram all)

bare_sound : (ram : List ℕ) → IsRamSize (length ram) → All IsByte ram → IsGuestMemory (bare ram)
bare_sound ram sized bytes = record {
  sound = record {
    sized = sized;
    few = omega arith;
    bound = All-nil (IsBound ram);
    apart = λ i j d below inside. absurd (omega (arith, inside));
  };
  bytes = bytes;
}

pub memory_sound : (ram : List ℕ) (stubs : List Stub) (memory : Memory) → IsRamSize (length ram)
    → list_all is_byte ram ≡ true → (list_of stub_form).fits stubs ≡ true
    → stubs_back ram stubs ≡ Some memory → IsGuestMemory memory
memory_sound ram stubs memory sized all fits put =
    all_keep stub_may_follow with_last_stub IsGuestMemory (λ s. s.index < 2 ^ 16)
    (λ now stub h small may. record {
      sound = last_sound now stub (follows now stub may) small h.bytes h.sound;
      bytes = h.bytes;
    })
    (bare ram) memory stubs (bare_sound ram sized (ram_bytes ram all)) (stubs_small stubs fits) put
