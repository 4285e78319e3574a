-- What was read and put back, seen by what stands there now.
use Rattle.std.proofs.Common.{◌≡◌, ℕ, true, false, Some, Result, Ok, Err, List, [], ◌∷◌, refl, sym, ap, subst, ◌∙◌, arith}
use Rattle.std.specs.Prelude.{MatchResult, IfOk}
use Rattle.std.proofs.lemmas.Option.{same_Some}
use Rattle.iop_kernel.specs.System.{Core}
use Rattle.iop_ready.specs.declared.entry.Entry.{Entry}
use Rattle.iop_registry.specs.declared.registry.Entry.{Entry as Library}
use Rattle.iop_saved_kernel.specs.Parts.{Parts, steady_form_of_parts, core_back, core_form}
use Rattle.iop_saved_kernel.specs.Restored.{HoldsCore}
use Rattle.iop_saved_kernel.specs.Restoring.{Restores}
use Rattle.iop_saved_kernel.specs.declared.kernel.RestoredKernel.{RestoredKernel}
use Rattle.iop_saved_tables.proofs.Opening.{came}
use Rattle.iop_saved_tables.proofs.Telling.{tables_tell}
use Rattle.iop_saved_tables.specs.Records.{library_form}
use Rattle.iop_saved_tables.specs.Tables.{Opened, put_library, put_used, unopened, used_form}
use Rattle.iop_snapshot.specs.Putting.{put_all, PutsAll}
use Rattle.iop_snapshot.specs.Reading.{GivesNone}
use Rattle.iop_snapshot.specs.declared.fault.SnapFault.{SnapFault}
use Rattle.iop_sysmem.specs.BlockMap.{BlockMap}
use Rattle.iop_sysmem.specs.declared.block.Block.{Block}
use Rattle.iop_saved_machine.specs.Back.{used_back, libraries_back}
use Rattle.iop_saved_machine.specs.Tables.{kernel_alone, libraries_form}

-- ---- the kernel

pub core_reads : {R : Type 0} (stands_for : R → List Entry → Type 0)
    (result : Result (RestoredKernel R) SnapFault) (before rest : List ℕ)
    → Restores steady_form_of_parts core_back (HoldsCore stands_for) result before rest
    → MatchResult result
    (λ made. (p : Parts) × (c : Core) × HoldsCore stands_for made c × (core_back p ≡ Some c)
    × (core_form.read before ≡ Some (p, rest)))
    (GivesNone (core_form.read before))
unfolding core_form
core_reads stands_for (Ok made) before rest h =
    (h.0, h.1, h.2, h.3.is_back, rw (h.3.is_read, h.3.is_back) refl)
core_reads stands_for (Err fault) before rest h = h

-- ---- the blocks

-- what restore_blocks says
abbrev pub PutsUsed : BlockMap → Result BlockMap SnapFault → (before rest : List ℕ) → Type 0
PutsUsed map result before rest =
    let read = (used_form map).read before in
    MatchResult result
    (λ now. (used : List Block) × (put_all put_used (unopened map) used ≡ Some (came now))
    × (read ≡ Some (used, rest)))
    (GivesNone read)

-- the map has the blocks that were put
pub used_now : (size : ℕ) (used : List Block) (now : BlockMap)
    → put_all put_used (unopened (kernel_alone size)) used ≡ Some (came now)
    → now ≡ record { size = size; used = used }
used_now size [] now put =
    let has : false ≡ true =
    ap (λ (o : Opened). o.has_kernel)
    (same_Some (unopened (kernel_alone size)) (came now) put) in
    absurd cc
used_now size (x ∷ xs) now put =
    tables_tell.blocks size (x ∷ xs) (came now) put (omega arith)

module _ (size : ℕ) (old : BlockMap) (same : old ≡ kernel_alone size) (before rest : List ℕ) where
  pub used_reads : (result : Result BlockMap SnapFault) → PutsUsed old result before rest
      → MatchResult result
      (λ made. (used_form (kernel_alone size)).read before ≡ Some (made.used, rest))
      (GivesNone ((used_form (kernel_alone size)).read before))
  used_reads result h =
      by result (subst (λ (map : BlockMap). PutsUsed map result before rest) same h)
    where
      by : (r : Result BlockMap SnapFault) → PutsUsed (kernel_alone size) r before rest
          → MatchResult r
          (λ made. (used_form (kernel_alone size)).read before ≡ Some (made.used, rest))
          (GivesNone ((used_form (kernel_alone size)).read before))
      by (Ok made) h =
          h.2 ∙ ap (λ (map : BlockMap). Some (map.used, rest)) (sym (used_now size h.0 made h.1))
      by (Err fault) h = h

  pub used_is_back : (result : Result BlockMap SnapFault) → PutsUsed old result before rest
      → IfOk result (λ made. used_back size made.used ≡ Some made)
  used_is_back result h =
      by result (subst (λ (map : BlockMap). PutsUsed map result before rest) same h)
    where
      by : (r : Result BlockMap SnapFault) → PutsUsed (kernel_alone size) r before rest
          → IfOk r (λ made. used_back size made.used ≡ Some made)
      by (Ok made) h =
          subst (λ (map : BlockMap). used_back size map.used ≡ Some made)
          (sym (used_now size h.0 made h.1)) (rw h.1 refl)
      by (Err fault) h = tt

-- ---- the libraries

abbrev pub PutsLibraries : List Library → Result (List Library) SnapFault → (before rest : List ℕ)
    → Type 0
PutsLibraries old result before rest = PutsAll put_library library_form old result before rest

module _ (old : List Library) (none : old ≡ []) (before rest : List ℕ) where
  pub libraries_read : (result : Result (List Library) SnapFault)
      → PutsLibraries old result before rest
      → MatchResult result (λ made. libraries_form.read before ≡ Some (made, rest))
      (GivesNone (libraries_form.read before))
  libraries_read result h =
      by result (subst (λ (l : List Library). PutsLibraries l result before rest) none h)
    where
      by : (r : Result (List Library) SnapFault) → PutsLibraries [] r before rest
          → MatchResult r (λ made. libraries_form.read before ≡ Some (made, rest))
          (GivesNone (libraries_form.read before))
      by (Ok made) h =
          h.2 ∙ ap (λ (l : List Library). Some (l, rest))
          (sym (tables_tell.libraries [] made h.0 h.1))
      by (Err fault) h = h

  pub libraries_are_back : (result : Result (List Library) SnapFault)
      → PutsLibraries old result before rest
      → IfOk result (λ made. libraries_back made ≡ Some made)
  libraries_are_back result h =
      by result (subst (λ (l : List Library). PutsLibraries l result before rest) none h)
    where
      by : (r : Result (List Library) SnapFault) → PutsLibraries [] r before rest
          → IfOk r (λ made. libraries_back made ≡ Some made)
      by (Ok made) h =
          subst (λ (l : List Library). libraries_back l ≡ Some made)
          (sym (tables_tell.libraries [] made h.0 h.1)) h.1
      by (Err fault) h = tt
