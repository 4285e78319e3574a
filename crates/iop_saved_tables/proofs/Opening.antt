-- Whether the kernel's block has come.
use Rattle.std.proofs.Common.{◌≡◌, Bool, true, false, cond, Option, Some, None, List, [], ◌∷◌, refl, sym, ap}
use Rattle.std.specs.Prelude.{option_map, option_and_then}
use Rattle.std.proofs.lemmas.Option.{same_Some}
use Rattle.iop_sysmem.specs.BlockMap.{BlockMap}
use Rattle.iop_sysmem.specs.declared.block.Block.{Block}
use Rattle.iop_snapshot.specs.Putting.{put_all}
use Rattle.iop_saved_tables.specs.Tables.{Opened, is_kernels, with_map, put_block, put_used, unopened}

-- the kernel's block has come, and the map is this
abbrev pub came : BlockMap → Opened
came map = record { has_kernel = true; map = map }

-- once it has, it has, and the others are put back into the map
pub comes_behind : (map : BlockMap) (left : Opened) (xs : List Block)
    → put_all put_used (came map) xs ≡ Some left
    → (now : BlockMap) × (put_all put_block map xs ≡ Some now) × (left ≡ came now)
comes_behind map left [] e = (map, refl, sym (same_Some (came map) left e))
comes_behind map left (x ∷ xs) e = by (put_block map x) (λ next. comes_behind next left xs) e
  where
    by : (p : Option BlockMap)
        → ((next : BlockMap) → put_all put_used (came next) xs ≡ Some left
        → (now : BlockMap) × (put_all put_block next xs ≡ Some now) × (left ≡ came now))
        → option_and_then (λ l. put_all put_used l xs) (option_map (with_map (came map)) p)
        ≡ Some left
        → (now : BlockMap) × (option_and_then (λ m. put_all put_block m xs) p ≡ Some now)
        × (left ≡ came now)
    by None later e = absurd cc
    by (Some next) later e = later next e

-- where it has not, nothing has
pub none_came : (map : BlockMap) (xs : List Block) (left : Opened)
    → put_all put_used (unopened map) xs ≡ Some left → left.has_kernel ≡ false → xs ≡ []
none_came map [] left e none = refl
none_came map (x ∷ xs) left e none = by (is_kernels x) e
  where
    by : (b : Bool)
        → option_and_then (λ l. put_all put_used l xs)
        (cond b (Some (came map)) None) ≡ Some left
        → x ∷ xs ≡ []
    by true e =
        let (now, put, is) = comes_behind map left xs e in
        let has : left.has_kernel ≡ true = ap (λ (l : Opened). l.has_kernel) is in absurd cc
    by false e = absurd cc
