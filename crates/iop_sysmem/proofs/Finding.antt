-- The places that searches over the lists find are those that the modes take.
use Rattle.std.proofs.Common.{◌≡◌, ◌⊎◌, ◌+◌, ◌/◌, ◌%◌, ◌<◌, ◌≤◌, ℕ, zero, suc, nat_le, ◌==◌, Bool, true, false, if◌then◌else◌, ◌&&◌, MatchOption, Option, Some, None, length, refl, sym, ◌∙◌, ap, subst, arith}
use Rattle.std.specs.Prelude.{option_and_then}
use Rattle.std.specs.Bool.{Decides}
use Rattle.std.specs.List.{list_all}
use mathlib.Core.Logic.{inl, inr}
use Rattle.std.proofs.lemmas.Bool.{eqb-true, leb-true, le-leb}
use Rattle.std.proofs.lemmas.Bool.Decides.{Decides-and, Decides-or, Decides-by_and, Decides-eqb, Decides-like, not_from_Decides, nat_tests}
use Rattle.std.proofs.lemmas.List.Elements.{All-from_get_or}
use Rattle.iop_base.specs.BlockSizes.{block_len}
use Rattle.iop_base.specs.Places.{phys}
use Rattle.iop_sysmem.specs.BlockMap.{BlockMap, block_at, no_block, block_of, AreBlocks}
use Rattle.iop_sysmem.specs.Placing.{AreApart, IsFree, HasNoFree, IsLeastFree, IsGreatestFree, IsNamedFree, ModeTakes, ModeTakesNone, Allocates}
use Rattle.iop_sysmem.specs.Allocating.{is_apart, is_free, if_free, place_for, allocating_at, allocating}
use Rattle.iop_sysmem.specs.declared.block.Block.{Block}
use Rattle.iop_sysmem.proofs.Multiples.{Passes, least_found, greatest_found}
use Rattle.iop_sysmem.proofs.Changing.{taken_is_free, is_positive}

within : (a b : ℕ) → Decides (nat_le a b) (a ≤ b)
within a b = (leb-true a b, le-leb a b)

module _ (map : BlockMap) (len place : ℕ) where
  abbrev Apart : Block → Type 0
  Apart x = AreApart x (block_at place len)

  free_tells : Decides (is_free map len place)
      ((place + len ≤ map.size) × ((i : ℕ) → i < length map.used → Apart (block_of map i)))
  free_tells =
      Decides-and _ _ (within _ _) (Decides-like _ (λ all i h. all i no_block h)
      (All-from_get_or Apart map.used no_block)
      (Decides-by_and (is_apart place len) Apart (list_all (is_apart place len))
      (λ x. Decides-or _ _ (within _ _) (within _ _)) refl (λ _ _. refl) map.used))

module _ (map : BlockMap) (blocks : AreBlocks map) (len : ℕ) (some : 0 < len) where
  abbrev FreeStart : ℕ → Type 0
  FreeStart place = Passes (is_free map len) 0 (map.size / 256) place

  start_of_free : (place : ℕ) → IsFree map len place → FreeStart place
  start_of_free place free = record {
    unit = free.unit;
    low = omega arith;
    high = let fits = free.fits in let sized = blocks.sized in omega arith;
    pass = (free_tells map len place).1 (free.fits, free.apart);
  }

  free_of_start : (place : ℕ) → FreeStart place → IsFree map len place
  free_of_start place start =
      let tells = (free_tells map len place).0 start.pass in
      record { unit = start.unit; fits = tells.0; apart = tells.1 }

  least_of : (o : Option ℕ) →
      MatchOption o ((x : ℕ) → FreeStart x → ⊥)
      (λ x. FreeStart x × ((y : ℕ) → FreeStart y → x ≤ y)) →
      MatchOption o (HasNoFree map len) (IsLeastFree map len)
  least_of None none = λ x free. none x (start_of_free x free)
  least_of (Some x) least =
      (free_of_start x least.0, λ y free. least.1 y (start_of_free y free))

  greatest_of : (o : Option ℕ) →
      MatchOption o ((x : ℕ) → FreeStart x → ⊥)
      (λ x. FreeStart x × ((y : ℕ) → FreeStart y → y ≤ x)) →
      MatchOption o (HasNoFree map len) (IsGreatestFree map len)
  greatest_of None none = λ x free. none x (start_of_free x free)
  greatest_of (Some x) greatest =
      (free_of_start x greatest.0, λ y free. greatest.1 y (start_of_free y free))

  -- the first search finds the least free place
  pub least_free : MatchOption (place_for map 0 len 0) (HasNoFree map len) (IsLeastFree map len)
  least_free = least_of _ (least_found (is_free map len) 0 (map.size / 256))

  takes_none : (P : ℕ → Type 0) → ((x : ℕ) → P x → IsFree map len x) → (o : Option ℕ) →
      MatchOption o (HasNoFree map len) P → MatchOption o ((x : ℕ) → P x → ⊥) P
  takes_none P is_free None none = λ x p. none x (is_free x p)
  takes_none P is_free (Some x) p = p

  named_at : (at place : ℕ) → phys map.size at ≡ Some place → (b : Bool) →
      (place % 256 == 0 && is_free map len place) ≡ b →
      MatchOption (if b then Some place else None) ((x : ℕ) → IsNamedFree map len at x → ⊥)
      (IsNamedFree map len at)
  named_at at place e true t =
      let tells =
      (Decides-and _ _ (Decides-eqb (place % 256) 0) (free_tells map len place)).0 t in
      (e, record { unit = tells.0; fits = tells.1.0; apart = tells.1.1 })
  named_at at place e false t = λ x named.
      let same : Some x ≡ Some place = sym named.0 ∙ e in
      let here : IsFree map len place = subst (IsFree map len) (cc) named.1 in
      not_from_Decides _ (Decides-and _ _ (Decides-eqb (place % 256) 0) (free_tells map len place))
      t (here.unit, (here.fits, here.apart))

  named_of : (at : ℕ) (o : Option ℕ) → phys map.size at ≡ o →
      MatchOption (option_and_then (if_free map len) o)
      ((x : ℕ) → IsNamedFree map len at x → ⊥) (IsNamedFree map len at)
  named_of at None e = λ x named. let same : None ≡ Some x = sym e ∙ named.0 in absurd (cc)
  named_of at (Some place) e = named_at at place e _ refl

  -- the search takes the place that the mode takes
  pub place_for-takes : (mode at : ℕ) →
      MatchOption (place_for map mode len at) (ModeTakesNone map mode len at)
      (ModeTakes map mode len at)
  place_for-takes zero at = takes_none (IsLeastFree map len) (λ x least. least.0) _ least_free
  place_for-takes (suc zero) at =
      takes_none (IsGreatestFree map len) (λ x greatest. greatest.0) _
      (greatest_of _ (greatest_found (is_free map len) (map.size / 256)))
  place_for-takes (suc (suc zero)) at = named_of at (phys map.size at) refl
  place_for-takes (suc (suc (suc mode))) at = λ place h. h

-- a mode takes one place at most
takes_one : (map : BlockMap) (mode len at x y : ℕ) → ModeTakes map mode len at x →
    ModeTakes map mode len at y → x ≡ y
takes_one map zero len at x y g h =
    let low = g.1 y h.0 in let high = h.1 x g.0 in omega arith
takes_one map (suc zero) len at x y g h =
    let low = g.1 y h.0 in let high = h.1 x g.0 in omega arith
takes_one map (suc (suc zero)) len at x y g h = let same = sym g.0 ∙ h.0 in cc
takes_one map (suc (suc (suc mode))) len at x y g h = absurd g

takes_same : (map : BlockMap) (mode len at : ℕ) (o p : Option ℕ) →
    MatchOption o (ModeTakesNone map mode len at) (ModeTakes map mode len at) →
    MatchOption p (ModeTakesNone map mode len at) (ModeTakes map mode len at) → o ≡ p
takes_same map mode len at None None g h = refl
takes_same map mode len at None (Some y) g h = absurd (g y h)
takes_same map mode len at (Some x) None g h = absurd (h x g)
takes_same map mode len at (Some x) (Some y) g h = ap Some (takes_one map mode len at x y g h)

module _ (map : BlockMap) (blocks : AreBlocks map) (mode size at : ℕ) where
  abbrev Taken : Option ℕ → Type 0
  Taken o = MatchOption o (ModeTakesNone map mode (block_len size) at)
      (ModeTakes map mode (block_len size) at)

  allocating-zero : size ≡ 0 → allocating map mode size at ≡ (0, map)
  unfolding allocating
  allocating-zero e = rw e refl

  allocating-some : 0 < size → allocating map mode size at
      ≡ allocating_at map (block_len size) (place_for map mode (block_len size) at)
  unfolding allocating
  allocating-some some = let e : (size == 0) ≡ false = grind (arith, nat_tests) in rw e refl

  -- an allocation is by the place that the mode takes
  pub allocating-taken : 0 < size → (len : ℕ) → len ≡ block_len size → (o : Option ℕ) →
      MatchOption o (ModeTakesNone map mode len at) (ModeTakes map mode len at) →
      allocating map mode size at ≡ allocating_at map len o
  allocating-taken some len is o taken =
      let place : place_for map mode len at ≡ o =
      takes_same map mode len at _ o (place_for-takes map blocks len (omega arith) mode at) taken in
      allocating-some some ∙ rw (sym is, place) refl

  -- nothing is taken for no byte, nor for more than all
  pub allocating-nothing : (size ≡ 0) ⊎ (map.size < size) → allocating map mode size at ≡ (0, map)
  allocating-nothing (inl none) = allocating-zero none
  allocating-nothing (inr more) =
      allocating-taken (omega arith) (block_len size) refl None
      (λ place takes. let fits = (taken_is_free map mode (block_len size) at place takes).fits in
      omega arith)

  allocates_zero : size ≡ 0 → Allocates map map mode size at 0
  allocates_zero e =
      record { place = λ h. absurd (omega arith); none = λ _. (refl, λ h. absurd (omega arith)) }

  allocates_some : 0 < size → (o : Option ℕ) → Taken o →
      let done = allocating_at map (block_len size) o in
      Allocates map done.1 mode size at done.0
  allocates_some some None none =
      record { place = λ h. absurd (omega arith); none = λ _. (refl, λ _. none) }
  allocates_some some (Some place) takes = record {
    place = λ _. (some, takes, refl);
    none = λ e. absurd (is_positive map mode size at place blocks some takes e);
  }

  -- what an allocation answers and leaves is what the words without a search say
  pub allocates : let done = allocating map mode size at in
      Allocates map done.1 mode size at done.0
  allocates = by (size == 0) refl
    where
      Says : ℕ × BlockMap → Type 0
      Says done = Allocates map done.1 mode size at done.0

      by : (b : Bool) → (size == 0) ≡ b → Says (allocating map mode size at)
      by true e =
          let none : size ≡ 0 = eqb-true size 0 e in
          subst Says (sym (allocating-zero none)) (allocates_zero none)
      by false e =
          let some : 0 < size = grind (arith, nat_tests) in
          subst Says (sym (allocating-some some))
          (allocates_some some _ (place_for-takes map blocks (block_len size) (omega arith) mode at))
