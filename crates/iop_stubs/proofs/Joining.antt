-- Two stores, of which the second begins where the first ends.
use Rattle.std.proofs.Common.{◌≡◌, ℕ, ◌+◌, ◌≤◌, ◌||◌, Bool, true, false, cond, not, Some, List, [], ◌∷◌, ◌++◌, length, take, drop, get_or, map, min, max, refl, ap, sym, ◌∙◌, append_assoc, arith}
use Rattle.std.specs.List.{All}
use Rattle.std.proofs.lemmas.Bool.{ltb-true, ltb-false, lt-ltb, le-ltb}
use Rattle.std.proofs.lemmas.List.{length-append, length-take-le, drop-drop, map-append}
use Rattle.std.proofs.Math.Seq.{take-append_seam, drop-append-add}
use Rattle.std.proofs.lemmas.List.Folds.{list_any_none}
use Rattle.iop_base.specs.Numbers.{with_bytes}
use Rattle.iop_base.proofs.Lists.{filter-none_passes}
use Rattle.iop_stubs.specs.Stubs.{Memory, meets, met_stubs, remaining_stubs, stub_line, after_store, store_lines}
use Rattle.iop_stubs.specs.Binding.{IsInOrder}
use Rattle.iop_stubs.specs.Laws.{StoresJoin}
use Rattle.iop_stubs.specs.declared.live_stub.Stub.{Stub}
use Rattle.iop_stubs.proofs.Searching.{in_order-tail, in_order-behind}

-- bytes behind others
module _ (memory : List ℕ) (p : ℕ) (front back : List ℕ) (inside : p + length front ≤ length memory)
  where
    abbrev begun : List ℕ
    begun = take p memory ++ front

    abbrev rest : List ℕ
    rest = drop (p + length front) memory

    length-begun : length begun ≡ p + length front
    length-begun =
        length-append (take p memory) front
        ∙ ap (λ n. n + length front) (length-take-le p memory (omega arith))

    take-begun : take (p + length front) (begun ++ rest) ≡ begun
    take-begun =
        ap (λ n. take n (begun ++ rest)) (sym length-begun) ∙ take-append_seam begun rest

    drop-begun : drop (p + length front + length back) (begun ++ rest)
        ≡ drop (p + length (front ++ back)) memory
    drop-begun =
        let same : p + length front + length back ≡ p + length (front ++ back) =
        omega (arith, length-append front back) in
        ap (λ n. drop (n + length back) (begun ++ rest)) (sym length-begun)
        ∙ drop-append-add begun rest (length back)
        ∙ drop-drop (length back) (p + length front) memory
        ∙ ap (λ n. drop n memory) same

    pub with_bytes-behind : with_bytes (with_bytes memory p front) (p + length front) back
        ≡ with_bytes memory p (front ++ back)
    with_bytes-behind =
        ap (λ l. l ++ back ++ drop (p + length front + length back) (begun ++ rest)) take-begun
        ∙ ap (λ l. begun ++ back ++ l) drop-begun
        ∙ ap (λ l. l ++ drop (p + length (front ++ back)) memory)
        (append_assoc (take p memory) front back)

-- the stubs that two ranges meet, one behind the other
module _ (p a b : ℕ) where
  meets_by : (stub : Stub) (first second : Bool) → meets p a stub ≡ first
      → meets (p + a) b stub ≡ second → meets p (a + b) stub ≡ (first || second)
  meets_by stub true second e f =
      lt-ltb (max stub.at p) (min (stub.at + 8) (p + (a + b))) (omega (arith, ltb-true _ _ e))
  meets_by stub false true e f =
      lt-ltb (max stub.at p) (min (stub.at + 8) (p + (a + b))) (omega (arith, ltb-true _ _ f))
  meets_by stub false false e f =
      le-ltb (max stub.at p) (min (stub.at + 8) (p + (a + b)))
      (omega (arith, ltb-false _ _ e, ltb-false _ _ f))

  -- a range that has bytes of both meets the stubs that either meets
  meets_both : (stub : Stub) → meets p (a + b) stub ≡ (meets p a stub || meets (p + a) b stub)
  meets_both stub = meets_by stub (meets p a stub) (meets (p + a) b stub) refl refl

  remaining_by : (first second : Bool) (stub : Stub) (kept rest : List Stub)
      → meets (p + a) b stub ≡ second → remaining_stubs (p + a) b kept ≡ rest
      → remaining_stubs (p + a) b (cond (not first) (stub ∷ kept) kept)
      ≡ cond (not (first || second)) (stub ∷ rest) rest
  remaining_by true second stub kept rest is e = e
  remaining_by false true stub kept rest is e = rw is e
  remaining_by false false stub kept rest is e = rw is (ap (λ t. stub ∷ t) e)

  pub remaining_stubs-joined : (live : List Stub)
      → remaining_stubs (p + a) b (remaining_stubs p a live) ≡ remaining_stubs p (a + b) live
  remaining_stubs-joined [] = refl
  remaining_stubs-joined (stub ∷ live) =
      rw (meets_both stub)
      (remaining_by (meets p a stub) (meets (p + a) b stub) stub (remaining_stubs p a live)
      (remaining_stubs p (a + b) live) refl (remaining_stubs-joined live))

  -- where the second range meets a stub first, the first meets none behind it
  none_behind : (stub : Stub) (live : List Stub) → IsInOrder (stub ∷ live)
      → meets p a stub ≡ false → meets (p + a) b stub ≡ true → met_stubs p a live ≡ []
  none_behind stub live order not_first second =
      let far : All (λ other. meets p a other ≡ false) live =
      λ k d below.
      le-ltb (max (get_or live k d).at p) (min ((get_or live k d).at + 8) (p + a))
      (omega (
        arith,
        in_order-behind stub live order k d below,
        ltb-false _ _ not_first,
        ltb-true _ _ second,
      )) in
      filter-none_passes (meets p a) live (list_any_none (meets p a) live far)

  met_by : (first second : Bool) (stub : Stub) (met kept both : List Stub)
      → meets (p + a) b stub ≡ second → (first ≡ false → second ≡ true → met ≡ [])
      → met ++ met_stubs (p + a) b kept ≡ both
      → cond first (stub ∷ met) met
      ++ met_stubs (p + a) b (cond (not first) (stub ∷ kept) kept)
      ≡ cond (first || second) (stub ∷ both) both
  met_by true second stub met kept both is none e = ap (λ t. stub ∷ t) e
  met_by false true stub met kept both is none e =
      let empty = none refl refl in
      let later : met_stubs (p + a) b kept ≡ both =
      ap (λ t. t ++ met_stubs (p + a) b kept) (sym empty) ∙ e in
      rw (is, empty) (ap (λ t. stub ∷ t) later)
  met_by false false stub met kept both is none e = rw is e

  pub met_stubs-joined : (live : List Stub) → IsInOrder live
      → met_stubs p a live ++ met_stubs (p + a) b (remaining_stubs p a live)
      ≡ met_stubs p (a + b) live
  met_stubs-joined [] order = refl
  met_stubs-joined (stub ∷ live) order =
      rw (meets_both stub)
      (met_by (meets p a stub) (meets (p + a) b stub) stub (met_stubs p a live)
      (remaining_stubs p a live) (met_stubs p (a + b) live) refl (none_behind stub live order)
      (met_stubs-joined live (in_order-tail stub live order)))

-- the two stores are the one
module _ (memory : Memory) (place : ℕ) (front back : List ℕ) where
  pub after_store-joined : place + length (front ++ back) ≤ length memory.ram
      → after_store (after_store memory (Some place) front) (Some (place + length front)) back
      ≡ after_store memory (Some place) (front ++ back)
  after_store-joined inside =
      let long = length-append front back in
      let ram = with_bytes-behind memory.ram place front back (omega (arith, inside, long)) in
      let live =
      remaining_stubs-joined place (length front) (length back) memory.live
      ∙ ap (λ len. remaining_stubs place len memory.live) (sym long) in
      rw (ram, live) refl

  pub store_lines-joined : IsInOrder memory.live → (t : ℕ)
      → store_lines t memory (Some place) (length front)
      ++ store_lines t (after_store memory (Some place) front) (Some (place + length front))
      (length back)
      ≡ store_lines t memory (Some place) (length (front ++ back))
  store_lines-joined order t =
      let first = met_stubs place (length front) memory.live in
      let left = remaining_stubs place (length front) memory.live in
      sym (map-append (stub_line t) first (met_stubs (place + length front) (length back) left))
      ∙ ap (map (stub_line t))
      (met_stubs-joined place (length front) (length back) memory.live order)
      ∙ ap (λ len. map (stub_line t) (met_stubs place len memory.live))
      (sym (length-append front back))

pub stores_join : StoresJoin
stores_join memory place front back sound inside = record {
  memory_is = after_store-joined memory place front back inside;
  lines = store_lines-joined memory place front back sound.apart;
}
