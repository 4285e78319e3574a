-- What is put back keeps what holds of every memory, and all that lives comes back.
use Rattle.std.proofs.Common.{◌≡◌, ℕ, suc, ◌+◌, ◌-◌, ◌%◌, ◌^◌, ◌<◌, ◌≤◌, nat_lt, Bool, true, false, Option, Some, None, List, [], ◌∷◌, ◌++◌, length, get_or, append-nil, append_assoc, inl, inr, refl, ap, sym, ◌∙◌, subst, arith}
use Rattle.std.specs.List.{All, list_all, slice_get}
use Rattle.std.proofs.lemmas.Bool.{ltb-true, leb-true, eqb-true, lt-ltb, le-ltb, le-leb, eq-eqb, and_parts, and_from, cases_lt}
use Rattle.std.proofs.lemmas.Grind.{length_at_push}
use Rattle.std.proofs.lemmas.List.{get_or_default, get_or_append_left, length-append}
use Rattle.std.proofs.lemmas.List.Elements.{All-push}
use Rattle.std.proofs.lemmas.List.Folds.{list_all_at}
use Rattle.std.proofs.lemmas.List.Quantifiers.{all_pairs_push}
use Rattle.std.proofs.lemmas.List.Sums.{AllPass-from_list_all, list_all-from_AllPass}
use Rattle.std.proofs.lemmas.Option.{slice_get-get_or}
use Rattle.std.proofs.Math.Seq.{get_or-append_seam}
use Rattle.iop_base.specs.Numbers.{IsByte, number_at, bytes_of}
use Rattle.iop_base.proofs.Lists.{bytes_of-number_at}
use Rattle.iop_stubs.specs.Stubs.{Memory, meets}
use Rattle.iop_stubs.specs.Binding.{jump_word, with_stub, IsBound, IsInOrder, IsSound}
use Rattle.iop_stubs.specs.Restoring.{ends_by, has_room_behind, is_bound, stub_may_follow, with_last_stub, stubs_put_back, StubsComeBack}
use Rattle.iop_stubs.specs.declared.live_stub.Stub.{Stub}
use Rattle.iop_stubs.specs.declared.live_stub.TheConstants.Stub.{SIZE, MOST_LIVE}
use Rattle.iop_stubs.proofs.Storing.{number_at-live}

-- whether the last stub ends at a place or before it, if there is one
abbrev pub last_ends_by : ℕ → Option Stub → Bool
last_ends_by place None = true
last_ends_by place (Some stub) = ends_by place stub

module _ (place : ℕ) where
  -- where stubs stand in order, all end where the last does
  all_end : (stubs : List Stub) (n : ℕ) (s : Stub) (b : Bool) → IsInOrder stubs
      → length stubs ≡ suc n → ends_by place (get_or stubs n s) ≡ b
      → list_all (ends_by place) stubs ≡ b
  all_end stubs n s false order len ends =
      list_all_at (ends_by place) stubs n s (omega (arith, len)) ends
  all_end stubs n s true order len ends =
      list_all-from_AllPass (ends_by place) stubs (λ k d below. le-leb _ _ (by k d below))
    where
      by : (k : ℕ) (d : Stub) → k < length stubs → (get_or stubs k d).at + 8 ≤ place
      by k d below =
          let last = ap (λ (stub : Stub). stub.at)
          (get_or_default stubs n d s (omega (arith, len))) in
          let end = leb-true _ _ ends in
          elim (cases_lt k n) [
            | inl before ↦ omega (arith, order k n d before (omega (arith, len)), last, end)
            | inr behind ↦ let same : k ≡ n = omega (arith, below, len, behind) in
                omega (arith, ap (λ j. (get_or stubs j d).at) same, last, end)
          ]

  pub ends_last : (stubs : List Stub) → IsInOrder stubs → (last : Option Stub)
      → last ≡ slice_get stubs (length stubs - 1)
      → last_ends_by place last ≡ list_all (ends_by place) stubs
  ends_last [] order last is = ap (last_ends_by place) is
  ends_last (first ∷ rest) order last is =
      let end = length (first ∷ rest) - 1 in
      ap (last_ends_by place) (is ∙ slice_get-get_or (first ∷ rest) end first (omega arith))
      ∙ sym (all_end (first ∷ rest) end first _ order (omega arith) refl)

-- a stub behind others is put in at the end
with_last : (stub first : Stub) (rest : List Stub) → first.at + 8 ≤ stub.at
    → with_stub stub rest ≡ rest ++ stub ∷ []
    → with_stub stub (first ∷ rest) ≡ first ∷ rest ++ stub ∷ []
with_last stub first rest ends later =
    let far : nat_lt stub.at first.at ≡ false = le-ltb _ _ (omega arith) in
    rw far (ap (λ (stubs : List Stub). first ∷ stubs) later)

pub with_stub-last : (stub : Stub) (stubs : List Stub)
    → list_all (ends_by stub.at) stubs ≡ true → with_stub stub stubs ≡ stubs ++ stub ∷ []
with_stub-last stub [] ends = refl
with_stub-last stub (first ∷ rest) ends =
    let (one, others) =
    and_parts (ends_by stub.at first) (list_all (ends_by stub.at) rest) ends in
    with_last stub first rest (leb-true _ _ one) (with_stub-last stub rest others)

-- and overlaps none of them
pub ends-apart : (stub : Stub) (stubs : List Stub) → list_all (ends_by stub.at) stubs ≡ true
    → All (λ other. meets stub.at SIZE other ≡ false) stubs
ends-apart stub stubs ends k d below =
    let end = leb-true _ _ (AllPass-from_list_all (ends_by stub.at) stubs ends k d below) in
    le-ltb _ _ (omega (arith, end))

-- what the tests tell of a stub and of RAM
pub record Follows (memory : Memory) (stub : Stub) : Type 0 where
  pub room : length memory.live < MOST_LIVE
  pub ends : list_all (ends_by stub.at) memory.live ≡ true
  pub aligned : stub.at % 4 ≡ 0
  pub inside : stub.at + 8 ≤ length memory.ram
  pub target_aligned : stub.target % 4 ≡ 0
  pub target_near : stub.target < 2 ^ 28
  pub jump : number_at memory.ram stub.at 4 ≡ jump_word stub.target
  pub index : number_at memory.ram (stub.at + 4) 4 ≡ 0x24000000 + stub.index

pub follows : (memory : Memory) (stub : Stub) → stub_may_follow memory stub ≡ true
    → Follows memory stub
follows memory stub may =
    let (room_behind, bound) =
    and_parts (has_room_behind stub.at memory.live) (is_bound memory.ram stub) may in
    let (room, ends) = and_parts _ _ room_behind in
    let (placed_jump, index) = and_parts _ _ bound in
    let (placed, jump) = and_parts _ _ placed_jump in
    let (aligned_inside_target, near) = and_parts _ _ placed in
    let (aligned_inside, target) = and_parts _ _ aligned_inside_target in
    let (aligned, inside) = and_parts _ _ aligned_inside in
    record {
      room = ltb-true _ _ room;
      ends = ends;
      aligned = eqb-true _ _ aligned;
      inside = leb-true _ _ inside;
      target_aligned = eqb-true _ _ target;
      target_near = ltb-true _ _ near;
      jump = eqb-true _ _ jump;
      index = eqb-true _ _ index;
    }

pub last_sound : (memory : Memory) (stub : Stub) → Follows memory stub → stub.index < 2 ^ 16
    → All IsByte memory.ram → IsSound memory → IsSound (with_last_stub memory stub)
last_sound memory stub may small bytes h = record {
  sized = h.sized;
  few = omega (arith, (length_at_push memory.live stub).1, may.room);
  bound = All-push (IsBound memory.ram) memory.live stub h.bound (record {
    aligned = may.aligned;
    inside = may.inside;
    jump =
        sym (bytes_of-number_at memory.ram 4 stub.at bytes (omega (arith, may.inside)))
        ∙ ap (bytes_of 4) may.jump;
    index = may.index;
    index_small = small;
    target_aligned = may.target_aligned;
    target_near = may.target_near;
  });
  apart = all_pairs_push (λ first second. first.at + 8 ≤ second.at) memory.live stub h.apart
      (λ k d below. leb-true _ _
      (AllPass-from_list_all (ends_by stub.at) memory.live may.ends k d below));
}

-- a stub of a list, those in front of it and those behind it
module _ (before : List Stub) (stub : Stub) (rest : List Stub) where
  inside : length before < length (before ++ stub ∷ rest)
  inside = omega (arith, length-append before (stub ∷ rest))

  at_seam : (P : Stub → Type 0) → All P (before ++ stub ∷ rest) → P stub
  at_seam P all =
      subst P (get_or-append_seam before stub rest stub) (all (length before) stub inside)

  ends_at_seam : IsInOrder (before ++ stub ∷ rest) → list_all (ends_by stub.at) before ≡ true
  ends_at_seam order =
      list_all-from_AllPass (ends_by stub.at) before (λ k d below.
      let first = ap (λ (s : Stub). s.at) (get_or_append_left before (stub ∷ rest) d k below) in
      let second = ap (λ (s : Stub). s.at) (get_or-append_seam before stub rest d) in
      le-leb _ _ (omega (arith, order k (length before) d below inside, first, second)))

  room : length (before ++ stub ∷ rest) ≤ MOST_LIVE → length before < MOST_LIVE
  room few = let less = inside in omega arith

module _ (memory : Memory) (h : IsSound memory) where
  stub_follows : (before rest : List Stub) (stub : Stub) → before ++ stub ∷ rest ≡ memory.live
      → stub_may_follow (record { ram = memory.ram; live = before }) stub ≡ true
  stub_follows before rest stub is =
      let bound = at_seam before stub rest (IsBound memory.ram)
      (subst (All (IsBound memory.ram)) (sym is) h.bound) in
      and_from _ _
      (and_from _ _
      (lt-ltb _ _ (room before stub rest (subst (λ (l : List Stub). length l ≤ MOST_LIVE) (sym is)
      h.few)))
      (ends_at_seam before stub rest (subst IsInOrder (sym is) h.apart)))
      (and_from _ _
      (and_from _ _
      (and_from _ _
      (and_from _ _
      (and_from _ _ (eq-eqb _ _ bound.aligned) (le-leb _ _ bound.inside))
      (eq-eqb _ _ bound.target_aligned))
      (lt-ltb _ _ bound.target_near))
      (eq-eqb _ _ (number_at-live memory.ram stub bound)))
      (eq-eqb _ _ bound.index))

  stubs_come : (before rest : List Stub) → before ++ rest ≡ memory.live
      → stubs_put_back (record { ram = memory.ram; live = before }) rest ≡ Some memory
  stubs_come before [] is =
      ap (λ (l : List Stub). Some (record { ram = memory.ram; live = l }))
      (sym (append-nil before) ∙ is)
  stubs_come before (stub ∷ rest) is =
      rw (stub_follows before rest stub is)
      (stubs_come (before ++ stub ∷ []) rest (append_assoc before (stub ∷ []) rest ∙ is))

pub stubs_come_back : StubsComeBack
stubs_come_back memory h = stubs_come memory h [] memory.live refl
