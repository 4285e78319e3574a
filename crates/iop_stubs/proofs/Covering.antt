-- The words that stubs cover, once one is bound, and once those that a range meets are taken out.
use Rattle.std.proofs.Common.{◌≡◌, ◌≢◌, ℕ, suc, ◌+◌, ◌*◌, ◌/◌, ◌%◌, ◌<◌, ◌≤◌, ◌&&◌, ◌||◌, ◌⊎◌, inl, inr, ⊎_elim, Bool, true, false, cond, not, eqb, ltb, min, max, List, [], ◌∷◌, length, get_or, take, refl, ap, sym, subst, ◌∙◌, arith, nat_lt}
use Rattle.std.specs.List.{All, list_any}
use Rattle.std.proofs.lemmas.Bool.{cases_eq, cases_lt, lt-ltb, le-ltb, ltb-true, eqb-true, eqb-false}
use Rattle.std.proofs.lemmas.Bool.Decides.{nat_tests}
use Rattle.std.proofs.lemmas.List.Elements.{All-head, All-tail, All-filter}
use Rattle.std.proofs.lemmas.List.Folds.{list_any_none, list_any_more}
use Rattle.iop_stubs.specs.Stubs.{meets, remaining_stubs}
use Rattle.iop_stubs.specs.Binding.{IsInOrder, with_stub}
use Rattle.iop_stubs.specs.WordSets.{has, HasRoom, ChangesOnly}
use Rattle.iop_stubs.specs.Covering.{covers, AreCovered, is_met_over, StandsIn, IsTable, Uncovers, bytes_of_room}
use Rattle.iop_stubs.specs.declared.live_stub.Stub.{Stub}
use Rattle.iop_stubs.proofs.Searching.{in_order-behind, in_order-tail}

-- two tests of numbers that hold at once
same_lt : (a b c d : ℕ) → (a < b → c < d) → (c < d → a < b) → ltb a b ≡ ltb c d
same_lt a b c d there back =
    ⊎_elim
    (λ h. lt-ltb a b h ∙ sym (lt-ltb c d (there h)))
    (λ h. le-ltb a b h ∙ sym (⊎_elim
    (λ less. absurd (omega (arith, h, back less))) (λ more. le-ltb c d more) (cases_lt c d)))
    (cases_lt a b)

-- stubs of a table stand at multiples of 4
pub are_aligned : {ram : ℕ} (stubs : List Stub) → All (StandsIn ram) stubs
    → All (λ stub. stub.at % 4 ≡ 0) stubs
are_aligned stubs stand = λ k d below. (stand k d below).aligned

-- they stand in RAM as long as a set has as much room
pub stand-on : (old new : List ℕ) (stubs : List Stub) → length new ≡ length old
    → All (StandsIn (bytes_of_room old)) stubs → All (StandsIn (bytes_of_room new)) stubs
stand-on old new stubs same stand = subst (λ n. All (StandsIn (n * 256)) stubs) (sym same) stand

-- a stub is met within a word exactly where it covers the word
meets-in_word : (place len : ℕ) (stub : Stub) → stub.at % 4 ≡ 0 → 0 < len
    → place % 4 + len ≤ 4 → meets place len stub ≡ covers (place / 4) stub
meets-in_word place len stub aligned some inside =
    same_lt (max stub.at place) (min (stub.at + 8) (place + len)) (max stub.at (place / 4 * 4))
    (min (stub.at + 8) (place / 4 * 4 + 4)) (λ h. omega (arith, h, aligned, some, inside))
    (λ h. omega (arith, h, aligned, some, inside))

any-in_word : (place len : ℕ) (stubs : List Stub) → All (λ stub. stub.at % 4 ≡ 0) stubs
    → 0 < len → place % 4 + len ≤ 4
    → list_any (meets place len) stubs ≡ list_any (covers (place / 4)) stubs
any-in_word place len [] all some inside = refl
any-in_word place len (stub ∷ rest) all some inside =
    let aligned : Stub → Type 0 = λ s. s.at % 4 ≡ 0 in
    ap (λ b. b || list_any (meets place len) rest)
    (meets-in_word place len stub (All-head aligned stub rest all) some inside)
    ∙ ap (λ b. covers (place / 4) stub || b)
    (any-in_word place len rest (All-tail aligned stub rest all) some inside)

-- the bit of a word tells whether a range within it meets a stub
pub met_in_word : (place len : ℕ) → 0 < len → place % 4 + len ≤ 4 → (bits : List ℕ)
    (stubs : List Stub) → IsTable bits stubs → place + len ≤ bytes_of_room bits
    → has bits (place / 4) ≡ list_any (meets place len) stubs
met_in_word place len some inside bits stubs table within =
    table.covered (place / 4) (omega (arith, some, within))
    ∙ sym (any-in_word place len stubs (are_aligned stubs table.stand) some inside)

-- a stub covers two words
covers-words : (stub : Stub) → stub.at % 4 ≡ 0 → (n : ℕ)
    → covers n stub ≡ (eqb n (stub.at / 4) || eqb n (stub.at / 4 + 1))
covers-words stub aligned n =
    covers_by (cases_lt (max stub.at (n * 4)) (min (stub.at + 8) (n * 4 + 4)))
  where
    covers_by : (max stub.at (n * 4) < min (stub.at + 8) (n * 4 + 4))
        ⊎ (min (stub.at + 8) (n * 4 + 4) ≤ max stub.at (n * 4))
        → covers n stub ≡ (eqb n (stub.at / 4) || eqb n (stub.at / 4 + 1))
    covers_by (inl h) =
        lt-ltb _ _ h ∙ sym (⊎_elim
        (λ e. grind (arith, nat_tests, e))
        (λ ne. let e : n ≡ stub.at / 4 + 1 = omega (arith, h, aligned, ne) in
        grind (arith, nat_tests, e))
        (cases_eq n (stub.at / 4)))
    covers_by (inr h) =
        let first : n ≢ stub.at / 4 = λ e. absurd (omega (arith, h, aligned, e)) in
        let second : n ≢ stub.at / 4 + 1 = λ e. absurd (omega (arith, h, aligned, e)) in
        le-ltb _ _ h ∙ sym (grind (arith, nat_tests, first, second))

or_true : (b c d : Bool) → cond (b || true) c d ≡ c
or_true true c d = refl
or_true false c d = refl

-- a set of which the two words of a stub are changed
module _ (stub : Stub) (aligned : stub.at % 4 ≡ 0) (old mid new : List ℕ) (is_in : Bool)
    (first : ChangesOnly old mid (stub.at / 4) is_in)
    (second : ChangesOnly mid new (stub.at / 4 + 1) is_in) where
  both_by : (n : ℕ) → HasRoom old n → (b c : Bool) → eqb n (stub.at / 4) ≡ b
      → eqb n (stub.at / 4 + 1) ≡ c → has new n ≡ cond (b || c) is_in (has old n)
  both_by n room b true e f =
      let same : n ≡ stub.at / 4 + 1 = eqb-true _ _ f in
      ap (has new) same ∙ second.changed ∙ sym (or_true b is_in (has old n))
  both_by n room true false e f =
      let same : n ≡ stub.at / 4 = eqb-true _ _ e in
      let other : n ≢ stub.at / 4 + 1 = eqb-false _ _ f in
      second.others n other ∙ ap (has mid) same ∙ first.changed
  both_by n room false false e f =
      second.others n (eqb-false _ _ f) ∙ first.others n (eqb-false _ _ e)

  pub both_changed : (n : ℕ) → HasRoom old n
      → has new n ≡ cond (covers n stub) is_in (has old n)
  both_changed n room =
      both_by n room (eqb n (stub.at / 4)) (eqb n (stub.at / 4 + 1)) refl refl
      ∙ ap (λ b. cond b is_in (has old n)) (sym (covers-words stub aligned n))

  pub both_room : length new ≡ length old
  both_room = second.room ∙ first.room

-- one more stub
any-with_stub : (p : Stub → Bool) (stub : Stub) (stubs : List Stub)
    → list_any p (with_stub stub stubs) ≡ (p stub || list_any p stubs)
any-with_stub p stub [] = refl
any-with_stub p stub (first ∷ rest) =
    any_by (nat_lt stub.at first.at) (any-with_stub p stub rest)
  where
    any_by : (b : Bool) → list_any p (with_stub stub rest) ≡ (p stub || list_any p rest)
        → list_any p (cond b (stub ∷ first ∷ rest) (first ∷ with_stub stub rest))
        ≡ (p stub || (p first || list_any p rest))
    any_by true later = refl
    any_by false later = grind (arith, later)

pub covered-with_stub : (stub : Stub) → stub.at % 4 ≡ 0 → (old mid new : List ℕ)
    → ChangesOnly old mid (stub.at / 4) true → ChangesOnly mid new (stub.at / 4 + 1) true
    → (stubs : List Stub) → AreCovered old stubs → AreCovered new (with_stub stub stubs)
covered-with_stub stub aligned old mid new first second stubs covered n room =
    let inside : HasRoom old n =
    omega (arith, room, both_room stub aligned old mid new true first second) in
    both_changed stub aligned old mid new true first second n inside
    ∙ ap (cond (covers n stub) true) (covered n inside)
    ∙ or_is (covers n stub) (list_any (covers n) stubs)
    ∙ sym (any-with_stub (covers n) stub stubs)
  where
    or_is : (b c : Bool) → cond b true c ≡ (b || c)
    or_is true c = refl
    or_is false c = refl

-- the loop that takes the words out, a stub further
uncovers_by : (a b : Bool) (was : Bool) (any : Bool)
    → cond a (cond b false (was && not any)) (was && not any)
    ≡ (was && not (any || (a && b)))
uncovers_by true true was any = grind arith
uncovers_by true false was any = grind arith
uncovers_by false b was any = grind arith

pub uncovers-none : (place len : ℕ) (bits : List ℕ) → Uncovers place len [] bits bits
uncovers-none place len bits = record {
  room = refl;
  words = λ n room. grind arith;
}

module _ (place len : ℕ) (stubs : List Stub) (i : ℕ) (stub : Stub) (below : i < length stubs)
    (is : stub ≡ get_or stubs i stub) (old mid : List ℕ)
    (so : Uncovers place len (take i stubs) old mid) where
  abbrev met_before : ℕ → Bool
  met_before n = list_any (is_met_over place len n) (take i stubs)

  -- a word, by whether the stub is met
  more_at : (n : ℕ) (b : Bool) → meets place len stub ≡ b
      → cond b (cond (covers n stub) false (has old n && not (met_before n)))
      (has old n && not (met_before n))
      ≡ (has old n && not (list_any (is_met_over place len n) (take (i + 1) stubs)))
  more_at n b met =
      uncovers_by b (covers n stub) (has old n) (met_before n)
      ∙ ap (λ a. has old n && not (met_before n || (a && covers n stub))) (sym met)
      ∙ ap (λ s. has old n && not (met_before n || is_met_over place len n s)) is
      ∙ ap (λ a. has old n && not a)
      (sym (list_any_more (is_met_over place len n) stubs i stub below))

  pub uncovers-met : (inner new : List ℕ) → stub.at % 4 ≡ 0 → meets place len stub ≡ true
      → ChangesOnly mid inner (stub.at / 4) false → ChangesOnly inner new (stub.at / 4 + 1) false
      → Uncovers place len (take (i + 1) stubs) old new
  uncovers-met inner new aligned met first second = record {
    room = both_room stub aligned mid inner new false first second ∙ so.room;
    words = λ n room.
        both_changed stub aligned mid inner new false first second n (omega (arith, room, so.room))
        ∙ ap (cond (covers n stub) false) (so.words n room) ∙ more_at n true met;
  }

  pub uncovers-missed : meets place len stub ≡ false
      → Uncovers place len (take (i + 1) stubs) old mid
  uncovers-missed missed = record {
    room = so.room;
    words = λ n room. so.words n room ∙ more_at n false missed;
  }

-- where no two stubs overlap, the words that are left are those of the stubs that are left
module _ (place len n : ℕ) where
  left_by : (a b : Bool) (first : Stub) (rest : List Stub)
      → (b ≡ true → (list_any (covers n) rest ≡ false)
      × (list_any (is_met_over place len n) rest ≡ false)
      × (list_any (covers n) (remaining_stubs place len rest) ≡ false))
      → (list_any (covers n) rest && not (list_any (is_met_over place len n) rest))
      ≡ list_any (covers n) (remaining_stubs place len rest)
      → covers n first ≡ b
      → ((b || list_any (covers n) rest)
      && not ((a && b) || list_any (is_met_over place len n) rest))
      ≡ list_any (covers n)
      (cond (not a) (first ∷ remaining_stubs place len rest) (remaining_stubs place len rest))
  left_by true true first rest alone later is = grind (arith, (alone refl).2)
  left_by true false first rest alone later is = later
  left_by false true first rest alone later is =
      grind (arith, (alone refl).1, is)
  left_by false false first rest alone later is = grind (arith, later, is)

  apart_from : (first : Stub) (rest : List Stub) → IsInOrder (first ∷ rest)
      → All (λ s. s.at % 4 ≡ 0) (first ∷ rest) → covers n first ≡ true
      → All (λ s. covers n s ≡ false) rest
  apart_from first rest order all here k d below =
      let behind = in_order-behind first rest order k d below in
      let its = all 0 first (omega arith) in
      let other = all (suc k) d (omega (arith, below)) in
      let met = ltb-true _ _ here in
      le-ltb _ _ (omega (arith, behind, met, its, other))

  pub left_covered : (stubs : List Stub) → IsInOrder stubs → All (λ s. s.at % 4 ≡ 0) stubs
      → (list_any (covers n) stubs && not (list_any (is_met_over place len n) stubs))
      ≡ list_any (covers n) (remaining_stubs place len stubs)
  left_covered [] order all = refl
  left_covered (first ∷ rest) order all =
      left_by (meets place len first) (covers n first) first rest
      (λ here. let apart = apart_from first rest order all here in (
        list_any_none (covers n) rest apart,
        list_any_none (is_met_over place len n) rest
            (λ k d below. let none = apart k d below in grind (arith, none)),
        list_any_none (covers n) (remaining_stubs place len rest)
            (All-filter (λ s. not (meets place len s)) (λ s. covers n s ≡ false) rest apart),
      ))
      (left_covered rest (in_order-tail first rest order)
      (All-tail (λ s. s.at % 4 ≡ 0) first rest all)) refl

pub covered-left : (place len : ℕ) (stubs : List Stub) → IsInOrder stubs
    → All (λ s. s.at % 4 ≡ 0) stubs → (old new : List ℕ) → AreCovered old stubs
    → Uncovers place len stubs old new → AreCovered new (remaining_stubs place len stubs)
covered-left place len stubs order all old new covered uncovers n room =
    let inside : HasRoom old n = omega (arith, room, uncovers.room) in
    uncovers.words n inside
    ∙ ap (λ b. b && not (list_any (is_met_over place len n) stubs)) (covered n inside)
    ∙ left_covered place len n stubs order all
