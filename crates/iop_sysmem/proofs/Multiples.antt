-- Searches over the multiples of the unit, from below and from above.
use Rattle.std.proofs.Common.{◌≡◌, ◌+◌, ◌*◌, ◌%◌, ◌<◌, ◌≤◌, ℕ, zero, suc, Bool, true, false, cond, MatchOption, Option, Some, None, List, [], ◌∷◌, map, refl, sym, ap, ◌∙◌, subst, arith, add-one}
use Rattle.std.specs.Prelude.{find, reverse}
use Rattle.std.specs.List.{range_with_len}
use Rattle.std.proofs.lemmas.List.{reverse-append}
use Rattle.std.proofs.lemmas.List.FromFn.{map-range_with_len_more}

-- the multiples of the unit in order, so many from a given one on
abbrev pub multiples : ℕ → ℕ → List ℕ
multiples from n = map (λ k. k * 256) (range_with_len from n)

module _ (passes : ℕ → Bool) where
  -- one of these multiples, which passes
  pub record Passes (from n x : ℕ) : Type 0 where
    pub unit : x % 256 ≡ 0
    pub low : from * 256 ≤ x
    pub high : x < (from + n) * 256
    pub pass : passes x ≡ true

  abbrev PassesNone : ℕ → ℕ → Type 0
  PassesNone from n = (x : ℕ) → Passes from n x → ⊥

  abbrev IsLeast : ℕ → ℕ → ℕ → Type 0
  IsLeast from n x = Passes from n x × ((y : ℕ) → Passes from n y → x ≤ y)

  abbrev IsGreatest : ℕ → ℕ → ℕ → Type 0
  IsGreatest from n x = Passes from n x × ((y : ℕ) → Passes from n y → y ≤ x)

  not_this : (x y : ℕ) → passes x ≡ false → passes y ≡ true → x ≡ y → ⊥
  not_this x y fails pass e = let same : passes x ≡ passes y = ap passes e in cc

  least_or_later : (from n : ℕ) (b : Bool) → passes (from * 256) ≡ b → (rest : Option ℕ) →
      MatchOption rest (PassesNone (from + 1) n) (IsLeast (from + 1) n) →
      MatchOption (cond b (Some (from * 256)) rest) (PassesNone from (suc n)) (IsLeast from (suc n))
  least_or_later from n true e rest later =
      (record { unit = omega arith; low = omega arith; high = omega arith; pass = e }, λ y p. p.low)
  least_or_later from n false e rest later = of_rest rest later
    where
      behind : (x : ℕ) → Passes from (suc n) x → Passes (from + 1) n x
      behind x p = record {
        unit = p.unit;
        low =
            let other : from * 256 ≡ x → ⊥ = not_this (from * 256) x e p.pass in
            let unit = p.unit in let low = p.low in omega arith;
        high = let high = p.high in omega arith;
        pass = p.pass;
      }

      of_rest : (o : Option ℕ) → MatchOption o (PassesNone (from + 1) n) (IsLeast (from + 1) n) →
          MatchOption o (PassesNone from (suc n)) (IsLeast from (suc n))
      of_rest None none = λ x p. none x (behind x p)
      of_rest (Some x) least = (
        record {
          unit = least.0.unit;
          low = let low = least.0.low in omega arith;
          high = let high = least.0.high in omega arith;
          pass = least.0.pass;
        },
        λ y p. least.1 y (behind y p),
      )

  pub least_found : (from n : ℕ) →
      MatchOption (find passes (multiples from n)) (PassesNone from n) (IsLeast from n)
  least_found from zero = λ x p. let low = p.low in let high = p.high in absurd (omega arith)
  least_found from (suc n) =
      least_or_later from n (passes (from * 256)) refl _ (least_found (from + 1) n)

  greatest_or_before : (n : ℕ) (b : Bool) → passes (n * 256) ≡ b → (rest : Option ℕ) →
      MatchOption rest (PassesNone 0 n) (IsGreatest 0 n) →
      MatchOption (cond b (Some (n * 256)) rest) (PassesNone 0 (suc n)) (IsGreatest 0 (suc n))
  greatest_or_before n true e rest before = (
    record { unit = omega arith; low = omega arith; high = omega arith; pass = e },
    λ y p. let unit = p.unit in let high = p.high in omega arith,
  )
  greatest_or_before n false e rest before = of_rest rest before
    where
      in_front : (x : ℕ) → Passes 0 (suc n) x → Passes 0 n x
      in_front x p = record {
        unit = p.unit;
        low = p.low;
        high =
            let other : n * 256 ≡ x → ⊥ = not_this (n * 256) x e p.pass in
            let unit = p.unit in let high = p.high in omega arith;
        pass = p.pass;
      }

      of_rest : (o : Option ℕ) → MatchOption o (PassesNone 0 n) (IsGreatest 0 n) →
          MatchOption o (PassesNone 0 (suc n)) (IsGreatest 0 (suc n))
      of_rest None none = λ x p. none x (in_front x p)
      of_rest (Some x) greatest = (
        record {
          unit = greatest.0.unit;
          low = greatest.0.low;
          high = let high = greatest.0.high in omega arith;
          pass = greatest.0.pass;
        },
        λ y p. greatest.1 y (in_front y p),
      )

  multiples_from_above : (n : ℕ) → reverse (multiples 0 (suc n)) ≡ n * 256 ∷ reverse (multiples 0 n)
  multiples_from_above n =
      ap (λ k. reverse (multiples 0 k)) (sym (add-one n))
      ∙ ap reverse (map-range_with_len_more (λ k. k * 256) 0 n n (omega arith))
      ∙ reverse-append (multiples 0 n) (n * 256 ∷ [])

  pub greatest_found : (n : ℕ) →
      MatchOption (find passes (reverse (multiples 0 n))) (PassesNone 0 n) (IsGreatest 0 n)
  greatest_found zero = λ x p. let high = p.high in absurd (omega arith)
  greatest_found (suc n) =
      subst (λ xs. MatchOption (find passes xs) (PassesNone 0 (suc n)) (IsGreatest 0 (suc n)))
      (sym (multiples_from_above n))
      (greatest_or_before n (passes (n * 256)) refl _ (greatest_found n))
