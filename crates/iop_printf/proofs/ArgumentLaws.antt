-- The law of the arguments that stand in registers and on the stack.
use Rattle.std.proofs.Common.{◌≡◌, ℕ, zero, suc, ◌+◌, ◌-◌, ◌*◌, ◌<◌, inl, inr, List, [], ◌∷◌, ◌++◌, length, take, refl, ap, subst, arith}
use Rattle.std.proofs.lemmas.Bool.{cases_lt, lt-ltb, le-ltb}
use Rattle.std.proofs.lemmas.List.{length-append, get_or_append_left, get_or_push}
use Rattle.iop_printf.specs.Arguments.{Arguments, word_or_zero, argument}
use Rattle.iop_printf.specs.Formatting.{part_at, text_from, format_text}
use Rattle.iop_printf.specs.Laws.{StackFollowsRegisters}
use Rattle.iop_printf.specs.Texts.{string_at}

-- a text depends on the arguments alone, not on where they are
module _ (ram : List ℕ) (a b : Arguments)
    (same : (n : ℕ) → argument ram a n ≡ argument ram b n) where
  part_same : (taken byte : ℕ) (rest : List ℕ)
      → part_at ram a taken byte rest ≡ part_at ram b taken byte rest
  unfolding part_at
  part_same taken byte rest = rw (same taken) refl

  text_same : (taken passed : ℕ) (left : List ℕ)
      → text_from ram a taken passed left ≡ text_from ram b taken passed left
  text_same taken passed [] = refl
  text_same taken (suc passed) (byte ∷ rest) = text_same taken passed rest
  text_same taken zero (byte ∷ rest) =
      let part = part_at ram b taken byte rest in
      rw (part_same taken byte rest)
      (ap (λ t. part.text ++ t) (text_same (taken + part.arguments) part.len rest))

-- a register that has the word at 16 bytes above the stack pointer
module _ (ram registers : List ℕ) (register sp : ℕ)
    (stands : word_or_zero ram (sp + 16) ≡ register) where
  abbrev in_register : Arguments
  in_register = record { registers = registers ++ register ∷ []; sp = sp + 4 }

  abbrev on_stack : Arguments
  on_stack = record { registers = registers; sp = sp }

  count : length (registers ++ register ∷ []) ≡ length registers + 1
  count = length-append registers (register ∷ [])

  same_before : (n : ℕ) → n < length registers
      → argument ram in_register n ≡ argument ram on_stack n
  unfolding argument
  same_before n before =
      rw (
        lt-ltb n (length (registers ++ register ∷ [])) (omega (arith, count, before)),
        lt-ltb n (length registers) before,
      ) (get_or_append_left registers (register ∷ []) 0 n before)

  same_at : argument ram in_register (length registers) ≡ argument ram on_stack (length registers)
  unfolding argument
  same_at =
      let n = length registers in
      let first : sp + 16 + 4 * (n - n) ≡ sp + 16 = omega arith in
      rw (
        lt-ltb n (length (registers ++ register ∷ [])) (omega (arith, count)),
        le-ltb n n (omega arith),
        first,
        stands,
      ) (get_or_push registers register 0 n refl)

  same_behind : (n : ℕ) → length registers < n
      → argument ram in_register n ≡ argument ram on_stack n
  unfolding argument
  same_behind n behind =
      let long = length (registers ++ register ∷ []) in
      let later : sp + 4 + 16 + 4 * (n - long) ≡ sp + 16 + 4 * (n - length registers) =
      omega (arith, count, behind) in
      rw (
        le-ltb n long (omega (arith, count, behind)),
        le-ltb n (length registers) (omega (arith, behind)),
        later,
      ) refl

  argument_same : (n : ℕ) → argument ram in_register n ≡ argument ram on_stack n
  argument_same n =
      elim (cases_lt n (length registers)) [
        | inl before ↦ same_before n before
        | inr from ↦ elim (cases_lt (length registers) n) [
          | inl behind ↦ same_behind n behind
          | inr to ↦ let at : length registers ≡ n = omega (arith, from, to) in
              subst (λ (k : ℕ). argument ram in_register k ≡ argument ram on_stack k) at same_at
        ]
      ]

pub format_text-moved : StackFollowsRegisters
unfolding format_text
format_text-moved ram fmt registers register sp stands =
    ap (λ t. take 4096 t)
    (text_same ram (in_register ram registers register sp stands)
    (on_stack ram registers register sp stands) (argument_same ram registers register sp stands)
    0 0 (string_at ram fmt))
