-- The first bad one of some lines is the first with which they are bad.
use Rattle.std.proofs.Common.{◌≡◌, ℕ, zero, suc, ◌+◌, ◌-◌, ◌^◌, ◌≤◌, min, true, false, Result, Ok, Err, is_ok, List, [], ◌∷◌, ◌++◌, take, refl, ap, sym, ◌∙◌, arith}
use Rattle.iop_script.specs.Reading.{BadLine, bad_line, after_line, next_number, unless_bad, read_lines}
use Rattle.iop_script.specs.Scripts.{Script}
use Rattle.iop_script.specs.declared.rule.Rule.{Rule}
use Rattle.iop_script.specs.declared.version.Version.{Version}

-- the number by which a line is told
abbrev pub told : ℕ → ℕ
told line = min line (2 ^ 32 - 1)

next_told : (number behind : ℕ) → told (next_number number + behind) ≡ told (number + suc behind)
next_told number behind = omega arith

pub err_value : (r : Result Script BadLine) (m n : BadLine) → r ≡ Err m → r ≡ Err n → m ≡ n
err_value r m n one other = cc

ok_is_no_err : (r : Result Script BadLine) (x : Script) (m : BadLine) → r ≡ Ok x → r ≡ Err m → ⊥
ok_is_no_err r x m one other = cc

module _ (version : Version) where
  -- among lines of which the first has a number, one so far behind is the first bad one
  pub record IsBadBehind (number : ℕ) (script : Script) (lines : List (List ℕ)) (behind : ℕ)
      (found : BadLine) : Type 0 where
    pub good : is_ok (read_lines version number script (take behind lines)) ≡ true
    pub bad : read_lines version number script (take (suc behind) lines) ≡ Err found

  pub record HasBad (number : ℕ) (script : Script) (lines : List (List ℕ)) (found : BadLine)
      : Type 0 where
    pub behind : ℕ
    pub is_told : found.number ≡ told (number + behind)
    pub first : IsBadBehind number script lines behind found

  -- by what becomes of the first line
  module _ (number : ℕ) (script : Script) (line : List ℕ) where
    first_line : (after : Result Script Rule) → after_line version script line ≡ after
        → (lines : List (List ℕ))
        → read_lines version number script (line ∷ lines)
        ≡ unless_bad number (λ next. read_lines version (next_number number) next lines) after
    unfolding read_lines
    first_line after is lines =
        ap (unless_bad number
        (λ (next : Script). read_lines version (next_number number) next lines)) is

    line_bad : (rule : Rule) → after_line version script line ≡ Err rule
        → (lines : List (List ℕ))
        → read_lines version number script (line ∷ lines) ≡ Err (bad_line number rule)
    line_bad rule is lines = first_line (Err rule) is lines

    line_good : (next : Script) → after_line version script line ≡ Ok next
        → (lines : List (List ℕ))
        → read_lines version number script (line ∷ lines)
        ≡ read_lines version (next_number number) next lines
    line_good next is lines = first_line (Ok next) is lines

    none_good : is_ok (read_lines version number script []) ≡ true
    unfolding read_lines
    none_good = refl

    bad_later : (next : Script) (rest : List (List ℕ)) (behind : ℕ) (found : BadLine)
        → after_line version script line ≡ Ok next
        → IsBadBehind (next_number number) next rest behind found
        → IsBadBehind number script (line ∷ rest) (suc behind) found
    bad_later next rest behind found is h = record {
      good = ap is_ok (line_good next is (take behind rest)) ∙ h.good;
      bad = line_good next is (take (suc behind) rest) ∙ h.bad;
    }

  pub has_bad : (number : ℕ) (script : Script) (lines : List (List ℕ)) (found : BadLine)
      → number ≤ 2 ^ 32 - 1 → read_lines version number script lines ≡ Err found
      → HasBad number script lines found
  unfolding read_lines
  has_bad number script [] found small is = absurd (cc)
  has_bad number script (line ∷ rest) found small is =
      at (after_line version script line) refl
      (λ next e. has_bad (next_number number) next rest found (omega arith) e)
    where
      at : (after : Result Script Rule) → after_line version script line ≡ after
          → ((next : Script) → read_lines version (next_number number) next rest ≡ Err found
          → HasBad (next_number number) next rest found)
          → HasBad number script (line ∷ rest) found
      at (Err rule) bad later =
          let same : bad_line number rule ≡ found =
          err_value (read_lines version number script (line ∷ rest)) (bad_line number rule) found
          (line_bad number script line rule bad rest) is in
          let here : number ≡ told (number + zero) = omega arith in
          record {
            behind = zero;
            is_told = sym (ap (λ (b : BadLine). b.number) same) ∙ here;
            first = record {
              good = none_good number script line;
              bad = line_bad number script line rule bad [] ∙ ap Err same;
            };
          }
      at (Ok next) good later =
          let h = later next (sym (line_good number script line next good rest) ∙ is) in
          record {
            behind = suc h.behind;
            is_told = h.is_told ∙ next_told number h.behind;
            first = bad_later number script line next rest h.behind found good h.first;
          }

  pub is_bad : (behind number : ℕ) (script : Script) (lines : List (List ℕ)) (found : BadLine)
      → IsBadBehind number script lines behind found
      → read_lines version number script lines ≡ Err found
  unfolding read_lines
  is_bad zero number script [] found h = h.bad
  is_bad (suc k) number script [] found h = h.bad
  is_bad zero number script (line ∷ rest) found h = at (after_line version script line) refl
    where
      at : (after : Result Script Rule) → after_line version script line ≡ after
          → read_lines version number script (line ∷ rest) ≡ Err found
      at (Err rule) bad =
          line_bad number script line rule bad rest
          ∙ sym (line_bad number script line rule bad []) ∙ h.bad
      at (Ok next) good =
          absurd (ok_is_no_err (read_lines version number script (line ∷ [])) next found
          (line_good number script line next good []) h.bad)
  is_bad (suc k) number script (line ∷ rest) found h =
      at (after_line version script line) refl
      (λ next g. is_bad k (next_number number) next rest found g)
    where
      at : (after : Result Script Rule) → after_line version script line ≡ after
          → ((next : Script) → IsBadBehind (next_number number) next rest k found
          → read_lines version (next_number number) next rest ≡ Err found)
          → read_lines version number script (line ∷ rest) ≡ Err found
      at (Err rule) bad later =
          let never : false ≡ true =
          sym (ap is_ok (line_bad number script line rule bad (take k rest))) ∙ h.good in
          absurd (cc)
      at (Ok next) good later =
          let goes_on = line_good number script line next good in
          goes_on rest
          ∙ later next (record {
            good = sym (ap is_ok (goes_on (take k rest))) ∙ h.good;
            bad = sym (goes_on (take (suc k) rest)) ∙ h.bad;
          })

  -- and it stays the first bad one where more lines stand behind
  pub more_lines : (number : ℕ) (script : Script) (xs ys : List (List ℕ)) (found : BadLine)
      → read_lines version number script xs ≡ Err found
      → read_lines version number script (xs ++ ys) ≡ Err found
  unfolding read_lines
  more_lines number script [] ys found is = absurd (cc)
  more_lines number script (line ∷ rest) ys found is =
      at (after_line version script line) refl
      (λ next e. more_lines (next_number number) next rest ys found e)
    where
      at : (after : Result Script Rule) → after_line version script line ≡ after
          → ((next : Script) → read_lines version (next_number number) next rest ≡ Err found
          → read_lines version (next_number number) next (rest ++ ys) ≡ Err found)
          → read_lines version number script (line ∷ rest ++ ys) ≡ Err found
      at (Err rule) bad later =
          line_bad number script line rule bad (rest ++ ys)
          ∙ sym (line_bad number script line rule bad rest) ∙ is
      at (Ok next) good later =
          line_good number script line next good (rest ++ ys)
          ∙ later next (sym (line_good number script line next good rest) ∙ is)
