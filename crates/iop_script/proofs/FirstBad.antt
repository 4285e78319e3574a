-- The first bad line of a text is the first with which its front is bad.
use Rattle.std.proofs.Common.{◌≡◌, ℕ, zero, suc, ◌+◌, ◌-◌, ◌^◌, ◌<◌, ◌==◌, min, true, false, Option, None, Some, Err, is_ok, List, [], ◌∷◌, ◌++◌, length, take, refl, ap, sym, ◌∙◌, arith, inl, inr, ◌⊎◌}
use Rattle.std.proofs.lemmas.List.Splits.{length-slice_split}
use Rattle.iop_script.specs.Laws.{IsFirstBad, FirstBadLinesAreTold, BadLinesDecide}
use Rattle.iop_script.specs.Reading.{BadLine, bad_line, empty_script, read_lines, read_behind, read_all, script_of}
use Rattle.iop_script.specs.Texts.{line_feed, parts}
use Rattle.iop_script.specs.Versions.{version_of}
use Rattle.iop_script.specs.Writing.{first_lines}
use Rattle.iop_script.specs.declared.rule.Rule.TheVariants as rule
use Rattle.iop_script.specs.declared.version.Version.{Version}
use Rattle.iop_script.proofs.BadLines.{told, err_value, has_bad, is_bad, more_lines}
use Rattle.iop_script.proofs.PartsJoined.{parts-front, parts-append}

-- among all lines of a text, so many stand before the first bad one
record IsBadBefore (lines : List (List ℕ)) (before : ℕ) (found : BadLine) : Type 0 where
  good : (before ≡ zero) ⊎ (is_ok (read_all (take before lines)) ≡ true)
  bad : read_all (take (suc before) lines) ≡ Err found

record HasFirstBad (lines : List (List ℕ)) (found : BadLine) : Type 0 where
  before : ℕ
  is_told : found.number ≡ told (suc before)
  first : IsBadBefore lines before found

-- by the version that the first line tells
all_by : (first : List ℕ) (version : Option Version) → version_of first ≡ version
    → (lines : List (List ℕ)) → read_all (first ∷ lines) ≡ read_behind version lines
all_by first version is lines = ap (λ (v : Option Version). read_behind v lines) is

module _ (first : List ℕ) (rest : List (List ℕ)) where
  has_first : (found : BadLine) → read_all (first ∷ rest) ≡ Err found
      → HasFirstBad (first ∷ rest) found
  has_first found is = at (version_of first) refl
    where
      at : (version : Option Version) → version_of first ≡ version
          → HasFirstBad (first ∷ rest) found
      at None other =
          let same : bad_line 1 rule.FirstLine ≡ found =
          err_value (read_all (first ∷ rest)) (bad_line 1 rule.FirstLine) found
          (all_by first None other rest) is in
          let here : 1 ≡ told (suc zero) = omega arith in
          record {
            before = zero;
            is_told = sym (ap (λ (b : BadLine). b.number) same) ∙ here;
            first = record {
              good = inl refl;
              bad = all_by first None other [] ∙ ap Err same;
            };
          }
      at (Some version) good =
          let h = has_bad version 2 empty_script rest found (omega arith)
          (sym (all_by first (Some version) good rest) ∙ is) in
          let same : told (2 + h.behind) ≡ told (suc (suc h.behind)) = omega arith in
          record {
            before = suc h.behind;
            is_told = h.is_told ∙ same;
            first = record {
              good = inr (ap is_ok (all_by first (Some version) good (take h.behind rest))
                  ∙ h.first.good);
              bad = all_by first (Some version) good (take (suc h.behind) rest) ∙ h.first.bad;
            };
          }

  is_first_by : (before : ℕ) (found : BadLine) (version : Option Version)
      → version_of first ≡ version → IsBadBefore (first ∷ rest) before found
      → read_all (first ∷ rest) ≡ Err found
  unfolding read_lines
  is_first_by zero found None other h =
      all_by first None other rest ∙ sym (all_by first None other []) ∙ h.bad
  is_first_by zero found (Some version) good h =
      let never : read_behind (Some version) [] ≡ Err found =
      sym (all_by first (Some version) good []) ∙ h.bad in absurd (cc)
  is_first_by (suc k) found version is h = elim h.good [
    | inl none ↦ absurd (omega arith)
    | inr fine ↦ at version is fine
  ]
    where
      at : (version : Option Version) → version_of first ≡ version
          → is_ok (read_all (take (suc k) (first ∷ rest))) ≡ true
          → read_all (first ∷ rest) ≡ Err found
      at None other fine =
          let never : false ≡ true =
          sym (ap is_ok (all_by first None other (take k rest))) ∙ fine in
          absurd (cc)
      at (Some version) good fine =
          all_by first (Some version) good rest
          ∙ is_bad version k 2 empty_script rest found (record {
            good = sym (ap is_ok (all_by first (Some version) good (take k rest))) ∙ fine;
            bad = sym (all_by first (Some version) good (take (suc k) rest)) ∙ h.bad;
          })

found_in : (lines : List (List ℕ)) (found : BadLine) → 0 < length lines
    → read_all lines ≡ Err found → HasFirstBad lines found
found_in [] found some is = absurd (omega arith)
found_in (first ∷ rest) found some is = has_first first rest found is

decided_in : (lines : List (List ℕ)) (before : ℕ) (found : BadLine) → 0 < length lines
    → IsBadBefore lines before found → read_all lines ≡ Err found
decided_in [] before found some h = absurd (omega arith)
decided_in (first ∷ rest) before found some h =
    is_first_by first rest before found (version_of first) refl h

module _ (text : List ℕ) where
  abbrev lines : List (List ℕ)
  lines = parts line_feed text

  some_line : 0 < length lines
  some_line = omega (arith, length-slice_split (λ b. b == line_feed) text)

  front_read : (k : ℕ) → script_of (first_lines (suc k) text) ≡ read_all (take (suc k) lines)
  unfolding script_of
  front_read k = ap read_all (parts-front line_feed k text)

  no_line_bad : is_ok (script_of (first_lines zero text)) ≡ false
  unfolding script_of
  no_line_bad = refl

  -- the front before a line is good, as lines and as a text
  abbrev IsGoodBefore : ℕ → Type 0
  IsGoodBefore before = (before ≡ zero) ⊎ (is_ok (read_all (take before lines)) ≡ true)

  abbrev IsGoodText : ℕ → Type 0
  IsGoodText line = (line ≡ 1) ⊎ (is_ok (script_of (first_lines (line - 1) text)) ≡ true)

  behind_first : (k : ℕ) → first_lines (suc (suc k) - 1) text ≡ first_lines (suc k) text
  behind_first k =
      let same : suc (suc k) - 1 ≡ suc k = omega arith in ap (λ (n : ℕ). first_lines n text) same

  good_text : (before : ℕ) → IsGoodBefore before → IsGoodText (suc before)
  good_text zero h = inl refl
  good_text (suc k) h = elim h [
    | inl none ↦ absurd (omega arith)
    | inr good ↦
        inr (ap (λ (t : List ℕ). is_ok (script_of t)) (behind_first k) ∙ ap is_ok (front_read k)
        ∙ good)
  ]

  good_lines : (before : ℕ) → IsGoodText (suc before) → IsGoodBefore before
  good_lines zero h = inl refl
  good_lines (suc k) h = elim h [
    | inl first ↦ absurd (omega arith)
    | inr good ↦
        inr (sym (ap is_ok (front_read k))
        ∙ sym (ap (λ (t : List ℕ). is_ok (script_of t)) (behind_first k))
        ∙ good)
  ]

  bad_told : (line : ℕ) (found : BadLine) → IsFirstBad text line found
      → script_of text ≡ Err found
  unfolding script_of
  bad_told zero found h = elim h.good [
    | inl first ↦ absurd (omega arith)
    | inr good ↦
        let same : zero - 1 ≡ zero = omega arith in
        let front = ap (λ (n : ℕ). is_ok (script_of (first_lines n text))) same in
        let never : false ≡ true = sym no_line_bad ∙ sym front ∙ good in absurd (cc)
  ]
  bad_told (suc before) found h =
      decided_in lines before found some_line (record {
        good = good_lines before h.good;
        bad = sym (front_read before) ∙ h.bad;
      })

  told_bad : (found : BadLine) → script_of text ≡ Err found
      → (line : ℕ) × (found.number ≡ min line (2 ^ 32 - 1)) × IsFirstBad text line found
  unfolding script_of
  told_bad found is =
      let h = found_in lines found some_line is in (
        suc h.before,
        h.is_told,
        record {
          good = good_text h.before h.first.good;
          bad = front_read h.before ∙ h.first.bad;
        },
      )

pub first_bad_told : FirstBadLinesAreTold
first_bad_told = λ text found. (told_bad text found, λ h. bad_told text h.0 found h.2)

all_more : (lines more : List (List ℕ)) (found : BadLine) → 0 < length lines
    → read_all lines ≡ Err found → read_all (lines ++ more) ≡ Err found
all_more [] more found some is = absurd (omega arith)
all_more (first ∷ rest) more found some is = at (version_of first) refl
  where
    at : (version : Option Version) → version_of first ≡ version
        → read_all (first ∷ rest ++ more) ≡ Err found
    at None other =
        all_by first None other (rest ++ more) ∙ sym (all_by first None other rest) ∙ is
    at (Some version) good =
        all_by first (Some version) good (rest ++ more)
        ∙ more_lines version 2 empty_script rest more found
        (sym (all_by first (Some version) good rest) ∙ is)

pub bad_decides : BadLinesDecide
unfolding script_of
bad_decides text more found is =
    ap read_all (parts-append line_feed text more)
    ∙ all_more (parts line_feed text) (parts line_feed more) found (some_line text) is
