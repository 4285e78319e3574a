-- Lists that are written one item after the other.
use Rattle.std.proofs.Common.{◌≡◌, ℕ, ◌+◌, ◌-◌, ◌<◌, ◌≤◌, ◌^◌, true, ◌&&◌, ltb, Result, Ok, Err, List, [], ◌∷◌, ◌++◌, length, refl, sym, ap, subst, ◌∙◌, arith}
use Rattle.std.specs.Result.{IsErr, OnOk}
use Rattle.std.specs.List.{list_all, flat_map}
use Rattle.std.proofs.lemmas.Bool.{and_from, lt-ltb}
use Rattle.iop_base.specs.declared.write_fault.WriteFault.{WriteFault}
use Rattle.iop_snapshot.specs.Items.{fits_item}
use Rattle.iop_snapshot.specs.Writing.{Place, Writes}
use Rattle.iop_snapshot.specs.Forms.{Form, fits_items, fits_list, spell_count, spell_list}
use Rattle.iop_snapshot.specs.declared.widths.TheConstants.{COUNT}
use Rattle.iop_snapshot.proofs.Sending.{writes_then, writes_exit, Continues, continues_first, continues_then, continues_exit, continues_last}

-- what holds where a call went well
pub if_ok : {T E P Q : Type 0} (r : Result T E) → (P → Q) → OnOk r P → OnOk r Q
if_ok (Ok x) f h = f h
if_ok (Err e) f h = tt

module _ {X : Type 0} where
  pub plain_fits : (form : Form X) (before xs : List X)
      → fits_items (λ _. form) before xs ≡ list_all form.fits xs
  unfolding fits_items
  plain_fits form before [] = refl
  plain_fits form before (x ∷ xs) =
      ap (λ b. form.fits x && b) (plain_fits form (before ++ x ∷ []) xs)

  -- so many items are still to be written, which are these; those before them have spellings
  pub record Saved (form : Form X) (xs : List X) (ahead : List X → Type 0) (n : ℕ) (p q : Place)
      : Type 0 where
    pub rest : List X
    pub there : ahead rest
    pub count : length rest ≡ n
    pub goes_on : Continues (flat_map form.spell xs) (flat_map form.spell rest) p q
    pub fit : list_all form.fits rest ≡ true → list_all form.fits xs ≡ true

  pub saved_none : (form : Form X) (xs : List X) (ahead : List X → Type 0) (n : ℕ) (p : Place)
      → ahead xs → length xs ≡ n → Saved form xs ahead (n - 0) p p
  saved_none form xs ahead n p h e = record {
    rest = xs;
    there = h;
    count = omega (arith, e);
    goes_on = continues_first (flat_map form.spell xs) p;
    fit = λ h. h;
  }

  -- what is written of the first of some items, and what is ahead then
  abbrev IsNext : (List X → Type 0) → (X → List X → Type 0) → Type 0
  IsNext ahead Holds = (x : X) (rest : List X) → ahead (x ∷ rest) → Holds x rest

  pub saved_more : (form : Form X) (xs : List X) (old new : List X → Type 0) (n i : ℕ)
      (p q s : Place) (u : Unit {0}) → i < n → Saved form xs old (n - i) p q
      → IsNext old (λ x rest. Writes (Ok u) (form.spell x) q s)
      → IsNext old (λ x rest. new rest × (form.fits x ≡ true))
      → Saved form xs new (n - (i + 1)) p s
  saved_more form xs old new n i p q s u inside h writes next =
      more h.rest h.there h.count h.goes_on h.fit
    where
      more : (rest : List X) → old rest → length rest ≡ n - i
          → Continues (flat_map form.spell xs) (flat_map form.spell rest) p q
          → (list_all form.fits rest ≡ true → list_all form.fits xs ≡ true)
          → Saved form xs new (n - (i + 1)) p s
      more [] there count goes_on fit = absurd (omega (arith, inside, count))
      more (x ∷ rest) there count goes_on fit =
          let left = next x rest there in record {
            rest = rest;
            there = left.0;
            count = omega (arith, count);
            goes_on = continues_then goes_on (writes x rest there);
            fit = λ all. fit (and_from (form.fits x) (list_all form.fits rest) left.1 all);
          }

  pub saved_short : (form : Form X) (xs : List X) (old : List X → Type 0) (n i : ℕ)
      (p q s : Place) (r : Result Unit WriteFault) (f : WriteFault) → i < n → IsErr r
      → Saved form xs old (n - i) p q → IsNext old (λ x rest. Writes (Err f) (form.spell x) q s)
      → Writes r (flat_map form.spell xs) p s
  saved_short form xs old n i p q s r f inside failed h writes =
      short h.rest h.there h.count h.goes_on
    where
      short : (rest : List X) → old rest → length rest ≡ n - i
          → Continues (flat_map form.spell xs) (flat_map form.spell rest) p q
          → Writes r (flat_map form.spell xs) p s
      short [] there count goes_on = absurd (omega (arith, inside, count))
      short (x ∷ rest) there count goes_on =
          continues_exit r (flat_map form.spell rest) failed goes_on (writes x rest there)

  pub saved_all : (form : Form X) (xs : List X) (ahead : List X → Type 0) (n i : ℕ)
      (p q : Place) → n ≤ i → Saved form xs ahead (n - i) p q
      → Writes (Ok tt) (flat_map form.spell xs) p q × (list_all form.fits xs ≡ true)
  saved_all form xs ahead n i p q past h = all h.rest h.count h.goes_on h.fit
    where
      all : (rest : List X) → length rest ≡ n - i
          → Continues (flat_map form.spell xs) (flat_map form.spell rest) p q
          → (list_all form.fits rest ≡ true → list_all form.fits xs ≡ true)
          → Writes (Ok tt) (flat_map form.spell xs) p q × (list_all form.fits xs ≡ true)
      all [] count goes_on fit = (continues_last goes_on refl, fit refl)
      all (x ∷ rest) count goes_on fit = absurd (omega (arith, past, count))

  -- a list: its count, and its items behind it
  pub list_short : (form : Form X) (xs : List X) (n : ℕ) (p q : Place) (r : Result Unit WriteFault)
      (f : WriteFault) → IsErr r → length xs ≡ n → Writes (Err f) (spell_count n) p q
      → Writes r (spell_list form xs) p q
  unfolding spell_list
  list_short form xs n p q r f failed e w =
      writes_exit r (flat_map form.spell xs) failed
      (subst (λ m. Writes (Err f) (spell_count m) p q) (sym e) w)

  pub list_whole : (form : Form X) (xs : List X) (n : ℕ) (p q s : Place)
      (r : Result Unit WriteFault) (u : Unit {0}) → length xs ≡ n
      → Writes (Ok u) (spell_count n) p q → Writes r (flat_map form.spell xs) q s
      → Writes r (spell_list form xs) p s
  unfolding spell_list
  list_whole form xs n p q s r u e count items =
      writes_then (subst (λ m. Writes (Ok u) (spell_count m) p q) (sym e) count) items

  pub list_fits : (form : Form X) (xs : List X) → length xs < 2 ^ 32
      → list_all form.fits xs ≡ true → fits_list (λ _. form) xs ≡ true
  unfolding fits_list
  list_fits form xs few all =
      let counted : fits_item COUNT (length xs ∷ []) ≡ true =
      and_from (ltb (length xs) (2 ^ 32)) true (lt-ltb (length xs) (2 ^ 32) few) refl in
      and_from (fits_item COUNT (length xs ∷ [])) (fits_items (λ _. form) [] xs) counted
      (plain_fits form [] xs ∙ all)
