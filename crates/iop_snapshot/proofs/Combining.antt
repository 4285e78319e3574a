-- Forms that are made of lawful ones are lawful.
use Rattle.std.proofs.Common.{◌≡◌, ◌↔◌, ℕ, ◌≤◌, Bool, true, false, ltb, eqb, List, [], ◌++◌, length, take, drop, Option, Some, None, refl, sym, ap, subst, ◌∙◌, append_assoc, append-nil, arith}
use Rattle.std.specs.Prelude.{option_and_then, option_map}
use Rattle.std.specs.List.{All}
use Rattle.std.proofs.lemmas.Bool.{ltb-false, le-ltb, eqb-true, eq-eqb, and_parts, and_from}
use Rattle.std.proofs.lemmas.Option.{same_Some, cond_some}
use Rattle.std.proofs.lemmas.List.{take_at, drop_at, take-append-drop, length-append, length-take, nil_from_length}
use Rattle.std.proofs.lemmas.List.Elements.{All-drop}
use Rattle.iop_base.specs.Numbers.{IsByte}
use Rattle.iop_snapshot.specs.Items.{read_bytes}
use Rattle.iop_snapshot.specs.Forms.{Form, IsSpelled, IsLawful, item, bytes, with_first, both, if_seen, seen_as, if_passes, tested, fits_where, spell_where, some_read, present, if_last, read_whole}
use Rattle.iop_snapshot.proofs.Spelling.{past_test, read_item-spell_item, reads_item}

-- the value of two steps
pub then_some : {A B : Type 0} (o : Option A) (f : A → Option B) (y : B)
    → option_and_then f o ≡ Some y → (x : A) × (o ≡ Some x) × (f x ≡ Some y)
then_some (Some x) f y e = (x, refl, e)
then_some None f y e = absurd cc

pub map_some : {A B : Type 0} (o : Option A) (f : A → B) (y : B) → option_map f o ≡ Some y
    → (x : A) × (o ≡ Some x) × (f x ≡ y)
map_some (Some x) f y e = (x, refl, same_Some (f x) y e)
map_some None f y e = absurd cc

-- the bytes behind a part are bytes
pub bytes_behind : {X : Type 0} {form : Form X} {all : List ℕ} {x : X} {rest : List ℕ}
    → All IsByte all → IsSpelled form all x rest → All IsByte rest
bytes_behind {X} {form} {all} {x} {rest} h s =
    let front = form.spell x in
    let behind = All-drop IsByte (length front) all h in
    subst (All IsByte) (ap (drop (length front)) s.parts ∙ drop_at front rest (length front) refl)
    behind

pub item_lawful : (widths : List ℕ) → IsLawful (item widths)
unfolding item
item_lawful widths = record {
  reads_spelled = read_item-spell_item widths;
  spells_read = λ all numbers rest h e.
      let r = reads_item widths all numbers rest h e in record { parts = r.parts; fits = r.fits };
}

reads_bytes : (n : ℕ) (xs rest : List ℕ) → eqb (length xs) n ≡ true
    → read_bytes n (xs ++ rest) ≡ Some (xs, rest)
reads_bytes n xs rest fits =
    let long = eqb-true (length xs) n fits in
    let room : n ≤ length (xs ++ rest) = omega (arith, length-append xs rest) in
    rw (le-ltb (length (xs ++ rest)) n room, take_at xs rest n long, drop_at xs rest n long) refl

pub bytes_lawful : (n : ℕ) → IsLawful (bytes n)
unfolding bytes
bytes_lawful n = record {
  reads_spelled = reads_bytes n;
  spells_read = λ all xs rest h e.
      let is = past_test (ltb (length all) n) (take n all, drop n all) (xs, rest) e in
      let room = ltb-false (length all) n is.0 in
      let front = ap (λ (p : List ℕ × List ℕ). p.0) is.1 in
      let back = ap (λ (p : List ℕ × List ℕ). p.1) is.1 in
      let long : length xs ≡ n = sym (ap length front) ∙ omega (arith, length-take n all) in
      record {
        parts = sym (take-append-drop n all) ∙ ap (λ (l : List ℕ). l ++ drop n all) front
            ∙ ap (λ (l : List ℕ). xs ++ l) back;
        fits = eq-eqb (length xs) n long;
      };
}

module _ {X : Type 0} where
  tested_spells : (form : Form X) (test : X → Bool)
      → ((all : List ℕ) (x : X) (rest : List ℕ) → All IsByte all
      → form.read all ≡ Some (x, rest) → IsSpelled form all x rest)
      → (all : List ℕ) (x : X) (rest : List ℕ) → All IsByte all
      → (tested form test).read all ≡ Some (x, rest) → IsSpelled (tested form test) all x rest
  tested_spells form test spells all x rest h e =
      let one = then_some (form.read all) (if_passes test) (x, rest) e in
      let two = cond_some (test one.0.0) one.0 (x, rest) one.2 in
      let read = spells all one.0.0 one.0.1 h one.1 in
      let made : IsSpelled (tested form test) all one.0.0 one.0.1 = record {
        parts = read.parts;
        fits = and_from (form.fits one.0.0) (test one.0.0) read.fits two.0;
      } in
      subst (λ (r : X × List ℕ). IsSpelled (tested form test) all r.0 r.1) two.1 made

  pub tested_lawful : (form : Form X) (test : X → Bool) → IsLawful form
      → IsLawful (tested form test)
  tested_lawful form test law = record {
    reads_spelled = λ x rest fits.
        let parts = and_parts (form.fits x) (test x) fits in
        rw (law.reads_spelled x rest parts.0, parts.1) refl;
    spells_read = tested_spells form test law.spells_read;
  }

module _ {X Y : Type 0} where
  both_reads : (form : Form X) (next : X → Form Y) → IsLawful form → ((x : X) → IsLawful (next x))
      → (pair : X × Y) (rest : List ℕ) → (both form next).fits pair ≡ true
      → (both form next).read ((both form next).spell pair ++ rest) ≡ Some (pair, rest)
  both_reads form next law laws pair rest fits =
      let parts = and_parts (form.fits pair.0) ((next pair.0).fits pair.1) fits in
      let second = (next pair.0).spell pair.1 in
      ap (both form next).read (append_assoc (form.spell pair.0) second rest)
      ∙ rw (
        law.reads_spelled pair.0 (second ++ rest) parts.0,
        (laws pair.0).reads_spelled pair.1 rest parts.1,
      ) refl

  both_spells : (form : Form X) (next : X → Form Y) → IsLawful form
      → ((x : X) → IsLawful (next x)) → (all : List ℕ) (pair : X × Y) (rest : List ℕ)
      → All IsByte all → (both form next).read all ≡ Some (pair, rest)
      → IsSpelled (both form next) all pair rest
  both_spells form next law laws all pair rest h e =
      let one = then_some (form.read all)
      (λ x. option_map (with_first x.0) ((next x.0).read x.1)) (pair, rest) e in
      let x = one.0.0 in
      let middle = one.0.1 in
      let two = map_some ((next x).read middle) (with_first x) (pair, rest) one.2 in
      let y = two.0.0 in
      let first = law.spells_read all x middle h one.1 in
      let second = (laws x).spells_read middle y two.0.1 (bytes_behind h first) two.1 in
      let made : IsSpelled (both form next) all (x, y) two.0.1 = record {
        parts = first.parts ∙ ap (λ (l : List ℕ). form.spell x ++ l) second.parts
            ∙ sym (append_assoc (form.spell x) ((next x).spell y) two.0.1);
        fits = and_from (form.fits x) ((next x).fits y) first.fits second.fits;
      } in
      subst (λ (r : (X × Y) × List ℕ). IsSpelled (both form next) all r.0 r.1) two.2 made

  pub both_lawful : (form : Form X) (next : X → Form Y) → IsLawful form
      → ((x : X) → IsLawful (next x)) → IsLawful (both form next)
  both_lawful form next law laws = record {
    reads_spelled = both_reads form next law laws;
    spells_read = both_spells form next law laws;
  }

  seen_spells : (form : Form X) (seen : X → Option Y) (back : Y → X) → IsLawful form
      → ((x : X) (y : Y) → form.fits x ≡ true → seen x ≡ Some y → back y ≡ x)
      → (all : List ℕ) (y : Y) (rest : List ℕ) → All IsByte all
      → (seen_as form seen back).read all ≡ Some (y, rest)
      → IsSpelled (seen_as form seen back) all y rest
  seen_spells form seen back law again all y rest h e =
      let one = then_some (form.read all) (if_seen seen) (y, rest) e in
      let x = one.0.0 in
      let behind = one.0.1 in
      let two = map_some (seen x) (λ (z : Y). (z, behind)) (y, rest) one.2 in
      let read = law.spells_read all x behind h one.1 in
      let same = again x two.0 read.fits two.1 in
      let made : IsSpelled (seen_as form seen back) all two.0 behind = record {
        parts = read.parts ∙ ap (λ (z : X). form.spell z ++ behind) (sym same);
        fits = ap form.fits same ∙ read.fits;
      } in
      subst (λ (r : Y × List ℕ). IsSpelled (seen_as form seen back) all r.0 r.1) two.2 made

  pub seen_lawful : (form : Form X) (seen : X → Option Y) (back : Y → X) → IsLawful form
      → ((y : Y) → form.fits (back y) ≡ true → seen (back y) ≡ Some y)
      → ((x : X) (y : Y) → form.fits x ≡ true → seen x ≡ Some y → back y ≡ x)
      → IsLawful (seen_as form seen back)
  seen_lawful form seen back law there again = record {
    reads_spelled = λ y rest fits.
        rw (law.reads_spelled (back y) rest fits, there y fits) refl;
    spells_read = seen_spells form seen back law again;
  }

  pub seen_tested_lawful : (form : Form X) (seen : X → Option Y) (back : Y → X)
      (test : Y → Bool) → IsLawful form
      → ((y : Y) → form.fits (back y) ≡ true → test y ≡ true → seen (back y) ≡ Some y)
      → ((x : X) (y : Y) → form.fits x ≡ true → seen x ≡ Some y → back y ≡ x)
      → IsLawful (tested (seen_as form seen back) test)
  seen_tested_lawful form seen back test law there again = record {
    reads_spelled = λ y rest fits.
        let parts = and_parts (form.fits (back y)) (test y) fits in
        rw (
          law.reads_spelled (back y) rest parts.0,
          there y parts.0 parts.1,
          parts.1,
        ) refl;
    spells_read = tested_spells (seen_as form seen back) test
        (seen_spells form seen back law again);
  }

module _ {X : Type 0} where
  present_reads : (there : Bool) (form : Form X) → IsLawful form → (o : Option X) (rest : List ℕ)
      → fits_where there form o ≡ true
      → (present there form).read (spell_where form o ++ rest) ≡ Some (o, rest)
  present_reads true form law None rest fits = absurd cc
  present_reads false form law None rest fits = refl
  present_reads true form law (Some x) rest fits = rw (law.reads_spelled x rest fits) refl
  present_reads false form law (Some x) rest fits = absurd cc

  present_spells : (there : Bool) (form : Form X) → IsLawful form → (all : List ℕ) (o : Option X)
      (rest : List ℕ) → All IsByte all → (present there form).read all ≡ Some (o, rest)
      → IsSpelled (present there form) all o rest
  present_spells true form law all o rest h e =
      let one = map_some (form.read all) some_read (o, rest) e in
      let read = law.spells_read all one.0.0 one.0.1 h one.1 in
      let made : IsSpelled (present true form) all (Some one.0.0) one.0.1 =
      record { parts = read.parts; fits = read.fits } in
      subst (λ (r : Option X × List ℕ). IsSpelled (present true form) all r.0 r.1) one.2 made
  present_spells false form law all o rest h e =
      let made : IsSpelled (present false form) all None all =
      record { parts = refl; fits = refl } in
      subst (λ (r : Option X × List ℕ). IsSpelled (present false form) all r.0 r.1)
      (same_Some (None, all) (o, rest) e) made

  pub present_lawful : (there : Bool) (form : Form X) → IsLawful form
      → IsLawful (present there form)
  present_lawful there form law = record {
    reads_spelled = present_reads there form law;
    spells_read = present_spells there form law;
  }

  pub none_begins : (form : Form X) → IsLawful form → (x y : X) (rest : List ℕ)
      → form.fits x ≡ true → form.fits y ≡ true → form.spell y ≡ form.spell x ++ rest
      → (x ≡ y) × (rest ≡ [])
  none_begins form law x y rest fits_x fits_y e =
      let read_x = law.reads_spelled x rest fits_x in
      let read_y = law.reads_spelled y [] fits_y in
      let same = same_Some (x, rest) (y, [])
      (sym read_x ∙ ap form.read (sym e ∙ sym (append-nil (form.spell y))) ∙ read_y) in
      (ap (λ (r : X × List ℕ). r.0) same, ap (λ (r : X × List ℕ). r.1) same)

  whole_reads : (form : Form X) → IsLawful form → (all : List ℕ) (x : X)
      → (all ≡ form.spell x) × (form.fits x ≡ true) → read_whole form all ≡ Some x
  unfolding read_whole
  whole_reads form law all x h =
      let read : form.read all ≡ Some (x, []) =
      ap form.read (h.0 ∙ sym (append-nil (form.spell x))) ∙ law.reads_spelled x [] h.1 in
      rw read refl

  whole_spells : (form : Form X) → IsLawful form → (all : List ℕ) (x : X) → All IsByte all
      → read_whole form all ≡ Some x → (all ≡ form.spell x) × (form.fits x ≡ true)
  unfolding read_whole
  whole_spells form law all x h e =
      let one = then_some (form.read all) if_last x e in
      let y = one.0.0 in
      let behind = one.0.1 in
      let two = cond_some (eqb (length behind) 0) y x one.2 in
      let read = law.spells_read all y behind h one.1 in
      let none : behind ≡ [] = nil_from_length behind (eqb-true (length behind) 0 two.0) in
      subst (λ (z : X). (all ≡ form.spell z) × (form.fits z ≡ true)) two.1 (
        read.parts ∙ ap (λ (l : List ℕ). form.spell y ++ l) none ∙ append-nil (form.spell y),
        read.fits,
      )

  pub whole_exact : (form : Form X) → IsLawful form → (all : List ℕ) (x : X) → All IsByte all
      → (read_whole form all ≡ Some x) ↔ ((all ≡ form.spell x) × (form.fits x ≡ true))
  whole_exact form law all x h = (whole_spells form law all x h, whole_reads form law all x)

  -- what one form reads another reads, where both are spelled alike and the same values fit
  reads_alike : (form other : Form X) → IsLawful form → IsLawful other
      → ((x : X) → form.spell x ≡ other.spell x) → ((x : X) → form.fits x ≡ other.fits x)
      → (all : List ℕ) (x : X) (rest : List ℕ) → All IsByte all → form.read all ≡ Some (x, rest)
      → other.read all ≡ Some (x, rest)
  reads_alike form other law others spelled fits all x rest h e =
      let read = law.spells_read all x rest h e in
      ap other.read (read.parts ∙ ap (λ (l : List ℕ). l ++ rest) (spelled x))
      ∙ others.reads_spelled x rest (sym (fits x) ∙ read.fits)

  pub forms_agree : (form other : Form X) → IsLawful form → IsLawful other
      → ((x : X) → form.spell x ≡ other.spell x) → ((x : X) → form.fits x ≡ other.fits x)
      → (all : List ℕ) → All IsByte all → form.read all ≡ other.read all
  forms_agree form other law others spelled fits all h =
      by (form.read all) (other.read all)
      (λ x e. reads_alike form other law others spelled fits all x.0 x.1 h e)
      (λ x e. reads_alike other form others law (λ y. sym (spelled y)) (λ y. sym (fits y)) all x.0
      x.1 h e)
    where
      by : (a b : Option (X × List ℕ)) → ((x : X × List ℕ) → a ≡ Some x → b ≡ Some x)
          → ((x : X × List ℕ) → b ≡ Some x → a ≡ Some x) → a ≡ b
      by (Some x) b to from = sym (to x refl)
      by None None to from = refl
      by None (Some x) to from = from x refl
