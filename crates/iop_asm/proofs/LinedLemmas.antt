-- The operands that a line's words give fit the fields of their row.
use Rattle.std.proofs.Common.{◌≡◌, ℕ, ◌+◌, ◌-◌, ◌<◌, ◌≤◌, ◌%◌, ◌^◌, zero, suc, ◌⊎◌, inl, inr, Bool, true, false, cond, Option, Some, None, List, [], ◌∷◌, codes, decimal, refl, ap, sym, ◌∙◌, subst, arith}
use Rattle.std.specs.List.{find, list_all, range_with_len}
use Rattle.std.specs.Option.{option_map, option_and_then, option_or}
use Rattle.std.specs.Str.{bytes_eq}
use Rattle.std.proofs.lemmas.Bool.{and_parts, leb-true}
use Rattle.std.proofs.lemmas.List.Quantifiers.{position-Some}
use Rattle.iop_isa.specs.declared.table.Operand.{Operand}
use Rattle.iop_isa.specs.declared.table.Operand.TheVariants.{Rd, Rs, Rt, Sa, Code, Signed, Bits, Label, Target, Base}
use Rattle.iop_isa.specs.Instructions.{number_limit}
use Rattle.iop_isa.specs.Registers.{conventional, numbered, register_named, register_names}
use Rattle.iop_asm.specs.Operands.{Value, Numeric, Register, Symbol, High, Low, register_of, immediate_of, name_within, value_of, operand_of, is_place, place_operands, place_words, last_place, operands_of, value_fits, operand_fits, field_of, lies_within, complement}
use Rattle.iop_asm.specs.Texts.{and_rest, behind, number_of, symbol_of}
use Rattle.iop_asm.specs.declared.number.Number.{Number}
use Rattle.iop_asm.proofs.OperandFields.{Suits, Item, Lined}

module _ {A B : Type 0} where
  -- a value made of another
  pub mapped : (f : A → B) (o : Option A) (y : B) → option_map f o ≡ Some y
      → (x : A) × (o ≡ Some x) × (f x ≡ y)
  mapped f None y is = absurd (cc)
  mapped f (Some x) y is = (x, refl, cc)

  pub then_some : (f : A → Option B) (o : Option A) (y : B) → option_and_then f o ≡ Some y
      → (x : A) × (o ≡ Some x) × (f x ≡ Some y)
  then_some f None y is = absurd (cc)
  then_some f (Some x) y is = (x, refl, is)

-- the first of numbers from 0 on
found_below : (p : ℕ → Bool) (low n k : ℕ) → find p (range_with_len low n) ≡ Some k → k < low + n
found_below p low zero k is = absurd (cc)
found_below p low (suc n) k is = at (p low) is (λ e. found_below p (low + 1) n k e)
  where
    at : (b : Bool) → cond b (Some low) (find p (range_with_len (low + 1) n)) ≡ Some k
        → (find p (range_with_len (low + 1) n) ≡ Some k → k < low + 1 + n) → k < low + suc n
    at true e later = let same : low ≡ k = cc in omega arith
    at false e later = let h = later e in omega (arith, h)

register_below : (name : List ℕ) (n : ℕ) → register_named name ≡ Some n → n < 32
unfolding register_named
register_below name n is = at (conventional name) refl is
  where
    at : (o : Option ℕ) → conventional name ≡ o → option_or o (numbered name) ≡ Some n → n < 32
    at (Some k) e found =
        let place = position-Some (λ known. bytes_eq known name) register_names k [] e in
        let same : k ≡ n = cc in omega (arith, place.0)
    at None e found = found_below (λ k. bytes_eq (decimal k) name) 0 32 n found

-- what fields hold of values that fit
register_suits : (o : Operand) (word : List ℕ) (v : Value)
    → ((n : ℕ) → n < 32 → n < number_limit o) → option_map Register (register_of word) ≡ Some v
    → Suits o v
register_suits o word v small is =
    let made = mapped Register (register_of word) v is in
    let read = then_some register_named (behind (codes "$") word) made.0 made.1 in
    subst (Suits o) made.2
    (record {
      low = small made.0 (register_below read.0 made.0 read.2);
      label = λ never. absurd (cc);
    })

label_low : (word : List ℕ) (v : Value) → option_map Symbol (symbol_of word) ≡ Some v
    → field_of v ≡ 0
label_low word v is =
    let made = mapped Symbol (symbol_of word) v is in
    subst (λ (x : Value). field_of x ≡ 0) made.2 refl

plain_low : (high : ℕ) (m : Number) → lies_within 0 high m ≡ true → complement 16 m ≤ high
plain_low high m fits = at m.negative refl (leb-true m.magnitude (cond m.negative 0 high) fits)
  where
    at : (b : Bool) → m.negative ≡ b → m.magnitude ≤ cond m.negative 0 high
        → cond m.negative ((2 ^ 16 - m.magnitude) % 2 ^ 16) m.magnitude ≤ high
    at true e below =
        let none : m.magnitude ≤ 0 =
        subst (λ (b : Bool). m.magnitude ≤ cond b 0 high) e below in
        rw e (omega arith)
    at false e below =
        let small : m.magnitude ≤ high =
        subst (λ (b : Bool). m.magnitude ≤ cond b 0 high) e below in
        rw e small

signed_low : (m : Number) → lies_within (2 ^ 15) (2 ^ 15 - 1) m ≡ true → complement 16 m < 2 ^ 16
signed_low m fits =
    at m.negative refl (leb-true m.magnitude (cond m.negative (2 ^ 15) (2 ^ 15 - 1)) fits)
  where
    at : (b : Bool) → m.negative ≡ b → m.magnitude ≤ cond m.negative (2 ^ 15) (2 ^ 15 - 1)
        → cond m.negative ((2 ^ 16 - m.magnitude) % 2 ^ 16) m.magnitude < 2 ^ 16
    at true e below = rw e (omega arith)
    at false e below =
        let small : m.magnitude ≤ 2 ^ 15 - 1 =
        subst (λ (b : Bool). m.magnitude ≤ cond b (2 ^ 15) (2 ^ 15 - 1)) e below in
        rw e (omega (arith, small))

number_suits : (high : ℕ) (o : Operand) (word : List ℕ) (v : Value) → high < number_limit o
    → ((m : Number) → value_fits o (Numeric m) ≡ lies_within 0 high m)
    → option_map Numeric (number_of word) ≡ Some v → value_fits o v ≡ true → Suits o v
number_suits high o word v small is_test is fits =
    let made = mapped Numeric (number_of word) v is in
    subst (λ (x : Value). value_fits o x ≡ true → Suits o x) made.2
    (λ t. let low = plain_low high made.0 (sym (is_test made.0) ∙ t) in record {
      low = omega (arith, low, small);
      label = λ never. absurd (cc);
    }) fits

-- an immediate is a number, or a label decides it
or_some : {A : Type 0} (o q : Option A) (y : A) → option_or o q ≡ Some y
    → (o ≡ Some y) ⊎ (q ≡ Some y)
or_some None q y is = inr is
or_some (Some x) q y is = inl is

immediate_is : (word : List ℕ) (v : Value) → immediate_of word ≡ Some v
    → ((m : Number) × (Numeric m ≡ v)) ⊎ (field_of v ≡ 0)
unfolding immediate_of
immediate_is word v is =
    let in_high = name_within (codes "%hi(") word in
    let in_low = name_within (codes "%lo(") word in
    let in_number = number_of word in
    elim (or_some (option_map High in_high)
    (option_or (option_map Low in_low) (option_map Numeric in_number)) v is) [
      | inl high ↦
          let made = mapped High in_high v high in
          inr (subst (λ (x : Value). field_of x ≡ 0) made.2 refl)
      | inr more ↦ elim (or_some (option_map Low in_low) (option_map Numeric in_number) v more) [
        | inl low ↦
            let made = mapped Low in_low v low in
            inr (subst (λ (x : Value). field_of x ≡ 0) made.2 refl)
        | inr number ↦ let made = mapped Numeric in_number v number in inl (made.0, made.2)
      ]
    ]

immediate_low : (o : Operand) (word : List ℕ) (v : Value)
    → ((m : Number) → value_fits o (Numeric m) ≡ true → complement 16 m < 2 ^ 16)
    → immediate_of word ≡ Some v → value_fits o v ≡ true → field_of v < 2 ^ 16
immediate_low o word v small is fits = elim (immediate_is word v is) [
  | inl number ↦
      subst (λ (x : Value). value_fits o x ≡ true → field_of x < 2 ^ 16) number.1
      (small number.0) fits
  | inr none ↦ omega (arith, none)
]

value_suits : (o : Operand) (word : List ℕ) (v : Value) → value_of o word ≡ Some v
    → value_fits o v ≡ true → Suits o v
value_suits Rd word v is fits = register_suits Rd word v (λ n small. small) is
value_suits Rs word v is fits = register_suits Rs word v (λ n small. small) is
value_suits Rt word v is fits = register_suits Rt word v (λ n small. small) is
value_suits Base word v is fits = register_suits Base word v (λ n small. small) is
value_suits Sa word v is fits = number_suits (2 ^ 5 - 1) Sa word v (omega arith) (λ m. refl) is fits
value_suits Code word v is fits =
    number_suits (2 ^ 20 - 1) Code word v (omega arith) (λ m. refl) is fits
value_suits Signed word v is fits =
    record { low = immediate_low Signed word v signed_low is fits; label = λ e. refl }
value_suits Bits word v is fits = record {
  low = immediate_low Bits word v
      (λ m t. let low = plain_low (2 ^ 16 - 1) m t in omega (arith, low)) is fits;
  label = λ e. refl;
}
value_suits Label word v is fits =
    let none = label_low word v is in record { low = omega (arith, none); label = λ e. refl }
value_suits Target word v is fits =
    let none = label_low word v is in record { low = omega (arith, none); label = λ e. refl }

-- an item and those behind it
record AreBoth (first : Option Item) (rest : Option (List Item)) (all : List Item) : Type 0 where
  item : Item
  items : List Item
  is_item : first ≡ Some item
  are_items : rest ≡ Some items
  same : item ∷ items ≡ all

both_there : (first : Option Item) (rest : Option (List Item)) (all : List Item)
    → and_rest first rest ≡ Some all → AreBoth first rest all
both_there first rest all is =
    let head = then_some (λ (x : Item). option_map (λ (xs : List Item). x ∷ xs) rest) first all is
    in
    let tail = mapped (λ (xs : List Item). head.0 ∷ xs) rest all head.2 in record {
      item = head.0;
      items = tail.0;
      is_item = head.1;
      are_items = tail.1;
      same = tail.2;
    }

abbrev with_value : Operand → Value → Item
with_value o v = (o, v)

one_lined : (o : Operand) (operands : List Operand) (word : List ℕ) (value : Item)
    (values : List Item) → operand_of o word ≡ Some value → operand_fits value ≡ true
    → Lined operands values → Lined (o ∷ operands) (value ∷ values)
one_lined o operands word value values is fits rest =
    let made = mapped (with_value o) (value_of o word) value is in
    subst (λ (x : Item). operand_fits x ≡ true → Lined (o ∷ operands) (x ∷ values))
    made.2 (λ t. (refl, value_suits o word made.0 made.1 t, rest)) fits

more_lined : (o : Operand) (operands : List Operand) (word : List ℕ)
    (rest : Option (List Item)) (values : List Item)
    → and_rest (operand_of o word) rest ≡ Some values → list_all operand_fits values ≡ true
    → ((others : List Item) → rest ≡ Some others
    → list_all operand_fits others ≡ true → Lined operands others)
    → Lined (o ∷ operands) values
more_lined o operands word rest values is fits later =
    let both = both_there (operand_of o word) rest values is in
    let tests = and_parts (operand_fits both.item) (list_all operand_fits both.items)
    (ap (list_all operand_fits) both.same ∙ fits) in
    subst (Lined (o ∷ operands)) both.same
    (one_lined o operands word both.item both.items both.is_item tests.0
    (later both.items both.are_items tests.1))

none_lined : (values : List Item) → values ≡ [] → Lined [] values
none_lined [] is = tt
none_lined (value ∷ values) is = absurd (cc)

place_is : (operands : List Operand) → is_place operands ≡ true → Signed ∷ Base ∷ [] ≡ operands
place_is (Signed ∷ Base ∷ []) is = refl
place_is operands is = absurd (cc)

place_lined : (word : List ℕ) (words : List (List ℕ)) (values : List Item)
    → last_place word words ≡ Some values → list_all operand_fits values ≡ true
    → Lined (Signed ∷ Base ∷ []) values
place_lined word [] values is fits =
    let place = then_some place_operands (place_words word) values is in
    more_lined Signed (Base ∷ []) place.0.0 (and_rest (operand_of Base place.0.1) (Some [])) values
    place.2 fits
    (λ others e t. more_lined Base [] place.0.1 (Some []) others e t
    (λ none e2 t2. let same : none ≡ [] = cc in none_lined none same))
place_lined word (more ∷ words) values is fits = absurd (cc)

pub lined_of : (operands : List Operand) (words : List (List ℕ)) (values : List Item)
    → operands_of operands words ≡ Some values → list_all operand_fits values ≡ true
    → Lined operands values
unfolding operands_of
lined_of [] [] values is fits = let same : values ≡ [] = cc in none_lined values same
lined_of [] (word ∷ words) values is fits = absurd (cc)
lined_of (o ∷ operands) [] values is fits = absurd (cc)
lined_of (o ∷ operands) (word ∷ words) values is fits =
    at (is_place (o ∷ operands)) refl is
    (λ others e t. lined_of operands words others e t)
  where
    at : (b : Bool) → is_place (o ∷ operands) ≡ b
        → cond b (last_place word words)
        (and_rest (operand_of o word) (operands_of operands words)) ≡ Some values
        → ((others : List Item) → operands_of operands words ≡ Some others
        → list_all operand_fits others ≡ true → Lined operands others)
        → Lined (o ∷ operands) values
    at true e read later =
        subst (λ (os : List Operand). Lined os values) (place_is (o ∷ operands) e)
        (place_lined word words values read fits)
    at false e read later =
        more_lined o operands word (operands_of operands words) values read fits later
