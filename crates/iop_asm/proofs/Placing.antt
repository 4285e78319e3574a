-- What becomes of an instruction's word when its label has an address.
use Rattle.std.proofs.Common.{◌≡◌, ℕ, ◌+◌, ◌<◌, Bool, true, false, cond, Option, Some, None, is_some, unwrap_or, List, [], ◌∷◌, fold, map, refl, ap, sym, ◌∙◌, subst, arith}
use Rattle.std.specs.List.{list_all}
use Rattle.std.proofs.lemmas.Bool.{and_parts}
use Rattle.iop_isa.specs.declared.fields.Fields.{Fields}
use Rattle.iop_isa.specs.declared.opcode.Opcode.{Opcode}
use Rattle.iop_isa.specs.declared.table.Operand.{Operand}
use Rattle.iop_isa.specs.declared.table.Operand.TheVariants.{Signed, Bits, Label, Target}
use Rattle.iop_isa.specs.Table.{code_of}
use Rattle.iop_isa.specs.Instructions.{number_limit, with_number, word_with}
use Rattle.iop_asm.specs.Assembly.{field_by, label_address, referred_word}
use Rattle.iop_asm.specs.Cells.{Reference}
use Rattle.iop_asm.specs.Drafts.{Draft}
use Rattle.iop_asm.specs.Laws.{placed_by, placed_number}
use Rattle.iop_asm.specs.Operands.{Value, Symbol, High, Low, field_of, with_operand, reference_by, or_reference}
use Rattle.iop_asm.proofs.OperandFields.{in_label, names_label, Suits, Item, Lined, AreLow}
use Rattle.iop_asm.proofs.LabelSlots.{carries, not_label, has_one_label, numeric, no_reference, moved, added, word_small, label_zero, one_behind, plain_value}

module _ (final : Draft) (site line : ℕ) where
  -- an operand with the number that it has in the word at the site
  abbrev pub placed : Item → Item
  placed x = (x.0, numeric (placed_number final site line x))

  placed_plain : (o : Operand) (v : Value) → names_label v ≡ false
      → placed_number final site line (o, v) ≡ field_of v
  placed_plain o v none = ap (placed_by final site (field_of v)) (no_reference line o v none)

  label_low : (o : Operand) (v : Value) → names_label v ≡ true → in_label o ≡ true
      → placed_number final site line (o, v) < number_limit o
  label_low Signed (Symbol name) label fits = omega arith
  label_low Signed (High name) label fits = omega arith
  label_low Signed (Low name) label fits = omega arith
  label_low Bits (Symbol name) label fits = omega arith
  label_low Bits (High name) label fits = omega arith
  label_low Bits (Low name) label fits = omega arith
  label_low Label (Symbol name) label fits = omega arith
  label_low Label (High name) label fits = omega arith
  label_low Label (Low name) label fits = omega arith
  label_low Target (Symbol name) label fits = omega arith
  label_low Target (High name) label fits = omega arith
  label_low Target (Low name) label fits = omega arith
  label_low o v label fits = absurd (cc)

  placed_low : (o : Operand) (v : Value) → Suits o v
      → placed_number final site line (o, v) < number_limit o
  placed_low o v suits = at (names_label v) refl
    where
      at : (b : Bool) → names_label v ≡ b → placed_number final site line (o, v) < number_limit o
      at true e = label_low o v e (suits.label e)
      at false e = let same = placed_plain o v e in omega (arith, same, suits.low)

  names_there : (o : Operand) (v : Value) → names_label v ≡ true
      → is_some (reference_by line o v) ≡ true
  names_there Target (Symbol name) label = refl
  names_there o (Symbol name) label = refl
  names_there o (High name) label = refl
  names_there o (Low name) label = refl
  names_there o v label = absurd (cc)

  stays : (r : Reference) (values : List Item) → fold (or_reference line) (Some r) values ≡ Some r
  stays r [] = refl
  stays r (value ∷ values) = stays r values

  rest_same : (operands : List Operand) (values : List Item) (f : Fields) → Lined operands values
      → list_all not_label operands ≡ true
      → fold with_operand f (map placed values) ≡ fold with_operand f values
  rest_same [] [] f lined none = refl
  rest_same [] (value ∷ values) f lined none = absurd lined
  rest_same (o ∷ operands) [] f lined none = absurd lined
  rest_same (o ∷ operands) ((p, v) ∷ values) f lined none =
      let tests = and_parts (not_label o) (list_all not_label operands) none in
      ap (λ (n : ℕ). fold with_operand (with_number p n f) (map placed values))
      (placed_plain p v (plain_value o v lined.1 tests.0))
      ∙ rest_same operands values (with_number p (field_of v) f) lined.2 tests.1

  pub lined_placed : (operands : List Operand) (values : List Item) → Lined operands values
      → Lined operands (map placed values)
  lined_placed [] [] lined = tt
  lined_placed [] (value ∷ values) lined = absurd lined
  lined_placed (o ∷ operands) [] lined = absurd lined
  lined_placed (o ∷ operands) ((p, v) ∷ values) lined = (
    lined.0,
    record {
      low = subst (λ (q : Operand). placed_number final site line (q, v) < number_limit o)
          (sym lined.0) (placed_low o v lined.1);
      label = λ never. absurd (cc);
    },
    lined_placed operands values lined.2,
  )

  pub numbers_placed : (values : List Item)
      → map (λ o. field_of o.1) (map placed values) ≡ map (placed_number final site line) values
  numbers_placed [] = refl
  numbers_placed (value ∷ values) =
      ap (λ (numbers : List ℕ). placed_number final site line value ∷ numbers)
      (numbers_placed values)

  module _ (opcode : Opcode) (small : code_of opcode < 63) where
    -- the label's number is added to the word
    label_added : (o p : Operand) (v : Value) (operands : List Operand) (values : List Item)
        (f : Fields) (r : Reference) → p ≡ o → in_label o ≡ true → carries opcode o ≡ true
        → names_label v ≡ true → reference_by line p v ≡ Some r → Lined operands values
        → list_all not_label operands ≡ true
        → AreLow (fold with_operand f (map placed ((p, v) ∷ values)))
        → referred_word final site
        (word_with opcode (fold with_operand f ((p, v) ∷ values))) (Some r)
        ≡ word_with opcode (fold with_operand f (map placed ((p, v) ∷ values)))
    label_added o p v operands values f r same label carried names is lined none low =
        let n : ℕ = placed_number final site line (p, v) in
        let rest : Fields = fold with_operand f values in
        let fits : in_label p ≡ true =
        subst (λ (q : Operand). in_label q ≡ true) (sym same) label in
        let has : carries opcode p ≡ true =
        subst (λ (q : Operand). carries opcode q ≡ true) (sym same) carried in
        let number : n ≡ field_by r.kind site (unwrap_or (label_address final r.label) 0) =
        ap (placed_by final site (field_of v)) is in
        let before : word_with opcode (fold with_operand f ((p, v) ∷ values))
        ≡ word_with opcode (with_number p 0 rest) =
        ap (λ (k : ℕ). word_with opcode (fold with_operand (with_number p k f) values))
        (label_zero v names)
        ∙ ap (word_with opcode) (moved operands values p 0 f lined none fits) in
        let after : word_with opcode (fold with_operand f (map placed ((p, v) ∷ values)))
        ≡ word_with opcode (with_number p 0 rest) + n =
        ap (word_with opcode) (rest_same operands values (with_number p n f) lined none
        ∙ moved operands values p n f lined none fits)
        ∙ added opcode p n rest fits has in
        let bound = word_small opcode (fold with_operand f (map placed ((p, v) ∷ values))) low small
        in
        omega (arith, number, before, after, bound)

    pub word_placed : (operands : List Operand) (values : List Item) (f : Fields)
        → Lined operands values → has_one_label operands ≡ true
        → list_all (carries opcode) operands ≡ true
        → AreLow (fold with_operand f (map placed values))
        → referred_word final site (word_with opcode (fold with_operand f values))
        (fold (or_reference line) None values)
        ≡ word_with opcode (fold with_operand f (map placed values))
    word_placed [] [] f lined one all low = refl
    word_placed [] (value ∷ values) f lined one all low = absurd lined
    word_placed (o ∷ operands) [] f lined one all low = absurd lined
    word_placed (o ∷ operands) ((p, v) ∷ values) f lined one all low =
        let tests = and_parts (carries opcode o) (list_all (carries opcode) operands) all in
        at (names_label v) refl tests.0
        (λ g few. word_placed operands values g lined.2 (one_behind (in_label o) operands one)
        tests.1 few)
      where
        at : (b : Bool) → names_label v ≡ b → carries opcode o ≡ true
            → ((g : Fields) → AreLow (fold with_operand g (map placed values))
            → referred_word final site (word_with opcode (fold with_operand g values))
            (fold (or_reference line) None values)
            ≡ word_with opcode (fold with_operand g (map placed values)))
            → referred_word final site (word_with opcode (fold with_operand f ((p, v) ∷ values)))
            (fold (or_reference line) None ((p, v) ∷ values))
            ≡ word_with opcode (fold with_operand f (map placed ((p, v) ∷ values)))
        at false none carried later =
            let same = placed_plain p v none in
            let few = subst
            (λ (n : ℕ). AreLow (fold with_operand (with_number p n f) (map placed values)))
            same low in
            ap (λ (found : Option Reference).
            referred_word final site
            (word_with opcode (fold with_operand (with_number p (field_of v) f) values))
            (fold (or_reference line) found values)) (no_reference line p v none)
            ∙ later (with_number p (field_of v) f) few
            ∙ ap (λ (n : ℕ).
            word_with opcode (fold with_operand (with_number p n f) (map placed values)))
            (sym same)
        at true names carried later = by_reference (reference_by line p v) refl
          where
            label : in_label o ≡ true
            label = lined.1.label names

            rest_plain : list_all not_label operands ≡ true
            rest_plain =
                subst (λ (b : Bool).
                cond b (list_all not_label operands) (has_one_label operands) ≡ true) label one

            by_reference : (found : Option Reference) → reference_by line p v ≡ found
                → referred_word final site
                (word_with opcode (fold with_operand f ((p, v) ∷ values)))
                (fold (or_reference line) (reference_by line p v) values)
                ≡ word_with opcode (fold with_operand f (map placed ((p, v) ∷ values)))
            by_reference None e =
                let never : false ≡ true = sym (ap is_some e) ∙ names_there p v names in absurd (cc)
            by_reference (Some r) e =
                ap (λ (found : Option Reference).
                referred_word final site (word_with opcode (fold with_operand f ((p, v) ∷ values)))
                (fold (or_reference line) found values)) e
                ∙ ap (referred_word final site
                (word_with opcode (fold with_operand f ((p, v) ∷ values)))) (stays r values)
                ∙ label_added o p v operands values f r lined.0 label carried names e lined.2
                rest_plain low
