-- The fields of words that labels decide.
use Rattle.std.proofs.Common.{◌≡◌, ℕ, ◌+◌, ◌<◌, ◌^◌, Bool, true, false, not, cond, None, List, [], ◌∷◌, fold, refl, ap, sym, ◌∙◌, subst, arith}
use Rattle.std.specs.List.{list_all}
use Rattle.std.proofs.lemmas.Bool.{and_parts}
use Rattle.iop_isa.specs.declared.fields.Fields.{Fields}
use Rattle.iop_isa.specs.declared.opcode.Opcode.{Opcode}
use Rattle.iop_isa.specs.declared.opcode.Opcode.TheVariants.{Special, Regimm, Primary}
use Rattle.iop_isa.specs.declared.table.Operand.{Operand}
use Rattle.iop_isa.specs.declared.table.Operand.TheVariants.{Rd, Rs, Rt, Sa, Code, Signed, Bits, Label, Target, Base}
use Rattle.iop_isa.specs.Table.{code_of}
use Rattle.iop_isa.specs.Instructions.{with_number, word_with}
use Rattle.iop_asm.specs.Operands.{Value, Numeric, Register, Symbol, High, Low, field_of, with_operand, reference_by}
use Rattle.iop_asm.proofs.OperandFields.{is_apart, in_label, names_label, Suits, Item, Lined, AreLow}

-- an opcode's words have the field of an operand that a label can decide
abbrev pub carries : Opcode → Operand → Bool
carries (Special function) o = not (in_label o)
carries (Regimm rt) o = is_apart Target o
carries (Primary opcode) o = true

abbrev pub not_label : Operand → Bool
not_label o = not (in_label o)

-- one operand at most can be decided by a label
abbrev pub has_one_label : List Operand → Bool
has_one_label [] = true
has_one_label (o ∷ operands) =
    cond (in_label o) (list_all not_label operands) (has_one_label operands)

-- a number as a value
abbrev pub numeric : ℕ → Value
numeric n = Numeric (record { negative = false; magnitude = n })

pub no_reference : (line : ℕ) (o : Operand) (v : Value) → names_label v ≡ false
    → reference_by line o v ≡ None
no_reference line Target (Numeric n) none = refl
no_reference line Target (Register n) none = refl
no_reference line o (Numeric n) none = refl
no_reference line o (Register n) none = refl
no_reference line o v none = absurd (cc)

-- what stands in fields that no label decides changes places with what one decides
swap : (q o : Operand) (m n : ℕ) (f : Fields) → not_label q ≡ true → in_label o ≡ true
    → with_number q m (with_number o n f) ≡ with_number o n (with_number q m f)
swap Signed o m n f p l = absurd (cc)
swap Bits o m n f p l = absurd (cc)
swap Label o m n f p l = absurd (cc)
swap Target o m n f p l = absurd (cc)
swap q Rd m n f p l = absurd (cc)
swap q Rs m n f p l = absurd (cc)
swap q Rt m n f p l = absurd (cc)
swap q Sa m n f p l = absurd (cc)
swap q Code m n f p l = absurd (cc)
swap q Base m n f p l = absurd (cc)
swap q o m n f p l = refl

pub moved : (operands : List Operand) (values : List Item) (o : Operand) (n : ℕ) (f : Fields)
    → Lined operands values → list_all not_label operands ≡ true → in_label o ≡ true
    → fold with_operand (with_number o n f) values ≡ with_number o n (fold with_operand f values)
moved [] [] o n f lined none label = refl
moved [] (value ∷ values) o n f lined none label = absurd lined
moved (q ∷ operands) [] o n f lined none label = absurd lined
moved (q ∷ operands) ((p, v) ∷ values) o n f lined none label =
    let tests = and_parts (not_label q) (list_all not_label operands) none in
    let other : not_label p ≡ true =
    subst (λ (x : Operand). not_label x ≡ true) (sym lined.0) tests.0 in
    ap (λ (g : Fields). fold with_operand g values) (swap p o (field_of v) n f other label)
    ∙ moved operands values o n (with_number p (field_of v) f) lined.2 tests.1 label

-- the number that a label decides is added to the word
pub added : (opcode : Opcode) (o : Operand) (n : ℕ) (f : Fields) → in_label o ≡ true
    → carries opcode o ≡ true
    → word_with opcode (with_number o n f) ≡ word_with opcode (with_number o 0 f) + n
added (Special function) o n f label carried =
    let never : false ≡ true = sym (ap not label) ∙ carried in absurd (cc)
added (Regimm rt) Signed n f label carried = omega arith
added (Regimm rt) Bits n f label carried = omega arith
added (Regimm rt) Label n f label carried = omega arith
added (Regimm rt) o n f label carried = absurd (cc)
added (Primary opcode) Signed n f label carried = omega arith
added (Primary opcode) Bits n f label carried = omega arith
added (Primary opcode) Label n f label carried = omega arith
added (Primary opcode) Target n f label carried = omega arith
added (Primary opcode) o n f label carried = absurd (cc)

pub word_small : (opcode : Opcode) (f : Fields) → AreLow f → code_of opcode < 63
    → word_with opcode f < 2 ^ 32
word_small (Special function) f low small =
    omega (arith, low Rs, low Rt, low Rd, low Sa, low Code)
word_small (Regimm rt) f low small = omega (arith, low Rs, low Bits)
word_small (Primary opcode) f low small = omega (arith, low Rs, low Rt, low Bits, low Target)

pub label_zero : (v : Value) → names_label v ≡ true → field_of v ≡ 0
label_zero (Numeric n) label = absurd (cc)
label_zero (Register n) label = absurd (cc)
label_zero (Symbol name) label = refl
label_zero (High name) label = refl
label_zero (Low name) label = refl

none_one : (operands : List Operand) → list_all not_label operands ≡ true
    → has_one_label operands ≡ true
none_one [] none = refl
none_one (o ∷ operands) none =
    let tests = and_parts (not_label o) (list_all not_label operands) none in
    at (in_label o) (none_one operands tests.1) tests.1
  where
    at : (b : Bool) → has_one_label operands ≡ true → list_all not_label operands ≡ true
        → cond b (list_all not_label operands) (has_one_label operands) ≡ true
    at true one rest = rest
    at false one rest = one

-- behind an operand, by whether a label can decide it
pub one_behind : (b : Bool) (operands : List Operand)
    → cond b (list_all not_label operands) (has_one_label operands) ≡ true
    → has_one_label operands ≡ true
one_behind true operands one = none_one operands one
one_behind false operands one = one

pub plain_value : (o : Operand) (v : Value) → Suits o v → not_label o ≡ true → names_label v ≡ false
plain_value o v suits other = at (names_label v) refl
  where
    at : (b : Bool) → names_label v ≡ b → names_label v ≡ false
    at false e = e
    at true e =
        let never : false ≡ true = sym (ap not (suits.label e)) ∙ other in absurd (cc)
