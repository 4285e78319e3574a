-- The fields of operands, each of which stands in a field of its own.
use Rattle.std.proofs.Common.{◌≡◌, ℕ, ◌<◌, ◌==◌, Bool, true, false, not, ◌&&◌, Some, List, [], ◌∷◌, fold, map, refl, ap, sym, ◌∙◌, subst, arith}
use Rattle.std.specs.List.{list_all}
use Rattle.std.proofs.lemmas.Bool.{and_from, and_parts}
use Rattle.iop_isa.specs.declared.fields.Fields.{Fields}
use Rattle.iop_isa.specs.declared.table.Operand.{Operand}
use Rattle.iop_isa.specs.declared.table.Operand.TheVariants.{Rd, Rs, Rt, Sa, Code, Signed, Bits, Label, Target, Base}
use Rattle.iop_isa.specs.Table.{Takes}
use Rattle.iop_isa.specs.Words.{zeros}
use Rattle.iop_isa.specs.Instructions.{number, number_limit, with_number, inst_with}
use Rattle.iop_asm.specs.Laws.{given}
use Rattle.iop_asm.specs.Operands.{Value, Numeric, Register, Symbol, High, Low, field_of, with_operand}

-- the field of an operand
abbrev pub slot : Operand → ℕ
slot Rd = 0
slot Rs = 1
slot Rt = 2
slot Sa = 3
slot Code = 4
slot Signed = 5
slot Bits = 5
slot Label = 5
slot Target = 6
slot Base = 1

-- two operands stand in two fields
abbrev pub is_apart : Operand → Operand → Bool
is_apart p o = not (slot p == slot o)

-- and each of these in one of its own
abbrev pub are_apart : List Operand → Bool
are_apart [] = true
are_apart (o ∷ operands) = list_all (is_apart o) operands && are_apart operands

pub same_number : (o : Operand) (n : ℕ) (f : Fields) → number o (with_number o n f) ≡ n
same_number Rd n f = refl
same_number Rs n f = refl
same_number Rt n f = refl
same_number Sa n f = refl
same_number Code n f = refl
same_number Signed n f = refl
same_number Bits n f = refl
same_number Label n f = refl
same_number Target n f = refl
same_number Base n f = refl

other_number : (p o : Operand) (n : ℕ) (f : Fields) → is_apart p o ≡ true
    → number p (with_number o n f) ≡ number p f
other_number Rd Rd n f e = absurd (cc)
other_number Rs Rs n f e = absurd (cc)
other_number Rs Base n f e = absurd (cc)
other_number Base Rs n f e = absurd (cc)
other_number Base Base n f e = absurd (cc)
other_number Rt Rt n f e = absurd (cc)
other_number Sa Sa n f e = absurd (cc)
other_number Code Code n f e = absurd (cc)
other_number Signed Signed n f e = absurd (cc)
other_number Signed Bits n f e = absurd (cc)
other_number Signed Label n f e = absurd (cc)
other_number Bits Signed n f e = absurd (cc)
other_number Bits Bits n f e = absurd (cc)
other_number Bits Label n f e = absurd (cc)
other_number Label Signed n f e = absurd (cc)
other_number Label Bits n f e = absurd (cc)
other_number Label Label n f e = absurd (cc)
other_number Target Target n f e = absurd (cc)
other_number p o n f e = refl

-- each number fits its field
abbrev pub AreLow : Fields → Type 0
AreLow f = (o : Operand) → number o f < number_limit o

pub zeros_low : AreLow zeros
zeros_low Rd = omega arith
zeros_low Rs = omega arith
zeros_low Rt = omega arith
zeros_low Sa = omega arith
zeros_low Code = omega arith
zeros_low Signed = omega arith
zeros_low Bits = omega arith
zeros_low Label = omega arith
zeros_low Target = omega arith
zeros_low Base = omega arith

-- another number that fits is in one field, and all others stay
with_low : (o : Operand) (x : ℕ) (f : Fields) → x < number_limit o → AreLow f
    → AreLow (with_number o x f)
with_low Rd x f small low Rd = small
with_low Rs x f small low Rs = small
with_low Rs x f small low Base = small
with_low Base x f small low Rs = small
with_low Base x f small low Base = small
with_low Rt x f small low Rt = small
with_low Sa x f small low Sa = small
with_low Code x f small low Code = small
with_low Signed x f small low Signed = small
with_low Signed x f small low Bits = small
with_low Signed x f small low Label = small
with_low Bits x f small low Signed = small
with_low Bits x f small low Bits = small
with_low Bits x f small low Label = small
with_low Label x f small low Signed = small
with_low Label x f small low Bits = small
with_low Label x f small low Label = small
with_low Target x f small low Target = small
with_low o x f small low p = low p

-- the fields that a label can decide
abbrev pub in_label : Operand → Bool
in_label Signed = true
in_label Bits = true
in_label Label = true
in_label Target = true
in_label o = false

abbrev pub names_label : Value → Bool
names_label (Numeric n) = false
names_label (Register n) = false
names_label (Symbol name) = true
names_label (High name) = true
names_label (Low name) = true

-- a value that fits its operand, and is decided by a label only where one can
pub record Suits (o : Operand) (v : Value) : Type 0 where
  pub low : field_of v < number_limit o
  pub label : names_label v ≡ true → in_label o ≡ true

-- an operand with its value
abbrev pub Item : Type 0
Item = Operand × Value

-- values of these operands in their order, which fit
abbrev pub Lined : List Operand → List Item → Type 0
Lined [] [] = Unit {0}
Lined [] (value ∷ values) = ⊥
Lined (o ∷ operands) [] = ⊥
Lined (o ∷ operands) ((p, v) ∷ values) =
    (p ≡ o) × Suits o v × Lined operands values

-- fields hold the values of these operands
abbrev pub Reads : List Operand → List Item → Fields → Type 0
Reads [] [] f = Unit {0}
Reads [] (value ∷ values) f = ⊥
Reads (o ∷ operands) [] f = ⊥
Reads (o ∷ operands) ((p, v) ∷ values) f = (number o f ≡ field_of v) × Reads operands values f

-- what stands in none of these operands' fields stays
pub fold-apart : (operands : List Operand) (values : List Item) (f : Fields) (p : Operand)
    → Lined operands values → list_all (is_apart p) operands ≡ true
    → number p (fold with_operand f values) ≡ number p f
fold-apart [] [] f p lined apart = refl
fold-apart [] (value ∷ values) f p lined apart = absurd lined
fold-apart (o ∷ operands) [] f p lined apart = absurd lined
fold-apart (o ∷ operands) ((q, v) ∷ values) f p lined apart =
    let tests = and_parts (is_apart p o) (list_all (is_apart p) operands) apart in
    fold-apart operands values (with_number q (field_of v) f) p lined.2 tests.1
    ∙ ap (λ (x : Operand). number p (with_number x (field_of v) f)) lined.0
    ∙ other_number p o (field_of v) f tests.0

pub fold-reads : (operands : List Operand) (values : List Item) (f : Fields)
    → Lined operands values → are_apart operands ≡ true
    → Reads operands values (fold with_operand f values)
fold-reads [] [] f lined apart = tt
fold-reads [] (value ∷ values) f lined apart = absurd lined
fold-reads (o ∷ operands) [] f lined apart = absurd lined
fold-reads (o ∷ operands) ((q, v) ∷ values) f lined apart =
    let tests = and_parts (list_all (is_apart o) operands) (are_apart operands) apart in
    let next = with_number q (field_of v) f in (
      fold-apart operands values next o lined.2 tests.0
          ∙ ap (λ (x : Operand). number o (with_number x (field_of v) f)) lined.0
          ∙ same_number o (field_of v) f,
      fold-reads operands values next lined.2 tests.1,
    )

pub fold-low : (operands : List Operand) (values : List Item) (f : Fields)
    → Lined operands values → AreLow f → AreLow (fold with_operand f values)
fold-low [] [] f lined low = low
fold-low [] (value ∷ values) f lined low = absurd lined
fold-low (o ∷ operands) [] f lined low = absurd lined
fold-low (o ∷ operands) ((q, v) ∷ values) f lined low =
    let same : with_number o (field_of v) f ≡ with_number q (field_of v) f =
    sym (ap (λ (x : Operand). with_number x (field_of v) f) lined.0) in
    fold-low operands values (with_number q (field_of v) f) lined.2
    (subst AreLow same (with_low o (field_of v) f lined.1.low low))

-- an instruction with the numbers of fields is the one that is given those of the values
pub given-reads : (operands : List Operand) (inst : Takes operands) (values : List Item)
    (f : Fields) → Reads operands values f
    → given operands inst (map (λ o. field_of o.1) values) ≡ Some (inst_with operands inst f)
given-reads [] inst [] f reads = refl
given-reads [] inst (value ∷ values) f reads = absurd reads
given-reads (o ∷ operands) inst [] f reads = absurd reads
given-reads (o ∷ operands) inst ((q, v) ∷ values) f reads =
    given-reads operands (inst (field_of v)) values f reads.1
    ∙ ap (λ (n : ℕ). Some (inst_with operands (inst n) f)) (sym reads.0)

-- fields that agree on the operands give the same instruction
pub inst_with-same : (operands : List Operand) (inst : Takes operands) (f g : Fields)
    (test : Operand → Bool) → ((o : Operand) → test o ≡ true → number o g ≡ number o f)
    → list_all test operands ≡ true → inst_with operands inst g ≡ inst_with operands inst f
inst_with-same [] inst f g test agree all = refl
inst_with-same (o ∷ operands) inst f g test agree all =
    let tests = and_parts (test o) (list_all test operands) all in
    ap (λ (n : ℕ). inst_with operands (inst n) g) (agree o tests.0)
    ∙ inst_with-same operands (inst (number o f)) f g test agree tests.1

pub list_all-weaker : {X : Type 0} (p q : X → Bool) → ((x : X) → p x ≡ true → q x ≡ true)
    → (xs : List X) → list_all p xs ≡ true → list_all q xs ≡ true
list_all-weaker p q weaker [] all = refl
list_all-weaker p q weaker (x ∷ xs) all =
    let tests = and_parts (p x) (list_all p xs) all in
    let first = weaker x tests.0 in
    let rest = list_all-weaker p q weaker xs tests.1 in
    and_from (q x) (list_all q xs) first rest
