-- The word of a row with operands holds the row's instruction with these operands.
use Rattle.std.proofs.Common.{◌≡◌, Bool, true, false, not, ◌&&◌, cond, ◌<◌, nat_lt, Some, List, [], ◌∷◌, find, refl, subst}
use Rattle.std.specs.List.{list_all}
use Rattle.std.proofs.lemmas.Bool.{and_parts, eq-eqb, ltb-true, not-true}
use Rattle.iop_isa.specs.declared.opcode.Opcode.{Opcode}
use Rattle.iop_isa.specs.declared.opcode.Opcode.TheVariants.{Special, Regimm, Primary}
use Rattle.iop_isa.specs.Table.{Row, rows, same, found, code_of}
use Rattle.iop_isa.specs.Words.{zeros}
use Rattle.iop_isa.specs.Instructions.{row_inst, inst_of, word_with}
use Rattle.iop_asm.specs.Operands.{fields_with}
use Rattle.iop_asm.proofs.FormatLemmas.{is_formed, by_format}
use Rattle.iop_asm.proofs.LabelSlots.{carries, has_one_label}
use Rattle.iop_asm.proofs.OperandFields.{are_apart, Item, Lined, Reads, fold-reads}

-- a row's opcode finds it, and its operands have the format of the opcode
pub record IsOwn (r : Row) : Type 0 where
  pub finds : found rows r.opcode ≡ Some r
  pub formed : is_formed r.opcode r.operands ≡ true
  pub apart : are_apart r.operands ≡ true
  pub carries : list_all (carries r.opcode) r.operands ≡ true
  pub one : has_one_label r.operands ≡ true
  pub small : code_of r.opcode < 63

-- whether the rows are all so
abbrev is_right : Row → Bool
is_right r =
    is_formed r.opcode r.operands && are_apart r.operands
    && list_all (carries r.opcode) r.operands && has_one_label r.operands
    && nat_lt (code_of r.opcode) 63

-- and no two have one opcode
abbrev have_own : List Row → Bool
have_own [] = true
have_own (r ∷ rest) = list_all (λ (x : Row). not (same x.opcode r.opcode)) rest && have_own rest

same_itself : (opcode : Opcode) → same opcode opcode ≡ true
same_itself (Special n) = eq-eqb n n refl
same_itself (Regimm n) = eq-eqb n n refl
same_itself (Primary n) = eq-eqb n n refl

-- what holds of all rows holds of one that is found
test_found : (p test : Row → Bool) (xs : List Row) (r : Row) → find p xs ≡ Some r
    → list_all test xs ≡ true → test r ≡ true
test_found p test [] r is all = absurd (cc)
test_found p test (x ∷ xs) r is all =
    let parts = and_parts (test x) (list_all test xs) all in
    at (p x) is parts.0 (λ e. test_found p test xs r e parts.1)
  where
    at : (b : Bool) → cond b (Some x) (find p xs) ≡ Some r → test x ≡ true
        → (find p xs ≡ Some r → test r ≡ true) → test r ≡ true
    at true e first later = let here : x ≡ r = cc in subst (λ (y : Row). test y ≡ true) here first
    at false e first later = later e

found_own : (p : Row → Bool) (xs : List Row) (r : Row) → find p xs ≡ Some r
    → have_own xs ≡ true → found xs r.opcode ≡ Some r
found_own p [] r is own = absurd (cc)
found_own p (x ∷ xs) r is own =
    let parts = and_parts (list_all (λ (y : Row). not (same y.opcode x.opcode)) xs) (have_own xs)
    own in
    at (p x) is (λ e. (
      test_found p (λ (y : Row). not (same y.opcode x.opcode)) xs r e parts.0,
      found_own p xs r e parts.1,
    ))
  where
    at : (b : Bool) → cond b (Some x) (find p xs) ≡ Some r
        → (find p xs ≡ Some r
        → (not (same r.opcode x.opcode) ≡ true) × (found xs r.opcode ≡ Some r))
        → found (x ∷ xs) r.opcode ≡ Some r
    at true e later =
        let here : x ≡ r = cc in
        let itself = same_itself x.opcode in
        subst (λ (y : Row). found (x ∷ xs) y.opcode ≡ Some y) here (rw itself refl)
    at false e later =
        let h = later e in
        let other : same r.opcode x.opcode ≡ false = not-true (same r.opcode x.opcode) h.0 in
        rw other h.1

-- a row that is found by its name
pub row_own : (p : Row → Bool) (r : Row) → find p rows ≡ Some r → IsOwn r
row_own p r is =
    let small = and_parts _ _ (test_found p is_right rows r is refl) in
    let one = and_parts _ _ small.0 in
    let carried = and_parts _ _ one.0 in
    let apart = and_parts _ _ carried.0 in
    record {
      finds = found_own p rows r is refl;
      formed = apart.0;
      apart = apart.1;
      carries = carried.1;
      one = one.1;
      small = ltb-true (code_of r.opcode) 63 small.1;
    }

-- what the word of a row with these operands holds
pub row_held : (p : Row → Bool) (r : Row) (values : List Item) → find p rows ≡ Some r
    → Lined r.operands values
    → (inst_of (word_with r.opcode (fields_with values)) ≡ Some (row_inst (fields_with values) r))
    × Reads r.operands values (fields_with values)
row_held p r values is lined =
    let own = row_own p r is in (
      by_format r values lined r.opcode own.finds own.formed,
      fold-reads r.operands values zeros lined own.apart,
    )
