-- The rows of the code are those of the table.
use Rattle.std.proofs.Common.{◌≡◌, ℕ, ◌<◌, nat_lt, Bool, true, false, cond, Option, Some, None, option_map, List, [], ◌∷◌, map, find, refl, ap, ◌∙◌, sym}
use Rattle.std.specs.List.{list_all}
use Rattle.std.specs.Str.{bytes_eq}
use Rattle.std.proofs.lemmas.Bool.{ltb-true, and_parts}
use Rattle.iop_isa.specs.declared.naming.NamedRow.{NamedRow}
use Rattle.iop_isa.specs.Table.{Row, rows, code_of}
use Rattle.iop_isa.specs.Writing.{Named, named, first_named}

-- a name, and what it names
abbrev Entry : Type 0
Entry = List ℕ × Named

abbrev pub code_entry : NamedRow → Entry
code_entry r = (r.name.now, record { opcode = r.opcode; operands = r.operands.now })

abbrev pub table_entry : Row → Entry
table_entry r = (r.name, record { opcode = r.opcode; operands = r.operands })

option_map-find : {A B : Type 0} (f : A → B) (p : B → Bool) (xs : List A)
    → option_map f (find (λ x. p (f x)) xs) ≡ find p (map f xs)
option_map-find f p [] = refl
option_map-find f p (x ∷ xs) =
    elim (p (f x)) as (λ b. option_map f (cond b (Some x) (find (λ y. p (f y)) xs))
    ≡ cond b (Some (f x)) (find p (map f xs))) [ true ↦ refl | false ↦ option_map-find f p xs ]

option_map-map : {A : Type 0} (f : A → Entry) (o : Option A)
    → option_map (λ e. e.1) (option_map f o) ≡ option_map (λ x. (f x).1) o
option_map-map f None = refl
option_map-map f (Some x) = refl

module _ (name : List ℕ) (named_rows : List NamedRow) where
  named-first : map code_entry named_rows ≡ map table_entry rows
      → option_map (λ r. (code_entry r).1) (first_named name named_rows) ≡ named name
  unfolding named first_named
  named-first same =
      let p : Entry → Bool = λ e. bytes_eq e.0 name in
      sym (option_map-map code_entry (find (λ r. p (code_entry r)) named_rows))
      ∙ ap (option_map (λ (e : Entry). e.1)) (option_map-find code_entry p named_rows
      ∙ ap (find p) same ∙ sym (option_map-find table_entry p rows))
      ∙ option_map-map table_entry (find (λ r. p (table_entry r)) rows)

  pub named-none : None ≡ first_named name named_rows
      → map code_entry named_rows ≡ map table_entry rows → None ≡ named name
  named-none e same = ap (option_map (λ (r : NamedRow). (code_entry r).1)) e ∙ named-first same

  pub named-some : (r : NamedRow) → Some r ≡ first_named name named_rows
      → map code_entry named_rows ≡ map table_entry rows → Some (code_entry r).1 ≡ named name
  named-some r e same = ap (option_map (λ (r : NamedRow). (code_entry r).1)) e ∙ named-first same

abbrev pub is_small : NamedRow → Bool
is_small r = nat_lt (code_of r.opcode) 63

pub first-small : (name : List ℕ) (named_rows : List NamedRow) (r : NamedRow)
    → Some r ≡ first_named name named_rows
    → list_all is_small named_rows ≡ true → code_of r.opcode < 63
unfolding first_named
first-small name [] r e small = absurd (cc e)
first-small name (x ∷ xs) r e small =
    let parts = and_parts (is_small x) (list_all is_small xs) small in
    (elim (bytes_eq x.name.now name) as (λ b. Some r ≡ cond b (Some x) (first_named name xs)
    → code_of r.opcode < 63) [
      | true ↦ λ is. let same : r ≡ x = cc in rw same (ltb-true (code_of x.opcode) 63 parts.0)
      | false ↦ λ is. first-small name xs r is parts.1
    ]) e
