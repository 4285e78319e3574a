-- The word that an instruction's line makes is that instruction.
use Rattle.std.proofs.Common.{◌≡◌, ℕ, Bool, true, false, Option, Some, None, option_map, if◌then◌else◌, Ok, List, [], ◌∷◌, All, codes, map, Result, refl, ap, sym, ◌∙◌, subst}
use Rattle.std.proofs.lemmas.Bool.{cond_both}
use Rattle.std.proofs.lemmas.List.Elements.{All-nil, All-cons}
use Rattle.std.specs.List.{find, list_all}
use Rattle.std.specs.Option.{option_or}
use Rattle.std.specs.Str.{bytes_eq}
use Rattle.iop_isa.specs.Instructions.{inst_of, row_inst}
use Rattle.iop_isa.specs.Words.{zeros}
use Rattle.iop_isa.specs.Table.{Row, rows}
use Rattle.iop_isa.specs.Writing.{Named, named, row_named}
use Rattle.iop_asm.specs.Assembly.{cell_word}
use Rattle.iop_asm.specs.Cells.{plain_cell}
use Rattle.iop_asm.specs.Drafts.{Draft}
use Rattle.iop_asm.specs.Laws.{given, placed_number, HoldsRow, MakesInstruction, MakesZero, named_by, IsKnown, InstructionsAreMade}
use Rattle.iop_asm.specs.Operands.{operands_of, operand_fits, fields_with, instruction_cell}
use Rattle.iop_asm.specs.Statements.{LabelOf, Directed, Mnemonic, Nop, Statement, directive_of, label_of, keyword_of, instruction_statement, formed, ranged, statement_of}
use Rattle.iop_asm.specs.declared.directive.Directive.{Directive}
use Rattle.iop_asm.specs.declared.fault.AsmKind.{AsmKind}
use Rattle.iop_asm.specs.Texts.{is_empty, after_blanks, comma_words}
use Rattle.iop_asm.proofs.LinedLemmas.{mapped, then_some, lined_of}
use Rattle.iop_asm.proofs.OperandFields.{Item, Lined, fold-low, given-reads, zeros_low}
use Rattle.iop_asm.proofs.Placing.{placed, lined_placed, numbers_placed, word_placed}
use Rattle.iop_asm.proofs.RowLemmas.{row_held, row_own}

formed_some : (o : Option (Result Statement AsmKind)) (statement : Statement)
    → formed o ≡ Ok statement → o ≡ Some (Ok statement)
formed_some None statement is = absurd (cc)
formed_some (Some read) statement is = ap Some is

ranged_ok : (b : Bool) (statement made : Statement) → ranged b statement ≡ Ok made
    → (b ≡ true) × (statement ≡ made)
ranged_ok true statement made is = (refl, cc)
ranged_ok false statement made is = absurd (cc)

-- the word of a row at a site, with its label's address
row_placed : (final : Draft) (site line : ℕ) (p : Row → Bool) (r : Row) (values : List Item)
    → find p rows ≡ Some r → Lined r.operands values
    → HoldsRow r (map (placed_number final site line) values)
    (cell_word final site (instruction_cell line r.opcode values))
row_placed final site line p r values is lined =
    let own = row_own p r is in
    let there = lined_placed final site line r.operands values lined in
    let fields = fields_with (map (placed final site line) values) in
    let held = row_held p r (map (placed final site line) values) is there in
    let low = fold-low r.operands (map (placed final site line) values) zeros there zeros_low in
    let word = word_placed final site line r.opcode own.small r.operands values zeros lined own.one
    own.carries low in
    record {
      inst = row_inst fields r;
      is_inst = ap (given r.operands r.inst) (sym (numbers_placed final site line values))
          ∙ given-reads r.operands r.inst (map (placed final site line) values) fields held.1;
      holds = ap inst_of word ∙ held.0;
    }

-- by the row of the name
row_made : (line : ℕ) (name text : List ℕ) (r : Row) (statement : Statement)
    → row_named name ≡ Some r
    → statement_of line (Mnemonic (named_by r)) text ≡ Ok statement
    → MakesInstruction line name text statement
unfolding statement_of
row_made line name text r statement is_row made =
    let read = then_some (instruction_statement line (named_by r)) (comma_words text) (Ok statement)
    (formed_some _ statement made) in
    let values = mapped _ (operands_of r.operands read.0) (Ok statement) read.2 in
    let ok = ranged_ok (list_all operand_fits values.0) _ statement values.2 in
    let lined = lined_of r.operands read.0 values.0 values.1 ok.0 in
    let held : (final : Draft) (site : ℕ)
    → HoldsRow r (map (placed_number final site line) values.0)
    (cell_word final site (instruction_cell line r.opcode values.0)) =
    λ final site. row_placed final site line (λ x. bytes_eq x.name name) r values.0 is_row lined in
    record {
      row = r;
      is_row = is_row;
      words = read.0;
      are_words = read.1;
      operands = values.0;
      are_operands = values.1;
      cell = instruction_cell line r.opcode values.0;
      fills = sym ok.1;
      holds = held;
    }

named_made : (line : ℕ) (name text : List ℕ) (mnemonic : Named) (statement : Statement)
    → named name ≡ Some mnemonic → statement_of line (Mnemonic mnemonic) text ≡ Ok statement
    → MakesInstruction line name text statement
unfolding named
named_made line name text mnemonic statement is made =
    let row = mapped named_by (row_named name) mnemonic is in
    row_made line name text row.0 statement row.1
    (subst (λ (m : Named). statement_of line (Mnemonic m) text ≡ Ok statement) (sym row.2) made)

-- a word that is an instruction's name is no label, no directive and no `nop`
is_named : (label : Option (List ℕ)) (directive : Option Directive) (nop : Bool)
    (name : Option Named) (mnemonic : Named)
    → option_or (option_map LabelOf label) (option_or (option_map Directed directive)
    (option_or (if nop then Some Nop else None) (option_map Mnemonic name)))
    ≡ Some (Mnemonic mnemonic) → name ≡ Some mnemonic
is_named (Some label) directive nop name mnemonic is = absurd (cc is)
is_named None (Some directive) nop name mnemonic is = absurd (cc is)
is_named None None true name mnemonic is = absurd (cc is)
is_named None None false None mnemonic is = absurd (cc is)
is_named None None false (Some named) mnemonic is = cc is

keyword_named : (name : List ℕ) (mnemonic : Named)
    → keyword_of name ≡ Some (Mnemonic mnemonic) → named name ≡ Some mnemonic
unfolding keyword_of
keyword_named name =
    is_named (label_of name) (directive_of name) (bytes_eq name (codes "nop")) (named name)

-- what is equal at each of some elements
each_same : {X Y : Type 0} (f g : X → Y) (xs : List X) → map f xs ≡ map g xs
    → All (λ x. f x ≡ g x) xs
each_same f g [] same = All-nil (λ x. f x ≡ g x)
each_same f g (x ∷ xs) same =
    let first : f x ≡ g x = cc in
    let rest : map f xs ≡ map g xs = cc in
    All-cons (λ x. f x ≡ g x) x xs first (each_same f g xs rest)

each_known : All IsKnown rows
unfolding keyword_of label_of directive_of named
each_known = each_same (λ r. keyword_of r.name) (λ r. Some (Mnemonic (named_by r))) rows refl

nop_is_keyword : keyword_of (codes "nop") ≡ Some Nop
unfolding keyword_of label_of directive_of
nop_is_keyword = refl

nop_made : (line : ℕ) (text : List ℕ) (statement : Statement)
    → statement_of line Nop text ≡ Ok statement → MakesZero statement
unfolding statement_of
nop_made line text statement =
    cond_both (is_empty (after_blanks text)) _ _
    (λ (r : Result Statement AsmKind). r ≡ Ok statement → MakesZero statement)
    (λ ends is. record {
      cell = plain_cell 0;
      fills = sym (cc is);
      holds = λ final site. refl;
    })
    (λ more is. absurd (cc is))

pub instructions_made : InstructionsAreMade
instructions_made = record {
  known = each_known;
  made = λ line name text mnemonic statement is.
      named_made line name text mnemonic statement (keyword_named name mnemonic is);
  is_nop = nop_is_keyword;
  nop = nop_made;
}
