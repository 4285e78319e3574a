-- What the laws of the definitions say: an instruction goes to, or makes, the address that was put
-- into it; and a line makes the instruction that it names.
use Rattle.std.specs.Prelude.{◌≡◌, ℕ, ◌+◌, ◌*◌, ◌/◌, ◌%◌, ◌^◌, ◌<◌, true, Option, Some, None, unwrap_or, Ok, List, [], ◌∷◌, codes, map, All}
use Rattle.iop_base.specs.Numbers.{wrapped, sign_extended, high_half}
use Rattle.iop_isa.specs.Instructions.{inst_of}
use Rattle.iop_isa.specs.Table.{Takes, Row, rows}
use Rattle.iop_isa.specs.Targets.{branch_target, jump_target}
use Rattle.iop_isa.specs.Writing.{Named, row_named}
use Rattle.iop_isa.specs.declared.instruction.Inst.{Inst}
use Rattle.iop_isa.specs.declared.table.Operand.{Operand}
use Rattle.iop_asm.specs.Assembly.{is_near, jump_field, low_half, branch_field, field_by, label_address, cell_word}
use Rattle.iop_asm.specs.Cells.{Cell, Reference}
use Rattle.iop_asm.specs.Drafts.{Draft}
use Rattle.iop_asm.specs.Operands.{Value, operands_of, field_of, reference_by}
use Rattle.iop_asm.specs.Statements.{Mnemonic, Nop, Statement, Fills, keyword_of, statement_of}
use Rattle.iop_asm.specs.Texts.{comma_words}

-- an address of an instruction
abbrev pub IsSite : ℕ → Type 0
IsSite address = (address % 4 ≡ 0) × (address < 2 ^ 31)

-- a branch goes to a near address
abbrev pub BranchesArrive : Type 0
BranchesArrive =
    (site address : ℕ) → IsSite site → IsSite address → is_near site address ≡ true
    → branch_target site (branch_field site address) ≡ address

-- an address to which some branch goes is near
abbrev pub BranchesReachTheNear : Type 0
BranchesReachTheNear =
    (site address imm : ℕ) → IsSite site → IsSite address → imm < 2 ^ 16
    → branch_target site imm ≡ address → is_near site address ≡ true

-- a jump goes to an address of the same 2^28 bytes
abbrev pub JumpsArrive : Type 0
JumpsArrive =
    (site address : ℕ) → IsSite site → IsSite address → (site + 4) / 2 ^ 28 ≡ address / 2 ^ 28
    → jump_target site (jump_field address) ≡ address

-- the high half and the signed low half make the address
abbrev pub HalvesMakeAddresses : Type 0
HalvesMakeAddresses =
    (address : ℕ) → address < 2 ^ 32
    → wrapped (65536 * high_half address + sign_extended 16 (low_half address)) ≡ address

-- an instruction that takes the number of each operand, with these numbers in their order
abbrev pub given : (operands : List Operand) → Takes operands → List ℕ → Option Inst
given [] inst [] = Some inst
given [] inst (n ∷ numbers) = None
given (operand ∷ operands) inst [] = None
given (operand ∷ operands) inst (n ∷ numbers) = given operands (inst n) numbers

-- the number of an operand of a line in the word at a site: what the address of the label that
-- decides it comes to there
abbrev pub placed_by : Draft → (site number : ℕ) → Option Reference → ℕ
placed_by final site number None = number
placed_by final site number (Some r) =
    field_by r.kind site (unwrap_or (label_address final r.label) 0)

abbrev pub placed_number : Draft → (site line : ℕ) → Operand × Value → ℕ
placed_number final site line (operand, value) =
    placed_by final site (field_of value) (reference_by line operand value)

-- a word holds the instruction of a row with these numbers of its operands, in their order
pub record HoldsRow (row : Row) (numbers : List ℕ) (word : ℕ) : Type 0 where
  pub inst : Inst
  pub is_inst : given row.operands row.inst numbers ≡ Some inst
  pub holds : inst_of word ≡ Some inst

-- a line that begins with this name, with this text behind it, is one word, which holds the
-- instruction of this name with the operands of the text, wherever it stands and its labels do
pub record MakesInstruction (line : ℕ) (name text : List ℕ) (statement : Statement)
    : Type 0 where
  pub row : Row
  pub is_row : row_named name ≡ Some row
  pub words : List (List ℕ)
  pub are_words : comma_words text ≡ Some words
  pub operands : List (Operand × Value)
  pub are_operands : operands_of row.operands words ≡ Some operands
  pub cell : Cell
  pub fills : statement ≡ Fills (cell ∷ [])
  pub holds : (final : Draft) (site : ℕ)
      → HoldsRow row (map (placed_number final site line) operands) (cell_word final site cell)

-- a line is the one word 0, wherever it stands
pub record MakesZero (statement : Statement) : Type 0 where
  pub cell : Cell
  pub fills : statement ≡ Fills (cell ∷ [])
  pub holds : (final : Draft) (site : ℕ) → cell_word final site cell ≡ 0

-- what a row's name stands for
abbrev pub named_by : Row → Named
named_by r = record { opcode = r.opcode; operands = r.operands }

-- the name of a row is known as that of its instruction
abbrev pub IsKnown : Row → Type 0
IsKnown r = keyword_of r.name ≡ Some (Mnemonic (named_by r))

pub record InstructionsAreMade : Type 0 where
  -- every instruction of the table has a name that a line can begin with
  pub known : All IsKnown rows
  -- by the name that a line begins with
  pub made : (line : ℕ) (name text : List ℕ) (mnemonic : Named) (statement : Statement)
      → keyword_of name ≡ Some (Mnemonic mnemonic)
      → statement_of line (Mnemonic mnemonic) text ≡ Ok statement
      → MakesInstruction line name text statement
  -- `nop` is the word 0
  pub is_nop : keyword_of (codes "nop") ≡ Some Nop
  pub nop : (line : ℕ) (text : List ℕ) (statement : Statement)
      → statement_of line Nop text ≡ Ok statement → MakesZero statement
