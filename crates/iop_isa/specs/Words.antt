-- The fields of a word (MIPS I: the R3000's instruction formats).
use Rattle.std.specs.Prelude.{ℕ, ◌/◌, ◌%◌, ◌^◌}
use Rattle.iop_isa.specs.declared.fields.Fields.{Fields}

-- so many bits of a word, from a bit on
abbrev pub field : ℕ → ℕ → ℕ → ℕ
field word from bits = word / 2 ^ from % 2 ^ bits

abbrev pub opcode_of : ℕ → ℕ
opcode_of word = field word 26 6

abbrev pub rs_of : ℕ → ℕ
rs_of word = field word 21 5

abbrev pub rt_of : ℕ → ℕ
rt_of word = field word 16 5

abbrev pub rd_of : ℕ → ℕ
rd_of word = field word 11 5

-- the amount to shift by
abbrev pub sa_of : ℕ → ℕ
sa_of word = field word 6 5

-- which of the instructions of opcode 0
abbrev pub function_of : ℕ → ℕ
function_of word = field word 0 6

-- the code of a syscall or a break
abbrev pub n_of : ℕ → ℕ
n_of word = field word 6 20

-- the immediate
abbrev pub imm_of : ℕ → ℕ
imm_of word = field word 0 16

-- the target of a jump
abbrev pub target_of : ℕ → ℕ
target_of word = field word 0 26

-- all fields that hold operands; no instruction has them all
abbrev pub fields_of : ℕ → Fields
fields_of word = record {
  rs = rs_of word;
  rt = rt_of word;
  rd = rd_of word;
  sa = sa_of word;
  n = n_of word;
  imm = imm_of word;
  target = target_of word;
}

abbrev pub zeros : Fields
zeros = record { rs = 0; rt = 0; rd = 0; sa = 0; n = 0; imm = 0; target = 0 }
