-- The source of the test module, and the file that it makes.
use Rattle.std.specs.Prelude.{ℕ, Option, option_and_then, List, [], ◌∷◌, ◌++◌, codes, decimal}
use Rattle.std.specs.List.{flat_map}
use Rattle.std.specs.Result.{result_ok}
use Rattle.iop_asm.specs.Assembly.{assembled}
use Rattle.irx_build.specs.Building.{file_or_refusal}

-- the lines before the one that has the number of workers
abbrev pub lines_before : List (List ℕ)
lines_before =
    codes ".name gen" ∷
    codes ".version 1 1" ∷
    codes ".entry main" ∷
    codes ".import thbase 1 1" ∷
    codes ".fn CreateThread 4" ∷
    codes ".fn StartThread 6" ∷
    codes ".endi" ∷
    codes ".import thsemap 1 1" ∷
    codes ".fn CreateSema 4" ∷
    codes ".fn SignalSema 6" ∷
    codes ".fn WaitSema 8" ∷
    codes ".endi" ∷
    codes ".import stdio 1 1" ∷
    codes ".fn printf 4" ∷
    codes ".endi" ∷
    codes "main:" ∷
    codes "addiu $sp,$sp,-64" ∷
    codes "sw $ra,60($sp)" ∷
    codes "lui $a0,%hi(semp)" ∷
    codes "jal CreateSema" ∷
    codes "addiu $a0,$a0,%lo(semp)" ∷
    codes "lui $s1,%hi(sem)" ∷
    codes "sw $v0,%lo(sem)($s1)" ∷
    codes "addu $s0,$0,$0" ∷
    codes "more:" ∷
    codes "lui $a0,%hi(thp)" ∷
    codes "jal CreateThread" ∷
    codes "addiu $a0,$a0,%lo(thp)" ∷
    codes "addu $a0,$v0,$0" ∷
    codes "addiu $s0,$s0,1" ∷
    codes "jal StartThread" ∷
    codes "addu $a1,$s0,$0" ∷
    []

-- the line that has it
abbrev pub number_line : ℕ → List ℕ
number_line workers = codes "addiu $t0,$0," ++ decimal workers

-- and those behind it
abbrev pub lines_behind : List (List ℕ)
lines_behind =
    codes "bne $s0,$t0,more" ∷
    codes "nop" ∷
    codes "addu $s2,$0,$0" ∷
    codes "wait:" ∷
    codes "lw $a0,%lo(sem)($s1)" ∷
    codes "addiu $s2,$s2,1" ∷
    codes "jal WaitSema" ∷
    codes "nop" ∷
    codes "bne $s2,$s0,wait" ∷
    codes "nop" ∷
    codes "lui $a2,%hi(total)" ∷
    codes "lw $a2,%lo(total)($a2)" ∷
    codes "lui $a0,%hi(words)" ∷
    codes "addu $a1,$s0,$0" ∷
    codes "jal printf" ∷
    codes "addiu $a0,$a0,%lo(words)" ∷
    codes "lw $ra,60($sp)" ∷
    codes "addu $v0,$0,$0" ∷
    codes "jr $ra" ∷
    codes "addiu $sp,$sp,64" ∷
    codes "work:" ∷
    codes "lui $t1,%hi(total)" ∷
    codes "addiu $t3,$0,1000" ∷
    codes "loop:" ∷
    codes "lw $t0,%lo(total)($t1)" ∷
    codes "addiu $t3,$t3,-1" ∷
    codes "addu $t0,$t0,$a0" ∷
    codes "bne $t3,$0,loop" ∷
    codes "sw $t0,%lo(total)($t1)" ∷
    codes "lui $a0,%hi(sem)" ∷
    codes "lw $a0,%lo(sem)($a0)" ∷
    codes "nop" ∷
    codes "j SignalSema" ∷
    codes "nop" ∷
    codes ".data" ∷
    codes "semp:" ∷
    codes ".word 0,0,0,250" ∷
    codes "thp:" ∷
    codes ".word 0x02000000,0,work,512,20" ∷
    codes "total:" ∷
    codes ".word 0" ∷
    codes "sem:" ∷
    codes ".word 0" ∷
    codes "words:" ∷
    codes ".asciz \"workers %d sum %d\\n\"" ∷
    []

-- each line ends with a line feed
abbrev pub text_of : List (List ℕ) → List ℕ
text_of lines = flat_map (λ line. line ++ codes "\n") lines

-- the source for so many workers
unfoldable pub source : ℕ → List ℕ
source workers = text_of (lines_before ++ number_line workers ∷ lines_behind)

-- the file of a source text that assembles to a unit which is not refused
abbrev pub file_of_source : List ℕ → Option (List ℕ)
file_of_source text =
    option_and_then (λ unit. result_ok (file_or_refusal unit)) (result_ok (assembled text))
