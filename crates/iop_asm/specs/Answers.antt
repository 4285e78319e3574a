-- What the assembler answers.
use Rattle.std.specs.Prelude.{◌≡◌, Result, Ok, Err}
use Rattle.iop_asm.specs.declared.fault.AsmFault.{AsmFault}
use Rattle.iop_asm.specs.declared.fault.AsmFault.TheVariants.{Line, Memory}
use Rattle.iop_asm.specs.declared.fault.Fault.{Fault}
use Rattle.iop_asm.specs.Units.{ModuleUnit}

-- an answer is what is wanted, unless host memory runs out
abbrev pub Gives : Result ModuleUnit AsmFault → Result ModuleUnit Fault → Type 0
Gives (Ok unit) wanted = wanted ≡ Ok unit
Gives (Err (Line line kind)) wanted = wanted ≡ Err (record { line = line; kind = kind })
Gives (Err Memory) wanted = Unit {0}
