-- Why a line is not read, as the program says it.
use Rattle.std.specs.Prelude.{◌≡◌, Result, Ok, Err}
use Rattle.iop_asm.specs.declared.fault.AsmKind.{AsmKind}
use Rattle.iop_asm.specs.declared.line_fault.LineFault.{LineFault}
use Rattle.iop_asm.specs.declared.line_fault.LineFault.TheVariants.{Bad, Memory}

-- what is read is what is wanted, unless host memory runs out
abbrev pub Reads : {A B : Type 0} → (A → B) → Result A LineFault → Result B AsmKind → Type 0
Reads view (Ok x) wanted = wanted ≡ Ok (view x)
Reads view (Err (Bad kind)) wanted = wanted ≡ Err kind
Reads view (Err Memory) wanted = Unit {0}
