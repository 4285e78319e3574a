-- What the reader of scripts answers.
use Rattle.std.specs.Prelude.{◌≡◌, ℕ, Result, Ok, Err}
use Rattle.iop_script.specs.Reading.{BadLine, bad_line}
use Rattle.iop_script.specs.Scripts.{Script}
use Rattle.iop_script.specs.declared.fault.ScriptFault.{ScriptFault}
use Rattle.iop_script.specs.declared.fault.ScriptFault.TheVariants.{Line, Memory}
use Rattle.iop_script.specs.declared.line_fault.LineFault.{LineFault}
use Rattle.iop_script.specs.declared.line_fault.LineFault.TheVariants.{Broken, Memory as NoMemory}
use Rattle.iop_script.specs.declared.rule.Rule.{Rule}

-- an answer is what is wanted, unless host memory runs out
abbrev pub Gives : Result Script ScriptFault → Result Script BadLine → Type 0
Gives (Ok script) wanted = wanted ≡ Ok script
Gives (Err (Line number rule)) wanted = wanted ≡ Err (bad_line number rule)
Gives (Err Memory) wanted = Unit {0}

-- the fault of the line of a number
abbrev pub fault_in : ℕ → LineFault → ScriptFault
fault_in number (Broken rule) = Line number rule
fault_in number NoMemory = Memory

-- what is read of a line is what is wanted, unless host memory runs out
abbrev pub Reads : {A B : Type 0} → (A → B) → Result A LineFault → Result B Rule → Type 0
Reads view (Ok x) wanted = wanted ≡ Ok (view x)
Reads view (Err (Broken rule)) wanted = wanted ≡ Err rule
Reads view (Err NoMemory) wanted = Unit {0}

-- the script is the wanted one, or a rule is broken, unless host memory runs out
abbrev pub Takes : Result (Unit {0}) LineFault → Result Script Rule → Script → Type 0
Takes result wanted new = Reads (λ done. new) result wanted
