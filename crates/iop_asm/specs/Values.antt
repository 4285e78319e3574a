-- What an operand says, as the program holds it.
use Rattle.std.specs.Prelude.{List, map}
use Rattle.iop_isa.specs.declared.table.Operand.{Operand}
use Rattle.iop_asm.specs.declared.argument.Argument.{Argument}
use Rattle.iop_asm.specs.declared.value.Value.{Value as Held}
use Rattle.iop_asm.specs.declared.value.Value.TheVariants as held
use Rattle.iop_asm.specs.Operands.{Value, Numeric, Register, Symbol, High, Low}

abbrev pub view : Held → Value
view (held.Numeric n) = Numeric n
view (held.Register n) = Register n.number
view (held.Symbol name) = Symbol name.now
view (held.High name) = High name.now
view (held.Low name) = Low name.now

-- an operand with its value
abbrev pub argument : Argument → Operand × Value
argument a = (a.operand, view a.value)

abbrev pub arguments : List Argument → List (Operand × Value)
arguments list = map argument list
