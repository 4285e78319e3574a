-- What the reader of words answers.
use Rattle.std.specs.Prelude.{◌≡◌, Option, Some, None, Result, Ok, Err}
use Rattle.iop_options.specs.declared.fault.WordFault.{WordFault}
use Rattle.iop_options.specs.declared.fault.WordFault.TheVariants.{Bad, Memory}

-- an answer is what is wanted, unless host memory runs out
abbrev pub Gives : {A : Type 0} → Result A WordFault → Option A → Type 0
Gives (Ok it) wanted = wanted ≡ Some it
Gives (Err Bad) wanted = wanted ≡ None
Gives (Err Memory) wanted = Unit {0}
