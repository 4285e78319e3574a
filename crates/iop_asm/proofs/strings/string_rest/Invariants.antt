use Rattle.std.proofs.Common.{◌≡◌, drop, false}
use Rattle.iop_asm.specs.Texts.{string_rest}
use Rattle.iop_asm.proofs.ReadLemmas.{read_on}
use Rattle.iop_asm.proofs.strings.string_rest.Given as goal

abbrev pub invariant-loop-index : goal.invariant-loop-index
invariant-loop-index l =
    read_on l.string.items (string_rest l.escaped (drop l.index l.quoted))
    ≡ string_rest false l.quoted
