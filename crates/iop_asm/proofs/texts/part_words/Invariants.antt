use Rattle.std.proofs.Common.{◌≡◌, Some, length, map}
use Rattle.std.specs.Option.{option_copied}
use Rattle.iop_asm.specs.Texts.{parts_behind}
use Rattle.iop_asm.proofs.ReadLemmas.{read_on}
use Rattle.iop_asm.proofs.CommaLemmas.{words_behind}
use Rattle.iop_asm.proofs.texts.part_words.Given as goal

abbrev pub invariant-loop-left : goal.invariant-loop-left
invariant-loop-left l =
    read_on (map (λ word. word.now) l.found.items) (words_behind (option_copied l.left))
    ≡ words_behind (Some l.text)

abbrev pub decreases-loop-left : goal.decreases-loop-left
decreases-loop-left l = length (parts_behind (option_copied l.left))
