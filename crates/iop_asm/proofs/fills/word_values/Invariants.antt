use Rattle.std.proofs.Common.{◌≡◌, drop, map}
use Rattle.iop_asm.specs.Statements.{word_value}
use Rattle.iop_asm.specs.Texts.{all_of}
use Rattle.iop_asm.specs.Values.{view}
use Rattle.iop_asm.proofs.AllLemmas.{read_on}
use Rattle.iop_asm.proofs.fills.word_values.Given as goal

abbrev pub invariant-loop-word : goal.invariant-loop-word
invariant-loop-word l =
    read_on (λ word. word_value word.now) (map view l.values.items) (drop l.word-index l.words)
    ≡ all_of (map word_value (map (λ word. word.now) l.words))
