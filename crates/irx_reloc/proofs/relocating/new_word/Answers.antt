use Rattle.std.proofs.Common.{refl}
use Rattle.irx_reloc.specs.declared.kind.Kind.TheVariants.{Word, Jump, High, Low}
use Rattle.irx_reloc.proofs.Fits.{kind_inside}
use Rattle.irx_reloc.proofs.relocating.new_word.Goals as goal

pub word_at-requires : goal.word_at-requires
word_at-requires c = kind_inside _ c.args.entry Word c.requires c.in-Word.is refl

pub word_at-requires-in-Jump : goal.word_at-requires-in-Jump
word_at-requires-in-Jump c = kind_inside _ c.args.entry Jump c.requires c.in-Jump.is refl

pub word_at-requires-in-High : goal.word_at-requires-in-High
word_at-requires-in-High c = kind_inside _ c.args.entry High c.requires c.in-High.is refl

pub word_at-requires-in-Low : goal.word_at-requires-in-Low
word_at-requires-in-Low c = kind_inside _ c.args.entry Low c.requires c.in-Low.is refl
