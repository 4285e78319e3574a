-- That a number was read.
use Rattle.std.proofs.Common.{◌≡◌, ℕ, List, refl}
use Rattle.iop_printf.specs.Texts.{string_at}
use Rattle.iop_sysclib.specs.Numerals.{reading_of, strtol}
use Rattle.iop_sysclib.specs.Outcomes.{answers}
use Rattle.iop_sysclib.specs.declared.reading.Reading.{Reading}

pub strtol-no_end : (ram : List ℕ) (at end base : ℕ) (reading : Reading) (text : List ℕ)
    → end ≡ 0 → text ≡ string_at ram at → reading ≡ reading_of base text
    → strtol ram at end base ≡ answers reading.word
unfolding strtol
strtol-no_end ram at end base reading text none text_is reading_is =
    rw (none, reading_is, text_is) refl
