use Rattle.std.proofs.Common.{ℕ, ◌%◌, ◌<◌, ◌≡◌, length, get_or, ap, sym, ◌∙◌, arith}
use Rattle.std.proofs.lemmas.Option.{slice_get-get_or, slice_get_past}
use Rattle.iop_base.specs.Numbers.{word_at}
use Rattle.irx_reloc.specs.Entries.{entries_of}
use Rattle.irx_reloc.specs.Relocating.{half_of}
use Rattle.irx_reloc.proofs.Fits.{low_inside}
use Rattle.irx_reloc.proofs.relocating.low_half.Goals as goal

pub word_at-requires : goal.word_at-requires
word_at-requires c =
    let inside : c.args.index < length (entries_of c.args.section.now) = omega arith in
    let site : c.read-site.result.site ≡ (get_or (entries_of c.args.section.now) c.args.index
    (0, 0)).0 = ap (λ (x : ℕ × ℕ). x.0) c.read-site.ensures in
    omega (
      arith,
      low_inside (length c.args.image.now) (entries_of c.args.section.now)
          c.args.index c.requires.fits inside (c.requires.low inside),
    )

pub returns-then-index-count : goal.returns-then-index-count
returns-then-index-count c =
    let inside : c.args.index < length (entries_of c.args.section.now) = omega arith in
    ap (λ (word : ℕ). word % 65536) c.word_at.ensures
    ∙ ap (λ (x : ℕ × ℕ). word_at c.args.image.now x.0 % 65536) c.read-site.ensures
    ∙ sym (ap (half_of c.args.image.now)
    (slice_get-get_or (entries_of c.args.section.now) c.args.index (0, 0) inside))

pub returns-else-index-count : goal.returns-else-index-count
returns-else-index-count c =
    sym (ap (half_of c.args.image.now)
    (slice_get_past (entries_of c.args.section.now) c.args.index (omega arith)))
