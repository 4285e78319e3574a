-- All lines put back are those that were put.
use Rattle.std.proofs.Common.{◌≡◌, ◌+◌, ℕ, List, [], ◌∷◌, ◌++◌, length, refl, ap, sym, ◌∙◌, arith}
use Rattle.std.proofs.Math.Seq.{set-append_seam, append_snoc}
use Rattle.std.proofs.lemmas.Grind.{length_at_push}
use Rattle.iop_intr.specs.Laws.{LinesArePutBack}
use Rattle.iop_intr.specs.Restoring.{with_lines}
use Rattle.iop_intr.specs.declared.irq_line.IrqLine.{IrqLine}

-- as many as stand behind those before them
put_behind : (before old new : List IrqLine) → length old ≡ length new
    → with_lines (before ++ old) (length before) new ≡ before ++ new
put_behind before [] [] same = refl
put_behind before [] (line ∷ new) same = absurd (omega (arith, same))
put_behind before (was ∷ old) [] same = absurd (omega (arith, same))
put_behind before (was ∷ old) (line ∷ new) same =
    let longer : List IrqLine = before ++ line ∷ [] in
    ap (λ (lines : List IrqLine). with_lines lines (length before + 1) new)
    (set-append_seam before was old line ∙ sym (append_snoc before line old))
    ∙ ap (λ (n : ℕ). with_lines (longer ++ old) n new) (sym (length_at_push before line).1)
    ∙ put_behind longer old new (omega (arith, same))
    ∙ append_snoc before line new

pub put_back-all : LinesArePutBack
put_back-all lines others size same =
    put_behind [] lines others (omega (arith, size, same))
