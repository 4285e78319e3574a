-- The source as the program holds it: a text before the line that has the number, that line, and a
-- text behind it.
use Rattle.std.proofs.Common.{◌≡◌, ℕ, List, ◌∷◌, ◌++◌, codes, append_assoc, refl, ap, sym, ◌∙◌}
use Rattle.std.proofs.lemmas.Grind.{flat_map-append}
use Rattle.iop_generator.specs.declared.source.TheConstants.{LINES_BEFORE, LINES_BEHIND}
use Rattle.iop_generator.specs.Sources.{lines_before, lines_behind, number_line, text_of, source}

-- the line that has the number, with its end
abbrev pub number_text : ℕ → List ℕ
number_text n = number_line n ++ codes "\n"

before-text : text_of lines_before ≡ LINES_BEFORE.now
before-text = refl

behind-text : text_of lines_behind ≡ LINES_BEHIND.now
behind-text = refl

pub source-parts : (n : ℕ) → source n ≡ LINES_BEFORE.now ++ number_text n ++ LINES_BEHIND.now
unfolding source
source-parts n =
    flat_map-append (λ line. line ++ codes "\n") lines_before (number_line n ∷ lines_behind)
    ∙ sym (append_assoc (text_of lines_before) (number_text n) (text_of lines_behind))
    ∙ ap (λ t. t ++ number_text n ++ text_of lines_behind) before-text
    ∙ ap (λ t. LINES_BEFORE.now ++ number_text n ++ t) behind-text
