-- The drafts that the lines of the source make. They are computed: before the line that has the
-- number of workers all is known, and behind it all but one instruction's word.
use Rattle.std.proofs.Common.{◌≡◌, ℕ, ◌+◌, ◌-◌, ◌≤◌, List, [], ◌∷◌, ◌++◌, codes, decimal, length, map, take, fold, get_or, refl, ap, sym, ◌∙◌, append_assoc, arith}
use Rattle.std.specs.List.{range_with_len}
use Rattle.std.specs.Fmt.{digits}
use Rattle.std.specs.Str.Lines.{lines}
use Rattle.std.proofs.lemmas.List.FromFn.{get_or-map-range_with_len}
use Rattle.std.proofs.lemmas.List.Sums.{fold-append}
use Rattle.iop_base.specs.Numbers.{word_at}
use Rattle.iop_base.specs.declared.limits.TheConstants.{MOST_WORKERS}
use Rattle.iop_isa.specs.Registers.{register_named}
use Rattle.iop_isa.specs.Writing.{named}
use Rattle.iop_asm.specs.Cells.{plain_cell}
use Rattle.iop_asm.specs.Texts.{words, comma_words, before_comment, is_name, number_of, string_rest}
use Rattle.iop_asm.specs.Operands.{immediate_of, operands_of}
use Rattle.iop_asm.specs.Statements.{Fills, directive_of, label_of, keyword_of, directed, statement_of}
use Rattle.iop_asm.specs.Drafts.{Draft, empty_draft, at_next_line, after_statement, read_text, after_line}
use Rattle.iop_generator.specs.declared.source.TheConstants.{LINES_BEFORE, LINES_BEHIND}
use Rattle.iop_generator.specs.Sources.{source}
use Rattle.iop_generator.proofs.Parts.{number_text, source-parts}
use Rattle.iop_generator.proofs.Lines.{lines-append}

-- the draft after the lines of a text; with it unfolds all that a line is read by
unfoldable pub after_lines : Draft → List ℕ → Draft
unfolding words comma_words before_comment is_name number_of string_rest immediate_of operands_of
    directive_of label_of keyword_of directed statement_of after_statement read_text after_line
    register_named named word_at digits
after_lines d text = fold after_line d (lines text)

after_lines-append : (d : Draft) (line rest : List ℕ)
    → after_lines d (line ++ 10 ∷ [] ++ rest) ≡ after_lines (after_lines d (line ++ 10 ∷ [])) rest
unfolding after_lines
after_lines-append d line rest =
    ap (fold after_line d) (lines-append line rest)
    ∙ fold-append after_line d (lines (line ++ 10 ∷ [])) (lines rest)

-- a draft that stands in the text and outside tables, as the first does
at_text : Draft → Draft
at_text d = record d { section = empty_draft.section; table = empty_draft.table }

-- the draft with the instruction addiu $t0, $0, n
unfoldable pub with_number : Draft → ℕ → Draft
with_number d n = after_statement (at_next_line d) (Fills (plain_cell (0x24080000 + n) ∷ []))

after_lines-numbers : (d : Draft)
    → map (λ n. after_lines (at_text d) (number_text n)) (range_with_len 1 MOST_WORKERS)
    ≡ map (λ n. with_number (at_text d) n) (range_with_len 1 MOST_WORKERS)
unfolding after_lines at_text with_number
after_lines-numbers d = refl

after_lines-number : (d : Draft) (n : ℕ) → 1 ≤ n → n ≤ MOST_WORKERS
    → after_lines (at_text d) (number_text n) ≡ with_number (at_text d) n
after_lines-number d n low high =
    let at_place : (f : ℕ → Draft)
    → get_or (map f (range_with_len 1 MOST_WORKERS)) (n - 1) d ≡ f n =
    λ f. get_or-map-range_with_len f 1 MOST_WORKERS (n - 1) n d (omega arith) (omega arith) in
    sym (at_place (λ n. after_lines (at_text d) (number_text n)))
    ∙ ap (λ drafts. get_or drafts (n - 1) d) (after_lines-numbers d)
    ∙ at_place (λ n. with_number (at_text d) n)

-- the draft after the lines before that of the number
unfoldable pub front : Draft
front = after_lines empty_draft LINES_BEFORE.now

front-at_text : front ≡ at_text front
unfolding front after_lines at_text
front-at_text = refl

-- the draft after all lines; with it unfolds all that it is computed by
unfoldable pub final : ℕ → Draft
unfolding after_lines front with_number
final n = after_lines (with_number front n) LINES_BEHIND.now

pub after_lines-source : (n : ℕ) → 1 ≤ n → n ≤ MOST_WORKERS
    → after_lines empty_draft (source n) ≡ final n
unfolding final
after_lines-source n low high =
    let before = LINES_BEFORE.now in
    let behind = LINES_BEHIND.now in
    let line = codes "addiu $t0,$0," ++ decimal n in
    ap (after_lines empty_draft) (source-parts n ∙ append_assoc before (number_text n) behind)
    ∙ after_lines-append empty_draft (take (length before - 1) before) (number_text n ++ behind)
    ∙ after_lines-append front line behind
    ∙ ap (λ d. after_lines d behind)
    (ap (λ d. after_lines d (number_text n)) front-at_text
    ∙ after_lines-number front n low high
    ∙ ap (λ d. with_number d n) (sym front-at_text))
