use Rattle.std.proofs.Common.{◌≡◌, ℕ, ◌+◌, ◌<◌, ◌≤◌, ◌++◌, ap, sym, ◌∙◌, length, take, get_or, arith}
use Rattle.std.proofs.lemmas.List.{take_all}
use Rattle.iop_base.specs.Numbers.{bytes_of}
use Rattle.iop_asm.specs.Assembly.{word_address, cell_word, cells_bytes}
use Rattle.iop_asm.specs.Cells.{Cell, plain_cell}
use Rattle.iop_asm.proofs.SectionLemmas.{AreCells-length, AreCells-at, flat_map-more}
use Rattle.iop_asm.proofs.resolving.cells_bytes.Goals as goal

pub loop-index-preserved : goal.loop-index-preserved
loop-index-preserved c = λ d list stands are.
    let labels = c.args.draft.now.labels in
    let i = c.loop-index.index in
    let behind = c.args.behind in
    let cell = get_or list i (plain_cell 0) in
    let word = c.cell_word-word.result in
    let inside : i < length list = omega (arith, AreCells-length labels c.args.cells.now list are) in
    let is : word ≡ cell_word d (word_address (behind + i)) cell =
    c.cell_word-word.ensures d cell stands
    (AreCells-at labels c.args.cells.now list are i _ (plain_cell 0) c.loop-index-test.true)
    ∙ ap (λ site. cell_word d site cell) c.address_behind.ensures in
    let h = λ (x : ℕ × Cell). bytes_of 4 (cell_word d (word_address x.0) x.1) in
    c.in_ok-push_word.ensures
    ∙ ap (λ l. l ++ bytes_of 4 word) (c.loop-index.invariant d list stands are)
    ∙ ap (λ w. cells_bytes d behind (take i list) ++ bytes_of 4 w) is
    ∙ sym (flat_map-more behind list i inside h)

pub returns : goal.returns
returns c = λ d list h are.
    let past : length list ≤ c.loop-index.index =
    omega (arith, AreCells-length c.args.draft.now.labels c.args.cells.now list are) in
    c.loop-index.invariant d list h are
    ∙ ap (λ l. cells_bytes d c.args.behind l) (take_all c.loop-index.index list past)
