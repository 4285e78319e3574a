use Rattle.std.proofs.Common.{◌≡◌, ◌+◌, ◌<◌, ◌≤◌, ap, sym, ◌∙◌, length, take, fold, get_or, arith}
use Rattle.std.specs.Option.{option_to_list}
use Rattle.std.proofs.lemmas.List.{take_all}
use Rattle.std.proofs.lemmas.List.Sums.{fold-append}
use Rattle.iop_asm.specs.Assembly.{word_address, first_of, cell_fault, cells_faults}
use Rattle.iop_asm.specs.Cells.{plain_cell}
use Rattle.iop_asm.proofs.SectionLemmas.{AreCells-length, AreCells-at, filter_map-more}
use Rattle.iop_asm.proofs.resolving.first_cell_fault.Goals as goal

pub loop-index-preserved : goal.loop-index-preserved
loop-index-preserved c = λ d list h are.
    let labels = c.args.draft.now.labels in
    let i = c.loop-index.index in
    let behind = c.args.behind in
    let cell = get_or list i (plain_cell 0) in
    let made = c.cell_fault-fault.result in
    let inside : i < length list = omega (arith, AreCells-length labels c.args.cells.now list are) in
    let is : made ≡ cell_fault d (word_address (behind + i)) cell =
    c.cell_fault-fault.ensures d cell h
    (AreCells-at labels c.args.cells.now list are i _ (plain_cell 0) c.loop-index-test.true)
    ∙ ap (λ site. cell_fault d site cell) c.address_behind.ensures in
    c.first_of_both-first.ensures
    ∙ ap (λ x. fold first_of x (option_to_list made)) (c.loop-index.invariant d list h are)
    ∙ sym (fold-append first_of c.args.found (cells_faults d behind (take i list)) (option_to_list made))
    ∙ ap (fold first_of c.args.found) (sym (filter_map-more behind list i inside
    (λ x. cell_fault d (word_address x.0) x.1) made is))

pub returns : goal.returns
returns c = λ d list h are.
    let past : length list ≤ c.loop-index.index =
    omega (arith, AreCells-length c.args.draft.now.labels c.args.cells.now list are) in
    c.loop-index.invariant d list h are
    ∙ ap (λ l. fold first_of c.args.found (cells_faults d c.args.behind l))
    (take_all c.loop-index.index list past)
