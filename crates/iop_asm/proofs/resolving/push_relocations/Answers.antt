use Rattle.std.proofs.Common.{◌≡◌, ◌+◌, ◌<◌, ◌≤◌, ◌++◌, ap, sym, ◌∙◌, length, take, get_or, arith}
use Rattle.std.specs.Option.{option_to_list}
use Rattle.std.proofs.lemmas.List.{take_all, append_assoc}
use Rattle.iop_asm.specs.Assembly.{word_address, cell_relocation, cells_relocations}
use Rattle.iop_asm.specs.Cells.{plain_cell}
use Rattle.iop_asm.proofs.SectionLemmas.{AreCells-length, AreCells-at, filter_map-more}
use Rattle.iop_asm.proofs.resolving.push_relocations.Goals as goal

pub loop-index-preserved : goal.loop-index-preserved
loop-index-preserved c = λ labels list are.
    let i = c.loop-index.index in
    let behind = c.args.behind in
    let cell = get_or list i (plain_cell 0) in
    let made = c.cell_relocation-relocation.result in
    let before = c.args.relocations.now.items in
    let inside : i < length list = omega (arith, AreCells-length labels c.args.cells.now list are) in
    let is : made ≡ cell_relocation (word_address (behind + i)) cell =
    c.cell_relocation-relocation.ensures labels cell
    (AreCells-at labels c.args.cells.now list are i _ (plain_cell 0) c.loop-index-test.true)
    ∙ ap (λ site. cell_relocation site cell) c.address_behind.ensures in
    c.in_ok-push_relocation.ensures ∙ ap (λ l. l ++ option_to_list made) (c.loop-index.invariant labels list are)
    ∙ append_assoc before (cells_relocations behind (take i list)) (option_to_list made)
    ∙ ap (λ l. before ++ l) (sym (filter_map-more behind list i inside
    (λ x. cell_relocation (word_address x.0) x.1) made is))

pub returns : goal.returns
returns c = λ labels list are.
    let past : length list ≤ c.loop-index.index =
    omega (arith, AreCells-length labels c.args.cells.now list are) in
    c.loop-index.invariant labels list are
    ∙ ap (λ l. c.args.relocations.now.items ++ cells_relocations c.args.behind l)
    (take_all c.loop-index.index list past)
