use Rattle.std.proofs.Common.{◌≢◌, [], ◌∷◌, arith}
use Rattle.std.proofs.lemmas.List.Elements.{All-nil, All-cons}
use Rattle.iop_ready.specs.declared.entry.Entry.{Entry}
use Rattle.iop_ready.specs.ReadyList.{entry_of}
use Rattle.iop_ready_tests.proofs.tests.add_three.Goals as goal

pub add_last-requires : goal.add_last-requires
add_last-requires g c = ([], c.requires, All-nil (λ e. e.slot ≢ c.new.result))

pub add_last-requires-2 : goal.add_last-requires-2
add_last-requires-2 g c =
    let first : Entry = entry_of c.new.result c.new-2.result in
    let is_other : Entry → Type 0 = λ e. e.slot ≢ c.new-3.result in (
      first ∷ [],
      c.add_last.ensures [] c.requires,
      All-cons is_other first [] (omega (arith, c.new.ensures, c.new-3.ensures))
          (All-nil is_other),
    )

pub add_first-requires : goal.add_first-requires
add_first-requires g c =
    let first : Entry = entry_of c.new.result c.new-2.result in
    let second : Entry = entry_of c.new-3.result c.new-4.result in
    let is_other : Entry → Type 0 = λ e. e.slot ≢ c.new-5.result in (
      first ∷ second ∷ [],
      c.add_last-2.ensures (first ∷ []) (c.add_last.ensures [] c.requires),
      All-cons is_other first (second ∷ []) (omega (arith, c.new.ensures, c.new-5.ensures))
          (All-cons is_other second [] (omega (arith, c.new-3.ensures, c.new-5.ensures))
          (All-nil is_other)),
    )
