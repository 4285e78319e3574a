use Rattle.std.proofs.Common.{ℕ, List, [], ◌∷◌, ◌++◌, ap, arith}
use Rattle.iop_snapshot.proofs.Numbers.{numbers_from-all}
use Rattle.iop_saved_tables.proofs.Names.{name_fits, eight_bytes, two_fit}
use Rattle.iop_saved_tables.proofs.libraries.numbers_of_library.Goals as goal

pub returns-clause-numbers : goal.returns-clause-numbers
returns-clause-numbers c =
    let library = c.args.library in
    rw (
      c.from.ensures,
      c.from-2.ensures,
      c.from-3.ensures,
      c.from-4.ensures,
      c.from-5.ensures,
      c.from-6.ensures,
      c.from-7.ensures,
      c.from-8.ensures,
      c.from-9.ensures,
      c.from-10.ensures,
    )
    (ap (λ (l : List ℕ). l ++ library.major ∷ library.table ∷ [])
    (numbers_from-all 0 8 library.name (omega arith)))

pub returns-clause-fits : goal.returns-clause-fits
returns-clause-fits c =
    let library = c.args.library in
    name_fits library.name (1 ∷ 4 ∷ []) (library.major ∷ library.table ∷ []) (omega arith)
    (eight_bytes library.name (omega arith) (omega arith) (omega arith) (omega arith)
    (omega arith) (omega arith) (omega arith) (omega arith))
    (two_fit library.major library.table (omega arith) (omega arith))
