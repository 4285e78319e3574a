use Rattle.std.proofs.Common.{ℕ, ◌^◌, ltb, List, [], ◌∷◌, ◌++◌, ap, arith}
use Rattle.std.proofs.lemmas.Bool.{and_from, lt-ltb}
use Rattle.iop_snapshot.proofs.Numbers.{numbers_from-all}
use Rattle.iop_saved_tables.proofs.Names.{name_fits, eight_bytes, three_fit}
use Rattle.iop_saved_tables.proofs.stubs.numbers_of_stub.Goals as goal

pub returns-clause-numbers : goal.returns-clause-numbers
returns-clause-numbers c =
    let stub = c.args.stub in
    rw (
      c.from.ensures,
      c.from-2.ensures,
      c.from-3.ensures,
      c.from-4.ensures,
      c.from-5.ensures,
      c.from-6.ensures,
      c.from-7.ensures,
      c.from-8.ensures,
      c.from-9.ensures,
      c.from-10.ensures,
      c.from-11.ensures,
      c.from-12.ensures,
    )
    (ap (λ (l : List ℕ). stub.at ∷ l ++ stub.major ∷ stub.index ∷ stub.target ∷ [])
    (numbers_from-all 0 8 stub.name (omega arith)))

pub returns-clause-fits : goal.returns-clause-fits
returns-clause-fits c =
    let stub = c.args.stub in
    and_from (ltb stub.at (256 ^ 4)) _ (lt-ltb stub.at (256 ^ 4) (omega arith))
    (name_fits stub.name (1 ∷ 2 ∷ 4 ∷ []) (stub.major ∷ stub.index ∷ stub.target ∷ []) (omega arith)
    (eight_bytes stub.name (omega arith) (omega arith) (omega arith) (omega arith)
    (omega arith) (omega arith) (omega arith) (omega arith))
    (three_fit stub.major stub.index stub.target (omega arith) (omega arith) (omega arith)))
