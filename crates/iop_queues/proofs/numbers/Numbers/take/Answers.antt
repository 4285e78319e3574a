use Rattle.std.proofs.Common.{◌≡◌, ℕ, ◌+◌, Option, Some, None, MatchOption, List, [], ◌∷◌, ◌++◌, length, arith}
use Rattle.std.specs.Option.{option_to_list}
use Rattle.std.proofs.lemmas.List.{nil_from_length}
use Rattle.iop_queues.proofs.numbers.Numbers.take.Goals as goal

-- what leaves is the last one, or nothing was there
last : (r : Option ℕ) (old new : List ℕ) (n m : ℕ) → n ≡ length old → m ≡ length new
    → old ≡ new ++ option_to_list r → MatchOption r ((n ≡ 0) × (m ≡ 0)) (λ _. m + 1 ≡ n)
    → MatchOption r ((old ≡ []) × (new ≡ [])) (λ number. old ≡ new ++ number ∷ [])
last None old new n m n_is m_is items none = (
  nil_from_length old (omega (arith, n_is, none.0)),
  nil_from_length new (omega (arith, m_is, none.1)),
)
last (Some number) old new n m n_is m_is items some = items

pub returns : goal.returns
returns g c =
    rw (← c.self.view_is)
    (last c.pop.result c.self.inside.free.items c.pop.new.self.items _ _
    c.self.inside.free.ok.0 c.pop.new.self.ok.0 c.pop.ensures.items c.pop.ensures.cases)
