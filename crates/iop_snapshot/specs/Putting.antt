-- How values are put back into a table, one behind the other, each where the table takes it: this
-- project's own profile.
use Rattle.std.specs.Prelude.{◌≡◌, Bool, is_some, Option, Some, option_and_then, Result, MatchResult, List, [], ◌∷◌, ℕ}
use Rattle.iop_snapshot.specs.declared.fault.SnapFault.{SnapFault}
use Rattle.iop_snapshot.specs.Forms.{Form, tested, read_list}
use Rattle.iop_snapshot.specs.Reading.{GivesNone}

module _ {T X : Type 0} (put : T → X → Option T) where
  -- what putting values back leaves; none where one is refused
  abbrev pub put_all : T → List X → Option T
  put_all table [] = Some table
  put_all table (x ∷ xs) = option_and_then (λ left. put_all left xs) (put table x)

  -- whether a table takes a value
  abbrev pub may_put : T → X → Bool
  may_put table x = is_some (put table x)

  -- whether it does behind others
  abbrev pub may_follow : T → List X → X → Bool
  may_follow table before x =
      is_some (option_and_then (λ left. put left x) (put_all table before))

  -- the values that a table takes behind others
  abbrev pub next_form : Form X → T → List X → Form X
  next_form form table before = tested form (may_follow table before)

  -- a value was read and put, or none that the table takes can be
  abbrev pub PutsOne : Form X → (old new : T) → Result Unit SnapFault → (before rest : List ℕ)
      → Type 0
  PutsOne form old new result before rest =
      let read = (tested form (may_put old)).read before in
      MatchResult result (λ _. (x : X) × (put old x ≡ Some new) × (read ≡ Some (x, rest)))
      (GivesNone read)

  -- values were read and put one behind the other, or no list that the table takes can be read
  abbrev pub PutsAll : Form X → (table : T) → Result T SnapFault → (before rest : List ℕ) → Type 0
  PutsAll form table result before rest =
      let read = read_list (next_form form table) before in
      MatchResult result
      (λ now. (xs : List X) × (put_all table xs ≡ Some now) × (read ≡ Some (xs, rest)))
      (GivesNone read)
