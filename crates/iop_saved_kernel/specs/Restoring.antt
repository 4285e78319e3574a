-- What a call leaves that reads a value and puts it back: this project's own profile.
use Rattle.std.specs.Prelude.{◌≡◌, ℕ, Bool, is_some, Option, Some, Result, MatchResult, List}
use Rattle.iop_snapshot.specs.Forms.{Form, tested}
use Rattle.iop_snapshot.specs.Reading.{GivesNone}
use Rattle.iop_snapshot.specs.declared.fault.SnapFault.{SnapFault}

-- the values of a form that can be put back
abbrev pub that_go_back : {X S : Type 0} → Form X → (X → Option S) → Form X
that_go_back form back = tested form (λ x. is_some (back x))

-- a value was read and put back, which gave this state
pub record IsBack {X S : Type 0} (form : Form X) (back : X → Option S) (value : X) (state : S)
    (before rest : List ℕ) : Type 0 where
  pub is_read : form.read before ≡ Some (value, rest)
  pub is_back : back value ≡ Some state

-- a value was read and put back, and what was made stands for the state that this gave; or none can
-- be read that can be put back
abbrev pub Restores : {X S Y : Type 0} → Form X → (X → Option S) → (Y → S → Type 0)
    → Result Y SnapFault → (before rest : List ℕ) → Type 0
Restores {X} {S} form back stands_for result before rest =
    MatchResult result
    (λ made. (value : X) × (state : S) × stands_for made state
    × IsBack form back value state before rest)
    (GivesNone ((that_go_back form back).read before))
