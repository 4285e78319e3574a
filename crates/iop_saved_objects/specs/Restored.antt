-- What a table into which objects are put back has taken.
use Rattle.std.specs.Prelude.{◌≡◌, ℕ, Option, Some, Result, MatchResult, List}
use Rattle.iop_snapshot.specs.declared.fault.SnapFault.{SnapFault}
use Rattle.iop_snapshot.specs.Forms.{Form, tested}
use Rattle.iop_snapshot.specs.Putting.{put_all, may_put}
use Rattle.iop_snapshot.specs.Reading.{GivesNone}
use Rattle.iop_saved_objects.specs.declared.putting.Restored.{Restored}

-- a value was read and put
pub record IsPut {T X : Type 0} (put : T → X → Option T) (form : Form X) (old new : T) (x : X)
    (before rest : List ℕ) : Type 0 where
  pub is_put : put old x ≡ Some new
  pub is_read : form.read before ≡ Some (x, rest)

-- records were put, and all else is as it was
pub record HasPut {T P X : Type 0} (put : T → X → Option T) (base now : Restored T P)
    (xs : List X) : Type 0 where
  pub all : put_all put base.table xs ≡ Some now.table
  pub id : now.id ≡ base.id
  pub priorities : now.priorities ≡ base.priorities

-- a part of an object was read and put, whose id is kept, and all else is as it was
pub record PartIsPut {T P X : Type 0} (put : T → X → Option T) (form : Form X) (id : X → ℕ)
    (old new : Restored T P) (before rest : List ℕ) : Type 0 where
  pub part : X
  pub put_so : IsPut put form old.table new.table part before rest
  pub id_so : new.id ≡ id part
  pub priorities : new.priorities ≡ old.priorities

-- it was, or none can be read that the table takes
abbrev pub PutsPart : {T P X : Type 0} (put : T → X → Option T) → Form X → (id : X → ℕ)
    → (old new : Restored T P) → Result Unit SnapFault → (before rest : List ℕ) → Type 0
PutsPart put form id old new result before rest =
    MatchResult result (λ _. PartIsPut put form id old new before rest)
    (GivesNone ((tested form (may_put put old.table)).read before))
