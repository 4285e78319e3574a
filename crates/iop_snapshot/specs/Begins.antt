-- Where nothing is put back, a table is as it was.
use Rattle.std.proofs.Common.{◌≡◌, Option, Some, List, [], ◌++◌, append-nil, refl, sym}
use Rattle.iop_snapshot.specs.Putting.{put_all}

pub none_put : {T X : Type 0} (put : T → X → Option T) (table : T)
    → put_all put table [] ≡ Some table
none_put put table = refl

pub none_behind : {X : Type 0} (xs : List X) → xs ≡ xs ++ []
none_behind xs = sym (append-nil xs)
