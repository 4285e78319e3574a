-- Where nothing is put back, a table is as it was.
use Rattle.std.proofs.Common.{◌≡◌, Option, [], refl}
use Rattle.iop_saved_objects.specs.Restored.{HasPut}
use Rattle.iop_saved_objects.specs.declared.putting.Restored.{Restored}

pub none_put_in : {T P X : Type 0} (put : T → X → Option T) (base : Restored T P)
    → HasPut put base base []
none_put_in put base = record { all = refl; id = refl; priorities = refl }

pub same : {X : Type 0} (x : X) → x ≡ x
same x = refl
