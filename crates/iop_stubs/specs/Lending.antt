-- What a loan of a range of a guest's memory leaves: it is one store of the bytes that were
-- written.
use Rattle.std.specs.Prelude.{◌≡◌, ℕ, Option, Some, None, List, [], length, take, drop}
use Rattle.std.specs.Borrow.{MutBor}
use Rattle.std.specs.Fn.{Once, FnOnceReturnsAtMut}
use Rattle.iop_stubs.specs.Stubs.{Memory, after_store}

-- the bytes of a range at a physical place; without a place there is none
abbrev pub range_bytes : List ℕ → Option ℕ → ℕ → List ℕ
range_bytes ram None len = []
range_bytes ram (Some place) len = take len (drop place ram)

-- `write` was called on the bytes of the range and answered `answer`, and what it left of them
-- there is stored
pub record IsWrittenBy {F R : Type 0}
    (calls : Once F (MutBor (List ℕ) × Unit {0}) (R × (MutBor (List ℕ) × Unit {0}))) (write : F)
    (old new : Memory) (place : Option ℕ) (len : ℕ) (answer : R) : Type 0 where
  pub written : List ℕ
  pub called : FnOnceReturnsAtMut calls write (range_bytes old.ram place len) answer written
  pub whole : length written ≡ len
  pub stored : new ≡ after_store old place written
