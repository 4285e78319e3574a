-- What the law of the ready lists says.
use Rattle.std.specs.Prelude.{◌≡◌, ℕ, List, [], ◌∷◌, ◌++◌}
use Rattle.iop_ready.specs.declared.entry.Entry.{Entry}
use Rattle.iop_ready.specs.ReadyList.{CanEnter, is_listed, slot_at, without, rotated, best_slot, StandsFor}
use Rattle.iop_ready.specs.Queues.{Queues, Hold}

-- what two lists that stand for one another have in common, and that every change keeps
pub record Agree (xs ys : List Entry) : Type 0 where
  pub best : best_slot xs ≡ best_slot ys
  pub contains : (slot : ℕ) → is_listed slot xs ≡ is_listed slot ys
  pub at : (priority place : ℕ) → slot_at priority place xs ≡ slot_at priority place ys
  pub remove : (slot : ℕ) → StandsFor (without slot xs) (without slot ys)
  pub rotate : (priority : ℕ) → StandsFor (rotated priority xs) (rotated priority ys)
  pub add_last : (e : Entry) → CanEnter e xs → StandsFor (xs ++ e ∷ []) (ys ++ e ∷ [])
  pub add_first : (e : Entry) → CanEnter e xs → StandsFor (e ∷ xs) (e ∷ ys)

abbrev pub ReadyListsAgree : Type 0
ReadyListsAgree = (xs ys : List Entry) → StandsFor xs ys → Agree xs ys

pub record QueuesHoldOneList : Type 0 where
  pub same : (q : Queues) (xs ys : List Entry) → Hold q xs → Hold q ys → StandsFor xs ys
  pub any : (q : Queues) (xs ys : List Entry) → Hold q xs → StandsFor xs ys → Hold q ys
