-- What holds after a thread waits for an object of any kind, or one is deleted.
use Rattle.std.proofs.Common.{◌≡◌, ℕ, true, Option, Some, None, List, option_map, refl}
use Rattle.iop_base.specs.Piece.{Piece}
use Rattle.iop_objects.specs.Objects.{object_of, state_of}
use Rattle.iop_pools.specs.Pools.{Pool}
use Rattle.iop_sysmem.specs.BlockMap.{freeing}
use Rattle.iop_thread.specs.declared.kind.Kind.{Kind}
use Rattle.iop_kernel.specs.Kinds.{State, Wants, Live, table}
use Rattle.iop_kernel.specs.ObjectServices.{waits_for, deletes_object, delete_object}
use Rattle.iop_kernel.specs.PoolServices.{frees_memory}
use Rattle.iop_kernel.specs.Stacks.{with_blocks}
use Rattle.iop_kernel.specs.System.{System, may_switch, caller}
use Rattle.iop_kernel.specs.WaiterPlaces.{HasPlace}
use Rattle.iop_kernel.specs.declared.after.After.{After}
use Rattle.iop_kernel.proofs.Walk.Changes.{GoesFrom, HasToWait}
use Rattle.iop_kernel.proofs.Walk.Moves.{EachMoves, ObjectMoves, CoreEnds, OwnerEnds}
use Rattle.iop_kernel.proofs.Walk.Stores.{own_id}
use Rattle.iop_kernel.proofs.Walk.Threads.{answers_after, only}

module _ {P : System → List Piece → Type 0} {Q : After → System → List Piece → Type 0}
    {Asks MayLeave : Type 0} {s : System} (e : EachMoves P Q Asks s) (kind : Kind)
    (m : ObjectMoves P Q Asks s MayLeave kind) where
  -- by the object of the id, where none has a block of its own
  deletes_by : ((x : State kind) → GoesFrom kind x s.blocks s.blocks) → (id : ℕ)
      (o : Option (Live kind)) → object_of (table kind s.core.kernel).live id ≡ o
      → CoreEnds Q s (deletes_object kind s.core o)
  deletes_by stay id None found = only e _
  deletes_by stay id (Some o) found =
      answers_after e _ _
      (m.deletes o s.blocks (own_id (table kind s.core.kernel) id o found) (stay o.state))

  pub deletes_goes : ((x : State kind) → GoesFrom kind x s.blocks s.blocks) → (id : ℕ)
      → CoreEnds Q s (delete_object kind s.core id)
  deletes_goes stay id = deletes_by stay id (object_of (table kind s.core.kernel).live id) refl

  -- where each is a pool, by the same object
  module _ (pool : State kind → Pool)
      (frees : (x : State kind) → GoesFrom kind x s.blocks (freeing s.blocks (pool x).base).1)
    where
      abbrev block : Option (Live kind) → Option Pool
      block o = option_map (λ (p : Live kind). pool p.state) o

      pub deletes_pool_by : (id : ℕ) (o : Option (Live kind))
          → object_of (table kind s.core.kernel).live id ≡ o
          → OwnerEnds Q s (with_blocks (frees_memory s.blocks (block o))
          (deletes_object kind s.core o))
      deletes_pool_by id None found = only e _
      deletes_pool_by id (Some o) found =
          let left = (freeing s.blocks (pool o.state).base).1 in
          e.goes_on _ _ _
          (m.deletes o left (own_id (table kind s.core.kernel) id o found) (frees o.state))

  -- the thread that calls waits, which has to
  pub waits_goes : Asks → MayLeave → (id : ℕ) (x : State kind) (wants : Wants kind)
      → may_switch s.core.kernel ≡ true → state_of (table kind s.core.kernel) id ≡ Some x
      → HasToWait kind (table kind s.core.kernel) id x wants → HasPlace kind s.memory wants
      → (who : Option ℕ) → caller s.core ≡ who
      → CoreEnds Q s (waits_for kind s.core id wants who)
  waits_goes asks leave id x wants may known must place None is = e.no_thread asks is
  waits_goes asks leave id x wants may known must place (Some thread) is =
      m.waits id thread x wants is may known must place leave
