-- What holds after each service of fixed pools.
use Rattle.std.proofs.Common.{◌≡◌, ℕ, ◌*◌, ◌==◌, true, false, Option, Some, None, Result, Ok, Err, List, [], refl, ap, sym, ◌∙◌, subst}
use Rattle.std.specs.Prelude.{⊤}
use Rattle.std.proofs.lemmas.Bool.{cond_both}
use Rattle.iop_base.specs.Piece.{Piece}
use Rattle.iop_base.specs.declared.code.Code.{Code}
use Rattle.iop_base.specs.declared.code.TheConstants.Code.{NO_MEMORY, ILLEGAL_BLOCK}
use Rattle.iop_objects.specs.Objects as objects
use Rattle.iop_objects.specs.Objects.{object_of, state_of, waiters_of}
use Rattle.iop_objects.specs.declared.waiter.Waiter.{Waiter}
use Rattle.iop_pools.specs.FixedPools as pools
use Rattle.iop_pools.specs.FixedPools.{FixedPools, block_for}
use Rattle.iop_pools.specs.Pools.{Pool, by_priority, place_for, takes_at, takes_of}
use Rattle.iop_pools.specs.Ranges.{is_out}
use Rattle.iop_pools.proofs.Sizes.{fixed_units}
use Rattle.iop_queues.specs.Queue.{Choice, chooses}
use Rattle.iop_sysmem.specs.Allocating.{allocating}
use Rattle.iop_sysmem.specs.BlockMap.{BlockMap}
use Rattle.iop_thread.specs.declared.kind.Kind.TheVariants.{FixedPool}
use Rattle.iop_kernel.specs.Boards.{word_in}
use Rattle.iop_kernel.specs.FixedPools.{makes_fpl, creates_fpl_at, delete_fpl, takes_fpl, takes_or_waits, allocate_fpl, poll_fpl, frees_fpl, free_fpl}
use Rattle.iop_kernel.specs.Stacks.{owner_of, with_blocks}
use Rattle.iop_kernel.specs.System.{Core, Left, System, may_switch, caller}
use Rattle.iop_kernel.specs.Waits.{is_code}
use Rattle.iop_kernel.specs.declared.after.After.{After}
use Rattle.iop_kernel.specs.declared.pool_services.TheConstants.{FROM_BELOW}
use Rattle.iop_kernel.proofs.Walk.Changes.FixedChanges.{takes, gives}
use Rattle.iop_kernel.proofs.Walk.Moves.{EachMoves, ObjectMoves, CoreEnds, OwnerEnds}
use Rattle.iop_kernel.proofs.Walk.Objects.{deletes_pool_by, waits_goes}
use Rattle.iop_kernel.proofs.Walk.Pools.{makes_goes}
use Rattle.iop_kernel.proofs.Walk.Threads.{answers_after, only, either}

module _ {P : System → List Piece → Type 0} {Q : After → System → List Piece → Type 0}
    {Asks MayLeave : Type 0} {s : System} (e : EachMoves P Q Asks s)
    (m : ObjectMoves P Q Asks s MayLeave FixedPool) where
  abbrev c : Core
  c = s.core

  abbrev CoreGoes : Left Core → Type 0
  CoreGoes = CoreEnds Q s

  abbrev fpls : FixedPools
  fpls = s.core.kernel.fixed_pools

  -- one is made, by what is asked for
  pub creates_fpl_goes : (o : Option ℕ)
      → OwnerEnds Q s (creates_fpl_at (owner_of s) s.memory o)
  creates_fpl_goes None = e.bad_place
  creates_fpl_goes (Some place) =
      let attr = word_in s.memory place 0 in
      let option = word_in s.memory place 1 in
      let size = word_in s.memory place 2 in
      let count = word_in s.memory place 3 in
      makes_goes e (makes_fpl (owner_of s) attr option size count) fpls
      (pools.bytes attr size count)
      (λ bytes sized base left some taken. made attr option size count bytes sized base left some taken)
    where
      made : (attr option size count bytes : ℕ) → pools.bytes attr size count ≡ Ok bytes
          → (base : ℕ) (left : BlockMap) → (base == 0) ≡ false
          → allocating s.blocks FROM_BELOW bytes 0 ≡ (base, left)
          → OwnerEnds Q s (with_blocks left (makes_fpl (owner_of s) attr option size count base))
      made attr option size count bytes sized base left some taken =
          let units = fixed_units attr size count bytes sized in
          e.goes_on _ _ _ (m.makes (record {
            attr = attr;
            option = option;
            base = base;
            size = block_for size * count;
            unit = block_for size;
            ranges = [];
          }) left (record {
            none = refl;
            unit = units.some;
            units = units.units;
            size = units.size;
            few = units.few;
          }) (record {
            some = some;
            taken = ap (λ n. allocating s.blocks FROM_BELOW n 0) units.same ∙ taken;
          }))

  -- it is deleted
  pub deletes_fpl_goes : (id : ℕ) → OwnerEnds Q s (delete_fpl (owner_of s) id)
  deletes_fpl_goes id =
      deletes_pool_by e FixedPool m (λ x. x) (λ x. refl) id (object_of fpls.live id) refl

  -- a block is taken, by what is known
  module _ (id : ℕ) where
    takes_by : (C : Result ℕ Code × FixedPools → Type 0)
        → ((code : Code) → is_code code NO_MEMORY ≡ false → C (Err code, fpls))
        → ((x : Pool) → state_of fpls id ≡ Some x → place_for x x.unit ≡ None
        → C (Err NO_MEMORY, fpls))
        → ((x : Pool) (place : ℕ) → state_of fpls id ≡ Some x → place_for x x.unit ≡ Some place
        → C (pools.taken fpls (takes_at fpls id x.unit x (Some place))))
        → (o : Option Pool) → state_of fpls id ≡ o → C (pools.takes_it fpls id o)
    takes_by C refused full free None known = refused _ refl
    takes_by C refused full free (Some x) known =
        subst (λ (o : Option Pool). C (pools.taken fpls (takes_of fpls id x.unit o))) (sym known)
        (by (place_for x x.unit) refl)
      where
        by : (p : Option ℕ) → place_for x x.unit ≡ p
            → C (pools.taken fpls (takes_at fpls id x.unit x p))
        by None is = full x known is
        by (Some place) is = free x place known is

    took : (x : Pool) (place : ℕ) → state_of fpls id ≡ Some x → place_for x x.unit ≡ Some place
        → CoreGoes (takes_fpl c (pools.taken fpls (takes_at fpls id x.unit x (Some place))))
    took x place known is = answers_after e _ _ (m.changes id x _ known (takes place is))

    pub polls_fpl_go : CoreGoes (poll_fpl c id)
    polls_fpl_go =
        takes_by (λ (r : Result ℕ Code × FixedPools). CoreGoes (takes_fpl c r))
        (λ code other. only e _) (λ x known full. only e _) took (state_of fpls id) refl

    refused : (code : Code) → is_code code NO_MEMORY ≡ false
        → CoreGoes (takes_or_waits c id (Err code, fpls))
    refused code other = rw other (only e _)

    pub allocates_fpl_goes : Asks → MayLeave → CoreGoes (allocate_fpl c id)
    allocates_fpl_goes asks leave =
        either e (may_switch c.kernel) _ _
        (λ may. takes_by (λ (r : Result ℕ Code × FixedPools). CoreGoes (takes_or_waits c id r))
        refused
        (λ x known full.
        waits_goes e FixedPool m asks leave id x tt may known full tt (caller c) refl)
        took (state_of fpls id) refl)
        (λ cannot. only e _)

  -- it is given back, by who is chosen
  module _ (id block : ℕ) where
    gives_chosen : (x : Pool) → state_of fpls id ≡ Some x → is_out block x.ranges ≡ true
        → (o : Option (Choice (Waiter ⊤))) → chooses (by_priority x) (waiters_of fpls id) ≡ o
        → CoreGoes (frees_fpl c block (pools.gives_to fpls id block x (objects.takes fpls id o)))
    gives_chosen x known there None is =
        answers_after e _ _ (m.changes id x _ known (gives block there is))
    gives_chosen x known there (Some one) is =
        answers_after e _ _ (m.wakes id block x one known is there)

    gives_by : (o : Option Pool) → state_of fpls id ≡ o
        → CoreGoes (frees_fpl c block (pools.gives_it fpls id block o))
    gives_by None known = only e _
    gives_by (Some x) known =
        cond_both (is_out block x.ranges) _ (Err ILLEGAL_BLOCK, fpls)
        (λ (r : Result (Option ℕ) Code × FixedPools). CoreGoes (frees_fpl c block r))
        (λ there.
        gives_chosen x known there (chooses (by_priority x) (waiters_of fpls id)) refl)
        (λ none. only e _)

    pub frees_fpl_go : CoreGoes (free_fpl c id block)
    frees_fpl_go = gives_by (state_of fpls id) refl
