-- Pools stay sound, whichever of their services is called.
use Rattle.std.proofs.Common.{◌≡◌, ℕ, ◌^◌, ◌<◌, ◌==◌, ◌||◌, nat_lt, true, false, Option, Some, None, Result, Err, [], refl, ap, sym, ◌∙◌, subst, arith}
use Rattle.std.specs.Prelude.{⊤}
use Rattle.std.proofs.lemmas.Bool.{cond_both}
use Rattle.std.proofs.lemmas.Bool.Decides.{nat_tests}
use Rattle.std.proofs.lemmas.List.Elements.{All-push}
use Rattle.std.proofs.lemmas.Option.{same_Some}
use Rattle.iop_base.specs.declared.code.Code.{Code}
use Rattle.iop_base.specs.declared.code.TheConstants.Code.{ILLEGAL_SIZE}
use Rattle.iop_kernel.specs.Boards.{word_in}
use Rattle.iop_kernel.specs.FixedPools.{makes_fpl, creates_fpl_at, serves_thfpool}
use Rattle.iop_kernel.specs.Kinds.{table}
use Rattle.iop_kernel.specs.ObjectServices.{waits_for}
use Rattle.iop_kernel.specs.Placing.{IsPlaced}
use Rattle.iop_kernel.specs.Stacks.{owner_of}
use Rattle.iop_kernel.specs.System.{Core, Left, System, may_switch, caller, argument}
use Rattle.iop_kernel.specs.VariablePools.{makes_vpl, creates_vpl_at, takes_or_waits, allocate_vpl, serves_thvpool}
use Rattle.iop_kernel.specs.Callers.{may_leave}
use Rattle.iop_kernel.specs.declared.pool_services.TheConstants.{FROM_BELOW}
use Rattle.iop_kernel.proofs.Walk.Changes.{TakesBlock}
use Rattle.iop_kernel.proofs.Walk.Changes.VariableChanges.{takes}
use Rattle.iop_kernel.proofs.Walk.Libraries.{thvpool_goes, thfpool_goes}
use Rattle.iop_kernel.proofs.Walk.Moves.{EachMoves, ObjectMoves, CoreEnds, OwnerEnds, Ends}
use Rattle.iop_kernel.proofs.Walk.Pools.{makes_goes}
use Rattle.iop_objects.specs.Objects.{AreObjects, state_of, waiters_of}
use Rattle.iop_pools.specs.FixedPools as fixed
use Rattle.iop_pools.specs.Pools.{Pool, place_for, takes_at, takes_of}
use Rattle.iop_pools.specs.VariableRestoring.{may_be_wanted}
use Rattle.iop_pools.specs.VariablePools as variable
use Rattle.iop_pools.specs.VariablePools.{VariablePools, pool_length}
use Rattle.iop_services.specs.declared.service.Service.TheVariants.{Thvpool}
use Rattle.iop_services.specs.declared.thfpool_service.ThfpoolService.{ThfpoolService}
use Rattle.iop_services.specs.declared.thfpool_service.ThfpoolService.TheVariants as fpl
use Rattle.iop_services.specs.declared.thvpool_service.ThvpoolService.{ThvpoolService}
use Rattle.iop_services.specs.declared.thvpool_service.ThvpoolService.TheVariants as vpl
use Rattle.iop_sysmem.specs.Allocating.{allocating}
use Rattle.iop_sysmem.specs.BlockMap.{BlockMap, AreBlocks}
use Rattle.iop_thread.specs.declared.kind.Kind.{Kind}
use Rattle.iop_thread.specs.declared.kind.Kind.TheVariants.{VariablePool, FixedPool}
use Rattle.iop_resumable.proofs.Changed.{changed}
use Rattle.iop_resumable.proofs.MadePools.{variable_made, may_want, fixed_made}
use Rattle.iop_resumable.proofs.ObjectMoves.{P, Q, with_others, each_moves, object_moves, meets_pools}
use Rattle.iop_resumable.proofs.Standing.{Stands, stand_waiters, stand_state, stand_creates}
use Rattle.iop_resumable.proofs.TakenBlocks.{block_taken}

-- where RAM has no byte no block is taken

none_taken : (bytes : ℕ) → (allocating (record { size = 0; used = [] }) 0 bytes 0).0 ≡ 0
unfolding allocating
none_taken bytes =
    cond_both (bytes == 0) (0, record { size = 0; used = [] }) (0, record { size = 0; used = [] })
    (λ (t : ℕ × BlockMap). t.0 ≡ 0) (λ zero. refl) (λ other. refl)

no_pool : (x : Pool) (left : BlockMap) → TakesBlock x (record { size = 0; used = [] }) left → ⊥
no_pool x left on =
    let none : x.base ≡ 0 = sym (ap (λ (t : ℕ × BlockMap). t.0) on.taken) ∙ none_taken x.size in
    let some = on.some in
    grind (arith, nat_tests, none, some)

module _ (s : System) (placed : IsPlaced s.core.kernel) (h : Stands s.core.kernel) where
  abbrev c : Core
  c = s.core

  abbrev vpls : VariablePools
  vpls = s.core.kernel.variable_pools

  abbrev CoreGoes : Left Core → Type 0
  CoreGoes = CoreEnds Q s

  are : (kind : Kind) → AreObjects (table kind s.core.kernel)
  are kind = (placed.objects kind).sound

  -- the same with no byte of RAM: services of pools that are made look at none
  abbrev bare : System
  bare = record s { blocks = record { size = 0; used = [] } }

  each : EachMoves P Q ⊤ s
  each = each_moves s placed h

  -- pools are made
  module _ (blocks : AreBlocks s.blocks) (size : s.blocks.size < 2 ^ 32) where
    creates_vpl_go : (o : Option ℕ) → OwnerEnds Q s (creates_vpl_at (owner_of s) s.memory o)
    creates_vpl_go None = h
    creates_vpl_go (Some place) =
        let attr = word_in s.memory place 0 in
        let option = word_in s.memory place 1 in
        let many = word_in s.memory place 2 in
        makes_goes each (makes_vpl (owner_of s) attr option many) vpls (variable.bytes attr many)
        (λ bytes sized base left some is.
        let taken = block_taken s.blocks left FROM_BELOW bytes base blocks is some in
        with_others s.core.kernel are h VariablePool _
        (stand_creates VariablePool vpls (are VariablePool) (h VariablePool) _ tt
        (variable_made attr option many bytes base sized taken.starts
        (omega (arith, taken.ends, size)))))

    creates_fpl_go : (o : Option ℕ) → OwnerEnds Q s (creates_fpl_at (owner_of s) s.memory o)
    creates_fpl_go None = h
    creates_fpl_go (Some place) =
        let attr = word_in s.memory place 0 in
        let option = word_in s.memory place 1 in
        let many = word_in s.memory place 2 in
        let count = word_in s.memory place 3 in
        makes_goes each (makes_fpl (owner_of s) attr option many count)
        s.core.kernel.fixed_pools (fixed.bytes attr many count)
        (λ bytes sized base left some is.
        let taken = block_taken s.blocks left FROM_BELOW bytes base blocks is some in
        with_others s.core.kernel are h FixedPool _
        (stand_creates FixedPool s.core.kernel.fixed_pools (are FixedPool) (h FixedPool) _ tt
        (fixed_made attr option many count bytes base sized taken.starts
        (omega (arith, taken.ends, size)))))

  -- a thread waits for memory of a variable pool that has as much
  module _ (id size : ℕ) where
    waits_go : (x : Pool) → state_of vpls id ≡ Some x → (size == 0) ≡ false
        → nat_lt x.size size ≡ false → place_for x size ≡ None → (who : Option ℕ)
        → CoreGoes (waits_for VariablePool c id (pool_length size) who)
    waits_go x known some within full None = h
    waits_go x known some within full (Some thread) =
        with_others s.core.kernel are h VariablePool _
        (stand_waiters VariablePool vpls (are VariablePool) (h VariablePool) id _
        (λ y there sound.
        let same : x ≡ y = same_Some x y (sym known ∙ there) in
        let fits : nat_lt y.size size ≡ false =
        subst (λ (z : Pool). nat_lt z.size size ≡ false) same within in
        record {
          sound = sound.sound;
          unit = sound.unit;
          layout = sound.layout;
          waiters = All-push (λ w. may_be_wanted w.item.wants y ≡ true) (waiters_of vpls id) _
              sound.waiters (may_want y size sound.sound sound.unit
              (grind (arith, nat_tests, some)) (grind (arith, nat_tests, fits)));
        }))

    takes_go : (o : Option Pool) → state_of vpls id ≡ o
        → CoreGoes (takes_or_waits c id size (variable.takes_it vpls id size o))
    takes_go None known = h
    takes_go (Some x) known =
        cond_both (size == 0 || nat_lt x.size size) (Err ILLEGAL_SIZE, vpls) _
        (λ (r : Result ℕ Code × VariablePools). CoreGoes (takes_or_waits c id size r))
        (λ illegal. h)
        (λ legal.
        let some : (size == 0) ≡ false = grind (arith, nat_tests, legal) in
        let within : nat_lt x.size size ≡ false = grind (arith, nat_tests, legal) in
        subst (λ (o : Option Pool).
        CoreGoes (takes_or_waits c id size (variable.taken vpls (takes_of vpls id size o))))
        (sym known) (by some within (place_for x size) refl))
      where
        by : (size == 0) ≡ false → nat_lt x.size size ≡ false → (p : Option ℕ)
            → place_for x size ≡ p
            → CoreGoes (takes_or_waits c id size (variable.taken vpls (takes_at vpls id size x p)))
        by some within None is = waits_go x known some within is (caller c)
        by some within (Some place) is =
            with_others s.core.kernel are h VariablePool _
            (stand_state VariablePool vpls (are VariablePool) (h VariablePool) id x _ known tt
            (changed VariablePool vpls id x _ (takes size place some is) tt
            (waiters_of vpls id)))

    allocates_go : CoreGoes (allocate_vpl c id size)
    allocates_go =
        cond_both (may_switch c.kernel) _ _ CoreGoes (λ may. takes_go (state_of vpls id) refl)
        (λ cannot. h)

  -- the moves of pools that are made
  variable_moves : ObjectMoves P Q ⊤ bare ⊥ VariablePool
  variable_moves =
      object_moves bare placed h VariablePool
      (λ x left first on pool. absurd (no_pool x left on)) (λ id x y how. tt)
      (λ leave id x wants known must. absurd leave)

  fixed_moves : ObjectMoves P Q ⊤ bare ⊤ FixedPool
  fixed_moves =
      object_moves bare placed h FixedPool
      (λ x left first on pool. absurd (no_pool x left on)) (λ id x y how. tt)
      (λ leave id x wants known must. tt)

  others_go : (x : ThvpoolService) → (may_leave (Thvpool x) ≡ true → ⊥)
      → Ends Q (serves_thvpool bare x)
  others_go x stays =
      thvpool_goes (each_moves bare placed h) variable_moves (meets_pools bare placed h) x
      (λ asks. tt) stays

  module _ (blocks : AreBlocks s.blocks) (size : s.blocks.size < 2 ^ 32) where
    pub thvpool_stands : (x : ThvpoolService) → Ends Q (serves_thvpool s x)
    unfolding serves_thvpool may_leave
    thvpool_stands vpl.CreateVpl =
        creates_vpl_go blocks size _
    thvpool_stands vpl.DeleteVpl = others_go vpl.DeleteVpl (λ leaves. cc)
    thvpool_stands vpl.AllocateVpl = allocates_go (argument c 0) (argument c 1)
    thvpool_stands vpl.PAllocateVpl = others_go vpl.PAllocateVpl (λ leaves. cc)
    thvpool_stands vpl.FreeVpl = others_go vpl.FreeVpl (λ leaves. cc)
    thvpool_stands vpl.ReferVplStatus = others_go vpl.ReferVplStatus (λ leaves. cc)

    fixed_go : (x : ThfpoolService) → Ends Q (serves_thfpool bare x)
    fixed_go x =
        thfpool_goes (each_moves bare placed h) fixed_moves x (λ asks. tt) (λ leaves. tt)

    pub thfpool_stands : (x : ThfpoolService) → Ends Q (serves_thfpool s x)
    unfolding serves_thfpool
    thfpool_stands fpl.CreateFpl =
        creates_fpl_go blocks size _
    thfpool_stands fpl.DeleteFpl = fixed_go fpl.DeleteFpl
    thfpool_stands fpl.AllocateFpl = fixed_go fpl.AllocateFpl
    thfpool_stands fpl.PAllocateFpl = fixed_go fpl.PAllocateFpl
    thfpool_stands fpl.FreeFpl = fixed_go fpl.FreeFpl
    thfpool_stands fpl.ReferFplStatus = fixed_go fpl.ReferFplStatus
