-- What holds after each service of variable pools.
use Rattle.std.proofs.Common.{◌≡◌, ℕ, ◌==◌, nat_lt, Bool, true, false, ◌||◌, Option, Some, None, Result, Ok, Err, List, [], refl, ap, sym, ◌∙◌, subst, arith}
use Rattle.std.proofs.lemmas.Bool.{cond_both}
use Rattle.std.proofs.lemmas.Bool.Decides.{nat_tests}
use Rattle.iop_base.specs.Piece.{Piece}
use Rattle.iop_base.specs.declared.code.Code.{Code}
use Rattle.iop_base.specs.declared.code.TheConstants.Code.{NO_MEMORY, ILLEGAL_SIZE}
use Rattle.iop_objects.specs.Objects.{object_of, state_of}
use Rattle.iop_pools.specs.Pools.{Pool, place_for, with_ranges, takes_at, takes_of, frees_it}
use Rattle.iop_pools.specs.Ranges.{is_out, without}
use Rattle.iop_pools.specs.VariablePools as pools
use Rattle.iop_pools.specs.VariablePools.{VariablePools, pool_length, place_of}
use Rattle.iop_pools.specs.declared.variable_pool.TheConstants.{VARIABLE_UNIT}
use Rattle.iop_pools.proofs.Rounding.{rounded_unplaced}
use Rattle.iop_pools.proofs.Sizes.{variable_units}
use Rattle.iop_sysmem.specs.Allocating.{allocating}
use Rattle.iop_sysmem.specs.BlockMap.{BlockMap}
use Rattle.iop_thread.specs.declared.kind.Kind.TheVariants.{VariablePool}
use Rattle.iop_kernel.specs.Boards.{word_in}
use Rattle.iop_kernel.specs.Stacks.{owner_of, with_blocks}
use Rattle.iop_kernel.specs.System.{Core, Left, System, may_switch, caller}
use Rattle.iop_kernel.specs.VariablePools.{makes_vpl, creates_vpl_at, delete_vpl, takes_vpl, takes_or_waits, allocate_vpl, poll_vpl, frees_vpl, free_vpl}
use Rattle.iop_kernel.specs.Waits.{is_code}
use Rattle.iop_kernel.specs.declared.after.After.{After}
use Rattle.iop_kernel.specs.declared.pool_services.TheConstants.{FROM_BELOW}
use Rattle.iop_kernel.proofs.Walk.Changes.VariableChanges.{takes}
use Rattle.iop_kernel.proofs.Walk.Moves.{EachMoves, ObjectMoves, Meets, CoreEnds, OwnerEnds}
use Rattle.iop_kernel.proofs.Walk.Objects.{deletes_pool_by, waits_goes}
use Rattle.iop_kernel.proofs.Walk.Pools.{makes_goes}
use Rattle.iop_kernel.proofs.Walk.Threads.{answers_after, only, either}

module _ {P : System → List Piece → Type 0} {Q : After → System → List Piece → Type 0}
    {Asks MayLeave : Type 0} {s : System} (e : EachMoves P Q Asks s)
    (m : ObjectMoves P Q Asks s MayLeave VariablePool) where
  abbrev c : Core
  c = s.core

  abbrev CoreGoes : Left Core → Type 0
  CoreGoes = CoreEnds Q s

  abbrev vpls : VariablePools
  vpls = s.core.kernel.variable_pools

  -- one is made, by what is asked for
  pub creates_vpl_goes : (o : Option ℕ)
      → OwnerEnds Q s (creates_vpl_at (owner_of s) s.memory o)
  creates_vpl_goes None = e.bad_place
  creates_vpl_goes (Some place) =
      let attr = word_in s.memory place 0 in
      let option = word_in s.memory place 1 in
      let size = word_in s.memory place 2 in
      makes_goes e (makes_vpl (owner_of s) attr option size) vpls (pools.bytes attr size)
      (λ bytes sized base left some taken. made attr option size bytes sized base left some taken)
    where
      made : (attr option size bytes : ℕ) → pools.bytes attr size ≡ Ok bytes → (base : ℕ)
          (left : BlockMap) → (base == 0) ≡ false
          → allocating s.blocks FROM_BELOW bytes 0 ≡ (base, left)
          → OwnerEnds Q s (with_blocks left (makes_vpl (owner_of s) attr option size base))
      made attr option size bytes sized base left some taken =
          let units = variable_units attr size bytes sized in
          e.goes_on _ _ _ (m.makes (record {
            attr = attr;
            option = option;
            base = base;
            size = pool_length size;
            unit = VARIABLE_UNIT;
            ranges = [];
          }) left (record {
            none = refl;
            unit = omega arith;
            units = units.units;
            size = units.size;
            few = units.few;
          }) (record {
            some = some;
            taken = ap (λ n. allocating s.blocks FROM_BELOW n 0) units.same ∙ taken;
          }))

  -- it is deleted
  pub deletes_vpl_goes : (id : ℕ) → OwnerEnds Q s (delete_vpl (owner_of s) id)
  deletes_vpl_goes id =
      deletes_pool_by e VariablePool m (λ x. x) (λ x. refl) id (object_of vpls.live id) refl

  -- memory is taken, by what is known
  module _ (id size : ℕ) where
    takes_by : (C : Result ℕ Code × VariablePools → Type 0)
        → ((code : Code) → is_code code NO_MEMORY ≡ false → C (Err code, vpls))
        → ((x : Pool) → state_of vpls id ≡ Some x → place_of x size ≡ None
        → C (Err NO_MEMORY, vpls))
        → ((x : Pool) (place : ℕ) → state_of vpls id ≡ Some x → (size == 0) ≡ false
        → place_for x size ≡ Some place
        → C (pools.taken vpls (takes_at vpls id size x (Some place))))
        → (o : Option Pool) → state_of vpls id ≡ o → C (pools.takes_it vpls id size o)
    takes_by C refused full fits None known = refused _ refl
    takes_by C refused full fits (Some x) known =
        cond_both (size == 0 || nat_lt x.size size) (Err ILLEGAL_SIZE, vpls) _ C
        (λ illegal. refused _ refl)
        (λ legal. let some : (size == 0) ≡ false = grind (arith, nat_tests, legal) in
        subst (λ (o : Option Pool). C (pools.taken vpls (takes_of vpls id size o))) (sym known)
        (by some (place_for x size) refl))
      where
        by : (size == 0) ≡ false → (p : Option ℕ) → place_for x size ≡ p
            → C (pools.taken vpls (takes_at vpls id size x p))
        by some None is =
            full x known (cond_both (size == 0) None (place_for x size)
            (λ (o : Option ℕ). o ≡ None) (λ zero. refl) (λ other. is))
        by some (Some place) is = fits x place known some is

    took : (x : Pool) (place : ℕ) → state_of vpls id ≡ Some x → (size == 0) ≡ false
        → place_for x size ≡ Some place
        → CoreGoes (takes_vpl c (pools.taken vpls (takes_at vpls id size x (Some place))))
    took x place known some is = answers_after e _ _ (m.changes id x _ known (takes size place some is))

    pub polls_vpl_go : CoreGoes (poll_vpl c id size)
    polls_vpl_go =
        takes_by (λ (r : Result ℕ Code × VariablePools). CoreGoes (takes_vpl c r))
        (λ code other. only e _) (λ x known full. only e _) took (state_of vpls id) refl

    refused : (code : Code) → is_code code NO_MEMORY ≡ false
        → CoreGoes (takes_or_waits c id size (Err code, vpls))
    refused code other = rw other (only e _)

    pub allocates_vpl_goes : Asks → MayLeave → CoreGoes (allocate_vpl c id size)
    allocates_vpl_goes asks leave =
        either e (may_switch c.kernel) _ _
        (λ may.
        takes_by (λ (r : Result ℕ Code × VariablePools). CoreGoes (takes_or_waits c id size r))
        refused
        (λ x known full.
        waits_goes e VariablePool m asks leave id x (pool_length size) may known
        (rounded_unplaced x size full) tt (caller c) refl)
        took (state_of vpls id) refl)
        (λ cannot. only e _)

  -- it is given back, by the pool
  gives_by : Meets P Q Asks s → (id block : ℕ) (o : Option Pool) → state_of vpls id ≡ o
      → CoreGoes (frees_vpl c id (pools.given vpls (frees_it vpls id block o)))
  gives_by meet id block None known = only e _
  gives_by meet id block (Some x) known =
      cond_both (is_out block x.ranges)
      (Some true, with_ranges vpls id x (without block x.ranges)) (Some false, vpls)
      (λ (r : Option Bool × VariablePools). CoreGoes (frees_vpl c id (pools.given vpls r)))
      (λ there. answers_after e _ _ (meet id block x known there)) (λ none. only e _)

  pub frees_vpl_go : Meets P Q Asks s → (id block : ℕ) → CoreGoes (free_vpl c id block)
  frees_vpl_go meet id block = gives_by meet id block (state_of vpls id) refl
