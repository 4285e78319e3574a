-- What holds in each state that a machine reaches.
use Rattle.std.proofs.Common.{◌⊎◌, inl, inr, ℕ, zero, suc, List, ◌++◌, Contains, arith}
use Rattle.std.proofs.lemmas.List.Elements.{Contains-append_cases, Contains-append_left, Contains-append_right}
use Rattle.iop_base.specs.Places.{IsRamSize}
use Rattle.iop_pools.specs.declared.fixed_pool.TheConstants.{MOST_BLOCKS}
use Rattle.iop_pools.specs.declared.variable_pool.TheConstants.{MOST_RANGES}
use Rattle.iop_pools.proofs.LeastPlaces.{pools_apart}
use Rattle.iop_script.specs.declared.raise.Raise.{Raise}
use Rattle.iop_stubs.specs.declared.live_stub.Stub.{Stub}
use Rattle.iop_thread.specs.declared.kind.Kind.TheVariants.{VariablePool, FixedPool}
use Rattle.iop_machine.specs.Iop.{Transition, and_then}
use Rattle.iop_machine.specs.Laws.{IsSoundWorld, StaysSound, RunsStaySound}
use Rattle.iop_machine.specs.Modules.{ModulesLeft}
use Rattle.iop_machine.specs.Stepping.{step, steps}
use Rattle.iop_machine.specs.StubLaws.{IsTold, RunsKeepStubs, RunsTellStubs, StubsLeaveWithTheirLine}
use Rattle.iop_machine.specs.World.{World, beginning}
use Rattle.iop_machine.proofs.KeepingMachine.{step_keeps, begins_sound}

pub stubs_leave_with_their_line : StubsLeaveWithTheirLine
stubs_leave_with_their_line = λ w stub machine has.
    (step_keeps w machine.sound).stays.line stub has

-- what steps leave of a machine
record Descends (w : World) (t : Transition World) : Type 0 where
  sound : IsSoundWorld t.state
  live : (stub : Stub) → Contains t.state.iop.memory.live stub
      → Contains w.iop.memory.live stub ⊎ Contains t.bound stub
  told : (stub : Stub) → Contains w.iop.memory.live stub ⊎ Contains t.bound stub
      → Contains t.state.iop.memory.live stub ⊎ IsTold stub t.pieces

-- a stub that was live after some steps, or is bound in the next, is live after it, or is told
module _ (w : World) (t : Transition World) (h : Descends w t) (stub : Stub) where
  abbrev after : Transition World
  after = step t.state

  abbrev IsLiveOrTold : Type 0
  IsLiveOrTold =
      Contains after.state.iop.memory.live stub ⊎ IsTold stub (t.pieces ++ after.pieces)

  told_next : Contains t.state.iop.memory.live stub ⊎ Contains after.bound stub → IsLiveOrTold
  told_next x = elim ((step_keeps t.state h.sound).stays.line stub x) [
    | inl live ↦ inl live
    | inr line ↦ inr (record {
      moment = t.state.iop.kernel.clock;
      line = Contains-append_right t.pieces after.pieces _ line;
    })
  ]

  told_before : Contains w.iop.memory.live stub ⊎ Contains t.bound stub → IsLiveOrTold
  told_before x = elim (h.told stub x) [
    | inl live ↦ told_next (inl live)
    | inr told ↦ inr (record {
      moment = told.moment;
      line = Contains-append_left t.pieces after.pieces _ told.line;
    })
  ]

  told_then : Contains w.iop.memory.live stub ⊎ Contains (t.bound ++ after.bound) stub
      → IsLiveOrTold
  told_then (inl old) = told_before (inl old)
  told_then (inr bound) = elim (Contains-append_cases t.bound after.bound stub bound)
      [ inl one ↦ told_before (inr one) | inr one ↦ told_next (inr one) ]

next_descends : (w : World) (t : Transition World) → Descends w t → Descends w (and_then t step)
next_descends w t h =
    let next = step_keeps t.state h.sound in
    let after = step t.state in
    record {
      sound = next.sound;
      live = λ stub x. elim (next.stays.live stub x) [
        | inl there ↦ elim (h.live stub there) [
          | inl old ↦ inl old
          | inr one ↦ inr (Contains-append_left t.bound after.bound stub one)
        ]
        | inr one ↦ inr (Contains-append_right t.bound after.bound stub one)
      ];
      told = λ stub x. told_then w t h stub x;
    }

descends : (w : World) (k : ℕ) → IsSoundWorld w → Descends w (steps k w)
unfolding steps
descends w zero sound = record {
  sound = sound;
  live = λ stub x. inl x;
  told = λ stub x. elim x [ inl old ↦ inl old | inr none ↦ absurd (omega (arith, none.1)) ];
}
descends w (suc k) sound = next_descends w (steps k w) (descends w k sound)

pub runs_keep_stubs : RunsKeepStubs
runs_keep_stubs = λ w k stub machine. (descends w k machine.sound).live stub

pub runs_tell_stubs : RunsTellStubs
runs_tell_stubs = λ w k stub machine. (descends w k machine.sound).told stub

-- what holds of all states that it reaches
reached : (size : ℕ) (modules : ModulesLeft) (events : List Raise) (k : ℕ) → IsRamSize size
    → let run = steps k (beginning size modules events) in StaysSound run.bound run.state.iop
reached size modules events k sized =
    let h = descends (beginning size modules events) k
    (begins_sound size modules events sized) in
    record {
      whole = h.sound.whole;
      live = λ stub x. elim (h.live stub x) [
        | inl none ↦ absurd (omega (arith, none.1))
        | inr one ↦ one
      ];
      core = h.sound.core;
      bare = h.sound.bare;
      places = h.sound.places;
      variable_pools = λ id x live. pools_apart.apart MOST_RANGES x (h.sound.pools VariablePool id x live);
      fixed_pools = λ id x live. pools_apart.apart MOST_BLOCKS x (h.sound.pools FixedPool id x live);
    }

pub runs_stay_sound : RunsStaySound
runs_stay_sound = λ size modules events k sized. reached size modules events k sized
