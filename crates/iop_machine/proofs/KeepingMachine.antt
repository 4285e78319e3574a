-- A machine stays one over its steps, which take the clock on.
use Rattle.std.proofs.Common.{◌≡◌, ℕ, zero, suc, ◌+◌, ◌-◌, ◌^◌, ◌<◌, ◌≤◌, max, true, List, [], ◌∷◌, All, length, refl, ap, sym, ◌∙◌, subst, arith, inl, inr}
use Rattle.std.proofs.lemmas.List.Elements.{All-nil}
use Rattle.iop_base.specs.Places.{IsRamSize}
use Rattle.iop_base.proofs.Memory.{length-with_bytes}
use Rattle.iop_exec.specs.Row.{row}
use Rattle.iop_kernel.specs.Laws.{IsCore}
use Rattle.iop_kernel.specs.System as kernel
use Rattle.iop_kernel.specs.PoolMemory.{AreSound, PoolsAreSound}
use Rattle.iop_kernel.specs.WaiterPlaces.{HasPlace, HavePlacesFor, HavePlaces}
use Rattle.iop_kernel.proofs.Keeping.Steps.{opening_core}
use Rattle.iop_kernel_laws.proofs.KeptPlaces.{places_in, services_have_places}
use Rattle.iop_kernel_laws.proofs.SoundPools.{services_sound}
use Rattle.iop_modload.specs.Laws.{HasBlocks}
use Rattle.iop_script.specs.declared.raise.Raise.{Raise}
use Rattle.iop_stubs.specs.Binding.{IsBound}
use Rattle.iop_stubs.specs.Stubs.{Memory}
use Rattle.iop_stubs.specs.declared.live_stub.Stub.{Stub}
use Rattle.iop_sysmem.specs.BlockMap.{BlockMap, AreBlocks, IsBlockSize, block_of, end_of}
use Rattle.iop_sysmem.specs.declared.blocks.TheConstants.{KERNEL}
use Rattle.iop_thread.specs.declared.kind.Kind.TheVariants.{Semaphore, EventFlag, Mailbox, VariablePool, FixedPool}
use Rattle.iop_thread.proofs.KeptSteadily.{begun_steady}
use Rattle.iop_machine.specs.Events.{CanCome}
use Rattle.iop_machine.specs.Iop.{Iop, Transition, core_of}
use Rattle.iop_machine.specs.KernelArea.{kernel_area}
use Rattle.iop_machine.specs.Laws.{IsSoundWorld, IsMachine}
use Rattle.iop_machine.specs.Loading.{with_kernel, loads_first, boots}
use Rattle.iop_machine.specs.Looking.{takes_events, next_coming}
use Rattle.iop_machine.specs.Modules.{ModulesLeft, modules_of}
use Rattle.iop_machine.specs.Services.{calling}
use Rattle.iop_machine.specs.Stepping.{step, steps, executed, Turn, Stays as StaysTurn, Boots, turn_of, takes_turn, performs, waits_by}
use Rattle.iop_machine.specs.World.{World, reset, beginning, zeros}
use Rattle.iop_machine.proofs.Area.{length-zeros, length-kernel_area}
use Rattle.iop_machine.proofs.BareRegisters.{turn_bare}
use Rattle.iop_machine.proofs.EventLemmas.{left_comes}
use Rattle.iop_machine.proofs.Keeping.{Stays, Keeps, same, loads_first_keeps, starts_keep, performs_keeps, waits_keep}
use Rattle.iop_machine.proofs.LoadingLands.{events_after, turn_events}
use Rattle.iop_machine.proofs.LookingLemmas.{taken_clock}
use Rattle.iop_machine.proofs.Moving.{step_moves}
use Rattle.iop_machine.proofs.ObjectSteps.{step_objects}
use Rattle.iop_machine.proofs.ObjectsHold.{calling_holds, go_holding}
use Rattle.iop_machine.proofs.Stepping.{IsTurn, stopped, unbooted, delivery, dispatch, execution, waiting, turn_is}

-- memory behind the kernel's area
behind_area : (size : ℕ) → IsRamSize size → 0x10000 < size
behind_area size (inl e) = omega (arith, e)
behind_area size (inr e) = omega (arith, e)

module _ (s : Iop) (has : HasBlocks s.memory s.blocks) where
  area_size : length (with_kernel s).memory.ram ≡ length s.memory.ram
  area_size =
      length-with_bytes s.memory.ram 0 kernel_area
      (omega (arith, length-kernel_area, behind_area (length s.memory.ram) has.sound.sized))

  -- with the kernel's area, where no stub is live
  pub area_blocks : s.memory.live ≡ [] → HasBlocks (with_kernel s).memory s.blocks
  area_blocks none = record {
    sound = record {
      sized = subst IsRamSize (sym area_size) has.sound.sized;
      few = has.sound.few;
      bound = subst (λ (l : List Stub). All (IsBound (with_kernel s).memory.ram) l) (sym none)
          (All-nil (IsBound (with_kernel s).memory.ram));
      apart = has.sound.apart;
    };
    are_blocks = has.are_blocks;
    same_size = has.same_size ∙ sym area_size;
  }

  boots_keep : s.memory.live ≡ [] → Keeps s (boots s)
  unfolding boots
  boots_keep none =
      let loaded = loads_first_keeps (modules_of s.modules) (with_kernel s) (area_blocks none) in
      let left = (loads_first (modules_of s.modules) (with_kernel s)).state in
      starts_keep left left.begun (record {
        whole = loaded.whole;
        size = loaded.size ∙ area_size;
        live = loaded.live;
        line = loaded.line;
      })

-- what a step keeps
abbrev StaysOver : World → Transition World → Type 0
StaysOver w t =
    Stays w.iop.kernel.clock w.iop.memory t.state.iop.memory t.state.iop.blocks t.pieces t.bound

pub record StepKeeps (w : World) (t : Transition World) : Type 0 where
  pub stays : StaysOver w t
  pub sound : IsSoundWorld t.state

-- a turn keeps memory with its blocks
turn_stays : (w : World) {t : Turn} → IsSoundWorld w → IsTurn w t → StaysOver w (takes_turn w t)
turn_stays w h (stopped stop over) = same w.iop.kernel.clock w.iop.memory w.iop.blocks [] h.whole
turn_stays w h (unbooted over new) = boots_keep w.iop h.whole (h.none_live new)
turn_stays w h (delivery d goes is) = same w.iop.kernel.clock w.iop.memory w.iop.blocks _ h.whole
turn_stays w h (dispatch d goes none is) =
    same w.iop.kernel.clock w.iop.memory w.iop.blocks _ h.whole
turn_stays w h (execution goes looks) =
    let v = takes_events w.iop in
    let t = performs v (row v.memory.ram v.cpu) in
    subst (λ clock. Stays clock v.memory t.state.memory t.state.blocks t.pieces t.bound)
    (taken_clock w.iop) (performs_keeps v (row v.memory.ram v.cpu) looks.active_is h.whole)
turn_stays w h (waiting goes looks) =
    let v = takes_events w.iop in
    let t = waits_by v (next_coming v) in
    subst (λ clock. Stays clock v.memory t.state.memory t.state.blocks t.pieces t.bound)
    (taken_clock w.iop) (waits_keep v (next_coming v) h.whole)

-- no stub is live before it is booted
turn_none : (w : World) (t : Turn) → (w.is_new ≡ true → w.iop.memory.live ≡ [])
    → (takes_turn w t).state.is_new ≡ true → (takes_turn w t).state.iop.memory.live ≡ []
turn_none w StaysTurn none = none
turn_none w other none = λ new. absurd (cc new)

-- threads that wait keep their places
step_places : (w : World) → IsSoundWorld w → HavePlaces w.iop.memory (step w).state.iop.kernel
step_places w h =
    let s = w.iop in let places = HavePlacesFor s.memory in let new = (step w).state.iop.kernel in
    go_holding places s new h.places (step_objects w h.core) (λ code.
    services_have_places (calling (takes_events s)) code (calling_holds places s new h.places))

-- what is out of each pool stays apart and inside of it
step_pools : (w : World) → IsSoundWorld w → PoolsAreSound (step w).state.iop.kernel
step_pools w h =
    let s = w.iop in let new = (step w).state.iop.kernel in
    let ends : s.blocks.size < 2 ^ 32 =
    omega (arith, h.whole.same_size, short (length s.memory.ram) h.whole.sound.sized) in
    go_holding AreSound s new h.pools (step_objects w h.core) (λ code.
    services_sound (calling (takes_events s)) h.whole.are_blocks ends
    (calling_holds AreSound s new h.pools) code)
  where
    short : (size : ℕ) → IsRamSize size → size < 2 ^ 32
    short size (inl e) = omega (arith, e)
    short size (inr e) = omega (arith, e)

pub step_keeps : (w : World) → IsSoundWorld w → StepKeeps w (step w)
unfolding step
step_keeps w h =
    let stays = turn_stays w h (turn_is w) in
    record {
      stays = stays;
      sound = record {
        whole = stays.whole;
        none_live = turn_none w (turn_of w) h.none_live;
        core = (step_moves w h.core).core;
        places = places_in w.iop.memory (step w).state.iop.memory (step w).state.iop.kernel
            stays.size (step_places w h);
        pools = step_pools w h;
        bare = turn_bare w h.core h.bare (turn_is w);
      };
    }

-- the script's events can come that are left
turn_comes : (w : World) (t : Turn) → CanCome w.iop.events → CanCome (events_after w t)
turn_comes w StaysTurn come = come
turn_comes w Boots come = come
turn_comes w other come = left_comes w.iop.kernel.clock w.iop.events come

-- each step keeps a machine
pub keeps_machine : (w : World) → IsMachine w → IsMachine (step w).state
unfolding step
keeps_machine w machine = record {
  sound = (step_keeps w machine.sound).sound;
  numbers = (step_moves w machine.sound.core).numbers machine.numbers;
  events = subst CanCome (sym (turn_events w (turn_of w)))
      (turn_comes w (turn_of w) machine.events);
}

-- so do all steps
pub steps_keep_machine : (w : World) (k : ℕ) → IsMachine w → IsMachine (steps k w).state
unfolding steps
steps_keep_machine w zero machine = machine
steps_keep_machine w (suc k) machine =
    keeps_machine (steps k w).state (steps_keep_machine w k machine)

-- the clock is not put back, and goes on by so many ticks at most, or up to the last moment that
-- comes
pub record GoesTo (old ticks new : ℕ) : Type 0 where
  pub rises : old ≤ new
  pub latest : max new (2 ^ 63 - 1) ≤ max old (2 ^ 63 - 1) + ticks

-- so many steps take it on by one tick for each instruction
pub steps_clock : (w : World) (k : ℕ) → IsMachine w
    → GoesTo w.iop.kernel.clock (executed k w) (steps k w).state.iop.kernel.clock
unfolding steps executed
steps_clock w zero machine = record { rises = omega arith; latest = omega arith }
steps_clock w (suc k) machine =
    let v = (steps k w).state in
    let before = steps_clock w k machine in
    let now = steps_keep_machine w k machine in
    let next = step_moves v now.sound.core in
    let latest = next.latest now.events in
    record {
      rises = omega (arith, before.rises, next.rises);
      latest = omega (arith, before.latest, latest);
    }

-- the block of the kernel alone is used
abbrev first_blocks : ℕ → BlockMap
first_blocks size = record { size = size; used = KERNEL ∷ [] }

kernel_blocks : (size : ℕ) → IsRamSize size → AreBlocks (first_blocks size)
kernel_blocks size sized =
    let behind = behind_area size sized in
    let first : (i : ℕ) → i < 1 → block_of (first_blocks size) i ≡ KERNEL =
    kernel_first size in
    record {
      some = omega arith;
      kernel = refl;
      starts = λ i lt. omega (arith, ap (λ b. b.start) (first i lt));
      sizes = λ i lt. subst (λ b. IsBlockSize b.size) (sym (first i lt)) (omega arith, omega arith);
      order = λ i j before lt. absurd (omega (arith, before, lt));
      inside = λ i lt. omega (arith, ap end_of (first i lt), behind);
      sized = elim sized [ inl e ↦ omega (arith, e) | inr e ↦ omega (arith, e) ];
    }
  where
    kernel_first : (size i : ℕ) → i < 1 → block_of (first_blocks size) i ≡ KERNEL
    kernel_first size zero lt = refl
    kernel_first size (suc i) lt = absurd (omega (arith, lt))

-- the loader's thread alone stands, dormant
pub begins_as_core : (size : ℕ) (modules : ModulesLeft) (events : List Raise)
    → IsCore (core_of (reset size modules events))
begins_as_core size modules events = opening_core _ (begun_steady _ _ refl refl)

-- at first none waits
none_waits : (memory : Memory) → HavePlaces memory kernel.beginning
none_waits memory Semaphore id = All-nil (λ x. HasPlace Semaphore memory x.item.wants)
none_waits memory EventFlag id = All-nil (λ x. HasPlace EventFlag memory x.item.wants)
none_waits memory Mailbox id = All-nil (λ x. HasPlace Mailbox memory x.item.wants)
none_waits memory VariablePool id = All-nil (λ x. HasPlace VariablePool memory x.item.wants)
none_waits memory FixedPool id = All-nil (λ x. HasPlace FixedPool memory x.item.wants)

-- and there is no pool
no_pools : PoolsAreSound kernel.beginning
no_pools Semaphore id x known = tt
no_pools EventFlag id x known = tt
no_pools Mailbox id x known = tt
no_pools VariablePool id x known = absurd (cc known)
no_pools FixedPool id x known = absurd (cc known)

module _ (size : ℕ) (modules : ModulesLeft) (events : List Raise) (sized : IsRamSize size) where
  pub begins_sound : IsSoundWorld (beginning size modules events)
  begins_sound = record {
    whole = record {
      sound = record {
        sized = subst IsRamSize (sym (length-zeros size)) sized;
        few = omega arith;
        bound = All-nil (IsBound (zeros size));
        apart = λ i j d below inside. absurd (omega (arith, inside));
      };
      are_blocks = kernel_blocks size sized;
      same_size = sym (length-zeros size);
    };
    none_live = λ e. refl;
    core = begins_as_core size modules events;
    places = none_waits (reset size modules events).memory;
    pools = no_pools;
    bare = record { processor = λ idle. refl; kept = tt };
  }

  -- it begins as a machine
  pub begins_as_machine : CanCome events → IsMachine (beginning size modules events)
  begins_as_machine come =
      record { sound = begins_sound; numbers = omega arith; events = come }
