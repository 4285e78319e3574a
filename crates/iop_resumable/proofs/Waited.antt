-- Objects stay sound when one more thread waits, and when several wait no more.
use Rattle.std.proofs.Common.{◌≡◌, ℕ, ◌≤◌, ◌==◌, true, false, Some, [], ◌∷◌, ◌++◌, length, All, sym, subst, arith}
use Rattle.std.specs.Prelude.{⊤}
use Rattle.std.proofs.lemmas.Bool.{cond_both, ne_eqb}
use Rattle.std.proofs.lemmas.Bool.Decides.{nat_tests}
use Rattle.std.proofs.lemmas.List.{length_push}
use Rattle.std.proofs.lemmas.List.Elements.{All-nil, All-cons, All-head, All-tail, All-push}
use Rattle.iop_event.specs.EventFlags.{is_taken, with_pattern}
use Rattle.iop_event.specs.Restoring.{asks_for_bits}
use Rattle.iop_event.specs.WakeConditions.{Settled, settles, is_met, met_by, meets, stays, pattern_after}
use Rattle.iop_event.specs.declared.event_flag.EventFlag.{EventFlag as Flag}
use Rattle.iop_event.specs.declared.event_flag.TheConstants.{MANY_WAITERS}
use Rattle.iop_kernel.specs.Kinds.{State, Wants, Table}
use Rattle.iop_kernel.proofs.Walk.Changes.{HasToWait}
use Rattle.iop_objects.specs.Objects.{waiters_of, with_waiters}
use Rattle.iop_objects.specs.declared.waiter.Waiter.{Waiter}
use Rattle.iop_objects.proofs.Changes.{state_of-with_waiters}
use Rattle.iop_objects.proofs.EachLeft.{each_left}
use Rattle.iop_objects.proofs.EachObject.{HoldsOfEach, each_with_state}
use Rattle.iop_objects.proofs.OtherWaiters.{left_taken}
use Rattle.iop_pools.specs.VariablePools.{VariablePools, meets_next}
use Rattle.iop_pools.specs.VariableRestoring.{may_be_wanted}
use Rattle.iop_pools.specs.declared.met.Met.{Met}
use Rattle.iop_pools.specs.declared.variable_pool.TheConstants.{MOST_RANGES}
use Rattle.iop_pools.proofs.KeptPools.{pool_taken}
use Rattle.iop_pools.proofs.MetNext.{met_next}
use Rattle.iop_queues.specs.declared.queued.Queued.{Queued}
use Rattle.iop_thread.specs.declared.kind.Kind.{Kind}
use Rattle.iop_thread.specs.declared.kind.Kind.TheVariants.{Semaphore, EventFlag, Mailbox, VariablePool, FixedPool}
use Rattle.iop_resumable.proofs.Sound.{Waiting, Sound, fewer}

-- a thread that waits for memory of a variable pool wants as many bytes as one may
abbrev pub CanWait : (kind : Kind) → State kind → Wants kind → Type 0
CanWait Semaphore x wants = ⊤
CanWait EventFlag x wants = ⊤
CanWait Mailbox x wants = ⊤
CanWait VariablePool x size = may_be_wanted size x ≡ true
CanWait FixedPool x wants = ⊤

-- one more waits
pub waited : (kind : Kind) (s : Table kind) (id : ℕ) (x : State kind)
    (w : Queued (Waiter (Wants kind))) → HasToWait kind s id x w.item.wants
    → CanWait kind x w.item.wants → Sound kind x (waiters_of s id)
    → Sound kind x (waiters_of s id ++ w ∷ [])
waited Semaphore s id x w must can sound = sound
waited EventFlag s id x w must can sound =
    let some = must.0 in
    let open_flag : is_taken s id x ≡ false = must.1 in
    record {
      attribute = sound.attribute;
      asked = All-push (λ w. asks_for_bits w.item.wants ≡ true) (waiters_of s id) w sound.asked
          (grind (arith, nat_tests, some));
      alone = λ one.
          let other : (x.attr == MANY_WAITERS) ≡ false = ne_eqb x.attr MANY_WAITERS one in
          let none : length (waiters_of s id) ≡ 0 = grind (arith, nat_tests, other, open_flag) in
          omega (arith, none, length_push (waiters_of s id) w);
    }
waited Mailbox s id x w must can sound = sound
waited VariablePool s id x w must can sound = record {
  sound = sound.sound;
  unit = sound.unit;
  layout = sound.layout;
  waiters = All-push (λ w. may_be_wanted w.item.wants x ≡ true) (waiters_of s id) w
      sound.waiters can;
}
waited FixedPool s id x w must can sound =
    record { sound = sound.sound; layout = sound.layout; blocks = sound.blocks }

-- of those that wait for an event flag some are met
module _ (P : Queued (Waiter (Wants EventFlag)) → Type 0) where
  settles_all : (pattern : ℕ) (ws : Waiting EventFlag) → All P ws
      → All P (settles pattern ws).waiters
  settles_all pattern [] all = All-nil P
  settles_all pattern (x ∷ xs) all =
      let rest = All-tail P x xs all in
      let next = pattern_after x.item.wants.mode pattern in
      cond_both (is_met pattern x.item) (meets (met_by pattern x.item) (settles next xs))
      (stays x (settles pattern xs)) (λ (d : Settled). All P d.waiters)
      (λ met. settles_all next xs rest)
      (λ unmet. All-cons P x (settles pattern xs).waiters (All-head P x xs all)
      (settles_all pattern xs rest))

settles_fewer : (pattern : ℕ) (ws : Waiting EventFlag)
    → length (settles pattern ws).waiters ≤ length ws
settles_fewer pattern [] = omega arith
settles_fewer pattern (x ∷ xs) =
    let next = pattern_after x.item.wants.mode pattern in
    cond_both (is_met pattern x.item) (meets (met_by pattern x.item) (settles next xs))
    (stays x (settles pattern xs)) (λ (d : Settled). length d.waiters ≤ length (x ∷ xs))
    (λ met. omega (arith, settles_fewer next xs))
    (λ unmet. omega (arith, settles_fewer pattern xs))

pub settled_sound : (x : Flag) (pattern left : ℕ) (ws : Waiting EventFlag) → Sound EventFlag x ws
    → Sound EventFlag (with_pattern x left) (settles pattern ws).waiters
settled_sound x pattern left ws sound = record {
  attribute = sound.attribute;
  asked = settles_all (λ w. asks_for_bits w.item.wants ≡ true) pattern ws sound.asked;
  alone = λ one. omega (arith, sound.alone one, settles_fewer pattern ws);
}

-- one that waits for memory is met, and its memory taken
pub met_sound : (s left : VariablePools) → HoldsOfEach (Sound VariablePool) s → (id : ℕ)
    (met : Met) → meets_next s id ≡ (Some met, left) → HoldsOfEach (Sound VariablePool) left
met_sound s left h id met is =
    let m = met_next s id met left is in
    let rest = with_waiters s id m.one.others in
    let so : HoldsOfEach (Sound VariablePool) rest =
    each_left (Sound VariablePool) (fewer VariablePool) s h id m.one.others
    (left_taken m.taken) in
    let known = state_of-with_waiters s id m.x m.known m.one.others in
    let sound : Sound VariablePool m.x (waiters_of rest id) = so id m.x known in
    let some = m.some in
    subst (HoldsOfEach (Sound VariablePool)) (sym m.leaves)
    (each_with_state (Sound VariablePool) rest so id _
    (record {
      sound = pool_taken MOST_RANGES m.x sound.sound m.one.one.item.wants met.block
          (grind (arith, nat_tests, some)) m.place;
      unit = sound.unit;
      layout = sound.layout;
      waiters = sound.waiters;
    }))
