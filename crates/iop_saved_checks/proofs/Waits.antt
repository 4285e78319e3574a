-- Who waits for an object or for a time, by the states of threads and by the delays that stand.
use Rattle.std.proofs.Common.{◌≡◌, ℕ, Bool, true, false, Option, Some, None, option_and_then, List, [], ◌∷◌, map, All, refl, ap, arith}
use Rattle.std.specs.Prelude.{◌==◌, ◌||◌}
use Rattle.std.specs.List.{list_all, list_any, AllPairs}
use Rattle.std.proofs.lemmas.Bool.{and_parts}
use Rattle.std.proofs.lemmas.Bool.Decides.{nat_tests}
use Rattle.std.proofs.lemmas.List.Elements.{All-head, All-tail}
use Rattle.iop_base.proofs.Searching.{AllPairs-head, AllPairs-tail}
use Rattle.iop_kernel.specs.Kinds.{is_kind}
use Rattle.iop_kernel.specs.Placing.{is_for, is_for_delay}
use Rattle.iop_thread.specs.Placing.{times}
use Rattle.iop_thread.specs.States.{wait_in}
use Rattle.iop_thread.specs.ThreadTable.{ThreadTable, thread_of}
use Rattle.iop_thread.specs.Waits.{wait_of}
use Rattle.iop_thread.specs.declared.kind.Kind.{Kind}
use Rattle.iop_thread.specs.declared.kind.Kind.TheVariants.{Semaphore, EventFlag, Mailbox, VariablePool, FixedPool}
use Rattle.iop_thread.specs.declared.thread.Thread.{Thread}
use Rattle.iop_thread.specs.declared.wait.Wait.{Wait}
use Rattle.iop_thread.specs.declared.wait.Wait.TheVariants.{Sleep, Delay, Object as ForObject}
use Rattle.iop_time.specs.Timers.{is_delay_of, DelaysDiffer}
use Rattle.iop_time.specs.declared.delay.Delay.{Delay as DelayOf}

-- what a wait is for
pub its_wait : (kind : Kind) (id : ℕ) (w : Option Wait) → is_for kind id w ≡ true
    → w ≡ Some (ForObject kind id)
its_wait kind id None h = absurd cc
its_wait kind id (Some Sleep) h = absurd cc
its_wait kind id (Some Delay) h = absurd cc
its_wait kind id (Some (ForObject other one)) h =
    let parts = and_parts (is_kind kind other) (one == id) h in
    let same : one ≡ id = grind (arith, nat_tests, parts.1) in
    kinds kind other parts.0 one same
  where
    kinds : (kind other : Kind) → is_kind kind other ≡ true → (one : ℕ) → one ≡ id
        → Some (ForObject other one) ≡ Some (ForObject kind id)
    kinds Semaphore Semaphore is one same = ap (λ n. Some (ForObject Semaphore n)) same
    kinds EventFlag EventFlag is one same = ap (λ n. Some (ForObject EventFlag n)) same
    kinds Mailbox Mailbox is one same = ap (λ n. Some (ForObject Mailbox n)) same
    kinds VariablePool VariablePool is one same = ap (λ n. Some (ForObject VariablePool n)) same
    kinds FixedPool FixedPool is one same = ap (λ n. Some (ForObject FixedPool n)) same
    kinds kind other is one same = absurd cc

pub its_delay : (w : Option Wait) → is_for_delay w ≡ true → w ≡ Some Delay
its_delay None h = absurd cc
its_delay (Some Sleep) h = absurd cc
its_delay (Some Delay) h = refl
its_delay (Some (ForObject kind id)) h = absurd cc

-- a thread that waits is live, and waits by its state
pub record WaitsFor (s : ThreadTable) (id : ℕ) (wait : Wait) : Type 0 where
  pub thread : Thread
  pub found : thread_of s.live id ≡ Some thread
  pub is : wait_in thread.state ≡ Some wait

pub waits_for : (s : ThreadTable) (id : ℕ) (wait : Wait) → wait_of s id ≡ Some wait
    → WaitsFor s id wait
waits_for s id wait h = by (thread_of s.live id) refl h
  where
    by : (o : Option Thread) → thread_of s.live id ≡ o
        → option_and_then (λ t. wait_in t.state) o ≡ Some wait → WaitsFor s id wait
    by None is none = absurd cc
    by (Some t) is waits = record { thread = t; found = is; is = waits }

-- no other delay is that of a thread
pub none_other : (thread : ℕ) (d : DelayOf) → d.thread ≡ thread → (ds : List DelayOf)
    → All (DelaysDiffer d) ds → times thread (map (λ delay. delay.thread) ds) ≡ 0
none_other thread d is [] differ = refl
none_other thread d is (e ∷ ds) differ =
    let apart = (All-head (DelaysDiffer d) e ds differ).1 in
    let later = none_other thread d is ds (All-tail (DelaysDiffer d) e ds differ) in
    grind (arith, nat_tests, is, apart, later)

-- and so a thread that has a delay has one
pub one_delay : (thread : ℕ) (ds : List DelayOf) → AllPairs DelaysDiffer ds
    → list_any (is_delay_of thread) ds ≡ true
    → times thread (map (λ delay. delay.thread) ds) ≡ 1
one_delay thread [] differ h = absurd cc
one_delay thread (d ∷ ds) differ h =
    by (d.thread == thread) refl h
    (one_delay thread ds (AllPairs-tail DelaysDiffer d ds differ))
  where
    by : (b : Bool) → (d.thread == thread) ≡ b
        → (b || list_any (is_delay_of thread) ds) ≡ true
        → (list_any (is_delay_of thread) ds ≡ true
        → times thread (map (λ delay. delay.thread) ds) ≡ 1)
        → times thread (map (λ delay. delay.thread) (d ∷ ds)) ≡ 1
    by true is has later =
        let same : d.thread ≡ thread = grind (arith, nat_tests, is) in
        let none = none_other thread d same ds (AllPairs-head DelaysDiffer d ds differ) in
        grind (arith, nat_tests, is, none)
    by false is has later = grind (arith, nat_tests, is, later has)

-- a thread that does not wait for a time has none
pub no_delay : (s : ThreadTable) (thread : ℕ) → is_for_delay (wait_of s thread) ≡ false
    → (ds : List DelayOf)
    → list_all (λ (delay : DelayOf). is_for_delay (wait_of s delay.thread)) ds ≡ true
    → times thread (map (λ delay. delay.thread) ds) ≡ 0
no_delay s thread not_so [] h = refl
no_delay s thread not_so (d ∷ ds) h =
    let parts = and_parts (is_for_delay (wait_of s d.thread))
    (list_all (λ (delay : DelayOf). is_for_delay (wait_of s delay.thread)) ds) h in
    let later = no_delay s thread not_so ds parts.1 in
    grind (arith, nat_tests, parts.0, not_so, later)
