-- A thread that sleeps has no wakeups: at first, and after each operation.
use Rattle.std.proofs.Common.{◌≡◌, [], ℕ, Option, Some, None, IfSome, ap, sym, ◌∙◌, refl, subst, arith}
use Rattle.std.proofs.lemmas.List.Elements.{All-cons, All-nil}
use Rattle.iop_exec.specs.declared.cpu.Cpu.{Cpu}
use Rattle.iop_thread.specs.declared.thread.Thread.{Thread}
use Rattle.iop_thread.specs.declared.wait.Wait.{Wait}
use Rattle.iop_thread.specs.declared.wait.Wait.TheVariants.{Sleep}
use Rattle.iop_thread.specs.States.{wait_in, sleeps}
use Rattle.iop_thread.specs.ThreadTable.{ThreadTable, running_thread}
use Rattle.iop_thread.specs.Laws.{AnyRegisters, SleepersAreUnwoken, MayWaitSo, KeepsSleepers, OperationsKeepSleepers}
use Rattle.iop_thread.proofs.EachThread.{Lasts, keeps_each}
use Rattle.iop_thread.proofs.WaitingOn.{wait_suspended}

-- a thread has no wakeups if it sleeps
abbrev IsUnwoken : Thread → Type 0
IsUnwoken t = wait_in t.state ≡ Some Sleep → t.wakeups ≡ 0

-- nothing is said of one that does not wait
unwoken_awake : (o : Option Wait) (n : ℕ) → o ≡ None → o ≡ Some Sleep → n ≡ 0
unwoken_awake o n awake asleep = absurd (cc (awake, asleep))

-- one that runs may sleep if it has no wakeups
unwoken_waiting : (s : ThreadTable) (t : Thread) (wait : Wait) (registers : Cpu)
    → running_thread s ≡ Some t → MayWaitSo s wait registers → Some wait ≡ Some Sleep
    → t.wakeups ≡ 0
unwoken_waiting s t wait registers runs may asleep =
    subst (λ o. IfSome o (λ (t : Thread). t.wakeups ≡ 0)) runs (may (cc asleep))

-- it lasts over each change of a thread
unwoken_lasts : Lasts IsUnwoken AnyRegisters MayWaitSo
unwoken_lasts = record {
  first = λ id param stack gp asleep. refl;
  starts = λ t argument is asleep. refl;
  readies = λ t registers given is. unwoken_awake None t.wakeups refl;
  runs = λ t is. unwoken_awake None t.wakeups refl;
  ends = λ t is. unwoken_awake None t.wakeups refl;
  changes = λ t priority is. is;
  waits = λ s t wait registers runs given may is. unwoken_waiting s t wait registers runs may;
  wakes = λ t wait own answer at is. unwoken_awake None t.wakeups refl;
  wakes_suspended = λ t wait own answer at is. unwoken_awake None t.wakeups refl;
  suspends = λ t registers given is asleep. is (sym (wait_suspended registers t.state) ∙ asleep);
  resumes = λ t own at is. unwoken_awake None t.wakeups refl;
  resumes_waiting = λ t wait own at is asleep. is (ap wait_in at ∙ asleep);
  wakes_more = λ t wakeups other is asleep. absurd (cc (other, ap sleeps asleep));
  wakes_less = λ t wakeups less is asleep. omega (arith, less, is asleep);
  goes_on = λ t registers given is. tt;
}

-- each operation leaves threads that are so
pub keeps_sleepers : (s : ThreadTable) → SleepersAreUnwoken s → KeepsSleepers s
keeps_sleepers = keeps_each IsUnwoken AnyRegisters MayWaitSo unwoken_lasts

-- the loader's thread alone does not wait
pub operations_keep_sleepers : OperationsKeepSleepers
operations_keep_sleepers = record {
  opening = All-cons IsUnwoken _ [] (unwoken_awake None 0 refl) (All-nil IsUnwoken);
  keeps = keeps_sleepers;
}
