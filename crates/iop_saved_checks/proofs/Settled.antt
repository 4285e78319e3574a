-- Where the tables of a kernel agree, no thread is to be dispatched.
use Rattle.std.proofs.Common.{◌≡◌, Bool, true, false, Option, Some, None, option_map, refl, sym, ◌∙◌, ap, arith}
use Rattle.std.specs.Prelude.{if◌then◌else◌, nat_lt}
use Rattle.std.proofs.lemmas.Bool.Decides.{nat_tests}
use Rattle.iop_exec.specs.declared.cpu.Cpu.{Cpu}
use Rattle.iop_kernel.specs.Dispatching.{dispatches, dispatched}
use Rattle.iop_kernel.specs.Standing.{core}
use Rattle.iop_kernel.specs.System.{Kernel, may_dispatch}
use Rattle.iop_stubs.specs.Stubs.{Memory}
use Rattle.iop_thread.proofs.FindingThreads.{best_is_ready}
use Rattle.iop_thread.specs.Operations as threads
use Rattle.iop_thread.specs.Operations.{dispatches_by}
use Rattle.iop_thread.specs.States.{is_ready}
use Rattle.iop_thread.specs.ThreadTable.{running_thread, best_ready}
use Rattle.iop_thread.specs.declared.thread.Thread.{Thread}
use Rattle.iop_saved_checks.specs.Laws.{TablesAreSound}
use Rattle.iop_saved_checks.specs.Threads.{is_behind}
use Rattle.iop_saved_checks.proofs.Agreeing.{AllAgree, thread_passes, parts_of}

module _ (memory : Memory) (k : Kernel) (sound : TablesAreSound k) (h : AllAgree memory k)
    (cpu : Cpu) where
  -- none is better than the one that runs, where another may run
  in_turn : may_dispatch k ≡ true → (t : Thread) → best_ready k.threads ≡ Some t
      → is_behind t (running_thread k.threads) ≡ true
  in_turn may t best =
      let ready = best_is_ready k.threads sound.threads t best in
      let passes = thread_passes memory k sound h t.id t ready.found in
      let turn = (parts_of memory k sound h t passes).in_turn in
      let is : is_ready t.state ≡ true = rw ready.is refl in
      sym (rw (may, is) refl) ∙ turn

  none_better : may_dispatch k ≡ true → threads.dispatches k.threads cpu ≡ None
  none_better may = by (best_ready k.threads) refl
    where
      behind : (t : Thread) (running : Option Thread) → is_behind t running ≡ true
          → dispatches_by k.threads cpu running (Some t) ≡ None
      behind t None is = absurd cc
      behind t (Some running) is =
          let not_less : nat_lt t.priority running.priority ≡ false =
          grind (arith, nat_tests, is) in
          rw not_less refl

      by : (best : Option Thread) → best_ready k.threads ≡ best
          → dispatches_by k.threads cpu (running_thread k.threads) best ≡ None
      by None is = refl
      by (Some t) is = behind t (running_thread k.threads) (in_turn may t is)

  pub settled : dispatches (core k cpu) ≡ None
  unfolding dispatches
  settled = by (may_dispatch k) refl
    where
      by : (b : Bool) → may_dispatch k ≡ b
          → (if b then option_map (dispatched k) (threads.dispatches k.threads cpu) else None)
          ≡ None
      by true may = ap (option_map (dispatched k)) (none_better may)
      by false may = refl
