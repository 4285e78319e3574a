-- What small changes keep of what executes, and what has then become of the thread or the handler
-- that called.
use Rattle.std.proofs.Common.{◌≡◌, ℕ, ◌+◌, ◌≤◌, Bool, true, false, not, ◌&&◌, ◌||◌, is_some, Option, Some, None, List, [], ◌∷◌, refl, ap, sym, ◌∙◌, subst, arith}
use Rattle.std.proofs.lemmas.Bool.Decides.{nat_tests}
use Rattle.iop_base.specs.Piece.{Piece}
use Rattle.iop_base.specs.declared.guest_fault.GuestFault.{GuestFault}
use Rattle.iop_exec.specs.declared.cpu.Cpu.{Cpu}
use Rattle.iop_exec.proofs.RowKeeps.{steadies}
use Rattle.iop_pools.specs.declared.met.Met.{Met}
use Rattle.iop_thread.specs.Laws.{AreSteady}
use Rattle.iop_thread.specs.Operations as threads
use Rattle.iop_thread.specs.Placing.{IsPlaced}
use Rattle.iop_thread.specs.ThreadTable.{ThreadTable, is_it}
use Rattle.iop_thread.specs.declared.wait.Wait.{Wait}
use Rattle.iop_thread.specs.declared.wait.Wait.TheVariants.{Delay, Object}
use Rattle.iop_thread.proofs.KeptSteadily.{keeps_steady}
use Rattle.iop_thread.proofs.Placed.{keeps_places}
use Rattle.iop_thread.proofs.Waits.{moves_waits}
use Rattle.iop_kernel.specs.Callers.{HasLeft, HasAnswer}
use Rattle.iop_kernel.specs.Laws.{Follows, HandlerFollows}
use Rattle.iop_kernel.specs.System.{Core, System, may_switch, caller, caller_beside, registers_beside, running_registers, with_threads, answered}
use Rattle.iop_kernel.specs.ThreadWaits.{waits}
use Rattle.iop_kernel.specs.Waits.{wakes_all, core_leaves, core_requeues}
use Rattle.iop_kernel.specs.declared.active_handler.ActiveHandler.{ActiveHandler}
use Rattle.iop_kernel.specs.declared.after.After.{After}
use Rattle.iop_kernel.specs.declared.after.After.TheVariants.{Resume, Switch, Fault}
use Rattle.iop_kernel.proofs.Keeping.Core.{HoldsAlone, Alone, WouldSwitch, would_switch, with_them, running_steady}
use Rattle.iop_kernel_laws.proofs.Keeping.Leaving.{blocked_waits}
use Rattle.iop_kernel.proofs.Keeping.RunningThread.{RunsOn, running_suspends, caller_runs, no_caller, registers_by}
use Rattle.iop_kernel.proofs.Walk.Meeting.{wakes_met}

-- by the thread and the handler that run, one does
pub one_runs : (o : Option ActiveHandler) (running : Option ℕ)
    → (is_some o || is_some running) ≡ true → running ≡ None → o ≡ None → ⊥
one_runs None None active none outside = cc active
one_runs None (Some id) active none outside = cc none
one_runs (Some handler) running active none outside = cc outside

-- a caller is one, where there is one
pub is_there : (o : Option ℕ) (id : ℕ) → o ≡ Some id → is_some o ≡ true
is_there o id is = ap is_some is

-- where a thread calls, one runs
pub caller_runs_by : (o : Option ActiveHandler) (running : Option ℕ)
    → is_some (caller_beside o running) ≡ true → running ≡ None → ⊥
caller_runs_by None None calls none = cc calls
caller_runs_by None (Some id) calls none = cc none
caller_runs_by (Some handler) running calls none = cc calls

-- where a thread calls, its registers are the processor's
clear_beside : (o : Option ActiveHandler) (running : Option ℕ) (cpu : Cpu)
    → is_some (caller_beside o running) ≡ true → cpu.pending ≡ None
    → (registers_beside o cpu).pending ≡ None
clear_beside None running cpu called clear = clear
clear_beside (Some handler) running cpu called clear = absurd (cc called)

-- threads keep what is steady where the waits of several end
woken_steady : (ids : List ℕ) (t : ThreadTable) (word : ℕ) → AreSteady t
    → AreSteady (wakes_all t ids word)
woken_steady [] t word steady = steady
woken_steady (id ∷ ids) t word steady =
    woken_steady ids (threads.wakes t id word) word ((keeps_steady t steady).wakes id word)

-- and the same one runs
pub woken_running : (ids : List ℕ) (t : ThreadTable) (word : ℕ) → IsPlaced t
    → RunsOn t (wakes_all t ids word)
woken_running [] t word placed = refl
woken_running (id ∷ ids) t word placed =
    woken_running ids (threads.wakes t id word) word ((keeps_places t placed).wakes id word)
    ∙ ((moves_waits t placed).wakes id word).running

-- so where each has an answer of its own
met_steady : (met : List Met) (t : ThreadTable) → AreSteady t → AreSteady (wakes_met t met)
met_steady [] t steady = steady
met_steady (one ∷ met) t steady =
    met_steady met (threads.wakes t one.thread one.block)
    ((keeps_steady t steady).wakes one.thread one.block)

pub met_running : (met : List Met) (t : ThreadTable) → IsPlaced t → RunsOn t (wakes_met t met)
met_running [] t placed = refl
met_running (one ∷ met) t placed =
    met_running met (threads.wakes t one.thread one.block)
    ((keeps_places t placed).wakes one.thread one.block)
    ∙ ((moves_waits t placed).wakes one.thread one.block).running

-- a word is answered
pub answered_alone : (c : Core) (word : ℕ) → Alone c → Alone (answered c word)
answered_alone c word h = record {
  awake = h.awake;
  steady = steadies.writes c.cpu 2 word refl h.steady;
  threads = h.threads;
  handler = h.handler;
}

module _ (s : System) where
  abbrev now : Core
  now = s.core

  abbrev table : ThreadTable
  table = s.core.kernel.threads

  -- a thread calls
  abbrev pub Called : Type 0
  Called = is_some (caller now) ≡ true

  -- what is to hold does, and the thread that called runs on: told of the parts that it is about
  pub record GoesOn (t : ThreadTable) (on enabled : Bool) (active : Option ActiveHandler)
      (cpu : Cpu) (next : ℕ) : Type 0 where
    pub alone : IsPlaced table → Alone now → HoldsAlone t on enabled active cpu
    pub handler : active ≡ now.kernel.handler
    pub processor : cpu ≡ now.cpu
    pub numbers : next ≤ now.kernel.timers.next + 1
    pub runs : (id : ℕ) → IsPlaced table → caller now ≡ Some id → RunsOn table t

  abbrev pub Goes : Core → Type 0
  Goes c =
      GoesOn c.kernel.threads c.kernel.interrupts c.kernel.dispatching c.kernel.handler c.cpu
      c.kernel.timers.next

  -- what holds in the end, and what has become of the caller
  pub record Went (after : After) (left : System) (pieces : List Piece) : Type 0 where
    -- behind a `syscall` nothing is pending
    pub alone : IsPlaced table → now.cpu.pending ≡ None → Alone now → Alone left.core
    pub answers : after ≡ Resume → HasAnswer now.cpu left.core.cpu
    pub numbers : left.core.kernel.timers.next ≤ now.kernel.timers.next + 1
    pub follows : (id : ℕ) → IsPlaced table → caller now ≡ Some id → Follows after s id left pieces
    pub handler_follows : (handler : ActiveHandler) → now.kernel.handler ≡ Some handler
        → HandlerFollows after s handler left pieces

  -- nothing changes but the number that is taken next
  pub numbered : (next : ℕ) → next ≤ now.kernel.timers.next + 1
      → GoesOn table now.kernel.interrupts now.kernel.dispatching now.kernel.handler now.cpu next
  numbered next few = record {
    alone = λ placed h. h;
    handler = refl;
    processor = refl;
    numbers = few;
    runs = λ id placed is. refl;
  }

  pub still : Goes now
  still = numbered now.kernel.timers.next (omega arith)

  -- and nothing where the `syscall` faults
  pub faulted : (kind : GuestFault) → Went (Fault kind) s []
  faulted kind = record {
    alone = λ placed clear h. h;
    answers = λ resumes. absurd (cc resumes);
    numbers = omega arith;
    follows = λ id placed is. (refl, refl);
    handler_follows = λ handler is. (refl, refl);
  }

  -- other threads stand there, of which the same one runs
  pub threads_go : (t : ThreadTable) → (AreSteady table → AreSteady t)
      → (IsPlaced table → RunsOn table t) → Goes (with_threads now t)
  threads_go t steady on = record {
    alone = λ placed h.
        with_them now h t (steady h.threads) (λ none. h.awake (cc (on placed, none)));
    handler = refl;
    processor = refl;
    numbers = omega arith;
    runs = λ id placed is. on placed;
  }

  -- the same where they are what an operation comes to
  pub made : {A : Type 0} (r : A × ThreadTable) (a : A) (t : ThreadTable) → r ≡ (a, t)
      → Goes (with_threads now r.1) → Goes (with_threads now t)
  made r a t is = subst (λ (t : ThreadTable). Goes (with_threads now t)) (ap (λ x. x.1) is)

  -- several are woken
  pub woken : (ids : List ℕ) (word : ℕ) → Goes (with_threads now (wakes_all table ids word))
  woken ids word =
      threads_go _ (woken_steady ids table word) (woken_running ids table word)

  pub met_go : (met : List Met) → Goes (with_threads now (wakes_met table met))
  met_go met = threads_go _ (met_steady met table) (met_running met table)

  -- one is
  pub wakes_go : (id word : ℕ) → Goes (with_threads now (threads.wakes table id word))
  wakes_go id word =
      threads_go _ (λ h. (keeps_steady table h).wakes id word)
      (λ h. ((moves_waits table h).wakes id word).running)

  -- a thread no longer waits for an object
  pub leaving_goes : (c : Core) (thread : ℕ) (wait : Option Wait) → Goes c
      → Goes (core_leaves c thread wait)
  leaving_goes c thread (Some Delay) h = h
  leaving_goes c thread (Some (Object kind id)) h = h
  leaving_goes c thread other h = h

  -- or has another priority among those that wait for it
  pub requeueing_goes : (c : Core) (thread priority : ℕ) (wait : Option Wait) → Goes c
      → Goes (core_requeues c thread priority wait)
  requeueing_goes c thread priority (Some (Object kind id)) h = h
  requeueing_goes c thread priority other h = h

  -- the thread that called has left the processor
  pub leaves : (d : System) → Called
      → (IsPlaced table → now.cpu.pending ≡ None → Alone now → Alone d.core)
      → d.core.kernel.timers.next ≤ now.kernel.timers.next + 1
      → (IsPlaced table → d.core.kernel.threads.running ≡ None)
      → ((id : ℕ) → IsPlaced table → caller now ≡ Some id
      → HasLeft now.cpu d.core.kernel.threads id)
      → Went Switch d []
  leaves d called alone numbers none left = record {
    alone = alone;
    answers = λ resumes. absurd (cc resumes);
    numbers = numbers;
    follows = λ id placed is. (none placed, left id placed is);
    handler_follows = λ handler is. absurd (cc (called, no_caller now handler is));
  }

  -- who calls is the same
  caller_is : (c : Core) → Goes c → c.kernel.threads ≡ table → caller c ≡ caller now
  caller_is c g same =
      ap (λ o. caller_beside o c.kernel.threads.running) g.handler
      ∙ ap (λ (t : ThreadTable). caller_beside now.kernel.handler t.running) same

  -- it waits, where another may run: nothing is pending behind its `syscall`
  pub waits_go : (c : Core) (wait : Wait) → Goes c → c.kernel.threads ≡ table
      → may_switch c.kernel ≡ true → Called
      → Went Switch (record s { core = (waits c wait).state }) []
  waits_go c wait g same may called =
      let registers = running_registers c in
      let calls = ap is_some (caller_is c g same) ∙ called in
      let pending = ap (λ (cpu : Cpu). cpu.pending) g.processor in
      leaves _ called (λ placed clear h. let alone = g.alone placed h in
      with_them c alone (threads.blocks c.kernel.threads wait registers)
      ((keeps_steady c.kernel.threads alone.threads).blocks wait registers (running_steady c alone)
      (clear_beside c.kernel.handler c.kernel.threads.running c.cpu calls (pending ∙ clear)))
      (λ none. would_switch c.kernel.interrupts c.kernel.dispatching c.kernel.handler may))
      g.numbers
      (λ placed. ((moves_waits c.kernel.threads (subst IsPlaced (sym same) placed)).blocks wait
      registers).running)
      (λ id placed is.
      subst (λ (own : Cpu). HasLeft own (threads.blocks c.kernel.threads wait registers) id)
      (registers_by now id is c.kernel.handler g.handler c.cpu ∙ g.processor)
      (blocked_waits c.kernel.threads (subst IsPlaced (sym same) placed) id
      (ap (λ (t : ThreadTable). t.running) same ∙ caller_runs now id is) wait registers))

  -- a thread that does not call does not run, where one calls
  pub runs_not : (at id : ℕ) → caller now ≡ Some id → is_it (caller now) at ≡ false
      → is_it table.running at ≡ false
  runs_not at id is other =
      let same : caller now ≡ table.running = cc (is, caller_runs now id is) in
      subst (λ (o : Option ℕ). is_it o at ≡ false) same other

  -- the running thread is suspended by a handler, while dispatch is enabled
  pub suspended_awake : (at : ℕ) (o : Option ActiveHandler) (it : Bool)
      → it ≡ is_it table.running at → now.kernel.handler ≡ o
      → (it && not now.kernel.dispatching) ≡ false
      → is_it (caller_beside o table.running) at ≡ false → IsPlaced table → Alone now
      → (threads.suspends table at (running_registers now)).1.running ≡ None
      → WouldSwitch now.kernel.interrupts now.kernel.dispatching now.kernel.handler
  suspended_awake at o false it is can other placed h none =
      h.awake (cc (none, running_suspends table placed at (running_registers now) (sym it)))
  suspended_awake at None true it is can other placed h none = absurd (cc (it, other))
  suspended_awake at (Some handler) true it is can other placed h none =
      (grind (arith, nat_tests, can), λ outside. absurd (cc (is, outside)))

  -- the ready threads of a priority are rotated, where the same thread runs or another may
  abbrev pub rotated : ℕ → ThreadTable
  rotated priority = threads.rotates table priority (running_registers (answered now 0))

  pub rotated_alone : (priority : ℕ) → Alone now
      → ((rotated priority).running ≡ None
      → WouldSwitch now.kernel.interrupts now.kernel.dispatching now.kernel.handler)
      → Alone (with_threads now (rotated priority))
  rotated_alone priority h awake =
      let done = answered now 0 in
      with_them now h (rotated priority) ((keeps_steady table h.threads).rotates priority
      (running_registers done) (running_steady done (answered_alone now 0 h))) awake
