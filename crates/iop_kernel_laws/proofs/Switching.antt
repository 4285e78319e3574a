-- None but a dispatch lets a thread run that did not, or tells that one was taken to run.
use Rattle.std.proofs.Common.{◌≡◌, ℕ, Bool, true, false, cond, Option, Some, None, Result, List, [], ◌∷◌, length, refl, ap, sym, ◌∙◌, subst}
use Rattle.std.specs.Prelude.{⊤, All}
use Rattle.std.proofs.lemmas.List.Elements.{All-nil, All-cons, All-append, All-map}
use Rattle.iop_base.specs.Piece.{Piece}
use Rattle.iop_base.specs.declared.code.Code.{Code}
use Rattle.iop_base.specs.declared.code.TheConstants.Code.{OK, OBJECT_DELETED, WAIT_RELEASED}
use Rattle.iop_base.specs.declared.line.Line.TheVariants as lines
use Rattle.iop_exec.specs.Row.{reg}
use Rattle.iop_stubs.specs.Stubs.{Memory, met_stubs, stub_lines, store_lines}
use Rattle.iop_stubs.specs.declared.live_stub.Stub.{Stub}
use Rattle.iop_pools.specs.Pools.{with_ranges}
use Rattle.iop_pools.specs.Ranges.{without}
use Rattle.iop_thread.specs.Operations as threads
use Rattle.iop_thread.specs.Placing.{IsPlaced}
use Rattle.iop_thread.specs.ThreadTable.{ThreadTable, is_it, has_priority, running_thread}
use Rattle.iop_thread.specs.declared.wait.Wait.{Wait}
use Rattle.iop_thread.specs.declared.wait.Wait.TheVariants.{Delay, Object}
use Rattle.iop_thread.proofs.Placed.{keeps_places}
use Rattle.iop_thread.proofs.Waits.{moves_waits}
use Rattle.iop_kernel.specs.Deliveries.{Delivered, delivers}
use Rattle.iop_kernel.specs.ObjectServices.{threads_in_order}
use Rattle.iop_kernel_laws.specs.SwitchLaws.{IsNoRun, text, line, SwitchesNone, DispatchesAloneSwitch}
use Rattle.iop_kernel.specs.System.{Kernel, Core, System, running_registers, with_threads, with_variable_pools, opened, answered, code_word}
use Rattle.iop_kernel.specs.ThreadStarts.{ended}
use Rattle.iop_kernel.specs.Waits.{core_leaves, core_requeues, wakes_all, wakes_with}
use Rattle.iop_kernel.specs.declared.after.After.{After}
use Rattle.iop_kernel_laws.proofs.Keeping.Goes.{woken_running, met_running}
use Rattle.iop_kernel_laws.proofs.Keeping.Handlers.{gives_to}
use Rattle.iop_kernel.proofs.Keeping.Meetings.{met_of, threads_met}
use Rattle.iop_kernel.proofs.Keeping.RunningThread.{RunsOn}
use Rattle.iop_kernel.proofs.Walk.Meeting.{all_met}
use Rattle.iop_kernel.proofs.Walk.Moves.{Moves, CallMoves}
use Rattle.iop_kernel.proofs.Walk.Services.{services_go, asked_not}
use Rattle.iop_kernel.proofs.Walk.Steps.{delivers_goes}

-- the lines of stubs tell of none
pub stubs_run_none : (moment place len : ℕ) (live : List Stub)
    → All IsNoRun (stub_lines moment place len live)
stubs_run_none moment place len live =
    All-map IsNoRun _ (met_stubs place len live)
    (λ k d below. line moment (lines.Stub _) refl)

pub stores_run_none : (moment : ℕ) (memory : Memory) (place : Option ℕ) (len : ℕ)
    → All IsNoRun (store_lines moment memory place len)
stores_run_none moment memory None len = All-nil IsNoRun
stores_run_none moment memory (Some place) len = stubs_run_none moment place len memory.live

-- one piece
pub one_runs_none : {piece : Piece} → IsNoRun piece → All IsNoRun (piece ∷ [])
one_runs_none {piece} h = All-cons IsNoRun piece [] h (All-nil IsNoRun)

-- by what runs then
module _ (table : ThreadTable) where
  pub same_runs : (t : ThreadTable) (given : List Piece) → t.running ≡ table.running
      → All IsNoRun given → SwitchesNone table t given
  same_runs t given same told =
      record { running = λ id is. sym same ∙ is; lines = told }

  pub none_runs : (t : ThreadTable) (given : List Piece) → t.running ≡ None
      → All IsNoRun given → SwitchesNone table t given
  none_runs t given none told =
      record { running = λ id is. absurd (cc (none, is)); lines = told }

  -- the same one, or none
  some_runs : (t : ThreadTable) (b : Bool) → t.running ≡ cond b None table.running
      → SwitchesNone table t []
  some_runs t true none = none_runs t [] none (All-nil IsNoRun)
  some_runs t false same = same_runs t [] same (All-nil IsNoRun)

module _ (s : System) (placed : IsPlaced s.core.kernel.threads) where
  abbrev now : Core
  now = s.core

  abbrev table : ThreadTable
  table = s.core.kernel.threads

  abbrev P : System → List Piece → Type 0
  P d given = SwitchesNone table d.core.kernel.threads given

  abbrev Q : After → System → List Piece → Type 0
  Q after d given = SwitchesNone table d.core.kernel.threads given

  -- nothing changes of this
  still : (given : List Piece) → All IsNoRun given → SwitchesNone table table given
  still given told = same_runs table table given refl told

  nothing : SwitchesNone table table []
  nothing = still [] (All-nil IsNoRun)

  -- other threads stand there, of which the same one runs, or none
  on : (t : ThreadTable) → RunsOn table t → SwitchesNone table t []
  on t same = same_runs table t [] same (All-nil IsNoRun)

  off : (t : ThreadTable) → t.running ≡ None → SwitchesNone table t []
  off t none = none_runs table t [] none (All-nil IsNoRun)

  -- they are what an operation comes to
  made : {A : Type 0} (r : A × ThreadTable) (a : A) (t : ThreadTable) → r ≡ (a, t)
      → SwitchesNone table r.1 [] → SwitchesNone table t []
  made r a t is = subst (λ (t : ThreadTable). SwitchesNone table t []) (ap (λ x. x.1) is)

  -- a thread no longer waits for an object, or has another priority among those that wait for it
  leaving : (c : Core) (thread : ℕ) (wait : Option Wait)
      → SwitchesNone table c.kernel.threads []
      → SwitchesNone table (core_leaves c thread wait).kernel.threads []
  leaving c thread (Some Delay) h = h
  leaving c thread (Some (Object kind id)) h = h
  leaving c thread other h = h

  requeueing : (c : Core) (thread priority : ℕ) (wait : Option Wait)
      → SwitchesNone table c.kernel.threads []
      → SwitchesNone table (core_requeues c thread priority wait).kernel.threads []
  requeueing c thread priority (Some (Object kind id)) h = h
  requeueing c thread priority other h = h

  -- several are woken
  woken : (ids : List ℕ) (word : ℕ) → SwitchesNone table (wakes_all table ids word) []
  woken ids word = on _ (woken_running ids table word placed)

  -- the ready threads of a priority are rotated
  rotated : (priority : ℕ) → let done = answered now 0 in
      SwitchesNone table (threads.rotates table priority (running_registers done)) []
  rotated priority =
      some_runs table _ (has_priority priority (running_thread table))
      ((moves_waits table placed).rotates priority (running_registers (answered now 0))).running

  -- the thread that calls waits
  waiting : (wait : Wait)
      → SwitchesNone table (threads.blocks table wait (running_registers now)) []
  waiting wait = off _ ((moves_waits table placed).blocks wait (running_registers now)).running

  -- the thread that ran has ended
  ended_placed : IsPlaced (ended now).kernel.threads
  ended_placed = (keeps_places table placed).ends_running

  switch_moves : (library : ℕ) → Moves P Q ⊤ s library
  switch_moves library = record {
    each = record {
      begins = nothing;
      stores = λ d given place bytes inside h. record {
        running = h.running;
        lines = All-append IsNoRun given _ h.lines
            (stubs_run_none d.core.kernel.clock place (length bytes) d.memory.live);
      };
      goes_on = λ d given word h. h;
      bad_place = nothing;
      no_thread = λ asked none. nothing;
      prints = λ bytes. still _ (one_runs_none (text bytes));
    };
    registry = λ own. record { registers = λ libraries. nothing };
    blocks = λ own. record { takes = λ mode size at. nothing; frees = λ at. nothing };
    interrupts = λ own. record { lines = λ left. nothing; turns = λ on. nothing };
    alarms = λ own. record {
      sets = λ moment handler arg. nothing;
      cancels = λ handler arg. nothing;
    };
    threads = λ own. record {
      dispatch = λ enabled on asks. nothing;
      creates = λ size param stack blocks is.
          on _ ((moves_waits table placed).creates param stack (reg now.cpu 28)).running;
      deletes = λ id stack left is. made (threads.deletes table id) _ left is
          (on _ ((moves_waits table placed).deletes id).running);
      starts = λ id argument. on _ ((moves_waits table placed).starts id argument).running;
      ends = λ id is other leave. off _ (moves_waits table placed).ends_running.running;
      ends_deleted = λ id stack left is other did leave.
          off left (ap (λ (r : Result ℕ Code × ThreadTable). r.1.running) (sym did)
          ∙ ((moves_waits (ended now).kernel.threads ended_placed).deletes id).running
          ∙ (moves_waits table placed).ends_running.running);
      returns = λ id word is loader leave. nothing;
      terminates = λ id wait left other is rests. leaving (with_threads now left) id wait
          (made (threads.terminates table id) _ left is
          (some_runs table _ (is_it table.running id)
          ((moves_waits table placed).terminates id).running));
      terminates_running = λ id wait left other is runs.
          leaving (with_threads (opened now) left) id wait
          (made (threads.terminates table id) _ left is
          (some_runs table _ (is_it table.running id)
          ((moves_waits table placed).terminates id).running));
      changes = λ id priority wait left is. requeueing (with_threads now left) id priority wait
          (made (threads.changes table id priority) _ left is
          (on _ ((moves_waits table placed).changes id priority).running));
      rotates = λ priority other. rotated priority;
      rotates_beside = λ priority own may is. rotated priority;
      rotates_own = λ priority id own may is leave. rotated priority;
      releases = λ id t wait found is.
          leaving (wakes_with now t.id WAIT_RELEASED) t.id (Some wait)
          (on _ ((moves_waits table placed).wakes t.id (code_word WAIT_RELEASED)).running);
      takes_wakeup = λ left is. made (threads.takes_wakeup table) _ left is
          (on _ (moves_waits table placed).takes_wakeup.running);
      sleeps = λ left is may asks leave. waiting _;
      wakes_up = λ id other. on _ ((moves_waits table placed).wakes_up id).running;
      cancels = λ id. on _ ((moves_waits table placed).cancels id).running;
      suspends = λ id other may. some_runs table _ (is_it table.running id)
          ((moves_waits table placed).suspends id (running_registers now)).running;
      resumes = λ id other. on _ ((moves_waits table placed).resumes id).running;
      delays = λ moment thread is may leave. waiting _;
    };
    objects = λ kind own. record {
      makes = λ x blocks legal made. nothing;
      deletes = λ o blocks found gone. woken (threads_in_order kind o) (code_word OBJECT_DELETED);
      changes = λ id x y known how. nothing;
      wakes = λ id word x one known chosen is.
          on _ ((moves_waits table placed).wakes one.one.item.thread word).running;
      waits = λ id thread x wants is may known must place leave. waiting _;
    };
    sets = λ own bits o found. woken (threads_met (met_of o bits)) (code_word OK);
    meets = λ own id block x known there.
        let met = all_met id (with_variable_pools now
        (with_ranges now.kernel.variable_pools id x (without block x.ranges))) in
        subst (λ (c : Core). SwitchesNone table c.kernel.threads []) (sym met.core)
        (on _ (met_running met.met table placed));
  }

  switch_calls : CallMoves P Q ⊤ s
  switch_calls = record {
    unlisted = λ library number.
        still _ (one_runs_none (line now.kernel.clock (lines.Unlisted library number) refl));
    no_service = nothing;
    handler = λ handler is. on _
        (ap (λ (k : Kernel). k.threads.running)
        (gives_to now.kernel handler.cause (reg now.cpu 2)).is);
  }

-- a delivery begins a handler, or wakes the thread of a delay
deliveries_switch_none : (c : Core) (d : Delivered) → IsPlaced c.kernel.threads
    → delivers c ≡ Some d → SwitchesNone c.kernel.threads d.core.kernel.threads (d.line ∷ [])
deliveries_switch_none c d placed =
    delivers_goes (λ left told. SwitchesNone c.kernel.threads left.kernel.threads (told ∷ [])) c
    (λ may. record {
      begins_line = λ number handler found has. same_runs c.kernel.threads _ _ refl
          (one_runs_none (line c.kernel.clock (lines.Irq number) refl));
      due = λ none. record {
        begins_alarm = λ alarm taken. same_runs c.kernel.threads _ _ refl
            (one_runs_none (line c.kernel.clock (lines.Alarm alarm.number) refl));
        wakes = λ delay taken. same_runs c.kernel.threads _ _
            ((moves_waits c.kernel.threads placed).wakes delay.thread (code_word OK)).running
            (one_runs_none (line c.kernel.clock (lines.Due delay.thread) refl));
      };
    }) d

pub dispatches_alone_switch : DispatchesAloneSwitch
dispatches_alone_switch = record {
  services = λ s code placed.
      services_go (switch_moves s placed) (switch_calls s placed) (asked_not s) code;
  deliveries = deliveries_switch_none;
}
