-- What each small change of a service keeps of what executes, and what has then become of the
-- thread or the handler that called.
use Rattle.std.proofs.Common.{◌≡◌, ◌≢◌, ℕ, ◌+◌, ◌≤◌, ◌==◌, nat_lt, Bool, true, false, Some, Result, List, length, refl, ap, sym, ◌∙◌, subst, arith}
use Rattle.std.specs.List.{list_any}
use Rattle.std.proofs.lemmas.Bool.{cond_both}
use Rattle.std.proofs.lemmas.Bool.Decides.{nat_tests}
use Rattle.iop_base.specs.Piece.{Piece}
use Rattle.iop_base.specs.declared.code.Code.{Code}
use Rattle.iop_base.specs.declared.code.TheConstants.Code.{OK, OBJECT_DELETED, WAIT_RELEASED}
use Rattle.iop_base.specs.declared.guest_fault.GuestFault.TheVariants.{Address, Service}
use Rattle.iop_exec.specs.Row.{reg, with_reg}
use Rattle.iop_exec.specs.declared.cpu.Cpu.{Cpu}
use Rattle.iop_pools.specs.Pools.{with_ranges}
use Rattle.iop_pools.specs.Ranges.{without}
use Rattle.iop_thread.specs.Laws.{AreSteady}
use Rattle.iop_thread.specs.Operations as threads
use Rattle.iop_thread.specs.ThreadTable.{ThreadTable, is_it}
use Rattle.iop_thread.specs.Waits.{is_live}
use Rattle.iop_thread.specs.declared.thread.TheConstants.{LOADER}
use Rattle.iop_thread.specs.declared.wait.Wait.TheVariants.{Sleep, Delay, Object}
use Rattle.iop_thread.proofs.KeptSteadily.{keeps_steady}
use Rattle.iop_thread.proofs.Placed.{keeps_places}
use Rattle.iop_thread.proofs.Waits.{moves_waits}
use Rattle.iop_time.specs.Timers.{Timers, is_alarm_of, sets_alarm, cancels}
use Rattle.iop_time.specs.declared.clock.TheConstants.{MOST_ALARMS}
use Rattle.iop_kernel.specs.Callers.{HasLeft}
use Rattle.iop_kernel.specs.Callers.HasLeft.{ends, goes}
use Rattle.iop_kernel.specs.Handlers.{handler_returned}
use Rattle.iop_kernel.specs.Laws.{HasReturned}
use Rattle.iop_kernel.specs.ObjectServices.{threads_in_order}
use Rattle.iop_kernel.specs.System.{Core, System, is_active, caller, running_registers, with_threads, with_variable_pools, opened, code_word}
use Rattle.iop_kernel.specs.ThreadStarts.{ended}
use Rattle.iop_kernel.specs.Waits.{wakes_with}
use Rattle.iop_kernel.specs.declared.active_handler.ActiveHandler.{ActiveHandler}
use Rattle.iop_kernel.proofs.Keeping.Core.{would_switch, with_them, ended_alone, running_steady}
use Rattle.iop_kernel_laws.proofs.Keeping.Goes.{Called, Goes, Went, one_runs, is_there, caller_runs_by, answered_alone, numbered, still, faulted, threads_go, made, woken, wakes_go, leaving_goes, requeueing_goes, leaves, waits_go, runs_not, suspended_awake, rotated, rotated_alone, met_go}
use Rattle.iop_kernel_laws.proofs.Keeping.Handlers.{gives_to, returned_alone, kept_steady, returns_handler_follows}
use Rattle.iop_kernel_laws.proofs.Keeping.Leaving.{ended_dormant, rotated_ready, deleted_gone}
use Rattle.iop_kernel.proofs.Keeping.Meetings.{met_of, threads_met}
use Rattle.iop_kernel.proofs.Keeping.RunningThread.{running_rotates, none_rotates, running_terminates, running_suspends, caller_runs, no_caller, own_registers}
use Rattle.iop_kernel.proofs.Walk.Meeting.{all_met}
use Rattle.iop_kernel.proofs.Walk.Moves.{Moves, CallMoves}

-- to set an alarm takes one number at most
sets_number : (t : Timers) (moment handler arg gp : ℕ)
    → (sets_alarm t moment handler arg gp).1.next ≤ t.next + 1
sets_number t moment handler arg gp =
    cond_both (list_any (is_alarm_of handler arg) t.alarms) _ _
    (λ (r : Code × Timers). r.1.next ≤ t.next + 1) (λ found. omega arith)
    (λ other. cond_both (nat_lt (length t.alarms) MOST_ALARMS) _ _
    (λ (r : Code × Timers). r.1.next ≤ t.next + 1) (λ room. omega arith) (λ full. omega arith))

-- to cancel one takes none
cancels_number : (t : Timers) (handler arg : ℕ) → (cancels t handler arg).1.next ≤ t.next + 1
cancels_number t handler arg =
    cond_both (list_any (is_alarm_of handler arg) t.alarms) _ _
    (λ (r : Code × Timers). r.1.next ≤ t.next + 1) (λ found. omega arith) (λ other. omega arith)

-- dispatch is enabled, where it is not disabled
enabled_so : (enabled : Bool) → (enabled ≡ false → ⊥) → enabled ≡ true
enabled_so true off = refl
enabled_so false off = absurd (off refl)

module _ (s : System) (active : is_active s.core.kernel ≡ true) where
  abbrev now : Core
  now = s.core

  abbrev table : ThreadTable
  table = s.core.kernel.threads

  abbrev P : System → List Piece → Type 0
  P d given = Goes s d.core

  abbrev deleted : ℕ
  deleted = code_word OBJECT_DELETED

  -- the thread that calls is not the loader's, where it is not that one
  no_loader : (at id : ℕ) → caller now ≡ Some id → caller now ≡ Some at → (id == LOADER) ≡ false
      → at ≢ LOADER
  no_loader at id is calls other loader =
      let same : id ≡ at = cc (is, calls) in
      grind (arith, nat_tests, same, other, loader)

  -- what has become of a handler where this one has returned
  abbrev HasReturnedFrom : ActiveHandler → ActiveHandler → Type 0
  HasReturnedFrom handler one =
      HasReturned s one (record s { core = handler_returned now handler (reg now.cpu 2) })

  pub kept_moves : (library : ℕ) → Moves P (Went s) (Called s) s library
  kept_moves library = record {
    each = record {
      begins = still s;
      stores = λ d given place bytes inside h. h;
      goes_on = λ d given word h. record {
        alone = λ placed clear alone. answered_alone d.core word (h.alone placed alone);
        answers = λ resumes. (word, ap (λ (cpu : Cpu). with_reg cpu 2 word) h.processor);
        numbers = h.numbers;
        follows = λ id placed is. h.runs id placed is ∙ caller_runs now id is;
        handler_follows = λ handler is. h.handler ∙ is;
      };
      bad_place = faulted s Address;
      no_thread = λ asks none. faulted s Service;
      prints = λ text. still s;
    };
    registry = λ own_library. record { registers = λ libraries. still s };
    blocks = λ own_library. record { takes = λ mode size at. still s; frees = λ at. still s };
    interrupts = λ own_library. record {
      lines = λ left. still s;
      turns = λ on. record {
        alone = λ placed h. record {
          awake = λ none. (
            (h.awake none).0,
            λ outside. absurd (one_runs now.kernel.handler table.running active none outside),
          );
          steady = h.steady;
          threads = h.threads;
          handler = h.handler;
        };
        handler = refl;
        processor = refl;
        numbers = omega arith;
        runs = λ id placed is. refl;
      };
    };
    alarms = λ own_library. record {
      sets = λ moment handler arg.
          numbered s _ (sets_number now.kernel.timers moment handler arg (reg now.cpu 28));
      cancels = λ handler arg. numbered s _ (cancels_number now.kernel.timers handler arg);
    };
    threads = λ own_library. record {
      dispatch = λ enabled on asks. record {
        alone = λ placed h. record {
          awake = λ none. (
            enabled_so enabled (λ off.
                caller_runs_by now.kernel.handler table.running (asks off) none),
            λ outside. on,
          );
          steady = h.steady;
          threads = h.threads;
          handler = h.handler;
        };
        handler = refl;
        processor = refl;
        numbers = omega arith;
        runs = λ id placed is. refl;
      };
      creates = λ size param stack blocks is. let gp = reg now.cpu 28 in
          threads_go s _ (λ h. (keeps_steady table h).creates param stack gp)
          (λ h. ((moves_waits table h).creates param stack gp).running);
      deletes = λ id stack left is. made s (threads.deletes table id) _ left is
          (threads_go s _ (λ h. (keeps_steady table h).deletes id)
          (λ h. ((moves_waits table h).deletes id).running));
      starts = λ id argument. threads_go s _ (λ h. (keeps_steady table h).starts id argument)
          (λ h. ((moves_waits table h).starts id argument).running);
      ends = λ id is other leave.
          leaves s _ (is_there _ id is) (λ placed clear. ended_alone now) (omega arith)
          (λ h. (moves_waits table h).ends_running.running)
          (λ at h calls. ends (no_loader at id is calls other)
          (ended_dormant table h at (caller_runs now at calls)));
      ends_deleted = λ id stack left is other did leave.
          let ended_table = (ended now).kernel.threads in
          leaves s _ (is_there _ id is) (λ placed clear h. let alone = ended_alone now h in
          with_them (ended now) alone left (subst AreSteady (ap (λ r. r.1) did)
          ((keeps_steady ended_table alone.threads).deletes id)) (λ none. (refl, λ outside. refl)))
          (omega arith)
          (λ h. ap (λ (r : Result ℕ Code × ThreadTable). r.1.running) (sym did)
          ∙ ((moves_waits ended_table (keeps_places table h).ends_running).deletes id).running
          ∙ (moves_waits table h).ends_running.running)
          (λ at h calls.
          let same : id ≡ at = cc (is, calls) in
          let gone =
          deleted_gone ended_table (keeps_places table h).ends_running id stack left did in
          goes (no_loader at id is calls other)
          (subst (λ (n : ℕ). is_live left n ≡ false) same gone));
      returns = λ id word is loader leave. record {
        alone = λ placed clear h. record {
          awake = λ none. (refl, λ outside. refl);
          steady = h.steady;
          threads = h.threads;
          handler = h.handler;
        };
        answers = λ resumes. absurd (cc resumes);
        numbers = omega arith;
        follows = λ at placed calls.
            let same : id ≡ at = cc (is, calls) in
            (grind (arith, nat_tests, same, loader), refl, refl);
        handler_follows = λ handler runs. absurd (cc (is, no_caller now handler runs));
      };
      terminates = λ id wait left other is rests.
          leaving_goes s (with_threads now left) id wait
          (made s (threads.terminates table id) _ left is
          (threads_go s _ (λ h. (keeps_steady table h).terminates id)
          (λ h. running_terminates table h id rests)));
      terminates_running = λ id wait left other is runs.
          leaving_goes s (with_threads (opened now) left) id wait (record {
            alone = λ placed h. record {
              awake = λ none. (refl, λ outside. refl);
              steady = h.steady;
              threads = subst AreSteady (ap (λ r. r.1) is)
                  ((keeps_steady table h.threads).terminates id);
              handler = h.handler;
            };
            handler = refl;
            processor = refl;
            numbers = omega arith;
            runs = λ at placed calls.
                absurd (cc (runs, runs_not s id at calls (grind (arith, nat_tests, other))));
          });
      changes = λ id priority wait left is.
          requeueing_goes s (with_threads now left) id priority wait
          (made s (threads.changes table id priority) _ left is
          (threads_go s _ (λ h. (keeps_steady table h).changes id priority)
          (λ h. ((moves_waits table h).changes id priority).running)));
      rotates = λ priority other. record {
        alone = λ placed h. rotated_alone s priority h
            (λ none. h.awake (cc (running_rotates table placed priority _ other, none)));
        handler = refl;
        processor = refl;
        numbers = omega arith;
        runs = λ at placed calls. running_rotates table placed priority _ other;
      };
      rotates_beside = λ priority own may is. record {
        alone = λ placed h. rotated_alone s priority h (λ none. would_switch _ _ _ may);
        handler = refl;
        processor = refl;
        numbers = omega arith;
        runs = λ at placed calls. absurd (cc (is, calls));
      };
      rotates_own = λ priority id own may is leave.
          leaves s _ (is_there _ id is) (λ placed clear h.
          answered_alone (with_threads now (rotated s priority)) 0
          (rotated_alone s priority h (λ none. would_switch _ _ _ may)))
          (omega arith) (λ placed. none_rotates table placed priority _ own)
          (λ at placed calls.
          subst (λ (given : Cpu). HasLeft now.cpu (threads.rotates table priority given) at)
          (sym (own_registers now at calls (with_reg now.cpu 2 0)))
          (rotated_ready table placed at (caller_runs now at calls) priority now.cpu own));
      releases = λ id t wait found is.
          leaving_goes s (wakes_with now t.id WAIT_RELEASED) t.id (Some wait)
          (wakes_go s t.id (code_word WAIT_RELEASED));
      takes_wakeup = λ left is. made s (threads.takes_wakeup table) _ left is
          (threads_go s _ (λ h. (keeps_steady table h).takes_wakeup)
          (λ h. (moves_waits table h).takes_wakeup.running));
      sleeps = λ left is may asks leave. waits_go s now Sleep (still s) refl may asks;
      wakes_up = λ id other. threads_go s _ (λ h. (keeps_steady table h).wakes_up id)
          (λ h. ((moves_waits table h).wakes_up id).running);
      cancels = λ id. threads_go s _ (λ h. (keeps_steady table h).cancels id)
          (λ h. ((moves_waits table h).cancels id).running);
      suspends = λ id other may. let registers = running_registers now in
          let it : is_it (caller now) id ≡ false = grind (arith, nat_tests, other) in
          record {
            alone = λ placed h. with_them now h _ ((keeps_steady table h.threads).suspends id
                registers (running_steady now h)) (suspended_awake s id now.kernel.handler
                (is_it table.running id) refl refl may it placed h);
            handler = refl;
            processor = refl;
            numbers = omega arith;
            runs = λ at placed calls.
                running_suspends table placed id registers (runs_not s id at calls it);
          };
      resumes = λ id other. threads_go s _ (λ h. (keeps_steady table h).resumes id)
          (λ h. ((moves_waits table h).resumes id).running);
      delays = λ moment thread is may leave.
          waits_go s _ Delay (numbered s (now.kernel.timers.next + 1) (omega arith)) refl may
          (is_there _ thread is);
    };
    objects = λ kind own_library. record {
      makes = λ x blocks legal made. still s;
      deletes = λ o blocks found gone. woken s (threads_in_order kind o) deleted;
      changes = λ id x y known how. still s;
      wakes = λ id word x one known chosen is. wakes_go s one.one.item.thread word;
      waits = λ id thread x wants is may known must place leave.
          waits_go s _ (Object kind id) (still s) refl may (is_there _ thread is);
    };
    sets = λ own_library bits o found. woken s (threads_met (met_of o bits)) (code_word OK);
    meets = λ own_library id block x known there.
        let met = all_met id (with_variable_pools now
        (with_ranges now.kernel.variable_pools id x (without block x.ranges))) in
        subst (λ (c : Core). Goes s c) (sym met.core) (met_go s met.met);
  }

  -- a number that is not listed changes nothing of this, and a handler's return gives the
  -- processor its registers back
  pub kept_calls : CallMoves P (Went s) (Called s) s
  kept_calls = record {
    unlisted = λ library number. still s;
    no_service = faulted s Service;
    handler = λ handler is. let gives = gives_to now.kernel handler.cause (reg now.cpu 2) in
        record {
          alone = λ placed clear h. returned_alone now _ handler.kept gives
              (kept_steady now.kernel.handler handler h.handler is) h;
          answers = λ resumes. absurd (cc resumes);
          numbers = omega (arith, gives.next);
          follows = λ id placed calls. absurd (cc (calls, no_caller now handler is));
          handler_follows = λ one runs.
              let same : handler ≡ one = cc (is, runs) in
              subst (HasReturnedFrom handler) same
              (returns_handler_follows s handler (reg now.cpu 2));
        };
  }
