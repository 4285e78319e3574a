-- The loader's thread is dormant, or not, as it was, whatever is served, delivered or dispatched;
-- it is not where a module has begun, and is again where it has ended.
use Rattle.std.proofs.Common.{◌≡◌, ℕ, Bool, true, false, option_map, Option, Some, None, refl, ap, ◌∙◌}
use Rattle.std.specs.Prelude.{unwrap_or}
use Rattle.iop_base.specs.declared.code.TheConstants.Code.{OK}
use Rattle.iop_exec.specs.declared.cpu.Cpu.{Cpu}
use Rattle.iop_kernel.proofs.Walk.Steps.{delivers_goes, dispatches_goes}
use Rattle.iop_kernel.specs.Deliveries.{Delivered, delivers}
use Rattle.iop_kernel.specs.Dispatching.{Dispatched, dispatches}
use Rattle.iop_kernel.specs.Serving.{services}
use Rattle.iop_kernel.specs.System.{Core, System, code_word}
use Rattle.iop_thread.proofs.Changes.{moves_one}
use Rattle.iop_thread.specs.Operations.{begins, ends_running}
use Rattle.iop_thread.specs.Placing.{IsPlaced}
use Rattle.iop_thread.specs.States.{is_dormant}
use Rattle.iop_thread.specs.ThreadTable.{ThreadTable, thread_of}
use Rattle.iop_thread.specs.declared.state.State.{State}
use Rattle.iop_thread.specs.declared.state.State.TheVariants.{Dormant, Ready}
use Rattle.iop_thread.specs.declared.thread.Thread.{Thread}
use Rattle.iop_thread.specs.declared.thread.TheConstants.{LOADER}
use Rattle.iop_resumable.specs.Laws.{IsServing}
use Rattle.iop_resumable.proofs.LoaderChanges.{LoaderIs, dormancy}
use Rattle.iop_resumable.proofs.LoaderThreads.{IsPlacedSo, created, dispatched, loader_lasts}
use Rattle.iop_resumable.proofs.ThreadsServed.{tables_last}

module _ (b : Bool) where
  -- over each service
  pub loader_served : (s : System) (code : ℕ) → IsServing s → LoaderIs b s.core.kernel.threads
      → LoaderIs b (services s code).left.state.core.kernel.threads
  loader_served s code serving h =
      let so : IsPlacedSo b s.core.kernel.threads =
      record { placed = serving.placed.threads; loader = h } in
      (tables_last (IsPlacedSo b) (loader_lasts b) s so
      (λ param stack blocks asked is some. created b s.core.kernel.threads so _ stack _)
      code).loader

  module _ (c : Core) (placed : IsPlaced c.kernel.threads) (h : LoaderIs b c.kernel.threads) where
    so : IsPlacedSo b c.kernel.threads
    so = record { placed = placed; loader = h }

    -- each delivery
    pub loader_delivered : (d : Delivered) → delivers c ≡ Some d
        → LoaderIs b d.core.kernel.threads
    loader_delivered =
        delivers_goes (λ d line. LoaderIs b d.kernel.threads) c
        (λ may. record {
          begins_line = λ line handler found has. h;
          due = λ none. record {
            begins_alarm = λ alarm taken. h;
            wakes = λ delay taken.
                ((loader_lasts b c.kernel.threads so).wakes delay.thread (code_word OK)).loader;
          };
        })

    -- and each dispatch
    pub loader_dispatched : (d : Dispatched) → dispatches c ≡ Some d
        → LoaderIs b d.core.kernel.threads
    loader_dispatched =
        dispatches_goes (λ d line. LoaderIs b d.kernel.threads) c
        (λ may did is. dispatched b c.kernel.threads so c.cpu did is)

-- a thread in another state
turned_to : (state : State) (b now : Bool) → is_dormant state ≡ now → (o : Option Thread)
    → option_map dormancy o ≡ Some b
    → option_map dormancy (option_map (λ (t : Thread). record t { state = state }) o) ≡ Some now
turned_to state b now is None there = absurd (cc there)
turned_to state b now is (Some t) there = ap (λ (x : Bool). Some x) is

-- a module begins
pub loader_begins : (s : ThreadTable) (registers : Cpu) → IsPlaced s → LoaderIs true s
    → LoaderIs false (begins s registers)
loader_begins s registers placed h =
    let turns = ((moves_one s placed).begins registers).turns in
    ap (option_map dormancy) (turns.own (ap (λ (o : Option Bool). unwrap_or o false) h))
    ∙ turned_to (Ready registers) true false refl (thread_of s.live LOADER) h

-- its thread ends
pub loader_ends : (s : ThreadTable) (b : Bool) → IsPlaced s → s.running ≡ Some LOADER
    → LoaderIs b s → LoaderIs true (ends_running s)
loader_ends s b placed runs h =
    let turns = ((moves_one s placed).ends_running.running LOADER runs).turns in
    ap (option_map dormancy) (turns.own refl)
    ∙ turned_to Dormant b true refl (thread_of s.live LOADER) h
