-- Whether the loader's thread is dormant stays so over each operation that services make of
-- threads, and over each dispatch.
use Rattle.std.proofs.Common.{◌≡◌, ◌≢◌, ℕ, ◌==◌, Bool, true, false, option_map, Option, Some, None, ap, sym, ◌∙◌, subst, refl}
use Rattle.std.proofs.lemmas.Bool.{eqb-true}
use Rattle.std.proofs.lemmas.Option.{same_Some}
use Rattle.iop_exec.specs.declared.cpu.Cpu.{Cpu}
use Rattle.iop_thread.proofs.Changes.{moves_one}
use Rattle.iop_thread.proofs.Placed.{keeps_places}
use Rattle.iop_thread.proofs.Strict.{dispatched_is}
use Rattle.iop_thread.specs.Changes.{MovesOne, Switches}
use Rattle.iop_thread.specs.Laws.{IsDispatched, KeepsPlaces}
use Rattle.iop_thread.specs.Operations.{Dispatch, creates, dispatches}
use Rattle.iop_thread.specs.Placing.{IsPlaced}
use Rattle.iop_thread.specs.States.{is_dormant}
use Rattle.iop_thread.specs.ThreadTable.{ThreadTable, thread_of}
use Rattle.iop_thread.specs.declared.param.Param.{Param}
use Rattle.iop_thread.specs.declared.state.State.TheVariants.{Running, Ready}
use Rattle.iop_thread.specs.declared.thread.Thread.{Thread}
use Rattle.iop_thread.specs.declared.thread.TheConstants.{LOADER}
use Rattle.iop_resumable.proofs.LoaderChanges.{LoaderIs, busy, woken_so, suspended_so, resumed_so, woken_up_so, apart, found_so, another, becomes, turned, runs, running_turned, rotated, made}
use Rattle.iop_resumable.proofs.ServedThreads.{Lasts}

-- the loader's thread is there, dormant or not, and threads are in their places
pub record IsPlacedSo (b : Bool) (s : ThreadTable) : Type 0 where
  pub placed : IsPlaced s
  pub loader : LoaderIs b s

-- ---- each operation

module _ (b : Bool) (s : ThreadTable) (h : IsPlacedSo b s) where
  one : MovesOne s
  one = moves_one s h.placed

  places : KeepsPlaces s
  places = keeps_places s h.placed

  pub created : (param : Param) (stack gp : ℕ) → IsPlacedSo b (creates s param stack gp).1
  created param stack gp = record {
    placed = places.creates param stack gp;
    loader = made b s _ h.loader _ _ (one.creates param stack gp).0;
  }

  -- one is dispatched
  switched : (given : Cpu) (d : Dispatch) → IsDispatched s given d → Switches s given d
      → LoaderIs b d.threads
  switched given d is moves = by (d.id == LOADER) refl
    where
      -- the loader's thread, which was ready
      its : d.id ≡ LOADER → LoaderIs b d.threads
      its same =
          becomes b s d.threads h.loader (λ t. record t { state = Running })
          (subst (λ (n : ℕ). thread_of d.threads.live n
          ≡ option_map (λ (t : Thread). record t { state = Running }) (thread_of s.live n)) same
          moves.runs)
          (λ t found.
          let own : thread_of s.live LOADER ≡ Some is.thread =
          subst (λ (n : ℕ). thread_of s.live n ≡ Some is.thread) (sym is.id ∙ same) is.best.found in
          let state = ap (λ (u : Thread). is_dormant u.state)
          (same_Some t is.thread (sym found ∙ own)) in
          sym (state ∙ ap is_dormant is.kept))

      -- or it ran, or did neither
      others : LOADER ≢ d.id → LoaderIs b d.threads
      others other = by_running s.running refl
        where
          at_it : (r : ℕ) → s.running ≡ Some r → (same : Bool) → (r == LOADER) ≡ same
              → LoaderIs b d.threads
          at_it r at false apart_is =
              found_so b s d.threads h.loader
              (moves.others LOADER other
              (λ ran. let is = same_Some r LOADER (sym at ∙ ran) in apart r apart_is (sym is)))
          at_it r at true same =
              let is = eqb-true r LOADER same in
              becomes b s d.threads h.loader (λ t. record t { state = Ready given })
              (subst (λ (n : ℕ). thread_of d.threads.live n
              ≡ option_map (λ (t : Thread). record t { state = Ready given })
              (thread_of s.live n)) is (moves.gave_way r at))
              (λ t found. busy t.state
              (runs b s d.threads h.loader h.placed LOADER t (at ∙ ap (λ (n : ℕ). Some n) is)
              found))

          by_running : (o : Option ℕ) → s.running ≡ o → LoaderIs b d.threads
          by_running None idle =
              found_so b s d.threads h.loader
              (moves.others LOADER other (λ ran. absurd (cc (idle, ran))))
          by_running (Some r) at = at_it r at (r == LOADER) refl

      by : (same : Bool) → (d.id == LOADER) ≡ same → LoaderIs b d.threads
      by true same = its (eqb-true d.id LOADER same)
      by false other = others (apart d.id other)

  pub dispatched : (given : Cpu) (d : Dispatch) → dispatches s given ≡ Some d
      → LoaderIs b d.threads
  dispatched given d is =
      switched given d (dispatched_is s given d h.placed is) (one.dispatches given d is)

pub loader_lasts : (b : Bool) → Lasts (IsPlacedSo b)
loader_lasts b s h =
    let one = moves_one s h.placed in
    let places = keeps_places s h.placed in
    record {
      deletes = λ id other. record {
        placed = places.deletes id;
        loader = another b s _ h.loader id other (one.deletes id).0.one;
      };
      starts = λ id argument other. record {
        placed = places.starts id argument;
        loader = another b s _ h.loader id other (one.starts id argument).turns.turns.one;
      };
      ends_running = λ id at other. record {
        placed = places.ends_running;
        loader = another b s _ h.loader id other (one.ends_running.running id at).turns.one;
      };
      terminates = λ id other. record {
        placed = places.terminates id;
        loader = another b s _ h.loader id other (one.terminates id).turns.turns.one;
      };
      changes = λ id priority may. record {
        placed = places.changes id priority;
        loader = turned b s _ h.loader id _ _ (λ t found may. refl)
            (one.changes id priority).turns;
      };
      rotates = λ priority registers. record {
        placed = places.rotates priority registers tt;
        loader = rotated b s _ h.loader h.placed priority registers
            (one.rotates priority registers);
      };
      blocks = λ wait registers. record {
        placed = places.blocks wait registers tt tt;
        loader = running_turned b s _ h.loader h.placed _ (λ t is. busy t.state is)
            (one.blocks wait registers);
      };
      wakes = λ id answer. record {
        placed = places.wakes id answer;
        loader = turned b s _ h.loader id _ _ (λ t found may. woken_so answer t.state)
            (one.wakes id answer).turns;
      };
      suspends = λ id registers. record {
        placed = places.suspends id registers tt;
        loader = turned b s _ h.loader id _ _ (λ t found may. suspended_so registers t.state)
            (one.suspends id registers).turns.turns;
      };
      resumes = λ id. record {
        placed = places.resumes id;
        loader = turned b s _ h.loader id _ _ (λ t found may. resumed_so t.state)
            (one.resumes id).turns.turns;
      };
      wakes_up = λ id. record {
        placed = places.wakes_up id;
        loader = turned b s _ h.loader id _ _ (λ t found may. woken_up_so t)
            (one.wakes_up id).turns.turns;
      };
      cancels = λ id. record {
        placed = places.cancels id;
        loader = turned b s _ h.loader id _ _ (λ t found may. refl)
            (one.cancels id).0.turns.turns;
      };
      takes_wakeup = record {
        placed = places.takes_wakeup;
        loader = running_turned b s _ h.loader h.placed _ (λ t is. refl) one.takes_wakeup.0;
      };
    }
