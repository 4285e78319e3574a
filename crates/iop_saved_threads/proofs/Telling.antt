-- Threads, and then ready ones, that were put back are what stands in the table.
use Rattle.std.proofs.Common.{◌≡◌, ℕ, Bool, true, false, not, ◌&&◌, if◌then◌else◌, Option, Some, None, is_some, List, [], ◌∷◌, ◌++◌, append-nil, append_assoc, refl, sym, ap, subst, ◌∙◌}
use Rattle.std.specs.Prelude.{option_map, find}
use Rattle.std.specs.Option.{option_or}
use Rattle.std.proofs.lemmas.Bool.{and_parts}
use Rattle.std.proofs.lemmas.Option.{same_Some, cond_some}
use Rattle.iop_base.specs.declared.limits.TheConstants.{LAST_ID}
use Rattle.iop_thread.specs.Ordering.{in_order}
use Rattle.iop_thread.specs.Restoring.{no_threads, has_place, is_ahead, may_stand_beside, may_follow, with_last, is_unlisted, is_none_worse, may_be_listed, with_last_ready}
use Rattle.iop_thread.specs.States.{is_running}
use Rattle.iop_thread.specs.ThreadTable.{ThreadTable, priority_of}
use Rattle.iop_thread.specs.declared.thread.Thread.{Thread}
use Rattle.iop_thread.proofs.SortedLists.{IsSorted, sorted_nil, sorted_same, sorted_behind}
use Rattle.iop_snapshot.specs.Putting.{put_all}
use Rattle.iop_snapshot.proofs.Combining.{then_some}
use Rattle.iop_saved_threads.specs.Laws.{WerePutBack, running_in, ThreadsTellWhatWasPut}
use Rattle.iop_saved_threads.specs.Tables.{put_thread, put_ready}

-- threads stand behind others, and the one in the state of running runs
record AreBehind (s : ThreadTable) (ts : List Thread) (left : ThreadTable) : Type 0 where
  live : left.live ≡ s.live ++ ts
  ready : left.ready ≡ s.ready
  running : left.running ≡ option_or s.running (running_in ts)

-- the one that runs with one more thread, beside which no other runs where it does
runs_beside : (runs : Bool) (running : Option ℕ) (t : Thread) (later : Option Thread)
    → not (runs && is_some running) ≡ true
    → option_or (if runs then Some t.id else running) (option_map (λ u. u.id) later)
    ≡ option_or running (option_map (λ u. u.id) (if runs then Some t else later))
runs_beside true None t later alone = refl
runs_beside true (Some other) t later alone = absurd cc
runs_beside false running t later alone = refl

-- with no thread more it is the same
no_more : (running : Option ℕ) → running ≡ option_or running None
no_more None = refl
no_more (Some id) = refl

-- threads that were put back stand so
threads_behind : (s : ThreadTable) (ts : List Thread) (left : ThreadTable)
    → put_all put_thread s ts ≡ Some left → AreBehind s ts left
threads_behind s [] left is =
    subst (AreBehind s []) (same_Some s left is)
    (record { live = sym (append-nil s.live); ready = refl; running = no_more s.running })
threads_behind s (t ∷ ts) left is =
    let one = then_some (put_thread s t) (λ next. put_all put_thread next ts) left is in
    let put = cond_some (may_follow s t) (with_last s t) one.0 one.1 in
    let rest = threads_behind (with_last s t) ts left
    (subst (λ next. put_all put_thread next ts ≡ Some left) (sym put.1) one.2) in
    let may = and_parts (is_ahead s t.id LAST_ID && may_stand_beside s t) (has_place s) put.0 in
    let beside = and_parts (is_ahead s t.id LAST_ID) (may_stand_beside s t) may.0 in
    record {
      live = rest.live ∙ append_assoc s.live (t ∷ []) ts;
      ready = rest.ready;
      running = rest.running
          ∙ runs_beside (is_running t.state) s.running t (find (λ u. is_running u.state) ts)
          beside.1;
    }

-- the ready list of a table is sorted by priority
abbrev IsByPriority : ThreadTable → Type 0
IsByPriority s = IsSorted (priority_of s.live) s.ready

-- ready threads stand behind others in the ready list, which stays sorted by priority
record AreListed (s : ThreadTable) (ids : List ℕ) (left : ThreadTable) : Type 0 where
  is : left ≡ record s { ready = s.ready ++ ids }
  sorted : IsByPriority s → IsByPriority left

-- ready ones that were put back stand so
ready_behind : (s : ThreadTable) (ids : List ℕ) (left : ThreadTable)
    → put_all put_ready s ids ≡ Some left → AreListed s ids left
ready_behind s [] left is =
    subst (AreListed s []) (same_Some s left is) (record {
      is = ap (λ l. record s { ready = l }) (sym (append-nil s.ready));
      sorted = λ are. are;
    })
ready_behind s (id ∷ ids) left is =
    let one = then_some (put_ready s id) (λ next. put_all put_ready next ids) left is in
    let put = cond_some (may_be_listed s id) (with_last_ready s id) one.0 one.1 in
    let rest = ready_behind (with_last_ready s id) ids left
    (subst (λ next. put_all put_ready next ids ≡ Some left) (sym put.1) one.2) in
    let may = and_parts (is_unlisted s id) (is_none_worse s (priority_of s.live id)) put.0 in
    record {
      is = rest.is ∙ ap (λ l. record s { ready = l }) (append_assoc s.ready (id ∷ []) ids);
      sorted = λ are. rest.sorted (sorted_behind (priority_of s.live) s.ready id are may.1);
    }

-- what stands in the table into which both were put back
module _ (live : List Thread) (ready : List ℕ) (left : ThreadTable)
    (were : WerePutBack live ready left) where
  -- the threads stand in it
  threads : AreBehind no_threads live were.between
  threads = threads_behind no_threads live were.between were.threads_were

  -- and the ready ones in its ready list
  listed : AreListed were.between ready left
  listed = ready_behind were.between ready left were.ready_were

  -- no other threads are in it
  live_is : left.live ≡ live
  live_is = ap (λ (t : ThreadTable). t.live) listed.is ∙ threads.live

  -- and no others in its ready list
  ready_is : left.ready ≡ ready
  ready_is =
      ap (λ (t : ThreadTable). t.ready) listed.is ∙ ap (λ (l : List ℕ). l ++ ready) threads.ready

  -- which is sorted
  sorted : IsByPriority left
  sorted =
      listed.sorted
      (subst (IsSorted (priority_of were.between.live)) (sym threads.ready)
      (sorted_nil (priority_of were.between.live)))

  -- so the table is in order
  order_is : in_order left ≡ left
  order_is =
      ap (λ (ids : List ℕ). record left { ready = ids })
      (sorted_same (priority_of left.live) left.ready sorted)

  -- and the one in the state of running runs
  running_is : left.running ≡ running_in live
  running_is = ap (λ (t : ThreadTable). t.running) listed.is ∙ threads.running

-- the law
pub threads_tell : ThreadsTellWhatWasPut
threads_tell = record { live = live_is; ready = ready_is; order = order_is; running = running_is }
