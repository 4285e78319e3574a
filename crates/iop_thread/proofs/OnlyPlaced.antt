-- What can be put back is a placed table, in order.
use Rattle.std.proofs.Common.{◌≡◌, ℕ, ◌≤◌, nat_eq, Bool, true, false, if◌then◌else◌, Option, Some, None, option_and_then, List, [], ◌∷◌, ◌++◌, append-nil, append_assoc, refl, ap, sym, ◌∙◌, subst, arith}
use Rattle.std.specs.Option.{option_eq}
use Rattle.std.proofs.lemmas.Bool.Decides.{nat_tests}
use Rattle.std.proofs.lemmas.Option.{same_Some}
use Rattle.iop_thread.specs.declared.thread.Thread.{Thread}
use Rattle.iop_thread.specs.Ordering.{in_order}
use Rattle.iop_thread.specs.Placing.{IsPlaced}
use Rattle.iop_thread.specs.Restoring.{no_threads, may_follow, with_last, is_unlisted, is_none_worse, may_be_listed, with_last_ready, are_listed, is_complete, may_be_next, with_next, ArePlacedSoFar, with_threads_back, with_ready_back, with_running_back, with_next_back, restored}
use Rattle.iop_thread.specs.ThreadTable.{ThreadTable, priority_of}
use Rattle.iop_thread.proofs.PuttingBack.{placed_none, placed_last, placed_last_ready, next_placed, all_placed}
use Rattle.iop_thread.proofs.SortedLists.{IsSorted, sorted_nil, sorted_same, sorted_behind}

-- what is found behind a test passed it
guarded : {A : Type 0} (b : Bool) (o : Option A) (y : A) → (if b then o else None) ≡ Some y
    → (b ≡ true) × (o ≡ Some y)
guarded true o y is = (refl, is)
guarded false o y is = cc

-- and what is found by a step from another was found from it
stepped : {A B : Type 0} (f : A → Option B) (o : Option A) (y : B)
    → option_and_then f o ≡ Some y → (x : A) × (o ≡ Some x) × (f x ≡ Some y)
stepped f None y is = cc
stepped f (Some x) y is = (x, refl, is)

-- threads that come back
record Came (s : ThreadTable) (live : List Thread) (ready : List ℕ) : Type 0 where
  so_far : ArePlacedSoFar s
  live_is : s.live ≡ live
  ready_is : s.ready ≡ ready

came_threads : (s : ThreadTable) (ts : List Thread) (left : ThreadTable) → ArePlacedSoFar s
    → with_threads_back s ts ≡ Some left → Came left (s.live ++ ts) s.ready
came_threads s [] left h is =
    subst (λ (t : ThreadTable). Came t (s.live ++ []) s.ready) (same_Some s left is)
    (record { so_far = h; live_is = sym (append-nil s.live); ready_is = refl })
came_threads s (t ∷ ts) left h is =
    let did = guarded (may_follow s t) (with_threads_back (with_last s t) ts) left is in
    let ahead : s.next ≤ t.id = grind (arith, nat_tests, did.0) in
    let rest = came_threads (with_last s t) ts left (placed_last s h t ahead did.0) did.1 in
    record {
      so_far = rest.so_far;
      live_is = rest.live_is ∙ append_assoc s.live (t ∷ []) ts;
      ready_is = rest.ready_is;
    }

came_ready : (s : ThreadTable) (ids : List ℕ) (left : ThreadTable) → ArePlacedSoFar s
    → with_ready_back s ids ≡ Some left → Came left s.live (s.ready ++ ids)
came_ready s [] left h is =
    subst (λ (t : ThreadTable). Came t s.live (s.ready ++ [])) (same_Some s left is)
    (record { so_far = h; live_is = refl; ready_is = sym (append-nil s.ready) })
came_ready s (id ∷ ids) left h is =
    let did = guarded (may_be_listed s id) (with_ready_back (with_last_ready s id) ids) left is in
    let unlisted : is_unlisted s id ≡ true = grind (arith, nat_tests, did.0) in
    let rest = came_ready (with_last_ready s id) ids left (placed_last_ready s h id unlisted) did.1 in
    record {
      so_far = rest.so_far;
      live_is = rest.live_is;
      ready_is = rest.ready_is ∙ append_assoc s.ready (id ∷ []) ids;
    }

-- the ready list of a table is sorted by priority
abbrev IsByPriority : ThreadTable → Type 0
IsByPriority s = IsSorted (priority_of s.live) s.ready

came_sorted : (s : ThreadTable) (ids : List ℕ) (left : ThreadTable) → IsByPriority s
    → with_ready_back s ids ≡ Some left → IsByPriority left
came_sorted s [] left are is = subst IsByPriority (same_Some s left is) are
came_sorted s (id ∷ ids) left are is =
    let did = guarded (may_be_listed s id) (with_ready_back (with_last_ready s id) ids) left is in
    let none_worse : is_none_worse s (priority_of s.live id) ≡ true =
    grind (arith, nat_tests, did.0) in
    came_sorted (with_last_ready s id) ids left
    (sorted_behind (priority_of s.live) s.ready id are none_worse) did.1

-- then it is in order
ordered : (s : ThreadTable) → IsByPriority s → in_order s ≡ s
ordered s are =
    ap (λ ids. record s { ready = ids }) (sorted_same (priority_of s.live) s.ready are)

-- which one runs
same_running : (running id : Option ℕ) → option_eq nat_eq running id ≡ true → running ≡ id
same_running None None is = refl
same_running None (Some id) is = cc
same_running (Some one) None is = cc
same_running (Some one) (Some id) is =
    let same : one ≡ id = grind (arith, nat_tests, is) in ap Some same

-- a table of the same parts is the same
same_parts : (b s : ThreadTable) → b.live ≡ s.live → b.ready ≡ s.ready → b.running ≡ s.running
    → with_next b s.next ≡ s
same_parts b s live ready running =
    ap (λ l. record { live = l; ready = b.ready; running = b.running; next = s.next }) live
    ∙ ap (λ l. record { live = s.live; ready = l; running = b.running; next = s.next }) ready
    ∙ ap (λ r. record { live = s.live; ready = s.ready; running = r; next = s.next }) running

pub restored_only : (s left : ThreadTable) → restored s ≡ Some left
    → (left ≡ s) × IsPlaced s × (in_order s ≡ s)
restored_only s left is =
    let (c, c_is, next) = stepped (λ t. with_next_back t s.next)
    (option_and_then (λ t. with_running_back t s.running)
    (option_and_then (λ t. with_ready_back t s.ready) (with_threads_back no_threads s.live)))
    left is in
    let (b, b_is, run) = stepped (λ t. with_running_back t s.running)
    (option_and_then (λ t. with_ready_back t s.ready) (with_threads_back no_threads s.live))
    c c_is in
    let (a, a_is, list) = stepped (λ t. with_ready_back t s.ready)
    (with_threads_back no_threads s.live) b b_is in
    let live = came_threads no_threads s.live a placed_none a_is in
    let ready = came_ready a s.ready b live.so_far list in
    let runs = guarded (is_complete b s.running) (Some b) c run in
    let last = guarded (may_be_next c s.next) (Some (with_next c s.next)) left next in
    let one : b ≡ c = same_Some b c runs.1 in
    let may : may_be_next b s.next ≡ true = rw one last.0 in
    let listed : are_listed b ≡ true = grind (arith, nat_tests, runs.0) in
    let running : b.running ≡ s.running =
    same_running b.running s.running (grind (arith, nat_tests, runs.0)) in
    let now = with_next b s.next in
    let sorted : IsByPriority now =
    came_sorted a s.ready b
    (subst (IsSorted (priority_of a.live)) (sym live.ready_is) (sorted_nil (priority_of a.live)))
    list in
    let same : now ≡ s =
    same_parts b s (ready.live_is ∙ live.live_is)
    (ready.ready_is ∙ ap (λ l. l ++ s.ready) live.ready_is) running in (
      sym (same_Some (with_next c s.next) left last.1)
          ∙ ap (λ (t : ThreadTable). with_next t s.next) (sym one) ∙ same,
      subst IsPlaced same (next_placed b s.next (all_placed b ready.so_far listed) may),
      ordered s (subst IsByPriority same sorted),
    )
