-- All that stands in a placed table, in the order of ids, is put back and gives the table again.
use Rattle.std.proofs.Common.{◌≡◌, ◌≢◌, ℕ, zero, suc, ◌+◌, ◌<◌, ◌≤◌, nat_eq, nat_lt, nat_le, Bool, true, false, not, ◌&&◌, if◌then◌else◌, ◌⊎◌, inl, inr, Option, Some, None, is_some, option_and_then, List, [], ◌∷◌, ◌++◌, append-nil, append_assoc, length, All, Contains, refl, ap, sym, ◌∙◌, subst, arith}
use Rattle.std.specs.Option.{option_eq}
use Rattle.std.proofs.lemmas.Bool.{eq-eqb}
use Rattle.std.proofs.lemmas.Bool.Decides.{nat_tests}
use Rattle.std.proofs.lemmas.List.{length_push}
use Rattle.std.proofs.lemmas.List.Elements.{All-head, All-tail, All-weaker, All-contains_itself}
use Rattle.std.proofs.lemmas.List.Sums.{list_all-from_AllPass}
use Rattle.iop_base.proofs.Searching.{AllPairs-head, AllPairs-tail}
use Rattle.iop_base.specs.Numbers.{one_if}
use Rattle.iop_base.specs.declared.limits.TheConstants.{LAST_ID}
use Rattle.iop_ready.specs.declared.slot.TheConstants.{MOST_THREADS}
use Rattle.iop_thread.specs.declared.thread.Thread.{Thread}
use Rattle.iop_thread.specs.declared.thread.TheConstants.{LOADER}
use Rattle.iop_thread.specs.Ordering.{in_order}
use Rattle.iop_thread.specs.Placing.{AreRising, IsPlaced, times, is_in_state}
use Rattle.iop_thread.specs.Restoring.{may_stand_beside, may_follow, is_unlisted, is_none_worse, is_listed, are_listed, is_complete, may_be_next, with_threads_back, with_ready_back, with_running_back, with_next_back, restored}
use Rattle.iop_thread.specs.States.{is_ready, is_running}
use Rattle.iop_thread.specs.ThreadTable.{ThreadTable, thread_of, priority_of, is_it}
use Rattle.iop_thread.proofs.IdOrder.{own_ids}
use Rattle.iop_thread.proofs.InOrder.{placed_in_order}
use Rattle.iop_thread.proofs.LiveThreads.{HaveOwnIds, contains_thread_of, thread_of_id, thread_of_is_live}
use Rattle.iop_thread.proofs.SortedLists.{IsSorted, at_most_all, before_at_most, sorted}

-- some threads, of which one runs, or none, and none is in the ready list yet
abbrev table_of : List Thread → (running : Option ℕ) → (next : ℕ) → ThreadTable
table_of live running next = record { live = live; ready = []; running = running; next = next }

-- ids rise, from the next one on
abbrev Rise : ℕ → List Thread → Type 0
Rise next [] = Unit {0}
Rise next (t ∷ ts) = (next ≤ t.id) × (t.id ≤ LAST_ID) × Rise (t.id + 1) ts

rises : (next last : ℕ) (ts : List Thread) → last ≤ LAST_ID + 1 → All (λ t. next ≤ t.id) ts
    → All (λ t. t.id < last) ts → AreRising ts → Rise next ts
rises next last [] most from below order = tt
rises next last (t ∷ ts) most from below order =
    let own = All-head (λ u. u.id < last) t ts below in (
      All-head (λ u. next ≤ u.id) t ts from,
      omega (arith, own, most),
      rises (t.id + 1) last ts most
          (All-weaker (λ u. t.id < u.id) (λ u. t.id + 1 ≤ u.id) (λ u less. omega (arith, less)) ts
          (AllPairs-head (λ u v. u.id < v.id) t ts order))
          (All-tail (λ u. u.id < last) t ts below)
          (AllPairs-tail (λ u v. u.id < v.id) t ts order),
    )

-- the id behind those of some threads
abbrev behind : ℕ → List Thread → ℕ
behind next [] = next
behind next (t ∷ ts) = behind (t.id + 1) ts

behind_below : (next last : ℕ) (ts : List Thread) → next ≤ last → All (λ t. t.id < last) ts
    → behind next ts ≤ last
behind_below next last [] first below = first
behind_below next last (t ∷ ts) first below =
    let own = All-head (λ u. u.id < last) t ts below in
    behind_below (t.id + 1) last ts (omega (arith, own)) (All-tail (λ u. u.id < last) t ts below)

-- the one that runs when some threads have come back
abbrev running_with : Option ℕ → Thread → Option ℕ
running_with running t = if is_running t.state then Some t.id else running

abbrev running_behind : Option ℕ → List Thread → Option ℕ
running_behind running [] = running
running_behind running (t ∷ ts) = running_behind (running_with running t) ts

-- each finds none running if it runs
abbrev AreAlone : Option ℕ → List Thread → Type 0
AreAlone running [] = Unit {0}
AreAlone running (t ∷ ts) =
    (not (is_running t.state && is_some running) ≡ true) × AreAlone (running_with running t) ts

-- a thread runs exactly where it is the one that runs
abbrev IsOne : Option ℕ → Thread → Type 0
IsOne running t = is_running t.state ≡ is_it running t.id

it_is : (running : Option ℕ) (id : ℕ) → is_it running id ≡ true → running ≡ Some id
it_is None id is = cc
it_is (Some one) id is = let same : one ≡ id = grind (arith, nat_tests, is) in ap Some same

none_runs_behind : (running : Option ℕ) (t : Thread) (ts : List Thread) → is_it running t.id ≡ true
    → All (IsOne running) ts → All (λ u. t.id ≢ u.id) ts → All (λ u. is_running u.state ≡ false) ts
none_runs_behind running t ts is one apart = λ k d below.
    let own = one k d below in
    let other = apart k d below in
    let same = it_is running t.id is in
    grind (arith, nat_tests, own, other, same)

-- at most one of some threads runs, and none beside another
abbrev IsIdle : Option ℕ → List Thread → Type 0
IsIdle so_far ts = (so_far ≡ None) ⊎ All (λ t. is_running t.state ≡ false) ts

alone_by : (running so_far : Option ℕ) (t : Thread) (ts : List Thread)
    → All (IsOne running) (t ∷ ts) → HaveOwnIds (t ∷ ts) → so_far ≡ None
    → ((before : Option ℕ) → IsIdle before ts → AreAlone before ts)
    → (b : Bool) → is_running t.state ≡ b → AreAlone so_far (t ∷ ts)
alone_by running so_far t ts one own none rest true runs =
    let is : is_it running t.id ≡ true = sym (All-head (IsOne running) t ts one) ∙ runs in
    let others =
    none_runs_behind running t ts is (All-tail (IsOne running) t ts one)
    (AllPairs-head (λ u v. u.id ≢ v.id) t ts own) in
    rw (runs, none) (refl, rest (Some t.id) (inr others))
alone_by running so_far t ts one own none rest false idle =
    rw (idle, none) (refl, rest None (inl refl))

alone : (running so_far : Option ℕ) (ts : List Thread) → All (IsOne running) ts → HaveOwnIds ts
    → IsIdle so_far ts → AreAlone so_far ts
alone running so_far [] one own idle = tt
alone running so_far (t ∷ ts) one own (inr idle) =
    let here : is_running t.state ≡ false = All-head (λ u. is_running u.state ≡ false) t ts idle in
    let rest = All-tail (λ u. is_running u.state ≡ false) t ts idle in
    rw here (
      refl,
      alone running so_far ts (All-tail (IsOne running) t ts one)
          (AllPairs-tail (λ u v. u.id ≢ v.id) t ts own) (inr rest),
    )
alone running so_far (t ∷ ts) one own (inl none) =
    let rest = All-tail (IsOne running) t ts one in
    let others = AllPairs-tail (λ u v. u.id ≢ v.id) t ts own in
    alone_by running so_far t ts one own none
    (λ before idle. alone running before ts rest others idle) (is_running t.state) refl

-- the one that runs is found when all have come back
running_found : (running : Option ℕ) (ts : List Thread) → All (IsOne running) ts
    → running_behind running ts ≡ running
running_found running [] one = refl
running_found running (t ∷ ts) one =
    let here = All-head (IsOne running) t ts one in
    let same : running_with running t ≡ running = by (is_running t.state) refl here in
    ap (λ r. running_behind r ts) same
    ∙ running_found running ts (All-tail (IsOne running) t ts one)
  where
    by : (b : Bool) → is_running t.state ≡ b → IsOne running t
        → (if b then Some t.id else running) ≡ running
    by true runs is = sym (it_is running t.id (sym is ∙ runs))
    by false idle is = refl

behind_first : (id : ℕ) (u t : Thread) (ts : List Thread) → Contains (u ∷ ts) t → t.id ≡ id
    → u.id ≢ id → Contains ts t
behind_first id u t ts (zero, below, at) is other =
    let same : u ≡ t = at in absurd (other (ap (λ (v : Thread). v.id) same ∙ is))
behind_first id u t ts (suc k, below, at) is other = (k, omega (arith, below), at)

comes_by : (id : ℕ) (u : Thread) (ts : List Thread) → IsOne (Some id) u → All (IsOne (Some id)) ts
    → (found : (t : Thread) × Contains (u ∷ ts) t × (t.id ≡ id))
    → (Contains ts found.0 → running_behind None ts ≡ Some id) → (b : Bool) → is_running u.state ≡ b
    → running_behind (if b then Some u.id else None) ts ≡ Some id
comes_by id u ts here rest found later true runs =
    let same : id ≡ u.id = grind (arith, nat_tests, here, runs) in
    rw (← same) (running_found (Some id) ts rest)
comes_by id u ts here rest found later false idle =
    let other : u.id ≢ id = λ e. grind (arith, nat_tests, here, idle, e) in
    later (behind_first id u found.0 ts found.1 found.2 other)

running_comes : (id : ℕ) (ts : List Thread) → All (IsOne (Some id)) ts
    → (t : Thread) × Contains ts t × (t.id ≡ id) → running_behind None ts ≡ Some id
running_comes id [] one (t, (k, below, at), is) = absurd (omega (arith, below))
running_comes id (u ∷ ts) one (t, there, is) =
    let rest = All-tail (IsOne (Some id)) u ts one in
    comes_by id u ts (All-head (IsOne (Some id)) u ts one) rest (t, there, is)
    (λ later. running_comes id ts rest (t, later, is)) (is_running u.state) refl

-- threads are live again, behind others
threads_back : (done ts : List Thread) (running : Option ℕ) (next : ℕ) → Rise next ts
    → AreAlone running ts → length done + length ts ≤ MOST_THREADS
    → with_threads_back (table_of done running next) ts
    ≡ Some (table_of (done ++ ts) (running_behind running ts) (behind next ts))
threads_back done [] running next rise lone few =
    ap (λ l. Some (table_of l running next)) (sym (append-nil done))
threads_back done (t ∷ ts) running next rise lone few =
    let s = table_of done running next in
    let order : next ≤ t.id = rise.0 in
    let last : t.id ≤ LAST_ID = rise.1 in
    let place : length done < MOST_THREADS = omega (arith, few) in
    let from : nat_le next t.id ≡ true = grind (arith, nat_tests, order) in
    let to : nat_le t.id LAST_ID ≡ true = grind (arith, nat_tests, last) in
    let fits : nat_lt (length done) MOST_THREADS ≡ true = grind (arith, nat_tests, place) in
    let beside : may_stand_beside s t ≡ true = lone.0 in
    let may : may_follow s t ≡ true = rw (from, to, fits, beside) refl in
    rw may
    (threads_back (done ++ t ∷ []) ts (running_with running t) (t.id + 1) rise.2 lone.1
    (omega (arith, few, length_push done t))
    ∙ ap (λ l. Some (table_of l (running_behind running (t ∷ ts)) (behind next (t ∷ ts))))
    (append_assoc done (t ∷ []) ts))

-- how often an id is in two lists, one behind the other
times-append : (id : ℕ) (xs ys : List ℕ) → times id (xs ++ ys) ≡ times id xs + times id ys
times-append id [] ys = grind (arith, nat_tests)
times-append id (x ∷ xs) ys =
    let rest = times-append id xs ys in grind (arith, nat_tests, rest)

-- ids are in the ready list again, behind others
module _ (live : List Thread) (running : Option ℕ) (next : ℕ) where
  abbrev with_list : List ℕ → ThreadTable
  with_list ready = record { live = live; ready = ready; running = running; next = next }

  ready_back : (done ids : List ℕ)
      → ((id : ℕ) → times id (done ++ ids) ≡ one_if (is_in_state is_ready live id))
      → IsSorted (priority_of live) (done ++ ids)
      → with_ready_back (with_list done) ids ≡ Some (with_list (done ++ ids))
  ready_back done [] once sorted = ap (λ l. Some (with_list l)) (sym (append-nil done))
  ready_back done (id ∷ ids) once sorted =
      let unlisted : is_unlisted (with_list done) id ≡ true =
      first (is_in_state is_ready live id) refl (once id) (times-append id done (id ∷ ids)) in
      let none_worse : is_none_worse (with_list done) (priority_of live id) ≡ true =
      at_most_all (priority_of live) done (priority_of live id)
      (before_at_most (priority_of live) done id ids sorted) in
      let grouped : (done ++ id ∷ []) ++ ids ≡ done ++ id ∷ ids = append_assoc done (id ∷ []) ids in
      rw (unlisted, none_worse)
      (ready_back (done ++ id ∷ []) ids (rw grouped once) (rw grouped sorted)
      ∙ ap (λ l. Some (with_list l)) grouped)
    where
      first : (b : Bool) → is_in_state is_ready live id ≡ b
          → times id (done ++ id ∷ ids) ≡ one_if (is_in_state is_ready live id)
          → times id (done ++ id ∷ ids) ≡ times id done + times id (id ∷ ids)
          → is_unlisted (with_list done) id ≡ true
      first b is here both = grind (arith, nat_tests, is, here, both)

same_running : (running : Option ℕ) → option_eq nat_eq running running ≡ true
same_running None = refl
same_running (Some id) = eq-eqb id id refl

module _ (s : ThreadTable) (h : IsPlaced s) (sorted : IsSorted (priority_of s.live) s.ready) where
  -- each thread is in the state that its id says
  own_state : (t : Thread) → Contains s.live t → thread_of s.live t.id ≡ Some t
  own_state t there = contains_thread_of s.live t (own_ids s.live s.next h.ids) there

  each_is_one : All (IsOne s.running) s.live
  each_is_one =
      All-weaker (Contains s.live) (IsOne s.running)
      (λ t there. let found = own_state t there in
      let placed = h.running t.id in
      grind (arith, nat_tests, found, placed))
      s.live (All-contains_itself s.live)

  each_is_listed : are_listed s ≡ true
  each_is_listed =
      list_all-from_AllPass (is_listed s) s.live
      (All-weaker (Contains s.live) (λ t. is_listed s t ≡ true)
      (λ t there. let found = own_state t there in
      let placed = h.ready t.id in
      grind (arith, nat_tests, found, placed))
      s.live (All-contains_itself s.live))

  running_again : (o : Option ℕ) → s.running ≡ o → running_behind None s.live ≡ s.running
  running_again None idle =
      ap (λ r. running_behind r s.live) (sym idle) ∙ running_found s.running s.live each_is_one
  running_again (Some id) is = by (thread_of s.live id) refl
    where
      by : (o : Option Thread) → thread_of s.live id ≡ o
          → running_behind None s.live ≡ s.running
      by None none =
          let here = ap (λ o. is_it o id) is in
          absurd (grind (arith, nat_tests, h.running id, here, none))
      by (Some t) found =
          rw is
          (running_comes id s.live (subst (λ r. All (IsOne r) s.live) is each_is_one)
          (t, thread_of_is_live s.live id t found, thread_of_id s.live id t found))

  restored_again : restored s ≡ Some s
  restored_again =
      let next = behind LOADER s.live in
      let last : s.next ≤ LAST_ID + 1 = h.ids.next_last in
      let live : with_threads_back (table_of [] None LOADER) s.live
      ≡ Some (table_of s.live s.running next) =
      threads_back [] s.live None LOADER
      (rises LOADER s.next s.live last h.ids.first h.ids.given h.ids.rising)
      (alone s.running None s.live each_is_one (own_ids s.live s.next h.ids) (inl refl))
      (omega (arith, h.ids.few))
      ∙ ap (λ r. Some (table_of s.live r next)) (running_again s.running refl) in
      let ready : with_ready_back (table_of s.live s.running next) s.ready
      ≡ Some (record s { next = next }) =
      ready_back s.live s.running next [] s.ready h.ready sorted in
      let complete : is_complete (record s { next = next }) s.running ≡ true =
      rw (each_is_listed, same_running s.running) refl in
      let first : next ≤ s.next =
      behind_below LOADER s.next s.live h.ids.next_first h.ids.given in
      let from : nat_le next s.next ≡ true = grind (arith, nat_tests, first) in
      let to : nat_le s.next (LAST_ID + 1) ≡ true = grind (arith, nat_tests, last) in
      let may : may_be_next (record s { next = next }) s.next ≡ true = rw (from, to) refl in
      let then_ready = option_and_then (λ t. with_ready_back t s.ready) in
      let then_running = option_and_then (λ t. with_running_back t s.running) in
      let then_next = option_and_then (λ t. with_next_back t s.next) in
      ap (λ o. then_next (then_running (then_ready o))) live
      ∙ ap (λ o. then_next (then_running o)) ready
      ∙ rw complete (rw may refl)

pub restored_in_order : (s : ThreadTable) → IsPlaced s → restored (in_order s) ≡ Some (in_order s)
restored_in_order s placed =
    restored_again (in_order s) (placed_in_order s placed) (sorted (priority_of s.live) s.ready)
