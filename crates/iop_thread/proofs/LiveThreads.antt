-- The live threads, and the thread that an id finds, when one changes, goes or comes.
use Rattle.std.proofs.Common.{◌≡◌, ◌≢◌, ℕ, zero, suc, ◌+◌, ◌<◌, ◌==◌, Bool, true, false, cond, not, if◌then◌else◌, Option, Some, None, option_map, List, [], ◌∷◌, ◌++◌, length, map, filter, All, AllPairs, Contains, refl, ap, sym, arith, length-append}
use Rattle.std.proofs.lemmas.Bool.Decides.{nat_tests}
use Rattle.std.proofs.lemmas.Bool.{ne_eqb}
use Rattle.std.proofs.lemmas.List.{length-map}
use Rattle.std.proofs.lemmas.List.Elements.{All-contains, All-weaker}
use Rattle.iop_base.proofs.Lists.{find-none}
use Rattle.iop_thread.specs.declared.thread.Thread.{Thread}
use Rattle.iop_thread.specs.ThreadTable.{thread_of}

-- the threads when the one of t's id becomes t
abbrev pub changed : Thread → List Thread → List Thread
changed t live = map (λ u. if u.id == t.id then t else u) live

-- the threads when those of an id are gone
abbrev pub without_thread : ℕ → List Thread → List Thread
without_thread id live = filter (λ u. not (u.id == id)) live

-- no two threads have one id
abbrev pub HaveOwnIds : List Thread → Type 0
HaveOwnIds live = AllPairs (λ t u. t.id ≢ u.id) live

-- a changed thread is found by its id, the others are found as before
pub thread_of_changed : (live : List Thread) (t : Thread) (id : ℕ) →
    thread_of (changed t live) id
    ≡ (if id == t.id then option_map (λ u. t) (thread_of live id) else thread_of live id)
thread_of_changed [] t id = grind (arith, nat_tests)
thread_of_changed (u ∷ live) t id = grind (arith, nat_tests, thread_of_changed live t id)

-- threads that are gone are not found, the others are found as before
pub thread_of_without : (live : List Thread) (id other : ℕ) →
    thread_of (without_thread id live) other ≡ (if other == id then None else thread_of live other)
thread_of_without [] id other = grind (arith, nat_tests)
thread_of_without (u ∷ live) id other =
    grind (arith, nat_tests, thread_of_without live id other)

-- a thread that comes last is found by its id, if no other has this id
pub thread_of_added : (live : List Thread) (t : Thread) (id : ℕ) → thread_of live t.id ≡ None →
    thread_of (live ++ t ∷ []) id ≡ (if id == t.id then Some t else thread_of live id)
thread_of_added [] t id none = grind (arith, nat_tests)
thread_of_added (u ∷ live) t id none =
    grind (arith, nat_tests, thread_of_added live t id, none)

-- the thread that is found has the id
pub thread_of_id : (live : List Thread) (id : ℕ) (t : Thread) → thread_of live id ≡ Some t →
    t.id ≡ id
thread_of_id [] id t found = cc
thread_of_id (u ∷ live) id t found = grind (arith, nat_tests, thread_of_id live id t, found)

-- the first thread is found, or one behind it
live_by : (b : Bool) (u : Thread) (live : List Thread) (o : Option Thread) (t : Thread) →
    cond b (Some u) o ≡ Some t → (o ≡ Some t → Contains live t) → Contains (u ∷ live) t
live_by true u live o t found later = (0, omega arith, cc)
live_by false u live o t found later =
    let h = later found in (suc h.0, omega (arith, h.1), h.2)

-- the thread that is found is live
pub thread_of_is_live : (live : List Thread) (id : ℕ) (t : Thread) → thread_of live id ≡ Some t →
    Contains live t
thread_of_is_live [] id t found = cc
thread_of_is_live (u ∷ live) id t found =
    live_by (u.id == id) u live (thread_of live id) t found (thread_of_is_live live id t)

-- what holds of all pairs holds of the first with each other
AllPairs-head : {X : Type 0} (R : X → X → Type 0) (x : X) (xs : List X) → AllPairs R (x ∷ xs) →
    All (R x) xs
AllPairs-head R x xs pairs = λ k d below. pairs 0 (suc k) d (omega arith) (omega (arith, below))

-- and of all pairs behind the first
AllPairs-tail : {X : Type 0} (R : X → X → Type 0) (x : X) (xs : List X) → AllPairs R (x ∷ xs) →
    AllPairs R xs
AllPairs-tail R x xs pairs =
    λ i j d less below. pairs (suc i) (suc j) d (omega (arith, less)) (omega (arith, below))

-- the threads behind the first have another id
other_ids : (u : Thread) (live : List Thread) → HaveOwnIds (u ∷ live) → All (λ t. u.id ≢ t.id) live
other_ids u live own = AllPairs-head (λ t v. t.id ≢ v.id) u live own

-- no two threads behind the first have one id
own_ids_behind : (u : Thread) (live : List Thread) → HaveOwnIds (u ∷ live) → HaveOwnIds live
own_ids_behind u live own = AllPairs-tail (λ t v. t.id ≢ v.id) u live own

-- each live thread is found by its id
pub contains_thread_of : (live : List Thread) (t : Thread) → HaveOwnIds live → Contains live t →
    thread_of live t.id ≡ Some t
contains_thread_of [] t own (k, below, here) = absurd (omega (arith, below))
contains_thread_of (u ∷ live) t own (zero, below, here) =
    let first : u ≡ t = here in
    grind (arith, nat_tests, ap (λ (v : Thread). v.id) first, first)
contains_thread_of (u ∷ live) t own (suc k, below, here) =
    let inside : Contains live t = (k, omega (arith, below), here) in
    let apart = All-contains (λ v. u.id ≢ v.id) live t (other_ids u live own) inside in
    let found = contains_thread_of live t (own_ids_behind u live own) inside in
    grind (arith, nat_tests, apart, found)

-- an id that no thread has finds none
none_of_other_ids : (live : List Thread) (id : ℕ) → All (λ t. id ≢ t.id) live →
    thread_of live id ≡ None
none_of_other_ids live id other =
    find-none (λ t. t.id == id) live
    (All-weaker (λ t. id ≢ t.id) (λ t. (t.id == id) ≡ false)
    (λ t apart. ne_eqb t.id id (λ same. apart (sym same))) live other)

-- where an id finds none, none is gone
without_none : (live : List Thread) (id : ℕ) → thread_of live id ≡ None →
    without_thread id live ≡ live
without_none [] id none = refl
without_none (u ∷ live) id none = grind (arith, nat_tests, without_none live id, none)

-- a change leaves as many threads
pub length-changed : (t : Thread) (live : List Thread) → length (changed t live) ≡ length live
length-changed t live = length-map live (λ u. if u.id == t.id then t else u)

-- where an id finds a thread, one thread less is left without it
pub length-without_thread : (live : List Thread) (id : ℕ) (t : Thread) → HaveOwnIds live →
    thread_of live id ≡ Some t → length (without_thread id live) + 1 ≡ length live
length-without_thread [] id t own found = cc
length-without_thread (u ∷ live) id t own found =
    let none = none_of_other_ids live u.id (other_ids u live own) in
    let here = ap length (without_none live u.id none) in
    let later = length-without_thread live id t (own_ids_behind u live own) in
    grind (arith, nat_tests, here, later, found)

-- one thread more
pub length-added : (live : List Thread) (t : Thread) → length (live ++ t ∷ []) ≡ length live + 1
length-added live t = length-append live (t ∷ [])

-- an id that is still to be given finds none
pub none_of_next : (live : List Thread) (next : ℕ) → All (λ u. u.id < next) live →
    thread_of live next ≡ None
none_of_next live next given =
    none_of_other_ids live next
    (All-weaker (λ (u : Thread). u.id < next) (λ u. next ≢ u.id)
    (λ u small. omega (arith, small)) live given)
