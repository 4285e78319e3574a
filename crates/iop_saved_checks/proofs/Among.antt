-- What is known of one that is among others.
use Rattle.std.proofs.Common.{◌≡◌, ℕ, zero, suc, ◌<◌, Bool, true, false, Some, List, [], ◌∷◌, map, All, Contains, refl, ap, subst, arith}
use Rattle.std.specs.Prelude.{◌==◌, ◌||◌}
use Rattle.std.specs.List.{list_any, AllPairs}
use Rattle.std.proofs.lemmas.Bool.{and_from}
use Rattle.std.proofs.lemmas.Bool.Decides.{nat_tests}
use Rattle.std.proofs.lemmas.List.Elements.{All-contains, All-head, All-tail}
use Rattle.iop_base.proofs.Searching.{AllPairs-head, AllPairs-tail}
use Rattle.iop_base.specs.Numbers.{one_if}
use Rattle.iop_kernel.specs.Kinds.{is_kind}
use Rattle.iop_kernel.specs.Placing.{is_for}
use Rattle.iop_objects.specs.Objects.{Object, object_of}
use Rattle.iop_thread.specs.Placing.{times}
use Rattle.iop_thread.specs.declared.kind.Kind.{Kind}
use Rattle.iop_thread.specs.declared.kind.Kind.TheVariants.{Semaphore, EventFlag, Mailbox, VariablePool, FixedPool}
use Rattle.iop_thread.specs.declared.wait.Wait.TheVariants.{Object as ForObject}
use Rattle.iop_time.specs.Timers.{is_delay_of}
use Rattle.iop_time.specs.declared.delay.Delay.{Delay as DelayOf}

-- a thread that is among some is so once at least
pub one_at_least : (xs : List ℕ) (x : ℕ) → Contains xs x → 0 < times x xs
one_at_least [] x (k, below, here) = absurd (omega (arith, below))
one_at_least (y ∷ ys) x (zero, below, here) =
    let same : y ≡ x = here in grind (arith, nat_tests, same)
one_at_least (y ∷ ys) x (suc k, below, here) =
    let later = one_at_least ys x (k, omega (arith, below), here) in
    grind (arith, nat_tests, later)

-- where it is there as often as something holds, that holds
pub is_held : (n : ℕ) (b : Bool) → 0 < n → n ≡ one_if b → b ≡ true
is_held n true some is = refl
is_held n false some is = absurd (omega (arith, some, is))

-- a delay is there where the thread is among those delayed
pub has_delay : (thread : ℕ) (ds : List DelayOf) → times thread (map (λ delay. delay.thread) ds) ≡ 1
    → list_any (is_delay_of thread) ds ≡ true
has_delay thread [] h = absurd cc
has_delay thread (d ∷ ds) h = by (d.thread == thread) refl (has_delay thread ds)
  where
    by : (b : Bool) → (d.thread == thread) ≡ b
        → (times thread (map (λ delay. delay.thread) ds) ≡ 1
        → list_any (is_delay_of thread) ds ≡ true)
        → (b || list_any (is_delay_of thread) ds) ≡ true
    by true is later = refl
    by false is later = later (grind (arith, nat_tests, h, is))

-- what holds of all of some holds of one that is among them
pub all_times : (P : ℕ → Type 0) (xs : List ℕ) (x : ℕ) → 0 < times x xs → All P xs → P x
all_times P [] x some all = absurd (omega (arith, some))
all_times P (y ∷ ys) x some all = by (y == x) refl (all_times P ys x)
  where
    by : (b : Bool) → (y == x) ≡ b → (0 < times x ys → All P ys → P x) → P x
    by true is later =
        let same : y ≡ x = grind (arith, nat_tests, is) in subst P same (All-head P y ys all)
    by false is later = later (grind (arith, nat_tests, some, is)) (All-tail P y ys all)

pub contains_mapped : {X Y : Type 0} (f : X → Y) (xs : List X) (x : X) → Contains xs x
    → Contains (map f xs) (f x)
contains_mapped f [] x (k, below, here) = absurd (omega (arith, below))
contains_mapped f (y ∷ ys) x (zero, below, here) = (0, omega arith, ap f here)
contains_mapped f (y ∷ ys) x (suc k, below, here) =
    let later = contains_mapped f ys x (k, omega (arith, below), here) in
    (suc later.0, omega (arith, later.1), later.2)

-- an object is found by its id, where ids rise
pub object_found : {A W : Type 0} (live : List (Object A W)) (o : Object A W)
    → AllPairs (λ a b. a.id < b.id) live → Contains live o → object_of live o.id ≡ Some o
object_found [] o rising (k, below, here) = absurd (omega (arith, below))
object_found (p ∷ live) o rising (zero, below, here) =
    let same : p ≡ o = here in grind (arith, nat_tests, ap (λ (v : Object _ _). v.id) same, same)
object_found (p ∷ live) o rising (suc k, below, here) =
    let inside : Contains live o = (k, omega (arith, below), here) in
    let less = All-contains (λ q. p.id < q.id) live o
    (AllPairs-head (λ a b. a.id < b.id) p live rising) inside in
    let later = object_found live o (AllPairs-tail (λ a b. a.id < b.id) p live rising) inside in
    grind (arith, nat_tests, less, later)

pub its_own : (kind : Kind) (id : ℕ) → is_for kind id (Some (ForObject kind id)) ≡ true
its_own kind id = and_from (is_kind kind kind) (id == id) (own kind) (grind (arith, nat_tests))
  where
    own : (kind : Kind) → is_kind kind kind ≡ true
    own Semaphore = refl
    own EventFlag = refl
    own Mailbox = refl
    own VariablePool = refl
    own FixedPool = refl
