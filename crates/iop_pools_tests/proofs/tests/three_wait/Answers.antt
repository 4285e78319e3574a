use Rattle.std.proofs.Common.{◌≡◌, ◌<◌, ◌≤◌, ◌∙◌, ℕ, true, Some, None, is_some, List, [], ◌∷◌, ap, sym, subst, refl, rules, lit<, lit≤}
use Rattle.iop_objects.specs.Objects.{no_objects, object_of, state_of, waiting}
use Rattle.iop_objects.specs.declared.objects.TheConstants.{MOST_WAITERS}
use Rattle.iop_objects.specs.declared.waiter.Waiter.{Waiter}
use Rattle.iop_queues.specs.declared.queued.Queued.{Queued}
use Rattle.iop_pools.specs.Pools.{Pool}
use Rattle.iop_pools.specs.VariablePools.{VariablePools, creates, place_of, takes, waits}
use Rattle.iop_pools.specs.declared.range.Range.{Range}
use Rattle.iop_pools_tests.proofs.tests.three_wait.Goals as goal

-- a pool of 64 bytes
abbrev pool : ℕ → List Range → Pool
pool attr ranges = record {
  attr = attr;
  option = 0;
  base = 0x10000;
  size = 64;
  unit = 16;
  ranges = ranges;
}

abbrev one_pool : ℕ → List Range → List (Queued (Waiter ℕ)) → VariablePools
one_pool attr ranges waiters = record {
  live = record { id = 1; state = pool attr ranges; waiters = waiters } ∷ [];
  next = 2;
}

abbrev range : ℕ → Range
range start = record { start = start; size = 32 }

abbrev all_out : List Range
all_out = range 0x10000 ∷ range 0x10020 ∷ []

-- two ranges of 32 bytes are taken
all_taken : (attr : ℕ) {s made first second : VariablePools} → s ≡ no_objects
    → made ≡ (creates s attr 0 64 0x10000).1 → first ≡ (takes made 1 20).1
    → second ≡ (takes first 1 20).1 → second ≡ one_pool attr all_out []
all_taken attr none made first second =
    let made_is : _ ≡ one_pool attr [] [] =
    made ∙ ap (λ s. (creates s attr 0 64 0x10000).1) none in
    let first_is : _ ≡ one_pool attr (range 0x10000 ∷ []) [] =
    first ∙ ap (λ s. (takes s 1 20).1) made_is in
    second ∙ ap (λ s. (takes s 1 20).1) first_is

-- what a call that lets a thread wait asks for
record IsReady (size : ℕ) (s : VariablePools) : Type 0 where
  live : is_some (object_of s.live 1) ≡ true
  room : waiting s < MOST_WAITERS
  within : (x : Pool) → state_of s 1 ≡ Some x → size ≤ x.size
  full : (x : Pool) → state_of s 1 ≡ Some x → place_of x size ≡ None

ready : (attr size : ℕ) (waiters : List (Queued (Waiter ℕ))) → size ≤ 64
    → waiting (one_pool attr all_out waiters) < MOST_WAITERS
    → place_of (pool attr all_out) size ≡ None
    → IsReady size (one_pool attr all_out waiters)
ready attr size waiters fits few none = record {
  live = refl;
  room = few;
  within = λ x is.
      let same : pool attr all_out ≡ x = cc in subst (λ (y : Pool). size ≤ y.size) same fits;
  full = λ x is.
      let same : pool attr all_out ≡ x = cc in
      subst (λ (y : Pool). place_of y size ≡ None) same none;
}

-- the first thread waits, and the second
abbrev waiter : (priority thread size : ℕ) → Queued (Waiter ℕ)
waiter priority thread size =
    record { priority = priority; item = record { thread = thread; wants = size } }

pub wait-requires : goal.wait-requires
wait-requires c =
    let none : c.in_ok-pools.pools ≡ no_objects = search rules in
    let out =
    all_taken c.args.attr none c.create.ensures.left c.take.ensures.left c.take-2.ensures.left in
    let all = subst (IsReady 47) (sym out) (ready c.args.attr 47 [] (lit≤ tt) (lit< tt) refl) in
    record {
      live = all.live;
      room = all.room;
      size = lit< tt;
      within = all.within;
      full = all.full;
    }

pub wait-requires-2 : goal.wait-requires-2
wait-requires-2 c =
    let none : c.in_ok-pools.pools ≡ no_objects = search rules in
    let out =
    all_taken c.args.attr none c.create.ensures.left c.take.ensures.left c.take-2.ensures.left in
    let one : c.wait.new.self ≡ one_pool c.args.attr all_out (waiter 10 13 48 ∷ []) =
    c.wait.ensures ∙ ap (λ s. waits s 1 13 10 47) out in
    let all =
    subst (IsReady 1) (sym one) (ready c.args.attr 1 (waiter 10 13 48 ∷ []) (lit≤ tt) (lit< tt)
    refl) in
    record {
      live = all.live;
      room = all.room;
      size = lit< tt;
      within = all.within;
      full = all.full;
    }

pub wait-requires-3 : goal.wait-requires-3
wait-requires-3 c =
    let none : c.in_ok-pools.pools ≡ no_objects = search rules in
    let out =
    all_taken c.args.attr none c.create.ensures.left c.take.ensures.left c.take-2.ensures.left in
    let one : c.wait.new.self ≡ one_pool c.args.attr all_out (waiter 10 13 48 ∷ []) =
    c.wait.ensures ∙ ap (λ s. waits s 1 13 10 47) out in
    let two : c.wait-2.new.self
    ≡ one_pool c.args.attr all_out (waiter 10 13 48 ∷ waiter 30 14 16 ∷ []) =
    c.wait-2.ensures ∙ ap (λ s. waits s 1 14 30 1) one in
    let all =
    subst (IsReady 16) (sym two) (ready c.args.attr 16
    (waiter 10 13 48 ∷ waiter 30 14 16 ∷ []) (lit≤ tt) (lit< tt) refl) in
    record {
      live = all.live;
      room = all.room;
      size = lit< tt;
      within = all.within;
      full = all.full;
    }
