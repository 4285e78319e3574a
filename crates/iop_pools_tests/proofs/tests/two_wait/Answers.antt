use Rattle.std.proofs.Common.{◌≡◌, ℕ, ◌<◌, ◌∙◌, List, [], ◌∷◌, ap, sym, subst, rules, lit<}
use Rattle.std.specs.Prelude.{⊤}
use Rattle.iop_objects.specs.Objects.{no_objects, waiting}
use Rattle.iop_objects.specs.declared.objects.TheConstants.{MOST_WAITERS}
use Rattle.iop_objects.specs.declared.waiter.Waiter.{Waiter}
use Rattle.iop_queues.specs.declared.queued.Queued.{Queued}
use Rattle.iop_pools.specs.FixedPools.{FixedPools, creates, takes, waits}
use Rattle.iop_pools.specs.declared.range.Range.{Range}
use Rattle.iop_pools_tests.proofs.tests.two_wait.Goals as goal

abbrev HasRoom : FixedPools → Type 0
HasRoom s = waiting s < MOST_WAITERS

-- a pool of two blocks of 12 bytes
abbrev one_pool : List Range → List (Queued (Waiter ⊤)) → FixedPools
one_pool ranges waiters = record {
  live =
      record {
        id = 1;
        state = record {
          attr = 1;
          option = 7;
          base = 0x10000;
          size = 24;
          unit = 12;
          ranges = ranges;
        };
        waiters = waiters;
      }
      ∷ [];
  next = 2;
}

abbrev block : ℕ → Range
block start = record { start = start; size = 12 }

abbrev waiter : Queued (Waiter ⊤)
waiter = record { priority = 30; item = record { thread = 11; wants = tt } }

pub wait-requires-2-clause-room : goal.wait-requires-2-clause-room
wait-requires-2-clause-room c =
    let none : c.in_ok-pools.pools ≡ no_objects = search rules in
    let made : c.create.new.self ≡ one_pool [] [] =
    c.create.ensures.left ∙ ap (λ s. (creates s 1 7 10 2 0x10000).1) none in
    let first : c.take.new.self ≡ one_pool (block 0x10000 ∷ []) [] =
    c.take.ensures.left ∙ ap (λ s. (takes s 1).1) made in
    let second : c.take-2.new.self ≡ one_pool (block 0x10000 ∷ block 0x1000C ∷ []) [] =
    c.take-2.ensures.left ∙ ap (λ s. (takes s 1).1) first in
    let one : c.wait.new.self
    ≡ one_pool (block 0x10000 ∷ block 0x1000C ∷ []) (waiter ∷ []) =
    c.wait.ensures ∙ ap (λ s. waits s 1 11 30) second in
    subst HasRoom (sym one) (lit< tt)
