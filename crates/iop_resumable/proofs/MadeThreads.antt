-- Threads stay such as calls make them, in RAM of so many bytes.
use Rattle.std.proofs.Common.{◌≡◌, ℕ, ◌+◌, ◌/◌, ◌%◌, ◌^◌, ◌<◌, ◌≤◌, ◌==◌, ◌&&◌, nat_le, Bool, true, false, if◌then◌else◌, is_some, Option, Some, None, option_map, List, [], ◌∷◌, ◌++◌, All, refl, sym, subst, arith}
use Rattle.std.specs.Option.{option_or}
use Rattle.std.proofs.Math.Nat.{min-le_right, mul-mod_left}
use Rattle.std.proofs.lemmas.Bool.{and_parts, and_from, cond_both, eq-eqb, le-leb, lt-ltb, leb-true}
use Rattle.std.proofs.lemmas.Bool.Decides.{nat_tests}
use Rattle.std.proofs.lemmas.List.Elements.{All-nil, All-cons, All-contains, All-push}
use Rattle.std.proofs.lemmas.List.Folds.{find-append}
use Rattle.iop_base.specs.BlockSizes.{block_len}
use Rattle.iop_base.specs.Places.{range_at}
use Rattle.iop_base.specs.declared.blocks.TheConstants.{BLOCK_UNIT}
use Rattle.iop_exec.specs.Row.{reg}
use Rattle.iop_kernel.specs.Placing.{IsPlaced}
use Rattle.iop_kernel.specs.System.{System}
use Rattle.iop_kernel.specs.declared.stacks.TheConstants.{FROM_ABOVE}
use Rattle.iop_saved_checks.specs.Made.{is_loaders, is_created, has_stack, thread_can_be, threads_can_be}
use Rattle.iop_saved_checks.proofs.Lists.{each_is, all_pass}
use Rattle.iop_pools.specs.declared.layout.TheConstants.{FIRST_BASE}
use Rattle.iop_sysmem.specs.BlockMap.{AreBlocks}
use Rattle.iop_sysmem.specs.declared.blocks.TheConstants.{KERNEL}
use Rattle.iop_thread.specs.Operations.{dormant_thread, opening}
use Rattle.iop_thread.specs.ThreadTable.{ThreadTable, thread_of}
use Rattle.iop_thread.specs.declared.thread.Thread.{Thread}
use Rattle.iop_thread.specs.declared.thread.TheConstants.{LOADER, LOADER_STACK, LOADER_STACK_SIZE, MOST_WAKEUPS}
use Rattle.iop_thread.proofs.LiveThreads.{changed, without_thread, thread_of_changed, thread_of_without, thread_of_id, thread_of_is_live}
use Rattle.iop_resumable.proofs.AskedThreads.{CanMake}
use Rattle.iop_resumable.proofs.LiveThreads.{OneStays, Stays, each_stays}
use Rattle.iop_resumable.proofs.TakenBlocks.{IsTaken, block_taken, range_there}

abbrev pub IsThere : List Thread → Type 0
IsThere live = is_some (thread_of live LOADER) ≡ true

-- the loader's thread stays there where another changes, goes or comes
there_changed : (live : List Thread) (t : Thread) → IsThere live → IsThere (changed t live)
there_changed live t there =
    subst (λ (o : Option Thread). is_some o ≡ true) (sym (thread_of_changed live t LOADER))
    (cond_both (LOADER == t.id) (option_map (λ u. t) (thread_of live LOADER))
    (thread_of live LOADER) (λ (o : Option Thread). is_some o ≡ true)
    (λ it. mapped (thread_of live LOADER) there) (λ other. there))
  where
    mapped : (o : Option Thread) → is_some o ≡ true → is_some (option_map (λ u. t) o) ≡ true
    mapped None is = absurd (cc is)
    mapped (Some u) is = refl

there_without : (live : List Thread) (id : ℕ) → (id == LOADER) ≡ false → IsThere live
    → IsThere (without_thread id live)
there_without live id other there =
    let apart : (LOADER == id) ≡ false = grind (arith, nat_tests, other) in
    subst (λ (o : Option Thread). is_some o ≡ true) (sym (thread_of_without live id LOADER))
    (subst (λ (b : Bool). is_some (if b then None else thread_of live LOADER) ≡ true) (sym apart)
    there)

there_added : (live : List Thread) (t : Thread) → IsThere live → IsThere (live ++ t ∷ [])
there_added live t there =
    subst (λ (o : Option Thread). is_some o ≡ true)
    (sym (find-append (λ (u : Thread). u.id == LOADER) live (t ∷ [])))
    (first (thread_of live LOADER) (thread_of (t ∷ []) LOADER) there)
  where
    first : (o p : Option Thread) → is_some o ≡ true → is_some (option_or o p) ≡ true
    first None p is = absurd (cc is)
    first (Some u) p is = refl

module _ (size : ℕ) where
  abbrev pub CanBe : Thread → Type 0
  CanBe t = thread_can_be size t ≡ true

  -- the loader's thread is there, and each is so
  pub record HaveBeenMade (live : List Thread) : Type 0 where
    pub loader : IsThere live
    pub each : All CanBe live

  -- the two parts of the test: what does not change, and the wakeups
  abbrev fixed : Thread → Bool
  fixed t = (if t.id == LOADER then is_loaders t else is_created t) && has_stack size t

  woken : (t : Thread) (wakeups : ℕ) → wakeups ≤ MOST_WAKEUPS → CanBe t
      → CanBe (record t { wakeups = wakeups })
  woken t wakeups few is =
      and_from _ _ (and_parts (fixed t) (nat_le t.wakeups MOST_WAKEUPS) is).0
      (le-leb wakeups MOST_WAKEUPS few)

  few_wakeups : (t : Thread) → CanBe t → t.wakeups ≤ MOST_WAKEUPS
  few_wakeups t is =
      leb-true t.wakeups MOST_WAKEUPS
      (and_parts (fixed t) (nat_le t.wakeups MOST_WAKEUPS) is).1

  one_stays : OneStays CanBe
  one_stays = record {
    in_state = λ t state is. is;
    starts = λ t state is. woken t 0 (omega arith) is;
    wakes_more = λ t is. woken t _ (min-le_right (t.wakeups + 1) MOST_WAKEUPS) is;
    wakes_less = λ t wakeups less is. woken t wakeups (omega (arith, less, few_wakeups t is)) is;
    changes = λ t priority given is. is;
  }

  pub stays : Stays HaveBeenMade CanBe
  stays =
      let all_stay = each_stays CanBe one_stays in record {
        one = one_stays;
        each = λ live id t made is. all_stay.each live id t made.each is;
        replaces = λ live t made is. record {
          loader = there_changed live t made.loader;
          each = all_stay.replaces live t made.each is;
        };
        loses = λ live id other made. record {
          loader = there_without live id other made.loader;
          each = all_stay.loses live id other made.each;
        };
      }

  -- by the test of a table
  pub have_been : (s : ThreadTable) → threads_can_be size s ≡ true → HaveBeenMade s.live
  unfolding threads_can_be
  have_been s h =
      let parts = and_parts _ _ h in record {
        loader = parts.0;
        each = each_is (thread_can_be size) CanBe (λ t is. is) s.live parts.1;
      }

  pub can_be : (s : ThreadTable) → HaveBeenMade s.live → threads_can_be size s ≡ true
  unfolding threads_can_be
  can_be s h =
      and_from _ _ h.loader (all_pass (thread_can_be size) CanBe (λ t is. is) s.live h.each)

  -- at first the loader's thread is there alone
  pub first_made : KERNEL.size ≤ size → HaveBeenMade opening.live
  first_made large = record {
    loader = refl;
    each = All-cons CanBe _ []
        (and_from _ _ (and_from _ _ refl (and_from _ _ refl inside)) refl)
        (All-nil CanBe);
  }
    where
      inside : is_some (range_at size LOADER_STACK LOADER_STACK_SIZE) ≡ true
      inside = range_there size LOADER_STACK LOADER_STACK_SIZE (omega arith) (omega arith) large

module _ (s : System) (blocks : AreBlocks s.blocks) (small : s.blocks.size ≤ 2 ^ 29)
    (placed : IsPlaced s.core.kernel)
    (h : HaveBeenMade s.blocks.size s.core.kernel.threads.live) where
  abbrev live : List Thread
  live = s.core.kernel.threads.live

  abbrev next : ℕ
  next = s.core.kernel.threads.next

  -- the loader's id is not given again
  later : LOADER < next
  later = by (thread_of live LOADER) refl h.loader
    where
      by : (o : Option Thread) → thread_of live LOADER ≡ o → is_some o ≡ true → LOADER < next
      by None found there = absurd (cc there)
      by (Some t) found there =
          let own = thread_of_id live LOADER t found in
          let given = All-contains (λ (u : Thread). u.id < next) live t placed.threads.ids.given
          (thread_of_is_live live LOADER t found) in
          omega (arith, own, given)

  pub threads_made : CanMake (HaveBeenMade s.blocks.size) s
  threads_made param stack left asked is some room = record {
    loader = there_added live made h.loader;
    each = All-push (CanBe s.blocks.size) live made h.each
        (and_from _ _ (and_from _ _ fields stands) refl);
  }
    where
      made : Thread
      made =
          dormant_thread next (record param { stack_size = block_len param.stack_size }) stack
          (reg s.core.cpu 28)

      taken : IsTaken s.blocks param.stack_size stack
      taken = block_taken s.blocks left FROM_ABOVE param.stack_size stack blocks is some

      fields : (if next == LOADER then is_loaders made else is_created made) ≡ true
      fields =
          let apart : (next == LOADER) ≡ false = grind (arith, nat_tests, later) in
          let begins = and_parts (nat_le FIRST_BASE stack) (stack % BLOCK_UNIT == 0) taken.starts in
          subst (λ (b : Bool). (if b then is_loaders made else is_created made) ≡ true)
          (sym apart) (and_from _ _ (and_from _ _ asked.attribute asked.entry) begins.0)

      stands : has_stack s.blocks.size made ≡ true
      stands =
          let len = block_len param.stack_size in
          let begins = and_parts (nat_le FIRST_BASE stack) (stack % BLOCK_UNIT == 0) taken.starts in
          and_from _ _ (and_from _ _ (and_from _ _ begins.1
          (eq-eqb (len % BLOCK_UNIT) 0
          (mul-mod_left ((param.stack_size + 255) / BLOCK_UNIT) BLOCK_UNIT)))
          (lt-ltb 0 len (omega (arith, asked.size))))
          (range_there s.blocks.size stack len (omega (arith, small, taken.ends, asked.size))
          (omega (arith, asked.size)) taken.ends)
