-- Each range that is out of a fixed pool stays one block.
use Rattle.std.proofs.Common.{◌≡◌, ℕ, ◌*◌, ◌<◌, ◌==◌, Bool, true, false, if◌then◌else◌, Option, Some, None, Result, Ok, Err, option_map, unwrap_or, List, [], ◌∷◌, ◌++◌, map, not, refl, ap, sym, subst, All, nat_lt, nat_eq}
use Rattle.std.specs.Prelude.{⊤}
use Rattle.std.proofs.lemmas.Bool.{eqb-true}
use Rattle.std.proofs.lemmas.List.Elements.{All-nil, All-cons, All-head, All-tail, All-push, All-weaker, All-filter}
use Rattle.iop_base.specs.declared.code.Code.{Code}
use Rattle.iop_base.specs.declared.code.TheConstants.Code.{NO_MEMORY, ILLEGAL_BLOCK}
use Rattle.iop_queues.specs.Queue.{Choice, chooses}
use Rattle.iop_queues.specs.declared.queued.Queued.{Queued}
use Rattle.iop_objects.specs.Objects as objects
use Rattle.iop_objects.specs.Objects.{Object, AreObjects, state_of, waiters_of, has_room, changes, with_waiters}
use Rattle.iop_objects.specs.Restoring.{with_last}
use Rattle.iop_objects.specs.declared.waiter.Waiter.{Waiter}
use Rattle.iop_pools.specs.BlockLaws.{AreInBlocks, StayInBlocks, BlocksAreUnits}
use Rattle.iop_pools.specs.FixedPools.{FixedPools, block_for, creates, deletes_it, takes_it, taken, gives_it, gives_to}
use Rattle.iop_pools.specs.FixedRestoring.{IsInBlocks, layout_for, block_size, puts_block}
use Rattle.iop_pools.specs.Pools.{Pool, by_priority, place_for, takes_at, takes_of, with_ranges}
use Rattle.iop_pools.specs.Ranges.{rounded, with_range, without, is_out}
use Rattle.iop_pools.specs.Restoring.{may_be_last, with_last_range}
use Rattle.iop_pools.specs.Standing.{pool_with, IsPool, ArePools}
use Rattle.iop_pools.specs.declared.fixed_pool.TheConstants.{MOST_BLOCKS}
use Rattle.iop_pools.specs.declared.range.Range.{Range}
use Rattle.iop_pools.proofs.Rounding.{one_unit}
use Rattle.iop_pools.proofs.Tables.{state_holds, one_alone}

abbrev Kept : Object Pool ⊤ → Type 0
Kept o = IsInBlocks o.state

module _ (unit : ℕ) where
  abbrev Is : Range → Type 0
  Is r = r.size ≡ unit

  with_range-kept : (r : Range) → Is r → (rs : List Range) → All Is rs → All Is (with_range r rs)
  with_range-kept r is [] all = All-cons Is r [] is all
  with_range-kept r is (x ∷ rs) all =
      by (nat_lt x.start r.start) (with_range-kept r is rs (All-tail Is x rs all))
    where
      by : (b : Bool) → All Is (with_range r rs)
          → All Is (if b then x ∷ with_range r rs else r ∷ x ∷ rs)
      by true later = All-cons Is x (with_range r rs) (All-head Is x rs all) later
      by false later = All-cons Is r (x ∷ rs) is all

  without-kept : (block : ℕ) (rs : List Range) → All Is rs → All Is (without block rs)
  without-kept block [] all = all
  without-kept block (x ∷ rs) all =
      by (nat_eq x.start block) (without-kept block rs (All-tail Is x rs all))
    where
      by : (b : Bool) → All Is (without block rs)
          → All Is (if b then rs else x ∷ without block rs)
      by true later = All-tail Is x rs all
      by false later = All-cons Is x (without block rs) (All-head Is x rs all) later

-- what changes one pool
changed : (s : FixedPools) (id : ℕ) (f : Object Pool ⊤ → Object Pool ⊤)
    → All (λ o. o.id ≡ id → Kept (f o)) s.live → AreInBlocks s → AreInBlocks (changes s id f)
changed s id f keeps all = each s.live keeps all
  where
    one : Object Pool ⊤ → Object Pool ⊤
    one o = if o.id == id then f o else o

    either : (o : Object Pool ⊤) (b : Bool) → (o.id == id) ≡ b → (o.id ≡ id → Kept (f o))
        → Kept o → Kept (if b then f o else o)
    either o true is keep kept = keep (eqb-true o.id id is)
    either o false is keep kept = kept

    each : (live : List (Object Pool ⊤)) → All (λ o. o.id ≡ id → Kept (f o)) live
        → All Kept live → All Kept (map one live)
    each [] keeps all = all
    each (o ∷ live) keeps all =
        All-cons Kept (one o) (map one live)
        (either o (o.id == id) refl (All-head (λ o. o.id ≡ id → Kept (f o)) o live keeps)
        (All-head Kept o live all))
        (each live (All-tail (λ o. o.id ≡ id → Kept (f o)) o live keeps)
        (All-tail Kept o live all))

module _ (s : FixedPools) (all : AreInBlocks s) where
  awaited : (id : ℕ) (waiters : List (Queued (Waiter ⊤))) → AreInBlocks (with_waiters s id waiters)
  awaited id waiters =
      changed s id (λ o. record o { waiters = waiters })
      (All-weaker Kept (λ o. o.id ≡ id → Kept o) (λ o kept own. kept) s.live all) all

  chosen : (id : ℕ) (c : Option (Choice (Waiter ⊤))) → AreInBlocks (objects.takes s id c).1
  chosen id None = all
  chosen id (Some c) = awaited id c.others

  with_new : (made : Object Pool ⊤) → Kept made → All Kept (s.live ++ made ∷ [])
  with_new made kept = All-push Kept s.live made all kept

  nothing_out : (x : Pool) → IsInBlocks (record x { ranges = [] })
  nothing_out x = All-nil (λ r. r.size ≡ x.unit)

  created : (attr option size count base : ℕ)
      → AreInBlocks (creates s attr option size count base).1
  created attr option size count base = by (has_room s)
    where
      made : Pool
      made = record {
        attr = attr;
        option = option;
        base = base;
        size = block_for size * count;
        unit = block_for size;
        ranges = [];
      }

      outcome : Bool → Result ℕ Code × FixedPools
      outcome b = if b then (Ok s.next, with_last s s.next made) else (Err NO_MEMORY, s)

      by : (b : Bool) → AreInBlocks (outcome b).1
      by true = with_new (record { id = s.next; state = made; waiters = [] }) (nothing_out made)
      by false = all

  deleted : (id : ℕ) (o : Option Pool) → AreInBlocks (deletes_it s id o).1
  deleted id None = all
  deleted id (Some x) = All-filter (λ o. not (o.id == id)) Kept s.live all

  -- a pool that is live, of which other ranges are out
  module _ (id : ℕ) (x : Pool) (live : state_of s id ≡ Some x) where
    own : IsInBlocks x
    own = state_holds IsInBlocks id s.live x live all

    with_kept : (ranges : List Range) → All (λ r. r.size ≡ x.unit) ranges
        → AreInBlocks (with_ranges s id x ranges)
    with_kept ranges kept =
        changed s id (λ o. record o { state = record x { ranges = ranges } })
        (All-weaker Kept (λ o. o.id ≡ id → All (λ r. r.size ≡ x.unit) ranges)
        (λ o was mine. kept) s.live all) all

    took : 0 < x.unit → (place : Option ℕ)
        → AreInBlocks (taken s (takes_at s id x.unit x place)).1
    took some None = all
    took some (Some place) =
        with_kept (with_range (record { start = place; size = rounded x.unit x.unit }) x.ranges)
        (with_range-kept x.unit _ (one_unit x.unit some) x.ranges own)

    abbrev given : (block : ℕ) → Bool → Option (Choice (Waiter ⊤))
        → Result (Option ℕ) Code × FixedPools
    given block out c =
        if out then gives_to s id block x (objects.takes s id c) else (Err ILLEGAL_BLOCK, s)

    gave : (block : ℕ) (out : Bool) (c : Option (Choice (Waiter ⊤)))
        → AreInBlocks (given block out c).1
    gave block false c = all
    gave block true None =
        with_kept (without block x.ranges) (without-kept x.unit block x.ranges own)
    gave block true (Some c) = awaited id c.others

    put : AreObjects s → (block : ℕ) → AreInBlocks (puts_block s id block)
    put are block =
        let size = block_size s id in
        let size_is : size ≡ x.unit =
        ap (λ (p : Option Pool). unwrap_or (option_map (λ y. y.unit) p) 0) live in
        let more : Range = record { start = block; size = size } in
        let add : Object Pool ⊤ → Object Pool ⊤ =
        λ o. record o { state = with_last_range block size o.state } in
        changed s id add
        (All-weaker (λ o. o.id ≡ id → o.state ≡ x) (λ o. o.id ≡ id → Kept (add o))
        (λ o same mine.
        subst (λ (y : Pool). All (λ r. r.size ≡ y.unit) (y.ranges ++ more ∷ [])) (sym (same mine))
        (All-push (λ r. r.size ≡ x.unit) x.ranges more own size_is))
        s.live (one_alone id s.live x are.ids live))
        all

  taken_by : ArePools MOST_BLOCKS s → (id : ℕ) (o : Option Pool) → state_of s id ≡ o
      → AreInBlocks (takes_it s id o).1
  taken_by pools id None is = all
  taken_by pools id (Some x) is =
      subst (λ (t : Option ℕ × FixedPools). AreInBlocks (taken s t).1)
      (sym (ap (takes_of s id x.unit) is))
      (took id x is (state_holds (IsPool MOST_BLOCKS) id s.live x is pools).unit
      (place_for x x.unit))

  given_by : (id block : ℕ) (o : Option Pool) → state_of s id ≡ o
      → AreInBlocks (gives_it s id block o).1
  given_by id block None is = all
  given_by id block (Some x) is =
      gave id x is block (is_out block x.ranges) (chooses (by_priority x) (waiters_of s id))

  put_by : AreObjects s → (id block : ℕ) (o : Option Pool) → state_of s id ≡ o
      → unwrap_or (option_map (may_be_last block (block_size s id)) o) false ≡ true
      → AreInBlocks (puts_block s id block)
  put_by are id block None is may = cc
  put_by are id block (Some x) is may = put id x is are block

  stay : AreObjects s → ArePools MOST_BLOCKS s → StayInBlocks s
  stay are pools = record {
    creates = created;
    deletes = λ id. deleted id (state_of s id);
    takes = λ id. taken_by pools id (state_of s id) refl;
    gives = λ id block. given_by id block (state_of s id) refl;
    waits = λ id thread priority. awaited id _;
    takes_next = λ id. chosen id _;
    drops = λ id thread. awaited id _;
    requeues = λ id thread priority. awaited id _;
    puts = λ id layout.
        with_new (record { id = id; state = pool_with (layout_for layout) []; waiters = [] })
        (nothing_out (pool_with (layout_for layout) []));
    puts_block = λ id block may. put_by are id block (state_of s id) refl may;
    with_next = λ id. all;
  }

pub blocks_are_units : BlocksAreUnits
blocks_are_units = record {
  opening = All-nil Kept;
  calls = λ s are pools all. stay s all are pools;
}
