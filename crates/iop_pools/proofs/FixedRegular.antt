-- Fixed pools stay as they can stand.
use Rattle.std.proofs.Common.{◌≡◌, ℕ, ◌+◌, ◌*◌, ◌/◌, ◌%◌, ◌^◌, ◌<◌, ◌≤◌, ◌==◌, ◌&&◌, ◌||◌, not, nat_le, nat_lt, Bool, true, false, if◌then◌else◌, Option, Some, None, Result, Ok, Err, List, [], refl, ap, subst, sym, ◌∙◌, arith, mul-div_cancel, mul_comm}
use Rattle.std.specs.Prelude.{⊤}
use Rattle.std.specs.Int.{div_ceil}
use Rattle.std.proofs.Math.Nat.{mul-mod_left}
use Rattle.std.proofs.lemmas.Bool.{and_parts, and_from, cond_both, eq-eqb, le-leb, lt-ltb, ltb-true}
use Rattle.std.proofs.lemmas.Bool.Decides.{nat_tests}
use Rattle.iop_base.specs.declared.code.Code.{Code}
use Rattle.iop_base.specs.declared.code.TheConstants.Code.{ILLEGAL_ATTRIBUTE, ILLEGAL_BLOCK, ILLEGAL_SIZE}
use Rattle.iop_queues.specs.declared.queued.Queued.{Queued}
use Rattle.iop_objects.specs.Objects.{no_objects, state_of, waiting, takes_next}
use Rattle.iop_objects.specs.declared.objects.TheConstants.{MOST_WAITERS}
use Rattle.iop_objects.specs.declared.waiter.Waiter.{Waiter}
use Rattle.iop_objects.proofs.EachLeft.{all_of_each, each_of_all}
use Rattle.iop_objects.proofs.Holding as table
use Rattle.iop_pools.specs.BlockLaws.{AreInBlocks, StayInBlocks}
use Rattle.iop_pools.specs.FixedPools.{FixedPools, bytes, block_for, deletes_it, takes_it, taken, gives_it, gives_to, waits}
use Rattle.iop_pools.specs.FixedRestoring.{layout_of, layout_for, may_stand, AreRegular}
use Rattle.iop_pools.specs.Pools.{Pool, is_attribute, by_priority, takes_place}
use Rattle.iop_pools.specs.Ranges.{is_out}
use Rattle.iop_pools.specs.RegularLaws.{FixedStay}
use Rattle.iop_pools.specs.Restoring.{may_be_base}
use Rattle.iop_pools.specs.Standing.{pool_with, IsPool}
use Rattle.iop_pools.specs.declared.fixed_layout.FixedLayout.{FixedLayout}
use Rattle.iop_pools.specs.declared.fixed_pool.TheConstants.{FIXED_UNIT, MOST_BLOCK_BYTES, MOST_BLOCKS}
use Rattle.iop_pools.proofs.EachPool.{IsKept}
use Rattle.iop_pools.proofs.KeptPools.{pool_taken, pool_freed, pool_put}
use Rattle.iop_pools.proofs.RegularTables.{of_takes, of_freed, of_puts_range}
use Rattle.iop_pools.proofs.Rounding.{rounded_least}
use Rattle.iop_pools.proofs.Sizes.{fixed_units, fixed_stands}
use Rattle.iop_pools.proofs.UnitBlocks.{blocks_are_units}

-- a pool as it can stand, whichever blocks are out
pub record IsLaidOut (x : Pool) : Type 0 where
  pub sound : IsPool MOST_BLOCKS x
  pub layout : may_stand (layout_of x) ≡ true

abbrev LaidOut : Pool → List (Queued (Waiter ⊤)) → Type 0
LaidOut x ws = IsLaidOut x

kept : IsKept LaidOut
kept = record {
  fewer = λ x old new left is. is;
  taken = λ x ws size place some at is.
      record { sound = pool_taken MOST_BLOCKS x is.sound size place some at; layout = is.layout };
  freed = λ x ws block is.
      record { sound = pool_freed MOST_BLOCKS x is.sound block; layout = is.layout };
  put = λ x ws start size may is.
      record { sound = pool_put MOST_BLOCKS x is.sound start size may; layout = is.layout };
}

-- so is each of a table
abbrev AreSo : FixedPools → Type 0
AreSo = table.Holds LaidOut

from_table : (s : FixedPools) → AreRegular s → AreSo s
from_table s h = record {
  objects = h.objects;
  each = each_of_all LaidOut s (λ k d below. let o = h.pools k d below in
      record { sound = o.sound; layout = o.layout });
}

to_table : (s : FixedPools) → AreSo s → AreInBlocks s → AreRegular s
to_table s h blocks =
    let all = all_of_each LaidOut s h.objects.sound h.each in record {
      objects = h.objects;
      pools = λ k d below. let o = all k d below in
          record { sound = o.sound; layout = o.layout; blocks = blocks k d below };
    }

-- a size and a count that a pool can be made with
pub record CanBeMade (attr size count : ℕ) : Type 0 where
  pub attribute : is_attribute attr ≡ true
  pub some : 0 < size
  pub most : size ≤ MOST_BLOCK_BYTES
  pub blocks : 0 < count
  pub few : count ≤ MOST_BLOCKS

pub can_be_made : (attr size count length : ℕ) → bytes attr size count ≡ Ok length
    → CanBeMade attr size count
can_be_made attr size count length = by (is_attribute attr) bad refl refl
  where
    bad : Bool
    bad = size == 0 || nat_lt MOST_BLOCK_BYTES size || (count == 0 || nat_lt MOST_BLOCKS count)

    by : (a b : Bool) → is_attribute attr ≡ a → bad ≡ b
        → (if not a then Err ILLEGAL_ATTRIBUTE
        else if b then Err ILLEGAL_SIZE else Ok (block_for size * count)) ≡ Ok length
        → CanBeMade attr size count
    by false b is so e = cc
    by true true is so e = cc
    by true false is so e = record {
      attribute = is;
      some = grind (arith, nat_tests, so);
      most = grind (arith, nat_tests, so);
      blocks = grind (arith, nat_tests, so);
      few = grind (arith, nat_tests, so);
    }

module _ (attr option size count length base : ℕ) (sized : bytes attr size count ≡ Ok length)
    (starts : may_be_base base ≡ true) (ends : base + length < 2 ^ 32) where
  abbrev made : Pool
  made = record {
    attr = attr;
    option = option;
    base = base;
    size = block_for size * count;
    unit = block_for size;
    ranges = [];
  }

  pub made_so : IsLaidOut made
  made_so =
      let can = can_be_made attr size count length sized in
      let units = fixed_units attr size count length sized in
      let most = rounded_least FIXED_UNIT (omega arith) size (MOST_BLOCK_BYTES / FIXED_UNIT)
      (omega (arith, can.most)) in
      let end : base + block_for size * count < 2 ^ 32 = omega (arith, units.same, ends) in
      let number : block_for size * count / block_for size ≡ count =
      ap (λ n. n / block_for size) (mul_comm (block_for size) count)
      ∙ mul-div_cancel count units.some in
      record {
        sound = record {
          unit = units.some;
          units = units.units;
          size = units.size;
          few = units.few;
          inside = end;
          order = omega arith;
          placed = tt;
        };
        layout = subst (λ n. (is_attribute attr && may_be_base base && nat_lt 0 (block_for size)
            && nat_le (block_for size) MOST_BLOCK_BYTES && block_for size % FIXED_UNIT == 0
            && nat_lt 0 n && nat_le n MOST_BLOCKS
            && nat_lt (base + block_for size * n) (2 ^ 32)) ≡ true) (sym number)
            (and_from _ _ (and_from _ _ (and_from _ _ (and_from _ _ (and_from _ _ (and_from _ _
            (and_from _ _ can.attribute starts) (lt-ltb 0 (block_for size) units.some))
            (le-leb (block_for size) MOST_BLOCK_BYTES (omega (arith, most))))
            (eq-eqb _ _ (mul-mod_left (div_ceil size FIXED_UNIT) FIXED_UNIT)))
            (lt-ltb 0 count can.blocks)) (le-leb count MOST_BLOCKS can.few))
            (lt-ltb (base + block_for size * count) (2 ^ 32) end));
      }

-- one that is put back
put_so : (layout : FixedLayout) → may_stand layout ≡ true
    → IsLaidOut (pool_with (layout_for layout) [])
put_so layout may =
    let stands = ap (λ (b : Bool). if b then Some (layout_for layout) else None) may in
    let sound = fixed_stands layout (layout_for layout) (sym stands) in
    let number : layout.size * layout.count / layout.size ≡ layout.count =
    ap (λ n. n / layout.size) (mul_comm layout.size layout.count)
    ∙ mul-div_cancel layout.count sound.unit in
    record {
      sound = sound;
      layout = subst (λ n. may_stand (record layout { count = n }) ≡ true) (sym number) may;
    }

module _ (s : FixedPools) (r : AreRegular s) where
  h : AreSo s
  h = from_table s r

  blocks : StayInBlocks s
  blocks =
      blocks_are_units.calls s r.objects.sound (λ k d below. (r.pools k d below).sound)
      (λ k d below. (r.pools k d below).blocks)

  deleted : (id : ℕ) (o : Option Pool) → AreSo (deletes_it s id o).1
  deleted id None = h
  deleted id (Some x) = table.of_deletes LaidOut kept.fewer s h id

  after_taking : (t : Option ℕ × FixedPools) → AreSo t.1 → AreSo (taken s t).1
  after_taking (None, left) is = is
  after_taking (Some place, left) is = is

  took : (id : ℕ) (o : Option Pool) → state_of s id ≡ o → AreSo (takes_it s id o).1
  took id None known = h
  took id (Some x) known =
      after_taking (takes_place s id x.unit)
      (of_takes LaidOut kept s h id x.unit (h.each id x known).sound.unit)

  gave_to : (id block : ℕ) (x : Pool) → state_of s id ≡ Some x
      → (t : Option (Waiter ⊤) × FixedPools) → AreSo t.1 → AreSo (gives_to s id block x t).1
  gave_to id block x known (None, left) is = of_freed LaidOut kept s h id block x known
  gave_to id block x known (Some waiter, left) is = is

  gave : (id block : ℕ) (o : Option Pool) → state_of s id ≡ o → AreSo (gives_it s id block o).1
  gave id block None known = h
  gave id block (Some x) known =
      cond_both (is_out block x.ranges) (gives_to s id block x (takes_next s id (by_priority x)))
      (Err ILLEGAL_BLOCK, s) (λ (t : Result (Option ℕ) Code × FixedPools). AreSo t.1)
      (λ there. gave_to id block x known _
      (table.of_takes_next LaidOut kept.fewer s h id (by_priority x)))
      (λ none. h)

  waited : (id thread priority : ℕ) → waiting s < MOST_WAITERS
      → AreRegular (waits s id thread priority)
  waited id thread priority room =
      to_table _ (table.of_waits LaidOut kept.fewer s h id _ room (λ x known is. is))
      (blocks.waits id thread priority)

  stay : FixedStay s
  stay = record {
    creates = λ attr option size count length base sized starts ends.
        to_table _ (table.of_creates LaidOut kept.fewer s h _
        (made_so attr option size count length base sized starts ends))
        (blocks.creates attr option size count base);
    deletes = λ id. to_table _ (deleted id (state_of s id)) (blocks.deletes id);
    takes = λ id. to_table _ (took id (state_of s id) refl) (blocks.takes id);
    waits = waited;
    gives = λ id block.
        to_table _ (gave id block (state_of s id) refl) (blocks.gives id block);
    takes_next = λ id.
        to_table _ (table.of_takes_next LaidOut kept.fewer s h id _) (blocks.takes_next id);
    drops = λ id thread.
        to_table _ (table.of_drops LaidOut kept.fewer s h id thread) (blocks.drops id thread);
    requeues = λ id thread priority.
        to_table _ (table.of_requeues LaidOut kept.fewer s h id _ thread priority)
        (blocks.requeues id thread priority);
    puts = λ id layout may.
        let both = and_parts (may_stand layout) _ may in
        to_table _ (table.of_puts LaidOut kept.fewer s h id _ both.1 (put_so layout both.0))
        (blocks.puts id layout);
    puts_block = λ id block may.
        to_table _ (of_puts_range LaidOut kept s h id block _ may)
        (blocks.puts_block id block may);
    puts_waiter = λ id thread priority may.
        let room = and_parts _ (nat_lt (waiting s) MOST_WAITERS) may in
        waited id thread priority (ltb-true _ _ room.1);
    with_next = λ id may.
        to_table _ (table.of_next LaidOut kept.fewer s h id may) (blocks.with_next id);
  }

pub no_fixed : AreRegular no_objects
no_fixed = to_table _ (table.of_none LaidOut) blocks_are_units.opening

pub fixed_stay : (s : FixedPools) → AreRegular s → FixedStay s
fixed_stay s r = stay s r
