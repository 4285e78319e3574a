-- Variable pools stay as they can stand.
use Rattle.std.proofs.Common.{◌≡◌, ℕ, ◌+◌, ◌*◌, ◌%◌, ◌^◌, ◌<◌, ◌≤◌, ◌==◌, ◌||◌, not, nat_lt, Bool, true, false, if◌then◌else◌, Option, Some, None, option_map, unwrap_or, Result, Ok, Err, List, [], refl, ap, subst, sym, ◌∙◌, arith}
use Rattle.std.specs.Int.{div_ceil}
use Rattle.std.proofs.Math.Nat.{mul-mod_left}
use Rattle.std.proofs.lemmas.Bool.{and_parts, and_from, cond_both, eq-eqb, le-leb, lt-ltb, ltb-true}
use Rattle.std.proofs.lemmas.Bool.Decides.{nat_tests}
use Rattle.std.proofs.lemmas.List.Elements.{All-nil, All-push}
use Rattle.iop_base.specs.declared.code.Code.{Code}
use Rattle.iop_base.specs.declared.code.TheConstants.Code.{ILLEGAL_ATTRIBUTE, ILLEGAL_SIZE}
use Rattle.iop_queues.specs.declared.queued.Queued.{Queued}
use Rattle.iop_objects.specs.Objects.{no_objects, state_of, waiters_of, waiting, with_waiters, waits}
use Rattle.iop_objects.specs.Restoring.{may_wait}
use Rattle.iop_objects.specs.declared.objects.TheConstants.{MOST_WAITERS}
use Rattle.iop_objects.specs.declared.waiter.Waiter.{Waiter}
use Rattle.iop_objects.proofs.Changes.{state_of-with_waiters}
use Rattle.iop_objects.proofs.EachLeft.{all_of_each, each_of_all}
use Rattle.iop_objects.proofs.OtherWaiters.{all_others, left_taken}
use Rattle.iop_objects.proofs.Holding as table
use Rattle.iop_pools.specs.Pools.{Pool, is_attribute, takes_place}
use Rattle.iop_pools.specs.RegularLaws.{IsRoundedAlike, VariableStay}
use Rattle.iop_pools.specs.Restoring.{may_be_base, holds_of}
use Rattle.iop_pools.specs.Standing.{pool_with, IsPool}
use Rattle.iop_pools.specs.VariablePools.{VariablePools, bytes, pool_length, deletes_it, takes_it, taken, given, meets_next}
use Rattle.iop_pools.specs.VariableRestoring.{layout_for, may_stand, may_be_wanted, IsRegular, AreRegular}
use Rattle.iop_pools.specs.declared.met.Met.{Met}
use Rattle.iop_pools.specs.declared.variable_layout.VariableLayout.{VariableLayout}
use Rattle.iop_pools.specs.declared.variable_pool.TheConstants.{VARIABLE_UNIT, LEAST_BYTES, MOST_BYTES, MOST_RANGES}
use Rattle.iop_pools.proofs.EachPool.{IsKept}
use Rattle.iop_pools.proofs.KeptPools.{pool_taken, pool_freed, pool_put}
use Rattle.iop_pools.proofs.MetNext.{met_next, unmet}
use Rattle.iop_pools.proofs.RegularTables.{of_takes, of_frees, of_puts_range}
use Rattle.iop_pools.proofs.Rounding.{rounded_up, rounded_least, rounded_length, rounded_place}
use Rattle.iop_pools.proofs.Sizes.{variable_units, variable_stands}
use Rattle.iop_pools.proofs.Taking.{ceil_some}

-- a pool as it can stand, whatever its id is
abbrev Regular : Pool → List (Queued (Waiter ℕ)) → Type 0
Regular x ws = (id : ℕ) → IsRegular (record { id = id; state = x; waiters = ws })

abbrev Wanted : Pool → Queued (Waiter ℕ) → Type 0
Wanted x w = may_be_wanted w.item.wants x ≡ true

kept : IsKept Regular
kept = record {
  fewer = λ x old new left is id. let o = is id in record {
    sound = o.sound;
    unit = o.unit;
    layout = o.layout;
    waiters = all_others (λ w. may_be_wanted w.wants x ≡ true) old new left.none o.waiters;
  };
  taken = λ x ws size place some at is id. let o = is id in record {
    sound = pool_taken MOST_RANGES x o.sound size place some at;
    unit = o.unit;
    layout = o.layout;
    waiters = o.waiters;
  };
  freed = λ x ws block is id. let o = is id in record {
    sound = pool_freed MOST_RANGES x o.sound block;
    unit = o.unit;
    layout = o.layout;
    waiters = o.waiters;
  };
  put = λ x ws start size may is id. let o = is id in record {
    sound = pool_put MOST_RANGES x o.sound start size may;
    unit = o.unit;
    layout = o.layout;
    waiters = o.waiters;
  };
}

-- so is each of a table
abbrev AreSo : VariablePools → Type 0
AreSo = table.Holds Regular

from_table : (s : VariablePools) → AreRegular s → AreSo s
from_table s h = record {
  objects = h.objects;
  each = each_of_all Regular s (λ k d below id. let o = h.pools k d below in record {
    sound = o.sound;
    unit = o.unit;
    layout = o.layout;
    waiters = o.waiters;
  });
}

to_table : (s : VariablePools) → AreSo s → AreRegular s
to_table s h =
    let all = all_of_each Regular s h.objects.sound h.each in
    record {
      objects = h.objects;
      pools = λ k d below. let o = all k d below 0 in record {
        sound = o.sound;
        unit = o.unit;
        layout = o.layout;
        waiters = o.waiters;
      };
    }

-- a size that a pool can be made with
can_be_made : (attr size length : ℕ) → bytes attr size ≡ Ok length
    → (is_attribute attr ≡ true) × ((LEAST_BYTES ≤ size) × (size ≤ MOST_BYTES))
can_be_made attr size length =
    by (is_attribute attr) (nat_lt size LEAST_BYTES || nat_lt MOST_BYTES size) refl refl
  where
    by : (a b : Bool) → is_attribute attr ≡ a
        → (nat_lt size LEAST_BYTES || nat_lt MOST_BYTES size) ≡ b
        → (if not a then Err ILLEGAL_ATTRIBUTE
        else if b then Err ILLEGAL_SIZE else Ok (pool_length size)) ≡ Ok length
        → (is_attribute attr ≡ true) × ((LEAST_BYTES ≤ size) × (size ≤ MOST_BYTES))
    by false b is bad e = cc
    by true true is bad e = cc
    by true false is bad e = (is, (grind (arith, nat_tests, bad), grind (arith, nat_tests, bad)))

whole_units : (size : ℕ) → pool_length size % VARIABLE_UNIT ≡ 0
whole_units size = mul-mod_left (div_ceil size VARIABLE_UNIT) VARIABLE_UNIT

module _ (attr option size length base : ℕ) (sized : bytes attr size ≡ Ok length)
    (starts : may_be_base base ≡ true) (ends : base + length < 2 ^ 32) where
  abbrev made : Pool
  made = record {
    attr = attr;
    option = option;
    base = base;
    size = pool_length size;
    unit = VARIABLE_UNIT;
    ranges = [];
  }

  made_so : Regular made []
  made_so id =
      let can = can_be_made attr size length sized in
      let units = variable_units attr size length sized in
      let up = rounded_up VARIABLE_UNIT (omega arith) size in
      let most = rounded_least VARIABLE_UNIT (omega arith) size MOST_RANGES
      (omega (arith, can.1.1)) in
      let end : base + pool_length size < 2 ^ 32 = omega (arith, units.same, ends) in
      record {
        sound = record {
          unit = units.some;
          units = units.units;
          size = units.size;
          few = units.few;
          inside = end;
          order = omega arith;
          placed = tt;
        };
        unit = refl;
        layout = and_from _ _ (and_from _ _ (and_from _ _ (and_from _ _ (and_from _ _ can.0 starts)
            (le-leb LEAST_BYTES (pool_length size) (omega (arith, up, can.1.0))))
            (le-leb (pool_length size) MOST_BYTES (omega (arith, most))))
            (eq-eqb _ _ (whole_units size)))
            (lt-ltb (base + pool_length size) (2 ^ 32) end);
        waiters = All-nil (Wanted made);
      }

-- a size for which a thread may wait
wanted : (x : Pool) (size : ℕ) → IsPool MOST_RANGES x → x.unit ≡ VARIABLE_UNIT → 0 < size
    → size ≤ x.size → may_be_wanted (pool_length size) x ≡ true
wanted x size sound unit some within =
    let many : 1 ≤ div_ceil size VARIABLE_UNIT = ceil_some size VARIABLE_UNIT some in
    let whole : x.size ≡ sound.units * VARIABLE_UNIT =
    subst (λ n. x.size ≡ sound.units * n) unit sound.size in
    let most = rounded_least VARIABLE_UNIT (omega arith) size sound.units
    (omega (arith, within, whole)) in
    and_from _ _ (and_from _ _ (le-leb VARIABLE_UNIT (pool_length size) (omega (arith, many)))
    (eq-eqb _ _ (whole_units size)))
    (le-leb (pool_length size) x.size (omega (arith, most, whole)))

module _ (s : VariablePools) (r : AreRegular s) where
  h : AreSo s
  h = from_table s r

  deleted : (id : ℕ) (o : Option Pool) → AreRegular (deletes_it s id o).1
  deleted id None = r
  deleted id (Some x) = to_table _ (table.of_deletes Regular kept.fewer s h id)

  after_taking : (t : Option ℕ × VariablePools) → AreRegular t.1 → AreRegular (taken s t).1
  after_taking (None, left) is = is
  after_taking (Some place, left) is = is

  took : (id size : ℕ) (o : Option Pool) → AreRegular (takes_it s id size o).1
  took id size None = r
  took id size (Some x) =
      cond_both (size == 0 || nat_lt x.size size) _ (taken s (takes_place s id size))
      (λ (t : Result ℕ Code × VariablePools). AreRegular t.1) (λ illegal. r)
      (λ legal. after_taking (takes_place s id size)
      (to_table _ (of_takes Regular kept s h id size (grind (arith, nat_tests, legal)))))

  after_giving : (t : Option Bool × VariablePools) → AreRegular t.1 → AreRegular (given s t).1
  after_giving (None, left) is = is
  after_giving (Some was_out, left) is = is

  -- one more waits, for what it may
  waited : (id : ℕ) (w : Queued (Waiter ℕ)) → waiting s < MOST_WAITERS
      → ((x : Pool) → state_of s id ≡ Some x → IsPool MOST_RANGES x → x.unit ≡ VARIABLE_UNIT
      → Wanted x w)
      → AreRegular (waits s id w)
  waited id w room may =
      to_table _ (table.of_waits Regular kept.fewer s h id w room (λ x known is n.
      let o = is n in record {
        sound = o.sound;
        unit = o.unit;
        layout = o.layout;
        waiters = All-push (Wanted x) (waiters_of s id) w o.waiters
            (may x known o.sound o.unit);
      }))

  -- a thread is met
  meets : (id : ℕ) (o : Option Met) → (meets_next s id).0 ≡ o → AreRegular (meets_next s id).1
  meets id None is = subst AreRegular (sym (unmet s id is)) r
  meets id (Some met) is =
      let left = (meets_next s id).1 in
      let m = met_next s id met left (ap (λ (o : Option Met). (o, left)) is) in
      let rest = with_waiters s id m.one.others in
      let so : AreSo rest =
      table.of_left Regular kept.fewer s h id m.one.others (left_taken m.taken) in
      let known = state_of-with_waiters s id m.x m.known m.one.others in
      let some = m.some in
      subst AreRegular (sym m.leaves) (to_table _ (table.of_state Regular kept.fewer rest so id _
      (kept.taken m.x (waiters_of rest id) m.one.one.item.wants met.block
      (grind (arith, nat_tests, some)) m.place (so.each id m.x known))))

  -- what is put back
  put : (id : ℕ) (layout : VariableLayout) → may_stand layout ≡ true
      → Regular (pool_with (layout_for layout) []) []
  put id layout may n =
      let stands = ap (λ (b : Bool). if b then Some (layout_for layout) else None) may in
      record {
        sound = variable_stands layout (layout_for layout) (sym stands);
        unit = refl;
        layout = may;
        waiters = All-nil (Wanted (pool_with (layout_for layout) []));
      }

  stay : VariableStay s
  stay = record {
    creates = λ attr option size length base sized starts ends.
        to_table _ (table.of_creates Regular kept.fewer s h _
        (made_so attr option size length base sized starts ends));
    deletes = λ id. deleted id (state_of s id);
    takes = λ id size. took id size (state_of s id);
    waits = λ id thread priority size room some within.
        waited id _ room (λ x known sound unit. wanted x size sound unit some (within x known));
    gives = λ id block. after_giving _ (to_table _ (of_frees Regular kept s h id block));
    meets_next = λ id. meets id (meets_next s id).0 refl;
    takes_next = λ id. to_table _ (table.of_takes_next Regular kept.fewer s h id _);
    drops = λ id thread. to_table _ (table.of_drops Regular kept.fewer s h id thread);
    requeues = λ id thread priority.
        to_table _ (table.of_requeues Regular kept.fewer s h id _ thread priority);
    puts = λ id layout may.
        let both = and_parts (may_stand layout) _ may in
        to_table _ (table.of_puts Regular kept.fewer s h id _ both.1 (put id layout both.0));
    puts_range = λ id start size may.
        to_table _ (of_puts_range Regular kept s h id start size may);
    puts_waiter = λ id thread priority size may.
        let both = and_parts (holds_of s id (may_be_wanted size)) (may_wait s id) may in
        let room = and_parts _ (nat_lt (waiting s) MOST_WAITERS) both.1 in
        waited id _ (ltb-true _ _ room.1) (λ x known sound unit.
        sym (ap (λ (p : Option Pool). unwrap_or (option_map (may_be_wanted size) p) false) known)
        ∙ both.0);
    with_next = λ id may. to_table _ (table.of_next Regular kept.fewer s h id may);
  }

  rounded : (id size : ℕ) (x : Pool) → state_of s id ≡ Some x → IsRoundedAlike x size
  rounded id size x known =
      let unit = (h.each id x known 0).unit in
      record { length = rounded_length x unit size; place = rounded_place x unit size }

pub no_variable : AreRegular no_objects
no_variable = to_table _ (table.of_none Regular)

pub variable_stay : (s : VariablePools) → AreRegular s → VariableStay s
variable_stay s r = stay s r

pub rounded_alike : (s : VariablePools) → AreRegular s → (id size : ℕ) (x : Pool)
    → state_of s id ≡ Some x → IsRoundedAlike x size
rounded_alike s r = rounded s r
