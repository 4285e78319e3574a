-- What each call keeps of a table of event flags that can be put back.
use Rattle.std.proofs.Common.{◌≡◌, ◌≢◌, ℕ, ◌<◌, ◌≤◌, ◌==◌, ◌&&◌, Bool, true, false, not, if◌then◌else◌, Option, Some, None, Result, Ok, Err, List, [], ◌∷◌, ◌++◌, length, refl, ◌∙◌, arith}
use Rattle.std.proofs.lemmas.Bool.{and_parts, cond_both, ne_eqb}
use Rattle.std.proofs.lemmas.Bool.Decides.{nat_tests}
use Rattle.std.proofs.lemmas.List.{length_push}
use Rattle.std.proofs.lemmas.List.Elements.{All-nil, All-push}
use Rattle.iop_base.specs.declared.code.Code.{Code}
use Rattle.iop_queues.specs.declared.queued.Queued.{Queued}
use Rattle.iop_objects.specs.Objects.{no_objects, state_of, waiters_of, waiting, with_state, takes_where}
use Rattle.iop_objects.specs.declared.objects.TheConstants.{MOST_WAITERS}
use Rattle.iop_objects.specs.declared.waiter.Waiter.{Waiter}
use Rattle.iop_objects.proofs.EachLeft.{all_of_each, each_of_all}
use Rattle.iop_objects.proofs.Holding as table
use Rattle.iop_objects.proofs.KeptApart.{keep_apart}
use Rattle.iop_objects.proofs.OtherWaiters.{AreLeft, all_others}
use Rattle.iop_event.specs.EventFlags.{EventFlags, is_attribute, is_taken, with_pattern, creates, deletes_it, sets_it, clears_it, tests_it, tests_on, meets_by, meets_it, waits}
use Rattle.iop_event.specs.Restoring.{asks_for_bits, IsSoundFlag, CanBeRestored, StayRestorable, EventFlagsStayRestorable}
use Rattle.iop_event.specs.WakeConditions.{holds, is_met, pattern_after}
use Rattle.iop_event.specs.declared.event_flag.EventFlag.{EventFlag}
use Rattle.iop_event.specs.declared.event_flag.TheConstants.{MANY_WAITERS}
use Rattle.iop_event.specs.declared.met.Met.{Met}
use Rattle.iop_event.specs.declared.wanted.Wanted.{Wanted}

-- a sound event flag, whatever its id is
abbrev Sound : EventFlag → List (Queued (Waiter Wanted)) → Type 0
Sound x ws = (id : ℕ) → IsSoundFlag (record { id = id; state = x; waiters = ws })

abbrev Asks : Queued (Waiter Wanted) → Type 0
Asks w = asks_for_bits w.item.wants ≡ true

fewer : (x : EventFlag) (old new : List (Queued (Waiter Wanted))) → AreLeft old new
    → Sound x old → Sound x new
fewer x old new left sound id = let o = sound id in record {
  attribute = o.attribute;
  asked = all_others (λ w. asks_for_bits w.wants ≡ true) old new left.none o.asked;
  alone = λ one. omega (arith, o.alone one, left.most);
}

-- with another pattern
patterned : (x : EventFlag) (pattern : ℕ) (ws : List (Queued (Waiter Wanted))) → Sound x ws
    → Sound (with_pattern x pattern) ws
patterned x pattern ws sound id = let o = sound id in
    record { attribute = o.attribute; asked = o.asked; alone = o.alone }

-- none waits for it
first : (x : EventFlag) → is_attribute x.attr ≡ true → Sound x []
first x attribute id =
    record { attribute = attribute; asked = All-nil Asks; alone = λ one. omega arith }

abbrev AreSound : EventFlags → Type 0
AreSound = table.Holds Sound

from_table : (s : EventFlags) → CanBeRestored s → AreSound s
from_table s r = record {
  objects = r.objects;
  each = each_of_all Sound s (λ k d below id. let o = r.flags k d below in
      record { attribute = o.attribute; asked = o.asked; alone = o.alone });
}

to_table : (s : EventFlags) → AreSound s → CanBeRestored s
to_table s h =
    let all = all_of_each Sound s h.objects.sound h.each in record {
      objects = h.objects;
      flags = λ k d below. let o = all k d below 0 in
          record { attribute = o.attribute; asked = o.asked; alone = o.alone };
    }

module _ (s : EventFlags) (r : CanBeRestored s) where
  h : AreSound s
  h = from_table s r

  created : (attr option bits : ℕ) → CanBeRestored (creates s attr option bits).1
  created attr option bits =
      cond_both (not (is_attribute attr)) _ _ (λ (t : Result ℕ Code × EventFlags). CanBeRestored t.1)
      (λ bad. r)
      (λ good.
      let attribute : is_attribute attr ≡ true = grind (arith, nat_tests, good) in
      let made : EventFlag =
      record { attr = attr; option = option; first = bits; pattern = bits } in
      to_table _ (table.of_creates Sound fewer s h made (first made attribute)))

  deleted : (id : ℕ) (o : Option EventFlag) → CanBeRestored (deletes_it s id o).1
  deleted id None = r
  deleted id (Some x) = to_table _ (table.of_deletes Sound fewer s h id)

  -- one has another pattern
  changed : (id : ℕ) (x : EventFlag) (pattern : ℕ) → state_of s id ≡ Some x
      → AreSound (with_state s id (with_pattern x pattern))
  changed id x pattern known =
      table.of_state Sound fewer s h id _ (patterned x pattern (waiters_of s id) (h.each id x known))

  set : (id bits : ℕ) (o : Option EventFlag) → state_of s id ≡ o
      → CanBeRestored (sets_it s id bits o).1
  set id bits None known = r
  set id bits (Some x) known = to_table _ (changed id x _ known)

  cleared : (id mask : ℕ) (o : Option EventFlag) → state_of s id ≡ o
      → CanBeRestored (clears_it s id mask o).1
  cleared id mask None known = r
  cleared id mask (Some x) known = to_table _ (changed id x _ known)

  tested_on : (id bits mode : ℕ) (x : EventFlag) → state_of s id ≡ Some x
      → CanBeRestored (tests_on s id bits mode x).1
  tested_on id bits mode x known =
      cond_both (holds bits mode x.pattern) _ _
      (λ (t : Result ℕ Code × EventFlags). CanBeRestored t.1)
      (λ yes. to_table _ (changed id x _ known)) (λ no. r)

  tested : (id bits mode : ℕ) (o : Option EventFlag) → state_of s id ≡ o
      → CanBeRestored (tests_it s id bits mode o).1
  tested id bits mode None known = r
  tested id bits mode (Some x) known =
      cond_both (bits == 0) _ _ (λ (t : Result ℕ Code × EventFlags). CanBeRestored t.1)
      (λ empty. r)
      (λ asked. cond_both (is_taken s id x) _ _
      (λ (t : Result ℕ Code × EventFlags). CanBeRestored t.1) (λ taken. r)
      (λ alone. tested_on id bits mode x known))

  -- one is met
  met_by : (id : ℕ) (x : EventFlag) → state_of s id ≡ Some x
      → (t : Option (Waiter Wanted) × EventFlags) → AreSound t.1
      → (state_of t.1 id ≡ Some x)
      → CanBeRestored (meets_by s id x t).1
  met_by id x known (None, left) are still = r
  met_by id x known (Some waiter, left) are still =
      to_table _ (table.of_state Sound fewer left are id _
      (patterned x _ (waiters_of left id) (are.each id x still)))

  met : (id : ℕ) (o : Option EventFlag) → state_of s id ≡ o → CanBeRestored (meets_it s id o).1
  met id None known = r
  met id (Some x) known =
      met_by id x known (takes_where s id (is_met x.pattern))
      (table.of_takes_where Sound fewer s h id (is_met x.pattern))
      (((keep_apart.calls s h.objects.sound).takes_where id (is_met x.pattern)).state ∙ known)

  waited : (id thread priority : ℕ) (wanted : Wanted) → waiting s < MOST_WAITERS
      → asks_for_bits wanted ≡ true
      → ((x : EventFlag) → state_of s id ≡ Some x → is_taken s id x ≡ false)
      → CanBeRestored (waits s id thread priority wanted)
  waited id thread priority wanted room asks free =
      let w : Queued (Waiter Wanted) =
      record { priority = priority; item = record { thread = thread; wants = wanted } } in
      to_table _ (table.of_waits Sound fewer s h id w room (λ x known sound n.
      let o = sound n in record {
        attribute = o.attribute;
        asked = All-push Asks (waiters_of s id) w o.asked asks;
        alone = λ one.
            let other : (x.attr == MANY_WAITERS) ≡ false = ne_eqb x.attr MANY_WAITERS one in
            let opened : is_taken s id x ≡ false = free x known in
            let none : length (waiters_of s id) ≡ 0 = grind (arith, nat_tests, other, opened) in
            omega (arith, none, length_push (waiters_of s id) w);
      }))

  stay : StayRestorable s
  stay = record {
    creates = created;
    deletes = λ id. deleted id (state_of s id);
    sets = λ id bits. set id bits (state_of s id) refl;
    clears = λ id mask. cleared id mask (state_of s id) refl;
    tests = λ id bits mode. tested id bits mode (state_of s id) refl;
    meets_next = λ id. met id (state_of s id) refl;
    waits = waited;
    takes_next = λ id. to_table _ (table.of_takes_next Sound fewer s h id false);
    drops = λ id thread. to_table _ (table.of_drops Sound fewer s h id thread);
    requeues = λ id thread priority.
        to_table _ (table.of_requeues Sound fewer s h id false thread priority);
    puts = λ id x may.
        let both = and_parts (is_attribute x.attr) _ may in
        to_table _ (table.of_puts Sound fewer s h id x both.1 (first x both.0));
    with_next = λ id may. to_table _ (table.of_next Sound fewer s h id may);
  }

pub stay_restorable : EventFlagsStayRestorable
stay_restorable = record { opening = to_table _ (table.of_none Sound); calls = stay }
