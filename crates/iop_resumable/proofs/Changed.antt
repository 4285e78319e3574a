-- Objects stay sound when what is known of one changes, as the services of its kind change it.
use Rattle.std.proofs.Common.{◌≡◌, ℕ, ◌+◌, ◌-◌, ◌≤◌, nat_le, nat_lt, nat_eq, Bool, true, false, if◌then◌else◌, List, [], ◌∷◌, ◌++◌, All, subst, sym, arith}
use Rattle.std.proofs.lemmas.Bool.{and_parts, and_from, le-leb, leb-true, ltb-true}
use Rattle.std.proofs.lemmas.Bool.Decides.{nat_tests}
use Rattle.std.proofs.lemmas.List.{length_push}
use Rattle.std.proofs.lemmas.List.Elements.{All-nil, All-cons, All-head, All-tail, All-push}
use Rattle.std.specs.Prelude.{⊤}
use Rattle.iop_event.specs.EventFlags.{with_pattern}
use Rattle.iop_event.specs.Restoring.{asks_for_bits}
use Rattle.iop_event.specs.declared.event_flag.EventFlag.{EventFlag as Flag}
use Rattle.iop_kernel.specs.Kinds.{State, Table}
use Rattle.iop_kernel.proofs.Walk.Changes.{IsFirst, Changes}
use Rattle.iop_kernel.proofs.Walk.Changes.FixedChanges.{takes as takes_block, gives}
use Rattle.iop_kernel.proofs.Walk.Changes.FlagChanges.{clears, tests}
use Rattle.iop_kernel.proofs.Walk.Changes.MailboxChanges.{puts, gets}
use Rattle.iop_kernel.proofs.Walk.Changes.SemaphoreChanges.{counts, takes as takes_count}
use Rattle.iop_kernel.proofs.Walk.Changes.VariableChanges.{takes}
use Rattle.iop_mbx.specs.Mailboxes.{Mailbox as Box, messages_by_priority, with_messages, message_count}
use Rattle.iop_mbx.specs.Restoring.{can_have}
use Rattle.iop_mbx.specs.declared.mailboxes.TheConstants.{MOST_MESSAGES}
use Rattle.iop_objects.proofs.Chosen.{taken_by, all_but_taken, fewer_others}
use Rattle.iop_pools.specs.Ranges.{with_range, without}
use Rattle.iop_pools.specs.declared.fixed_pool.TheConstants.{MOST_BLOCKS}
use Rattle.iop_pools.specs.declared.range.Range.{Range}
use Rattle.iop_pools.specs.declared.variable_pool.TheConstants.{MOST_RANGES}
use Rattle.iop_pools.proofs.KeptPools.{pool_taken, pool_freed}
use Rattle.iop_pools.proofs.Rounding.{one_unit}
use Rattle.iop_queues.specs.declared.queued.Queued.{Queued}
use Rattle.iop_sema.specs.Restoring.{is_sound}
use Rattle.iop_sema.specs.Semaphores.{with_count}
use Rattle.iop_sema.specs.declared.semaphore.Semaphore.{Semaphore as Sema}
use Rattle.iop_thread.specs.declared.kind.Kind.{Kind}
use Rattle.iop_thread.specs.declared.kind.Kind.TheVariants.{Semaphore, EventFlag, Mailbox, VariablePool, FixedPool}
use Rattle.iop_resumable.proofs.Sound.{Waiting, Sound}
use Rattle.iop_resumable.proofs.Standing.{HasMore, IsEmpty, IsFew}

-- a semaphore has another count
counted : (x : Sema) (count : ℕ) → is_sound x ≡ true → count ≤ x.max
    → is_sound (with_count x count) ≡ true
counted x count sound within =
    let both = and_parts _ (nat_le x.count x.max) sound in
    and_from _ _ both.0 (le-leb count x.max within)

-- its count is within what is allowed
within : (x : Sema) → is_sound x ≡ true → x.count ≤ x.max
within x sound = leb-true x.count x.max (and_parts _ (nat_le x.count x.max) sound).1

-- an event flag has another pattern
pub patterned : (x : Flag) (pattern : ℕ) (ws : Waiting EventFlag) → Sound EventFlag x ws
    → Sound EventFlag (with_pattern x pattern) ws
patterned x pattern ws sound =
    record { attribute = sound.attribute; asked = sound.asked; alone = sound.alone }

-- a message is put into a mailbox that can have it
pub put : (x : Box) (message : Queued ℕ) (ws : Waiting Mailbox)
    → can_have x.attr message.priority ≡ true → Sound Mailbox x ws
    → Sound Mailbox (with_messages x (x.messages ++ message ∷ [])) ws
put x message ws can sound = record {
  attribute = sound.attribute;
  messages = All-push (λ m. can_have x.attr m.priority ≡ true) x.messages message
      sound.messages can;
}

-- ranges of one unit
module _ (unit : ℕ) where
  abbrev Is : Range → Type 0
  Is r = r.size ≡ unit

  with_one : (r : Range) → Is r → (rs : List Range) → All Is rs → All Is (with_range r rs)
  with_one r is [] all = All-cons Is r [] is all
  with_one r is (x ∷ rs) all =
      by (nat_lt x.start r.start) (with_one r is rs (All-tail Is x rs all))
    where
      by : (b : Bool) → All Is (with_range r rs)
          → All Is (if b then x ∷ with_range r rs else r ∷ x ∷ rs)
      by true later = All-cons Is x (with_range r rs) (All-head Is x rs all) later
      by false later = All-cons Is r (x ∷ rs) is all

  without_one : (block : ℕ) (rs : List Range) → All Is rs → All Is (without block rs)
  without_one block [] all = all
  without_one block (x ∷ rs) all =
      by (nat_eq x.start block) (without_one block rs (All-tail Is x rs all))
    where
      by : (b : Bool) → All Is (without block rs)
          → All Is (if b then rs else x ∷ without block rs)
      by true later = All-tail Is x rs all
      by false later = All-cons Is x (without block rs) (All-head Is x rs all) later

-- a message that is put has a priority that its mailbox can have
abbrev pub CanChange : (kind : Kind) (s : Table kind) (id : ℕ) (x y : State kind)
    → Changes kind s id x y → Type 0
CanChange Semaphore s id x y how = ⊤
CanChange EventFlag s id x y how = ⊤
CanChange Mailbox s id x y (puts message none room) = can_have x.attr message.priority ≡ true
CanChange Mailbox s id x y (gets one is) = ⊤
CanChange VariablePool s id x y how = ⊤
CanChange FixedPool s id x y how = ⊤

pub changed : (kind : Kind) (s : Table kind) (id : ℕ) (x y : State kind)
    (how : Changes kind s id x y) → CanChange kind s id x y how → (ws : Waiting kind)
    → Sound kind x ws → Sound kind y ws
changed Semaphore s id x y (counts none fits) can ws sound =
    counted x (x.count + 1) sound (grind (arith, nat_tests, fits))
changed Semaphore s id x y (takes_count some) can ws sound =
    counted x (x.count - 1) sound (omega (arith, within x sound))
changed EventFlag s id x y (clears mask) can ws sound = patterned x _ ws sound
changed EventFlag s id x y (tests wanted holds) can ws sound = patterned x _ ws sound
changed Mailbox s id x y (puts message none room) can ws sound = put x message ws can sound
changed Mailbox s id x y (gets one is) can ws sound =
    let taken = taken_by (messages_by_priority x.attr) x.messages one is in record {
      attribute = sound.attribute;
      messages = all_but_taken (λ m. can_have x.attr m.priority ≡ true) taken sound.messages;
    }
changed VariablePool s id x y (takes size place some is) can ws sound = record {
  sound = pool_taken MOST_RANGES x sound.sound size place (grind (arith, nat_tests, some)) is;
  unit = sound.unit;
  layout = sound.layout;
  waiters = sound.waiters;
}
changed FixedPool s id x y (takes_block place is) can ws sound = record {
  sound = pool_taken MOST_BLOCKS x sound.sound x.unit place sound.sound.unit is;
  layout = sound.layout;
  blocks = with_one x.unit _ (one_unit x.unit sound.sound.unit) x.ranges sound.blocks;
}
changed FixedPool s id x y (gives block there none) can ws sound = record {
  sound = pool_freed MOST_BLOCKS x sound.sound block;
  layout = sound.layout;
  blocks = without_one x.unit block x.ranges sound.blocks;
}

-- no more messages stand then than can
pub changed_few : (kind : Kind) (s : Table kind) (id : ℕ) (x y : State kind) → IsFew kind s
    → Changes kind s id x y → HasMore kind s x y
changed_few Semaphore s id x y few how = tt
changed_few EventFlag s id x y few how = tt
changed_few Mailbox s id x y few (puts message none room) =
    let less = ltb-true (message_count s) MOST_MESSAGES room in
    (1, (omega (arith, length_push x.messages message), omega (arith, less)))
changed_few Mailbox s id x y few (gets one is) =
    let taken = taken_by (messages_by_priority x.attr) x.messages one is in
    (0, (omega (arith, fewer_others taken), omega (arith, few)))
changed_few VariablePool s id x y few how = tt
changed_few FixedPool s id x y few how = tt

-- what is known of one that is made, but of pools
abbrev pub IsPoolOf : Kind → Type 0
IsPoolOf Semaphore = ⊥
IsPoolOf EventFlag = ⊥
IsPoolOf Mailbox = ⊥
IsPoolOf VariablePool = ⊤
IsPoolOf FixedPool = ⊤

pub first_sound : (kind : Kind) (x : State kind) → IsFirst kind x
    → (IsPoolOf kind → Sound kind x []) → Sound kind x []
first_sound Semaphore x first pool =
    let attribute = first.0 in
    let most : nat_le x.initial x.max ≡ true = grind (arith, nat_tests, first.1) in
    let same = first.2 in
    let count : nat_le x.count x.max ≡ true = grind (arith, nat_tests, most, same) in
    and_from _ _ (and_from _ _ attribute most) count
first_sound EventFlag x first pool = record {
  attribute = first.0;
  asked = All-nil (λ w. asks_for_bits w.item.wants ≡ true);
  alone = λ one. omega arith;
}
first_sound Mailbox x first pool =
    let none = first.1 in record {
      attribute = first.0;
      messages = subst (λ (ms : List (Queued ℕ)). All (λ m. can_have x.attr m.priority ≡ true) ms)
          (sym none) (All-nil (λ m. can_have x.attr m.priority ≡ true));
    }
first_sound VariablePool x first pool = pool tt
first_sound FixedPool x first pool = pool tt

pub first_empty : (kind : Kind) (x : State kind) → IsFirst kind x → IsEmpty kind x
first_empty Semaphore x first = tt
first_empty EventFlag x first = tt
first_empty Mailbox x first = first.1
first_empty VariablePool x first = tt
first_empty FixedPool x first = tt
