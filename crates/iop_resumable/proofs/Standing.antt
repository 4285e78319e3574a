-- Tables of which each object is sound, and in which no more messages stand than can, when one
-- object changes, comes or goes.
use Rattle.std.proofs.Common.{◌≡◌, ℕ, ◌+◌, ◌≤◌, ◌==◌, not, Some, Result, [], ◌∷◌, ◌++◌, length, refl, ap, sym, ◌∙◌, arith}
use Rattle.std.specs.Prelude.{⊤, option_map}
use Rattle.std.proofs.lemmas.Bool.{cond_both}
use Rattle.std.proofs.lemmas.List.Filters.{sum_by-filter_both}
use Rattle.std.proofs.lemmas.List.Sums.{sum-map, sum_by_push}
use Rattle.iop_base.specs.declared.code.Code.{Code}
use Rattle.iop_kernel.specs.Kinds.{State, Table, table}
use Rattle.iop_kernel.specs.System.{Kernel}
use Rattle.iop_mbx.specs.Mailboxes as boxes
use Rattle.iop_mbx.specs.Mailboxes.{Mailboxes, message_count}
use Rattle.iop_mbx.specs.declared.mailboxes.TheConstants.{MOST_MESSAGES}
use Rattle.iop_objects.specs.Objects.{Object, AreObjects, object_of, state_of, waiters_of, has_room, changes, creates, deletes, with_state, with_waiters}
use Rattle.iop_objects.proofs.EachObject.{HoldsOfEach, each_creates, each_deletes, each_with_state, each_with_waiters}
use Rattle.iop_objects.proofs.OtherWaiters.{AreLeft}
use Rattle.iop_objects.proofs.Sums.{sum_changed}
use Rattle.iop_thread.specs.declared.kind.Kind.{Kind}
use Rattle.iop_thread.specs.declared.kind.Kind.TheVariants.{Semaphore, EventFlag, Mailbox, VariablePool, FixedPool}
use Rattle.iop_resumable.proofs.Sound.{Waiting, Sound, fewer}

-- no more messages stand in mailboxes than can
abbrev pub IsFew : (kind : Kind) → Table kind → Type 0
IsFew Semaphore s = ⊤
IsFew EventFlag s = ⊤
IsFew Mailbox s = message_count s ≤ MOST_MESSAGES
IsFew VariablePool s = ⊤
IsFew FixedPool s = ⊤

pub record Stand (kind : Kind) (s : Table kind) : Type 0 where
  pub each : HoldsOfEach (Sound kind) s
  pub few : IsFew kind s

-- so it is of all kinds
abbrev pub Stands : Kernel → Type 0
Stands k = (kind : Kind) → Stand kind (table kind k)

-- how many messages an object has
abbrev part : Object boxes.Mailbox ℕ → ℕ
part o = length o.state.messages

module _ (s : Mailboxes) (are : AreObjects s) (few : message_count s ≤ MOST_MESSAGES) where
  -- the messages of one are others, so many more at most
  few_changed : (id : ℕ) (change : Object boxes.Mailbox ℕ → Object boxes.Mailbox ℕ) (more : ℕ)
      → ((o : Object boxes.Mailbox ℕ) → object_of s.live id ≡ Some o
      → part (change o) ≤ part o + more)
      → message_count s + more ≤ MOST_MESSAGES
      → message_count (changes s id change) ≤ MOST_MESSAGES
  few_changed id change more grows room =
      omega (
        arith,
        sum_changed part id change more s.live are.ids grows,
        sum-map part s.live,
        sum-map part (changes s id change).live,
        room,
      )

  few_created : (x : boxes.Mailbox) → x.messages ≡ []
      → message_count (creates s x).1 ≤ MOST_MESSAGES
  few_created x none =
      cond_both (has_room s) _ _
      (λ (r : Result ℕ Code × Mailboxes). message_count r.1 ≤ MOST_MESSAGES)
      (λ room.
      let last : Object boxes.Mailbox ℕ = record { id = s.next; state = x; waiters = [] } in
      omega (
        arith,
        sum_by_push part s.live last,
        sum-map part s.live,
        sum-map part (s.live ++ last ∷ []),
        ap length none,
        few,
      ))
      (λ full. few)

  few_deleted : (id : ℕ) → message_count (deletes s id) ≤ MOST_MESSAGES
  few_deleted id =
      omega (
        arith,
        sum_by-filter_both (λ (o : Object boxes.Mailbox ℕ). o.id == id) (λ o. not (o.id == id))
            (λ o. refl) part s.live,
        sum-map part s.live,
        sum-map part (deletes s id).live,
        few,
      )

-- so many more messages are in an object
abbrev pub HasMore : (kind : Kind) → Table kind → (x y : State kind) → Type 0
HasMore Semaphore s x y = ⊤
HasMore EventFlag s x y = ⊤
HasMore Mailbox s x y =
    (more : ℕ) × ((length y.messages ≤ length x.messages + more)
    × (message_count s + more ≤ MOST_MESSAGES))
HasMore VariablePool s x y = ⊤
HasMore FixedPool s x y = ⊤

-- an object has no messages
abbrev pub IsEmpty : (kind : Kind) → State kind → Type 0
IsEmpty Semaphore x = ⊤
IsEmpty EventFlag x = ⊤
IsEmpty Mailbox x = x.messages ≡ []
IsEmpty VariablePool x = ⊤
IsEmpty FixedPool x = ⊤

few_waiters : (kind : Kind) (s : Table kind) → AreObjects s → IsFew kind s → (id : ℕ)
    (ws : Waiting kind) → IsFew kind (with_waiters s id ws)
few_waiters Semaphore s are few id ws = tt
few_waiters EventFlag s are few id ws = tt
few_waiters Mailbox s are few id ws =
    few_changed s are few id (λ o. record o { waiters = ws }) 0 (λ o found. omega arith)
    (omega (arith, few))
few_waiters VariablePool s are few id ws = tt
few_waiters FixedPool s are few id ws = tt

few_state : (kind : Kind) (s : Table kind) → AreObjects s → IsFew kind s → (id : ℕ)
    (x y : State kind) → state_of s id ≡ Some x → HasMore kind s x y
    → IsFew kind (with_state s id y)
few_state Semaphore s are few id x y known has = tt
few_state EventFlag s are few id x y known has = tt
few_state Mailbox s are few id x y known has =
    few_changed s are few id (λ o. record o { state = y }) has.0
    (λ o found.
    let same : Some o.state ≡ Some x =
    sym (ap (option_map (λ (p : Object boxes.Mailbox ℕ). p.state)) found) ∙ known in
    let is : o.state ≡ x = cc in
    omega (arith, has.1.0, ap (λ (y : boxes.Mailbox). length y.messages) is)) has.1.1
few_state VariablePool s are few id x y known has = tt
few_state FixedPool s are few id x y known has = tt

few_creates : (kind : Kind) (s : Table kind) → AreObjects s → IsFew kind s → (x : State kind)
    → IsEmpty kind x → IsFew kind (creates s x).1
few_creates Semaphore s are few x none = tt
few_creates EventFlag s are few x none = tt
few_creates Mailbox s are few x none = few_created s are few x none
few_creates VariablePool s are few x none = tt
few_creates FixedPool s are few x none = tt

few_deletes : (kind : Kind) (s : Table kind) → AreObjects s → IsFew kind s → (id : ℕ)
    → IsFew kind (deletes s id)
few_deletes Semaphore s are few id = tt
few_deletes EventFlag s are few id = tt
few_deletes Mailbox s are few id = few_deleted s are few id
few_deletes VariablePool s are few id = tt
few_deletes FixedPool s are few id = tt

module _ (kind : Kind) (s : Table kind) (are : AreObjects s) (h : Stand kind s) where
  -- others wait for one
  pub stand_waiters : (id : ℕ) (ws : Waiting kind)
      → ((x : State kind) → state_of s id ≡ Some x → Sound kind x (waiters_of s id)
      → Sound kind x ws)
      → Stand kind (with_waiters s id ws)
  stand_waiters id ws now = record {
    each = each_with_waiters (Sound kind) s h.each id ws now;
    few = few_waiters kind s are h.few id ws;
  }

  -- fewer do
  pub stand_left : (id : ℕ) (ws : Waiting kind) → AreLeft (waiters_of s id) ws
      → Stand kind (with_waiters s id ws)
  stand_left id ws left =
      stand_waiters id ws (λ x known sound. fewer kind x (waiters_of s id) ws left sound)

  -- something else is known of one
  pub stand_state : (id : ℕ) (x y : State kind) → state_of s id ≡ Some x → HasMore kind s x y
      → (Sound kind x (waiters_of s id) → Sound kind y (waiters_of s id))
      → Stand kind (with_state s id y)
  stand_state id x y known has now = record {
    each = each_with_state (Sound kind) s h.each id y (now (h.each id x known));
    few = few_state kind s are h.few id x y known has;
  }

  -- one is made
  pub stand_creates : (x : State kind) → IsEmpty kind x → Sound kind x []
      → Stand kind (creates s x).1
  stand_creates x none first = record {
    each = each_creates (Sound kind) s h.each x first;
    few = few_creates kind s are h.few x none;
  }

  -- one goes
  pub stand_deletes : (id : ℕ) → Stand kind (deletes s id)
  stand_deletes id = record {
    each = each_deletes (Sound kind) s h.each id;
    few = few_deletes kind s are h.few id;
  }
