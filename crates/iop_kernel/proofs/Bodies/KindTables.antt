-- The objects of each kind, where those of one are others.
use Rattle.std.proofs.Common.{◌≡◌, ℕ, true, false, Some, refl, ap, ◌==◌, ◌&&◌, None, ◌∙◌, arith, Option, Bool}
use Rattle.std.specs.Prelude.{option_map, unwrap_or}
use Rattle.std.proofs.lemmas.Bool.Decides.{nat_tests}
use Rattle.iop_mbx.specs.Mailboxes.{waiters_by_priority}
use Rattle.iop_objects.specs.Objects.{state_of}
use Rattle.iop_pools.specs.Pools as pools
use Rattle.iop_sema.specs.Semaphores.{by_priority}
use Rattle.iop_thread.specs.declared.kind.Kind.{Kind}
use Rattle.iop_thread.specs.declared.kind.Kind.TheVariants.{Semaphore, EventFlag, Mailbox, VariablePool, FixedPool}
use Rattle.iop_thread.specs.declared.wait.Wait.{Wait}
use Rattle.iop_thread.specs.declared.wait.Wait.TheVariants.{Sleep, Delay, Object}
use Rattle.iop_kernel.specs.Kinds.{is_kind, State, Table, table, with_table, waits_by_priority, is_by_priority}
use Rattle.iop_kernel.specs.Placing.{is_for}
use Rattle.iop_kernel.specs.System.{Kernel}

-- two kinds that are one are the same
same_kind : (a b : Kind) → is_kind a b ≡ true → a ≡ b
same_kind Semaphore Semaphore is = refl
same_kind EventFlag EventFlag is = refl
same_kind Mailbox Mailbox is = refl
same_kind VariablePool VariablePool is = refl
same_kind FixedPool FixedPool is = refl
same_kind a b is = cc

-- so is each with itself
its_kind : (kind : Kind) → is_kind kind kind ≡ true
its_kind Semaphore = refl
its_kind EventFlag = refl
its_kind Mailbox = refl
its_kind VariablePool = refl
its_kind FixedPool = refl

-- what holds of the objects of each kind
pub each_table : (Holds : (kind : Kind) → Table kind → Type 0) (kind : Kind) (k : Kernel)
    (left : Table kind) → Holds kind left
    → ((other : Kind) → is_kind other kind ≡ false → Holds other (table other k))
    → (other : Kind) → Holds other (table other (with_table kind k left))
each_table Holds Semaphore k left own rest Semaphore = own
each_table Holds EventFlag k left own rest EventFlag = own
each_table Holds Mailbox k left own rest Mailbox = own
each_table Holds VariablePool k left own rest VariablePool = own
each_table Holds FixedPool k left own rest FixedPool = own
each_table Holds kind k left own rest other = rest other refl

-- those of the kind are the others
pub own_table : (kind : Kind) (k : Kernel) (left : Table kind)
    → table kind (with_table kind k left) ≡ left
own_table Semaphore k left = refl
own_table EventFlag k left = refl
own_table Mailbox k left = refl
own_table VariablePool k left = refl
own_table FixedPool k left = refl

-- they are others again
pub table_twice : (kind : Kind) (k : Kernel) (left again : Table kind)
    → with_table kind (with_table kind k left) again ≡ with_table kind k again
table_twice Semaphore k left again = refl
table_twice EventFlag k left again = refl
table_twice Mailbox k left again = refl
table_twice VariablePool k left again = refl
table_twice FixedPool k left again = refl

-- or are those that they were
pub same_table : (kind : Kind) (k : Kernel) → with_table kind k (table kind k) ≡ k
same_table Semaphore k = refl
same_table EventFlag k = refl
same_table Mailbox k = refl
same_table VariablePool k = refl
same_table FixedPool k = refl

-- how those that wait for an object are chosen is known by what is known of it
pub order_stays : (kind : Kind) (s t : Table kind) (id : ℕ) → state_of t id ≡ state_of s id
    → is_by_priority kind t id ≡ is_by_priority kind s id
order_stays Semaphore s t id known = ap (λ o. unwrap_or (option_map by_priority o) false) known
order_stays EventFlag s t id known = refl
order_stays Mailbox s t id known =
    ap (λ o. unwrap_or (option_map (λ x. waiters_by_priority x.attr) o) false) known
order_stays VariablePool s t id known =
    ap (λ o. unwrap_or (option_map pools.by_priority o) false) known
order_stays FixedPool s t id known =
    ap (λ o. unwrap_or (option_map pools.by_priority o) false) known

-- how those that wait for a live object are chosen is known of it
pub by_priority_known : (kind : Kind) (s : Table kind) (id : ℕ) (x : State kind)
    → state_of s id ≡ Some x → is_by_priority kind s id ≡ waits_by_priority kind x
by_priority_known Semaphore s id x known =
    ap (λ o. unwrap_or (option_map by_priority o) false) known
by_priority_known EventFlag s id x known = refl
by_priority_known Mailbox s id x known =
    ap (λ o. unwrap_or (option_map (λ x. waiters_by_priority x.attr) o) false) known
by_priority_known VariablePool s id x known =
    ap (λ o. unwrap_or (option_map pools.by_priority o) false) known
by_priority_known FixedPool s id x known =
    ap (λ o. unwrap_or (option_map pools.by_priority o) false) known

-- a wait for an object is for nothing else
pub for_object : (kind : Kind) (n : ℕ) (wait : Option Wait) → is_for kind n wait ≡ true
    → wait ≡ Some (Object kind n)
for_object kind n None is = cc
for_object kind n (Some Sleep) is = cc
for_object kind n (Some Delay) is = cc
for_object kind n (Some (Object other id)) is = by (is_kind kind other) refl is
  where
    by : (b : Bool) → is_kind kind other ≡ b → (b && id == n) ≡ true
        → Some (Object other id) ≡ Some (Object kind n)
    by true of here =
        let same : id ≡ n = grind (arith, nat_tests, here) in
        let its = same_kind kind other of in
        cc
    by false of here = cc

-- it is for that one
pub own_object : (kind : Kind) (n id : ℕ) → is_for kind id (Some (Object kind n)) ≡ (n == id)
own_object kind n id = rw (its_kind kind) refl

-- and for none of another kind
pub other_kind : (kind other : Kind) → is_kind other kind ≡ false
    → (n id : ℕ) → is_for other id None ≡ is_for other id (Some (Object kind n))
other_kind kind other apart n id = rw apart refl

-- nor for another object of the kind
pub one_object : (kind : Kind) (a b : ℕ) (wait : Option Wait) → is_for kind a wait ≡ true
    → is_for kind b wait ≡ (a == b)
one_object kind a b wait is = ap (is_for kind b) (for_object kind a wait is) ∙ own_object kind a b
