-- The form of threads is lawful.
use Rattle.std.proofs.Common.{◌≡◌, ℕ, Bool, true, false, ◌&&◌, cond, eqb, leb, is_some, Option, Some, None, List, ◌++◌, length, get_or, refl, sym, ap, subst, ◌∙◌}
use Rattle.std.specs.Prelude.{option_map, option_and_then}
use Rattle.std.proofs.lemmas.Bool.{and_parts, and_from, eqb-true}
use Rattle.std.proofs.lemmas.Option.{same_Some, cond_some}
use Rattle.iop_exec.specs.declared.cpu.Cpu.{Cpu}
use Rattle.iop_ready.specs.Priorities.{priority_of}
use Rattle.iop_ready.specs.declared.priority.TheConstants.{LOWEST_PRIORITY}
use Rattle.iop_thread.specs.States.{state_number, wait_in}
use Rattle.iop_thread.specs.declared.kind.Kind.{Kind}
use Rattle.iop_thread.specs.declared.kind.Kind.TheVariants.{Semaphore, EventFlag, Mailbox, VariablePool, FixedPool}
use Rattle.iop_thread.specs.declared.state.State.{State}
use Rattle.iop_thread.specs.declared.state.State.TheVariants.{Dormant, Running, Ready, Waiting, Suspended, WaitingSuspended}
use Rattle.iop_thread.specs.declared.thread.Thread.{Thread}
use Rattle.iop_thread.specs.declared.wait.Wait.{Wait}
use Rattle.iop_thread.specs.declared.wait.Wait.TheVariants.{Sleep, Delay, Object}
use Rattle.iop_snapshot.specs.Forms.{IsLawful, item, present, fits_where, spell_where}
use Rattle.iop_snapshot.specs.Items.{fits_item, spell_item}
use Rattle.iop_snapshot.specs.declared.widths.TheConstants.{THREAD}
use Rattle.iop_snapshot.proofs.Combining.{item_lawful, both_lawful, present_lawful, seen_tested_lawful, then_some, map_some}
use Rattle.iop_snapshot.proofs.Numbers.{numbers_from-all, fits_long}
use Rattle.iop_saved_threads.specs.Processors.{cpu_form, kept_form}
use Rattle.iop_saved_threads.specs.Threads.{cpu_in, keeps_cpu, wait_number, wait_id, kind_of, wait_by, plain_wait_of, wait_of, state_of, thread_numbers, thread_parts, thread_with, state_in, thread_of, parts_form, HasRoom, thread_form, has_priorities, read_form}
use Rattle.iop_saved_threads.proofs.ProcessorLaws.{kept_lawful}

-- ---- the wait of a thread

wait_again : (wait : Option Wait) → wait_of (wait_number wait) (wait_id wait) ≡ Some wait
wait_again None = refl
wait_again (Some Sleep) = refl
wait_again (Some Delay) = refl
wait_again (Some (Object Semaphore id)) = refl
wait_again (Some (Object EventFlag id)) = refl
wait_again (Some (Object Mailbox id)) = refl
wait_again (Some (Object VariablePool id)) = refl
wait_again (Some (Object FixedPool id)) = refl

-- a test that is met, or the next one
one_of : {A : Type 0} (P : A → Type 0) (n k : ℕ) (x : A) (other : Option A) (y : A)
    → cond (eqb n k) (Some x) other ≡ Some y → (n ≡ k → P x) → (other ≡ Some y → P y) → P y
one_of P n k x other y e met not_met = by (eqb n k) (eqb-true n k) e
  where
    by : (b : Bool) → (b ≡ true → n ≡ k) → cond b (Some x) other ≡ Some y → P y
    by true is e = subst P (same_Some x y e) (met (is refl))
    by false is e = not_met e

none_is : {A : Type 0} (P : A → Type 0) (y : A) → ◌≡◌ {A = Option A} None (Some y) → P y
none_is P y e = absurd cc

record IsWait (n other : ℕ) (wait : Option Wait) : Type 0 where
  pub number : wait_number wait ≡ n
  pub id : wait_id wait ≡ other

plain_is : (n : ℕ) (wait : Option Wait) → plain_wait_of n ≡ Some wait → IsWait n 0 wait
plain_is n wait e =
    one_of (IsWait n 0) n 0 None _ wait e (λ is. record { number = sym is; id = refl })
    (λ e. one_of (IsWait n 0) n 1 (Some Sleep) _ wait e
    (λ is. record { number = sym is; id = refl })
    (λ e. one_of (IsWait n 0) n 2 (Some Delay) None wait e
    (λ is. record { number = sym is; id = refl }) (none_is (IsWait n 0) wait)))

abbrev HasNumber : ℕ → Kind → Type 0
HasNumber n kind = (id : ℕ) → wait_number (Some (Object kind id)) ≡ n

kind_is : (n : ℕ) (kind : Kind) → kind_of n ≡ Some kind → HasNumber n kind
kind_is n kind e =
    one_of (HasNumber n) n 3 Semaphore _ kind e (λ is id. sym is)
    (λ e. one_of (HasNumber n) n 4 EventFlag _ kind e (λ is id. sym is)
    (λ e. one_of (HasNumber n) n 5 Mailbox _ kind e (λ is id. sym is)
    (λ e. one_of (HasNumber n) n 6 VariablePool _ kind e (λ is id. sym is)
    (λ e. one_of (HasNumber n) n 7 FixedPool None kind e (λ is id. sym is) (none_is (HasNumber n) kind)))))

wait_is : (n id : ℕ) (wait : Option Wait) → wait_of n id ≡ Some wait → IsWait n id wait
wait_is n id wait e = by (kind_of n) refl e
  where
    plain : (b : Bool) → (b ≡ true → id ≡ 0) → cond b (plain_wait_of n) None ≡ Some wait
        → IsWait n id wait
    plain true is e =
        let found = plain_is n wait e in
        record { number = found.number; id = found.id ∙ sym (is refl) }
    plain false is e = absurd cc

    by : (kind : Option Kind) → kind_of n ≡ kind → wait_by kind n id ≡ Some wait
        → IsWait n id wait
    by (Some kind) is e =
        subst (IsWait n id) (same_Some (Some (Object kind id)) wait e)
        (record { number = kind_is n kind is id; id = refl })
    by None is e = plain (eqb id 0) (eqb-true id 0) e

-- ---- the state of a thread

state_again : (s : State) → state_of (state_number s) (wait_in s) (cpu_in s) ≡ Some s
state_again Dormant = refl
state_again Running = refl
state_again (Ready cpu) = refl
state_again (Waiting wait cpu) = refl
state_again (Suspended cpu) = refl
state_again (WaitingSuspended wait cpu) = refl

record IsState (n : ℕ) (o : Option Wait) (own : Option Cpu) (s : State) : Type 0 where
  pub number : state_number s ≡ n
  pub wait : wait_in s ≡ o
  pub cpu : cpu_in s ≡ own

state_is : (n : ℕ) (wait : Option Wait) (cpu : Option Cpu) (s : State)
    → state_of n wait cpu ≡ Some s → IsState n wait cpu s
state_is n None None s e =
    one_of (IsState n None None) n 1 Running _ s e
    (λ is. record { number = sym is; wait = refl; cpu = refl })
    (λ e. one_of (IsState n None None) n 0x10 Dormant None s e
    (λ is. record { number = sym is; wait = refl; cpu = refl })
    (none_is (IsState n None None) s))
state_is n None (Some cpu) s e =
    one_of (IsState n None (Some cpu)) n 2 (Ready cpu) _ s e
    (λ is. record { number = sym is; wait = refl; cpu = refl })
    (λ e. one_of (IsState n None (Some cpu)) n 8 (Suspended cpu) None s e
    (λ is. record { number = sym is; wait = refl; cpu = refl })
    (none_is (IsState n None (Some cpu)) s))
state_is n (Some wait) None s e = absurd cc
state_is n (Some wait) (Some cpu) s e =
    one_of (IsState n (Some wait) (Some cpu)) n 4 (Waiting wait cpu) _ s e
    (λ is. record { number = sym is; wait = refl; cpu = refl })
    (λ e. one_of (IsState n (Some wait) (Some cpu)) n 0xC (WaitingSuspended wait cpu) None s e
    (λ is. record { number = sym is; wait = refl; cpu = refl })
    (none_is (IsState n (Some wait) (Some cpu)) s))

-- ---- a thread

priority_again : (p : ℕ) → is_some (priority_of p) ≡ true → priority_of p ≡ Some p
priority_again p h = by (leb 1 p && leb p LOWEST_PRIORITY) h
  where
    by : (b : Bool) → is_some (cond b (Some p) None) ≡ true → cond b (Some p) None ≡ Some p
    by true h = refl
    by false h = absurd cc

thread_again : (t : Thread) → has_priorities t ≡ true → thread_of (thread_parts t) ≡ Some t
thread_again t h =
    let parts = and_parts (is_some (priority_of t.param.priority)) (is_some (priority_of t.priority))
    h in
    rw (
      priority_again t.param.priority parts.0,
      priority_again t.priority parts.1,
      wait_again (wait_in t.state),
      state_again t.state,
    ) refl

priority_is : (n p : ℕ) → priority_of n ≡ Some p → p ≡ n
priority_is n p e = sym (cond_some (leb 1 n && leb n LOWEST_PRIORITY) n p e).1

-- the parts of a thread with these priorities and this state
parts_are : (ns : List ℕ) (first priority : ℕ) (state : State) (cpu : Option Cpu)
    → length ns ≡ 13 → first ≡ get_or ns 7 0 → priority ≡ get_or ns 8 0
    → IsState (get_or ns 9 0) (wait_in state) cpu state
    → IsWait (get_or ns 10 0) (get_or ns 11 0) (wait_in state)
    → thread_parts (thread_with ns first priority state) ≡ (ns, cpu)
parts_are ns first priority state cpu long f p s w =
    rw (f, p, s.number, s.cpu, w.number, w.id)
    (ap (λ (l : List ℕ). (l, cpu)) (numbers_from-all 0 13 ns long))

thread_back : (parts : List ℕ × Option Cpu) (t : Thread) → length parts.0 ≡ 13
    → thread_of parts ≡ Some t → thread_parts t ≡ parts
thread_back parts t long e =
    let ns = parts.0 in
    let at : ℕ → ℕ = λ k. get_or ns k 0 in
    let one = then_some (priority_of (at 7))
    (λ first. option_and_then
    (λ priority. option_map (thread_with ns first priority) (state_in ns parts.1))
    (priority_of (at 8))) t e in
    let two = then_some (priority_of (at 8))
    (λ priority. option_map (thread_with ns one.0 priority) (state_in ns parts.1)) t one.2 in
    let three = map_some (state_in ns parts.1) (thread_with ns one.0 two.0) t two.2 in
    let four = then_some (wait_of (at 10) (at 11)) (λ wait. state_of (at 9) wait parts.1) three.0
    three.1 in
    let state = state_is (at 9) four.0 parts.1 three.0 four.2 in
    let wait = wait_is (at 10) (at 11) four.0 four.1 in
    ap thread_parts (sym three.2)
    ∙ parts_are ns one.0 two.0 three.0 parts.1 long (priority_is (at 7) one.0 one.1)
    (priority_is (at 8) two.0 two.1)
    (record { number = state.number; wait = refl; cpu = state.cpu })
    (subst (IsWait (at 10) (at 11)) (sym state.wait) wait)

pub threads_lawful : IsLawful read_form
unfolding thread_form item
threads_lawful =
    seen_tested_lawful (parts_form kept_form) thread_of thread_parts has_priorities
    (both_lawful (item THREAD) (λ ns. present (keeps_cpu (get_or ns 9 0)) kept_form)
    (item_lawful THREAD) (λ ns. present_lawful (keeps_cpu (get_or ns 9 0)) kept_form kept_lawful))
    (λ t fits h. thread_again t h)
    (λ parts t fits e. thread_back parts t
    (fits_long THREAD parts.0
    (and_parts (fits_item THREAD parts.0)
    (fits_where (keeps_cpu (get_or parts.0 9 0)) kept_form parts.1) fits).0)
    e)

-- a thread is spelled in one way, whatever its registers have to be
pub same_spelling : (t : Thread) → read_form.spell t ≡ (thread_form cpu_form).spell t
unfolding thread_form
same_spelling t = by (cpu_in t.state)
  where
    by : (cpu : Option Cpu)
        → (item THREAD).spell (thread_numbers t) ++ spell_where kept_form cpu
        ≡ (item THREAD).spell (thread_numbers t) ++ spell_where cpu_form cpu
    by None = refl
    by (Some cpu) = refl

-- ---- what a thread is written as

kept_fits : (s : State) → HasRoom (cpu_in s)
    → fits_where (keeps_cpu (state_number s)) cpu_form (cpu_in s) ≡ true
kept_fits Dormant h = refl
kept_fits Running h = refl
kept_fits (Ready cpu) h = h
kept_fits (Waiting wait cpu) h = h
kept_fits (Suspended cpu) h = h
kept_fits (WaitingSuspended wait cpu) h = h

pub thread_fits : (t : Thread) → fits_item THREAD (thread_numbers t) ≡ true
    → HasRoom (cpu_in t.state) → (thread_form cpu_form).fits t ≡ true
unfolding thread_form item
thread_fits t numbers cpu =
    and_from (fits_item THREAD (thread_numbers t))
    (fits_where (keeps_cpu (state_number t.state)) cpu_form (cpu_in t.state)) numbers
    (kept_fits t.state cpu)

pub thread_spelled : (t : Thread) → (thread_form cpu_form).spell t
    ≡ spell_item THREAD (thread_numbers t) ++ spell_where cpu_form (cpu_in t.state)
unfolding thread_form item
thread_spelled t = refl
