-- Processors and threads are read that have room where they are written and are as they can be
-- read, and those that are read are so.
use Rattle.std.proofs.Common.{◌≡◌, ◌≢◌, ℕ, ◌+◌, ◌<◌, Bool, true, false, not, ◌&&◌, ◌||◌, ◌==◌, if◌then◌else◌, Option, Some, None, is_some, IfSome, List, [], ◌∷◌, length, get_or, All, refl, sym, ap, ◌∙◌, arith, length-append}
use Rattle.std.specs.Prelude.{nat_lt, nat_le}
use Rattle.std.proofs.lemmas.Bool.{and_parts, and_from, eq-eqb, eqb-true, eqb-false, lt-ltb, ltb-true, le-leb, leb-true, ne_eqb, not-true, not_from_false}
use Rattle.std.proofs.lemmas.List.Sums.{AllPass-from_list_all, list_all-from_AllPass}
use Rattle.iop_base.specs.Numbers.{one_if, wrapped}
use Rattle.iop_exec.specs.declared.cpu.Cpu.{Cpu}
use Rattle.iop_exec.specs.declared.cpu.Pending.{Pending}
use Rattle.iop_ready.specs.Priorities.{IsPriority, priority_of}
use Rattle.iop_ready.specs.declared.priority.TheConstants.{LOWEST_PRIORITY}
use Rattle.iop_saved_threads.specs.Processors.{pending_register, pending_value, cpu_numbers, is_for_register, is_steady, cpu_form, steady_form, is_kept, kept_form}
use Rattle.iop_saved_threads.specs.Threads.{cpu_in, keeps_cpu, thread_numbers, has_priorities, thread_form, read_form}
use Rattle.iop_snapshot.proofs.Numbers.{fits_long}
use Rattle.iop_snapshot.proofs.Saving.{plain_fits}
use Rattle.iop_snapshot.specs.Forms.{fits_items, fits_where, item}
use Rattle.iop_snapshot.specs.declared.widths.TheConstants.{CPU, THREAD}
use Rattle.iop_thread.proofs.KeptSteadily.{begun_steady}
use Rattle.iop_thread.specs.Laws.{KeptBy, AnyRegisters}
use Rattle.iop_thread.specs.States.{state_number, zeroed_at}
use Rattle.iop_thread.specs.declared.state.State.{State}
use Rattle.iop_thread.specs.declared.state.State.TheVariants.{Dormant, Running, Ready, Waiting, Suspended, WaitingSuspended}
use Rattle.iop_thread.specs.declared.thread.Thread.{Thread}
use Rattle.iop_saved_kernel.specs.Laws.{IsReadable, IsReadableKept, IsReadableThread}

-- ---- processors

-- outside a delay slot the next instruction is the one behind
straight_passes : (in_slot : Bool) (next behind : ℕ) → (in_slot ≡ false → next ≡ behind)
    → (in_slot || next == behind) ≡ true
straight_passes true next behind straight = refl
straight_passes false next behind straight = eq-eqb next behind (straight refl)

is_straight : (in_slot : Bool) (next behind : ℕ) → (in_slot || next == behind) ≡ true
    → in_slot ≡ false → next ≡ behind
is_straight true next behind passes outside = absurd cc
is_straight false next behind passes outside = eqb-true next behind passes

-- what is pending is for one of the registers from 1 to 31
pending_passes : (pending : Option Pending) → IfSome pending (λ load. load.reg ≢ 0)
    → IfSome pending (λ load. load.reg < 32) → is_for_register pending ≡ true
pending_passes None other small = refl
pending_passes (Some load) other small =
    and_from (not (load.reg == 0)) (nat_lt load.reg 32)
    (not_from_false (load.reg == 0) (ne_eqb load.reg 0 other)) (lt-ltb load.reg 32 small)

is_pending : (pending : Option Pending) → is_for_register pending ≡ true
    → IfSome pending (λ load. load.reg ≢ 0) × IfSome pending (λ load. load.reg < 32)
is_pending None passes = (tt, tt)
is_pending (Some load) passes =
    let both = and_parts (not (load.reg == 0)) (nat_lt load.reg 32) passes in
    (eqb-false load.reg 0 (not-true (load.reg == 0) both.0), ltb-true load.reg 32 both.1)

-- one that is written has 32 registers
registers_long : (cpu : Cpu) → cpu_form.fits cpu ≡ true → length cpu.regs ≡ 32
unfolding cpu_form item
registers_long cpu fits =
    let all : length (cpu_numbers cpu) ≡ 39 = fits_long CPU (cpu_numbers cpu) fits in
    let rest = cpu.hi ∷ cpu.lo ∷ cpu.pc ∷ cpu.next ∷ one_if cpu.in_slot
    ∷ pending_register cpu.pending ∷ pending_value cpu.pending ∷ [] in
    omega (arith, all, length-append cpu.regs rest)

steady_passes : (cpu : Cpu) → IsReadable cpu → is_steady cpu ≡ true
steady_passes cpu h =
    and_from _ (is_for_register cpu.pending)
    (and_from (get_or cpu.regs 0 0 == 0) _ (eq-eqb (get_or cpu.regs 0 0) 0 h.steady.zero)
    (straight_passes cpu.in_slot cpu.next (wrapped (cpu.pc + 4)) h.steady.straight))
    (pending_passes cpu.pending h.steady.pending h.register)

pub steady_fits : (cpu : Cpu) → IsReadable cpu → cpu_form.fits cpu ≡ true
    → steady_form.fits cpu ≡ true
steady_fits cpu h fits = and_from (cpu_form.fits cpu) (is_steady cpu) fits (steady_passes cpu h)

pub kept_fits : (cpu : Cpu) → IsReadableKept cpu → cpu_form.fits cpu ≡ true
    → kept_form.fits cpu ≡ true
kept_fits cpu h fits =
    and_from (cpu_form.fits cpu) (is_kept cpu) fits
    (and_from (is_steady cpu) (not cpu.in_slot) (steady_passes cpu h.readable)
    (not_from_false cpu.in_slot h.outside))

pub readable : (cpu : Cpu) → steady_form.fits cpu ≡ true → IsReadable cpu
readable cpu fits =
    let both = and_parts (cpu_form.fits cpu) (is_steady cpu) fits in
    let steady = and_parts _ (is_for_register cpu.pending) both.1 in
    let place = and_parts (get_or cpu.regs 0 0 == 0) _ steady.0 in
    let pending = is_pending cpu.pending steady.1 in
    record {
      steady = record {
        straight = is_straight cpu.in_slot cpu.next (wrapped (cpu.pc + 4)) place.1;
        registers = registers_long cpu both.0;
        zero = eqb-true (get_or cpu.regs 0 0) 0 place.0;
        pending = pending.0;
      };
      register = pending.1;
    }

pub readable_kept : (cpu : Cpu) → kept_form.fits cpu ≡ true → IsReadableKept cpu
readable_kept cpu fits =
    let both = and_parts (cpu_form.fits cpu) (is_kept cpu) fits in
    let kept = and_parts (is_steady cpu) (not cpu.in_slot) both.1 in
    record {
      readable = readable cpu (and_from (cpu_form.fits cpu) (is_steady cpu) both.0 kept.0);
      outside = not-true cpu.in_slot kept.1;
    }

-- registers that nobody has are so
pub zeroed_readable : IsReadableKept (zeroed_at 0)
zeroed_readable = record {
  readable = record { steady = begun_steady _ _ refl refl; register = tt };
  outside = refl;
}

-- ---- threads

-- what a thread keeps in its state
own_fits : (s : State) → KeptBy IsReadableKept AnyRegisters s
    → fits_where (keeps_cpu (state_number s)) cpu_form (cpu_in s) ≡ true
    → fits_where (keeps_cpu (state_number s)) kept_form (cpu_in s) ≡ true
own_fits Dormant h fits = refl
own_fits Running h fits = refl
own_fits (Ready cpu) h fits = kept_fits cpu h fits
own_fits (Waiting wait cpu) h fits = kept_fits cpu h.0 fits
own_fits (Suspended cpu) h fits = kept_fits cpu h fits
own_fits (WaitingSuspended wait cpu) h fits = kept_fits cpu h.0 fits

own_readable : (s : State) → fits_where (keeps_cpu (state_number s)) kept_form (cpu_in s) ≡ true
    → KeptBy IsReadableKept AnyRegisters s
own_readable Dormant fits = tt
own_readable Running fits = tt
own_readable (Ready cpu) fits = readable_kept cpu fits
own_readable (Waiting wait cpu) fits = (readable_kept cpu fits, tt)
own_readable (Suspended cpu) fits = readable_kept cpu fits
own_readable (WaitingSuspended wait cpu) fits = (readable_kept cpu fits, tt)

-- a priority that can be
priority_passes : (n : ℕ) → IsPriority n → is_some (priority_of n) ≡ true
priority_passes n h =
    ap (λ (b : Bool). is_some (if b then Some n else None))
    (and_from (nat_le 1 n) (nat_le n LOWEST_PRIORITY) (le-leb 1 n h.0)
    (le-leb n LOWEST_PRIORITY h.1))

is_priority : (n : ℕ) → is_some (priority_of n) ≡ true → IsPriority n
is_priority n = by (nat_le 1 n && nat_le n LOWEST_PRIORITY) refl
  where
    by : (b : Bool) → (nat_le 1 n && nat_le n LOWEST_PRIORITY) ≡ b
        → is_some (if b then Some n else None) ≡ true → IsPriority n
    by true is some =
        let both = and_parts (nat_le 1 n) (nat_le n LOWEST_PRIORITY) is in
        (leb-true 1 n both.0, leb-true n LOWEST_PRIORITY both.1)
    by false is some = absurd cc

thread_fits : (t : Thread) → IsReadableThread t → (thread_form cpu_form).fits t ≡ true
    → read_form.fits t ≡ true
unfolding thread_form
thread_fits t h fits =
    let numbers = (item THREAD).fits (thread_numbers t) in
    let both = and_parts numbers
    (fits_where (keeps_cpu (state_number t.state)) cpu_form (cpu_in t.state)) fits in
    and_from _ (has_priorities t)
    (and_from numbers (fits_where (keeps_cpu (state_number t.state)) kept_form (cpu_in t.state))
    both.0 (own_fits t.state h.kept both.1))
    (and_from (is_some (priority_of t.param.priority)) (is_some (priority_of t.priority))
    (priority_passes t.param.priority h.first) (priority_passes t.priority h.priority))

readable_thread : (t : Thread) → read_form.fits t ≡ true → IsReadableThread t
unfolding thread_form
readable_thread t fits =
    let both = and_parts _ (has_priorities t) fits in
    let parts = and_parts ((item THREAD).fits (thread_numbers t))
    (fits_where (keeps_cpu (state_number t.state)) kept_form (cpu_in t.state)) both.0 in
    let priorities = and_parts (is_some (priority_of t.param.priority))
    (is_some (priority_of t.priority)) both.1 in
    record {
      first = is_priority t.param.priority priorities.0;
      priority = is_priority t.priority priorities.1;
      kept = own_readable t.state parts.1;
    }

-- and all of some threads
pub threads_fit : (live : List Thread) → All IsReadableThread live
    → fits_items (λ _. thread_form cpu_form) [] live ≡ true
    → fits_items (λ _. read_form) [] live ≡ true
threads_fit live all fits =
    let written = AllPass-from_list_all (thread_form cpu_form).fits live
    (sym (plain_fits (thread_form cpu_form) [] live) ∙ fits) in
    plain_fits read_form [] live
    ∙ list_all-from_AllPass read_form.fits live
    (λ k d below. thread_fits (get_or live k d) (all k d below) (written k d below))

pub readable_threads : (live : List Thread) → fits_items (λ _. read_form) [] live ≡ true
    → All IsReadableThread live
readable_threads live fits =
    let read = AllPass-from_list_all read_form.fits live
    (sym (plain_fits read_form [] live) ∙ fits) in
    λ k d below. readable_thread (get_or live k d) (read k d below)
