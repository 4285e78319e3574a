-- What is written of a kernel and its processor that can be put back is read again, and what was
-- read is as it can be read.
use Rattle.std.proofs.Common.{◌≡◌, ℕ, ◌+◌, ◌≤◌, ◌==◌, Bool, true, false, not, ◌&&◌, if◌then◌else◌, Option, Some, None, is_some, IfSome, List, [], ◌∷◌, ◌++◌, length, All, refl, sym, ap, subst, ◌∙◌, arith}
use Rattle.std.specs.Prelude.{nat_lt, option_map, unwrap_or}
use Rattle.std.proofs.lemmas.Bool.{and_parts, and_from, eq-eqb, eqb-true, eqb-false, lt-ltb, ne_eqb, not_from_false}
use Rattle.std.proofs.lemmas.List.{length_push}
use Rattle.std.proofs.lemmas.List.Elements.{All-contains}
use Rattle.std.proofs.lemmas.List.Filters.{length-filter_both}
use Rattle.iop_base.specs.Numbers.{one_if}
use Rattle.iop_exec.specs.declared.cpu.Cpu.{Cpu}
use Rattle.iop_intr.specs.declared.irqs.TheConstants.{IRQ_LINES}
use Rattle.iop_kernel.specs.System.{Core}
use Rattle.iop_kernel.specs.declared.active_handler.ActiveHandler.{ActiveHandler}
use Rattle.iop_kernel.specs.declared.active_handler.Cause.{Cause}
use Rattle.iop_kernel.specs.declared.active_handler.Cause.TheVariants.{Line, Alarm}
use Rattle.iop_ready.specs.declared.slot.TheConstants.{MOST_THREADS}
use Rattle.iop_saved_threads.specs.Processors.{cpu_form, steady_form, kept_form}
use Rattle.iop_saved_threads.specs.Tables.{id_form, next_ready}
use Rattle.iop_saved_threads.specs.Threads.{thread_form, read_form}
use Rattle.iop_snapshot.specs.Forms.{fits_items, fits_list, fits_where}
use Rattle.iop_snapshot.specs.Items.{fits_item}
use Rattle.iop_snapshot.specs.declared.widths.TheConstants.{COUNT}
use Rattle.iop_thread.proofs.InOrder.{placed_in_order}
use Rattle.iop_thread.proofs.LiveThreads.{thread_of_id, thread_of_is_live}
use Rattle.iop_thread.proofs.ReadyIds.{times_first, times_without}
use Rattle.iop_thread.specs.Ordering.{in_order}
use Rattle.iop_thread.specs.Placing.{IsPlaced, times, is_in_state}
use Rattle.iop_thread.specs.States.{is_ready, is_running, zeroed_at}
use Rattle.iop_thread.specs.ThreadTable.{ThreadTable, is_it, thread_of, without}
use Rattle.iop_thread.specs.declared.thread.TheConstants.{LOADER}
use Rattle.iop_thread.specs.declared.thread.Thread.{Thread}
use Rattle.iop_saved_kernel.specs.Executing.{executing_form, executing_in, head_in, if_there, kept_for, cause_in}
use Rattle.iop_saved_kernel.specs.Heads.{head_form, read_head, has_id, is_cause, is_head, executes}
use Rattle.iop_saved_kernel.specs.Laws.{CanBeBack, CanHaveBegun, CoresAreRead, IsReadable, IsReadableKept, IsReadableThread, IsSteadyCore}
use Rattle.iop_saved_kernel.specs.Parts.{Parts, parts_in, parts_form, written_form, steady_form_of_parts, core_back, core_form}
use Rattle.iop_saved_kernel.specs.ThreadLists.{threads_form, written_threads, read_threads, thread_lists}
use Rattle.iop_saved_kernel.proofs.BackAgain.{cpu_is_bare, kept_is_bare, parts_fit}
use Rattle.iop_saved_kernel.proofs.ComingBack.{cores_back}
use Rattle.iop_saved_kernel.proofs.Readable.{kept_fits, steady_fits, readable, readable_kept, zeroed_readable, threads_fit, readable_threads}
use Rattle.iop_saved_kernel.proofs.Telling.{parts_are, were_put}

-- ---- the head

-- where threads are placed, the one that runs is live, so its id is one that a thread can have
running_reads : (s : ThreadTable) → IsPlaced s → (running : Option ℕ) → s.running ≡ running
    → has_id running ≡ true
running_reads s placed None is = refl
running_reads s placed (Some id) is = by (thread_of s.live id) refl
  where
    runs : is_in_state is_running s.live id ≡ true
    runs = sym (placed.running id) ∙ ap (λ o. is_it o id) is ∙ eq-eqb id id refl

    by : (o : Option Thread) → thread_of s.live id ≡ o → has_id (Some id) ≡ true
    by None none =
        let idle : false ≡ true =
        sym (ap (λ o. unwrap_or (option_map (λ (t : Thread). is_running t.state) o) false) none)
        ∙ runs in absurd cc
    by (Some t) found =
        let first = All-contains (λ (u : Thread). LOADER ≤ u.id) s.live t placed.ids.first
        (thread_of_is_live s.live id t found) in
        let own = thread_of_id s.live id t found in
        not_from_false (id == 0) (ne_eqb id 0 (λ zero. omega (arith, first, own, zero)))

cause_reads : (next : ℕ) (handler : Option ActiveHandler)
    → IfSome handler (λ h. CanHaveBegun next h.cause) → is_cause (cause_in handler) ≡ true
cause_reads next None begun = refl
cause_reads next (Some handler) begun = by handler.cause begun
  where
    by : (cause : Cause) → CanHaveBegun next cause → is_cause (Some cause) ≡ true
    by (Line line) inside = lt-ltb line IRQ_LINES inside
    by (Alarm number) given = refl

-- ---- the processors that somebody has

cpu_fits : (there : Bool) (cpu : Cpu) → IsReadable cpu
    → fits_where there cpu_form (if_there there cpu) ≡ true
    → fits_where there steady_form (if_there there cpu) ≡ true
cpu_fits true cpu h fits = steady_fits cpu h fits
cpu_fits false cpu h fits = refl

handler_fits : (running : Option ℕ) (handler : Option ActiveHandler)
    → IfSome handler (λ h. IsReadableKept h.kept)
    → fits_where (is_some running && is_some (cause_in handler)) cpu_form
    (kept_for running handler) ≡ true
    → fits_where (is_some running && is_some (cause_in handler)) kept_form
    (kept_for running handler) ≡ true
handler_fits None handler h fits = refl
handler_fits (Some id) None h fits = refl
handler_fits (Some id) (Some handler) h fits = kept_fits handler.kept h fits

cpu_read : (there : Bool) (cpu : Cpu) → (there ≡ false → cpu ≡ zeroed_at 0)
    → fits_where there steady_form (if_there there cpu) ≡ true → IsReadable cpu
cpu_read true cpu bare fits = readable cpu fits
cpu_read false cpu bare fits = subst IsReadable (sym (bare refl)) zeroed_readable.readable

handler_read : (running : Option ℕ) (handler : Option ActiveHandler)
    → (running ≡ None → IfSome handler (λ h. h.kept ≡ zeroed_at 0))
    → fits_where (is_some running && is_some (cause_in handler)) kept_form
    (kept_for running handler) ≡ true
    → IfSome handler (λ h. IsReadableKept h.kept)
handler_read running None bare fits = tt
handler_read None (Some handler) bare fits =
    subst IsReadableKept (sym (bare refl)) zeroed_readable
handler_read (Some id) (Some handler) bare fits = readable_kept handler.kept fits

-- ---- the ready list

-- of the ids but that of the first thread, none is there but those of ready threads behind it
others_few : (t : Thread) (live : List Thread) (ids : List ℕ) (id : ℕ)
    → times id ids ≤ one_if (is_in_state is_ready (t ∷ live) id)
    → times id (without t.id ids) ≤ one_if (is_in_state is_ready live id)
others_few t live ids id = by (t.id == id) refl
  where
    left : times id (without t.id ids) ≡ (if id == t.id then 0 else times id ids)
    left = times_without id t.id ids

    by : (b : Bool) → (t.id == id) ≡ b
        → times id ids ≤ one_if (unwrap_or (option_map (λ (u : Thread). is_ready u.state)
        (if b then Some t else thread_of live id)) false)
        → times id (without t.id ids) ≤ one_if (is_in_state is_ready live id)
    by true is few =
        let own = eq-eqb id t.id (sym (eqb-true t.id id is)) in
        let none : times id (without t.id ids) ≡ 0 =
        left ∙ ap (λ (b : Bool). if b then 0 else times id ids) own in
        omega (arith, none)
    by false is few =
        let other = ne_eqb id t.id (λ e. eqb-false t.id id is (sym e)) in
        let same : times id (without t.id ids) ≡ times id ids =
        left ∙ ap (λ (b : Bool). if b then 0 else times id ids) other in
        omega (arith, same, few)

at_most_one : (b : Bool) → one_if b ≤ 1
at_most_one true = omega arith
at_most_one false = omega arith

-- no more are ready than are live
ready_few : (live : List Thread) (ids : List ℕ)
    → ((id : ℕ) → times id ids ≤ one_if (is_in_state is_ready live id))
    → length ids ≤ length live
ready_few [] [] most = omega arith
ready_few [] (id ∷ ids) most =
    let none : times id (id ∷ ids) ≤ 0 = most id in
    let own : one_if (id == id) ≡ 1 = ap one_if (eq-eqb id id refl) in
    let first = times_first id id ids in
    absurd (omega (arith, none, own, first))
ready_few (t ∷ live) ids most =
    let rest = ready_few live (without t.id ids) (λ id. others_few t live ids id (most id)) in
    let both : times t.id ids + length (without t.id ids) ≡ length ids =
    length-filter_both (λ other. other == t.id) (λ other. not (other == t.id)) (λ other. refl)
    ids in
    let few = most t.id in
    let one = at_most_one (is_in_state is_ready (t ∷ live) t.id) in
    omega (arith, rest, both, few, one)

-- so many can be read
ready_fit : (before ids : List ℕ) → length before + length ids ≤ MOST_THREADS
    → fits_items (λ _. id_form) before ids ≡ true → fits_items next_ready before ids ≡ true
unfolding fits_items
ready_fit before [] few fits = refl
ready_fit before (id ∷ ids) few fits =
    let both = and_parts (id_form.fits id) (fits_items (λ _. id_form) (before ++ id ∷ []) ids)
    fits in
    and_from ((next_ready before).fits id) (fits_items next_ready (before ++ id ∷ []) ids)
    (and_from (id_form.fits id) (nat_lt (length before) MOST_THREADS) both.0
    (lt-ltb (length before) MOST_THREADS (omega (arith, few))))
    (ready_fit (before ++ id ∷ []) ids (omega (arith, few, length_push before id)) both.1)

lists_fit : (s : ThreadTable) → IsPlaced s → All IsReadableThread s.live
    → written_threads.fits (thread_lists s) ≡ true → read_threads.fits (thread_lists s) ≡ true
unfolding threads_form fits_list
lists_fit s placed all fits =
    let ready = (in_order s).ready in
    let ordered = placed_in_order s placed in
    let few = ready_few s.live ready (λ id. let same = ordered.ready id in omega (arith, same)) in
    let both = and_parts (fits_list (λ _. thread_form cpu_form) s.live)
    (fits_list (λ _. id_form) ready) fits in
    let live = and_parts (fits_item COUNT (length s.live ∷ []))
    (fits_items (λ _. thread_form cpu_form) [] s.live) both.0 in
    let ids = and_parts (fits_item COUNT (length ready ∷ [])) (fits_items (λ _. id_form) [] ready)
    both.1 in
    and_from (fits_list (λ _. read_form) s.live) (fits_list next_ready ready)
    (and_from (fits_item COUNT (length s.live ∷ [])) (fits_items (λ _. read_form) [] s.live)
    live.0 (threads_fit s.live all live.1))
    (and_from (fits_item COUNT (length ready ∷ [])) (fits_items next_ready [] ready) ids.0
    (ready_fit [] ready (omega (arith, few, placed.ids.few)) ids.1))

-- ---- all parts

executing_reads : (c : Core) → CanBeBack c → IsSteadyCore c
    → (executing_form head_form cpu_form cpu_form).fits (executing_in c) ≡ true
    → (executing_form read_head steady_form kept_form).fits (executing_in c) ≡ true
unfolding executing_form
executing_reads c can steady fits =
    let h = head_in c.kernel in
    let one = and_parts (head_form.fits h) _ fits in
    let cpu = if_there (executes h) c.cpu in
    let two = and_parts (fits_where (executes h) cpu_form cpu) _ one.1 in
    and_from (read_head.fits h) _
    (and_from (head_form.fits h) (is_head h) one.0
    (and_from (has_id h.running) (is_cause h.cause)
    (running_reads c.kernel.threads can.tables.threads h.running refl)
    (cause_reads c.kernel.timers.next c.kernel.handler can.cause)))
    (and_from (fits_where (executes h) steady_form cpu) _
    (cpu_fits (executes h) c.cpu steady.cpu two.0)
    (handler_fits h.running c.kernel.handler steady.handler two.1))

parts_read : (c : Core) → CanBeBack c → IsSteadyCore c → written_form.fits (parts_in c) ≡ true
    → steady_form_of_parts.fits (parts_in c) ≡ true
unfolding parts_form
parts_read c can steady fits =
    let one = and_parts ((executing_form head_form cpu_form cpu_form).fits (executing_in c)) _
    fits in
    let two = and_parts (written_threads.fits (thread_lists c.kernel.threads)) _ one.1 in
    and_from ((executing_form read_head steady_form kept_form).fits (executing_in c)) _
    (executing_reads c can steady one.0)
    (and_from (read_threads.fits (thread_lists c.kernel.threads)) _
    (lists_fit c.kernel.threads can.tables.threads steady.threads two.0) two.1)

core_reads : (c : Core) → CanBeBack c → IsSteadyCore c → written_form.fits (parts_in c) ≡ true
    → core_form.fits (parts_in c) ≡ true
unfolding core_form
core_reads c can steady fits =
    and_from (steady_form_of_parts.fits (parts_in c)) (is_some (core_back (parts_in c)))
    (parts_read c can steady fits) (ap is_some (cores_back c can))

-- the threads of parts that fit
live_readable : (p : Parts) → steady_form_of_parts.fits p ≡ true
    → All IsReadableThread p.threads.live
unfolding parts_form threads_form fits_list
live_readable p fits =
    let one = and_parts ((executing_form read_head steady_form kept_form).fits p.executing) _
    fits in
    let two = and_parts (read_threads.fits p.threads) _ one.1 in
    let both = and_parts (fits_list (λ _. read_form) p.threads.live)
    (fits_list next_ready p.threads.ready) two.0 in
    let live = and_parts (fits_item COUNT (length p.threads.live ∷ []))
    (fits_items (λ _. read_form) [] p.threads.live) both.0 in
    readable_threads p.threads.live live.1

core_steady : (p : Parts) (c : Core) → steady_form_of_parts.fits p ≡ true → core_back p ≡ Some c
    → IsSteadyCore c
core_steady p c fits is =
    let were = were_put p c is in
    let there = (parts_fit p fits).executing in
    let own : steady_form_of_parts.fits (parts_in c) ≡ true =
    subst (λ (q : Parts). steady_form_of_parts.fits q ≡ true) (sym (parts_are p c were there))
    fits in
    let executing = (parts_fit (parts_in c) own).executing in
    let h = head_in c.kernel in
    record {
      cpu = cpu_read (executes h) c.cpu (cpu_is_bare p c were there) executing.cpu;
      threads = live_readable (parts_in c) own;
      handler = handler_read h.running c.kernel.handler (kept_is_bare p c were there)
          executing.kept;
    }

pub cores_read : CoresAreRead
cores_read = record { fits = core_reads; steady = core_steady }
