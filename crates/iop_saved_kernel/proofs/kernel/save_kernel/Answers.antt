use Rattle.std.proofs.Common.{◌≡◌, true, Ok, Err, ap, sym, subst, ◌∙◌}
use Rattle.std.proofs.lemmas.Bool.{and_from}
use Rattle.iop_kernel.specs.Standing.{core}
use Rattle.iop_kernel.specs.System.{Kernel as State}
use Rattle.iop_saved_threads.specs.Processors.{cpu_form}
use Rattle.iop_saved_threads.specs.Threads.{HasRoom}
use Rattle.iop_snapshot.proofs.Sending.{writes_then, writes_exit}
use Rattle.iop_snapshot.specs.Writing.{Writes, place_of}
use Rattle.iop_saved_kernel.specs.Executing.{executing_form, executing_with, head_in}
use Rattle.iop_saved_kernel.specs.Heads.{head_form}
use Rattle.iop_saved_kernel.specs.Next.{next_form, next_in}
use Rattle.iop_saved_kernel.specs.Parts.{parts_in, parts_form, written_form}
use Rattle.iop_saved_kernel.specs.declared.executing.Executing.{Executing}
use Rattle.iop_saved_kernel.specs.declared.head.KernelHead.{KernelHead}
use Rattle.iop_saved_kernel.specs.declared.next.Next.{Next}
use Rattle.iop_saved_kernel.proofs.Writing.{kernel_of, held_is, where_ok, executing_fits}
use Rattle.iop_saved_kernel.proofs.kernel.save_kernel.Goals as goal

pub save_threads-requires : goal.save_threads-requires
save_threads-requires g c =
    let held = c.requires.sound in record { sound = (held.0.threads, held.1.threads) }

pub returns-in_err-save-clause-written : goal.returns-in_err-save-clause-written
unfolding parts_form
returns-in_err-save-clause-written g c k h =
    let p = c.args.kernel.now in
    let cpu = c.args.cpu.now in
    let executing = c.new.ensures
    ∙ ap (λ (head : KernelHead). executing_with head cpu p.handler)
    (c.head_of.ensures k h ∙ ap head_in (held_is h)) in
    let written_of = λ (s : State). written_form.spell (parts_in (core s cpu)) in
    subst (λ s. Writes c.from_residual.result (written_of s)
    (place_of g.S.Sink.told c.args.encoder.now) (place_of g.S.Sink.told c.save.new.encoder)) (sym (held_is h))
    (writes_exit c.from_residual.result _ c.from_residual.ensures.0 (subst (λ (e : Executing). Writes (Err c.in_err-save.field-0.0) ((executing_form head_form cpu_form cpu_form).spell e)
    (place_of g.S.Sink.told c.args.encoder.now) (place_of g.S.Sink.told c.save.new.encoder))
    executing c.in_err-save.ensures.written))

pub returns-in_err-save_threads-clause-written : goal.returns-in_err-save_threads-clause-written
unfolding parts_form
returns-in_err-save_threads-clause-written g c k h =
    let p = c.args.kernel.now in
    let cpu = c.args.cpu.now in
    let executing = c.new.ensures
    ∙ ap (λ (head : KernelHead). executing_with head cpu p.handler)
    (c.head_of.ensures k h ∙ ap head_in (held_is h)) in
    let written_of = λ (s : State). written_form.spell (parts_in (core s cpu)) in
    subst (λ s. Writes c.from_residual-in_err-save_threads.result (written_of s)
    (place_of g.S.Sink.told c.args.encoder.now) (place_of g.S.Sink.told c.save_threads.new.encoder)) (sym (held_is h))
    (writes_then (subst (λ (e : Executing). Writes (Ok c.in_ok-save.field-0) ((executing_form head_form cpu_form cpu_form).spell e)
    (place_of g.S.Sink.told c.args.encoder.now) (place_of g.S.Sink.told c.save.new.encoder))
    executing c.in_ok-save.ensures.written)
    (writes_exit c.from_residual-in_err-save_threads.result _ c.from_residual-in_err-save_threads.ensures.0 (c.in_err-save_threads.ensures.written k.threads h.threads)))

pub returns-in_err-save_objects-clause-written : goal.returns-in_err-save_objects-clause-written
unfolding parts_form
returns-in_err-save_objects-clause-written g c k h =
    let p = c.args.kernel.now in
    let cpu = c.args.cpu.now in
    let executing = c.new.ensures
    ∙ ap (λ (head : KernelHead). executing_with head cpu p.handler)
    (c.head_of.ensures k h ∙ ap head_in (held_is h)) in
    let written_of = λ (s : State). written_form.spell (parts_in (core s cpu)) in
    subst (λ s. Writes c.from_residual-in_err-save_objects.result (written_of s)
    (place_of g.S.Sink.told c.args.encoder.now) (place_of g.S.Sink.told c.save_objects.new.encoder)) (sym (held_is h))
    (writes_then (subst (λ (e : Executing). Writes (Ok c.in_ok-save.field-0) ((executing_form head_form cpu_form cpu_form).spell e)
    (place_of g.S.Sink.told c.args.encoder.now) (place_of g.S.Sink.told c.save.new.encoder))
    executing c.in_ok-save.ensures.written)
    (writes_then (c.in_ok-save_threads.ensures.written k.threads h.threads)
    (writes_exit c.from_residual-in_err-save_objects.result _ c.from_residual-in_err-save_objects.ensures.0 c.in_err-save_objects.ensures.written)))

pub returns-in_err-save_timers-clause-written : goal.returns-in_err-save_timers-clause-written
unfolding parts_form
returns-in_err-save_timers-clause-written g c k h =
    let p = c.args.kernel.now in
    let cpu = c.args.cpu.now in
    let executing = c.new.ensures
    ∙ ap (λ (head : KernelHead). executing_with head cpu p.handler)
    (c.head_of.ensures k h ∙ ap head_in (held_is h)) in
    let written_of = λ (s : State). written_form.spell (parts_in (core s cpu)) in
    subst (λ s. Writes c.from_residual-in_err-save_timers.result (written_of s)
    (place_of g.S.Sink.told c.args.encoder.now) (place_of g.S.Sink.told c.save_timers.new.encoder)) (sym (held_is h))
    (writes_then (subst (λ (e : Executing). Writes (Ok c.in_ok-save.field-0) ((executing_form head_form cpu_form cpu_form).spell e)
    (place_of g.S.Sink.told c.args.encoder.now) (place_of g.S.Sink.told c.save.new.encoder))
    executing c.in_ok-save.ensures.written)
    (writes_then (c.in_ok-save_threads.ensures.written k.threads h.threads)
    (writes_then c.in_ok-save_objects.ensures.written
    (writes_exit c.from_residual-in_err-save_timers.result _ c.from_residual-in_err-save_timers.ensures.0 c.in_err-save_timers.ensures.written))))

pub returns-in_err-save_lines-clause-written : goal.returns-in_err-save_lines-clause-written
unfolding parts_form
returns-in_err-save_lines-clause-written g c k h =
    let p = c.args.kernel.now in
    let cpu = c.args.cpu.now in
    let executing = c.new.ensures
    ∙ ap (λ (head : KernelHead). executing_with head cpu p.handler)
    (c.head_of.ensures k h ∙ ap head_in (held_is h)) in
    let written_of = λ (s : State). written_form.spell (parts_in (core s cpu)) in
    subst (λ s. Writes c.from_residual-in_err-save_lines.result (written_of s)
    (place_of g.S.Sink.told c.args.encoder.now) (place_of g.S.Sink.told c.save_lines.new.encoder)) (sym (held_is h))
    (writes_then (subst (λ (e : Executing). Writes (Ok c.in_ok-save.field-0) ((executing_form head_form cpu_form cpu_form).spell e)
    (place_of g.S.Sink.told c.args.encoder.now) (place_of g.S.Sink.told c.save.new.encoder))
    executing c.in_ok-save.ensures.written)
    (writes_then (c.in_ok-save_threads.ensures.written k.threads h.threads)
    (writes_then c.in_ok-save_objects.ensures.written
    (writes_then c.in_ok-save_timers.ensures.written
    (writes_exit c.from_residual-in_err-save_lines.result _ c.from_residual-in_err-save_lines.ensures.0 c.in_err-save_lines.ensures.written)))))

pub returns-clause-written : goal.returns-clause-written
unfolding parts_form
returns-clause-written g c k h =
    let p = c.args.kernel.now in
    let cpu = c.args.cpu.now in
    let executing = c.new.ensures
    ∙ ap (λ (head : KernelHead). executing_with head cpu p.handler)
    (c.head_of.ensures k h ∙ ap head_in (held_is h)) in
    let written_of = λ (s : State). written_form.spell (parts_in (core s cpu)) in
    subst (λ s. Writes c.save_next.result (written_of s)
    (place_of g.S.Sink.told c.args.encoder.now) (place_of g.S.Sink.told c.save_next.new.encoder)) (sym (held_is h))
    (writes_then (subst (λ (e : Executing). Writes (Ok c.in_ok-save.field-0) ((executing_form head_form cpu_form cpu_form).spell e)
    (place_of g.S.Sink.told c.args.encoder.now) (place_of g.S.Sink.told c.save.new.encoder))
    executing c.in_ok-save.ensures.written)
    (writes_then (c.in_ok-save_threads.ensures.written k.threads h.threads)
    (writes_then c.in_ok-save_objects.ensures.written
    (writes_then c.in_ok-save_timers.ensures.written
    (writes_then c.in_ok-save_lines.ensures.written
    (subst (λ (n : Next). Writes c.save_next.result (next_form.spell n)
    (place_of g.S.Sink.told c.save_lines.new.encoder)
    (place_of g.S.Sink.told c.save_next.new.encoder))
    (c.next_of.ensures k h ∙ ap next_in (held_is h)) c.save_next.ensures.written))))))

pub next_of-requires : goal.next_of-requires
next_of-requires g c = record { sound = c.requires.sound }

pub returns-clause-fits : goal.returns-clause-fits
unfolding parts_form
returns-clause-fits g c =
    where_ok c.save_next.result (λ k h.
    let p = c.args.kernel.now in
    let cpu = c.args.cpu.now in
    let executing = c.new.ensures
    ∙ ap (λ (head : KernelHead). executing_with head cpu p.handler)
    (c.head_of.ensures k h ∙ ap head_in (held_is h)) in
    subst (λ (s : State). written_form.fits (parts_in (core s cpu)) ≡ true) (sym (held_is h))
    (and_from _ _
    (executing_fits (kernel_of p k.threads) cpu
    (subst (λ (e : Executing). head_form.fits e.head ≡ true) executing c.in_ok-save.ensures.fits)
    (subst (λ (e : Executing). HasRoom e.cpu × HasRoom e.kept) executing c.in_ok-save.ensures.cpu))
    (and_from _ _ (c.in_ok-save_threads.ensures.fits k.threads h.threads)
    (and_from _ _ c.in_ok-save_objects.ensures.fits
    (and_from _ _ c.in_ok-save_timers.ensures.fits
    (and_from _ _ c.in_ok-save_lines.ensures.fits
    (subst (λ (n : Next). next_form.fits n ≡ true)
    (c.next_of.ensures k h ∙ ap next_in (held_is h)) c.save_next.ensures.fits)))))))
