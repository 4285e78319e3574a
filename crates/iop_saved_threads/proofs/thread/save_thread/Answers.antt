use Rattle.std.proofs.Common.{ℕ, List, Ok, subst}
use Rattle.iop_snapshot.specs.Forms.{spell_where}
use Rattle.iop_snapshot.specs.Items.{spell_item}
use Rattle.iop_snapshot.specs.Writing.{Writes, place_of}
use Rattle.iop_snapshot.specs.declared.widths.TheConstants.{THREAD}
use Rattle.iop_snapshot.proofs.Saving.{if_ok}
use Rattle.iop_snapshot.proofs.Sending.{writes_exit, writes_then}
use Rattle.iop_saved_threads.specs.Processors.{cpu_form}
use Rattle.iop_saved_threads.specs.Threads.{HasRoom, cpu_in}
use Rattle.iop_saved_threads.proofs.ThreadLaws.{thread_spelled, thread_fits}
use Rattle.iop_saved_threads.proofs.thread.save_thread.Goals as goal

pub returns-in_err-item-clause-written : goal.returns-in_err-item-clause-written
returns-in_err-item-clause-written g c =
    let thread = c.args.thread.now in
    rw (thread_spelled thread)
    (writes_exit c.from_residual.result (spell_where cpu_form (cpu_in thread.state))
    c.from_residual.ensures.0
    (rw (← c.numbers_of_thread.ensures.numbers) c.in_err-item.ensures))

pub returns-clause-written : goal.returns-clause-written
returns-clause-written g c =
    rw (thread_spelled c.args.thread.now)
    (writes_then
    (subst (λ (ns : List ℕ). Writes (Ok c.in_ok-item.field-0) (spell_item THREAD ns)
    (place_of g.S.Sink.told c.args.encoder.now) (place_of g.S.Sink.told c.item.new.self))
    c.numbers_of_thread.ensures.numbers c.in_ok-item.ensures)
    (rw (← c.registers_in.ensures) c.save_registers.ensures.written))

pub returns-clause-fits : goal.returns-clause-fits
returns-clause-fits g c =
    let thread = c.args.thread.now in
    if_ok c.save_registers.result
    (λ room. thread_fits thread c.numbers_of_thread.ensures.fits
    (subst HasRoom c.registers_in.ensures room))
    c.save_registers.ensures.fits
