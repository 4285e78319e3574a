use Rattle.std.proofs.Common.{Some, ap, sym, ◌∙◌}
use Rattle.iop_sysclib.specs.Calls.{serves_sysclib, argument}
use Rattle.iop_sysclib.specs.MemoryCalls.{memchr, memcmp}
use Rattle.iop_sysclib.specs.Outcomes.{answers}
use Rattle.iop_sysclib.proofs.ServedCalls.{served_reading, served_answer, served_as}
use Rattle.iop_sysclib.proofs.serving.serve_sysclib.Goals as goal

pub returns-in-Memchr-clause-served : goal.returns-in-Memchr-clause-served
returns-in-Memchr-clause-served g c =
    let cpu = c.args.cpu.now in
    served_as (ap (serves_sysclib c.args.guest.now.ram cpu) c.in-Memchr.is)
    (served_answer
    (memchr c.args.guest.now.ram (argument cpu 0) (argument cpu 1) (argument cpu 2))
    c.args.now c.args.guest.now _ c.memchr.ensures)

pub returns-in-Memcmp-clause-served : goal.returns-in-Memcmp-clause-served
returns-in-Memcmp-clause-served g c =
    let cpu = c.args.cpu.now in
    served_as (ap (serves_sysclib c.args.guest.now.ram cpu) c.in-Memcmp.is)
    (served_answer
    (memcmp c.args.guest.now.ram (argument cpu 0) (argument cpu 1) (argument cpu 2))
    c.args.now c.args.guest.now _ c.memcmp.ensures)

pub returns-in-Strchr-clause-served : goal.returns-in-Strchr-clause-served
returns-in-Strchr-clause-served g c =
    served_as
    (ap (serves_sysclib c.args.guest.now.ram c.args.cpu.now) c.in-Strchr.is
    ∙ ap answers (sym c.strchr.ensures))
    (served_reading (Some c.strchr.result) c.args.now c.args.guest.now _)

pub returns-in-Strcmp-clause-served : goal.returns-in-Strcmp-clause-served
returns-in-Strcmp-clause-served g c =
    served_as
    (ap (serves_sysclib c.args.guest.now.ram c.args.cpu.now) c.in-Strcmp.is
    ∙ ap answers (sym c.strcmp.ensures))
    (served_reading (Some c.strcmp.result) c.args.now c.args.guest.now _)

pub returns-in-Strlen-clause-served : goal.returns-in-Strlen-clause-served
returns-in-Strlen-clause-served g c =
    served_as
    (ap (serves_sysclib c.args.guest.now.ram c.args.cpu.now) c.in-Strlen.is
    ∙ ap answers (sym c.strlen.ensures))
    (served_reading (Some c.strlen.result) c.args.now c.args.guest.now _)

pub returns-in-Strncmp-clause-served : goal.returns-in-Strncmp-clause-served
returns-in-Strncmp-clause-served g c =
    served_as
    (ap (serves_sysclib c.args.guest.now.ram c.args.cpu.now) c.in-Strncmp.is
    ∙ ap answers (sym c.strncmp.ensures))
    (served_reading (Some c.strncmp.result) c.args.now c.args.guest.now _)

pub returns-in-Strrchr-clause-served : goal.returns-in-Strrchr-clause-served
returns-in-Strrchr-clause-served g c =
    served_as
    (ap (serves_sysclib c.args.guest.now.ram c.args.cpu.now) c.in-Strrchr.is
    ∙ ap answers (sym c.strrchr.ensures))
    (served_reading (Some c.strrchr.result) c.args.now c.args.guest.now _)
