use Rattle.std.proofs.Common.{◌≡◌, arith}
use Rattle.iop_services.specs.declared.codes.TheConstants.{SERVICES}
use Rattle.iop_machine.proofs.Area.{table_is}
use Rattle.iop_machine.proofs.kernel_area.append_table.Goals as goal

pub returns-clause-bytes : goal.returns-clause-bytes
returns-clause-bytes g c =
    let all : c.loop-number.number ≡ SERVICES =
    omega (arith, c.loop-number-test.false, c.loop-number.auto.number-end) in
    let whole = table_is c.args.tables.now.items c.args.library in
    cc
