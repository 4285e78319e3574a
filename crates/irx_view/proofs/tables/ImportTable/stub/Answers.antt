use Rattle.std.proofs.Common.{◌≤◌, length, arith}
use Rattle.irx_view.proofs.TableLemmas.{import_stands}
use Rattle.irx_view.proofs.tables.ImportTable.stub.Goals as goal

pub stub-requires-clause-table : goal.stub-requires-clause-table
stub-requires-clause-table c =
    let table = c.args.self.now in
    let inside : table.text.now.size ≤ length table.text.now.ram =
    omega (arith, table.text.now.room, table.text.now.inside) in
    import_stands table.text.now.ram table.text.now.size table.import inside table.aligned
    table.stands
