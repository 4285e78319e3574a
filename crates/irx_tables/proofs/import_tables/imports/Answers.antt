use Rattle.std.proofs.Common.{ℕ, ◌≤◌, length, arith, subst}
use Rattle.irx_tables.specs.Results.{IsNextImport}
use Rattle.irx_tables.proofs.Importing.{import_found}
use Rattle.irx_tables.proofs.import_tables.imports.Goals as goal

pub returns-in-Some-read_import-clause-table : goal.returns-in-Some-read_import-clause-table
returns-in-Some-read_import-clause-table c =
    let start = c.in-Some.ensures in
    let read = c.in-Some-read_import.ensures in
    let import = c.in-Some-read_import.import in
    let stop = c.end_in_ram-stop in
    let inside : stop.result ≤ length c.args.ram.now =
    omega (arith, stop.ensures.stop, c.requires.inside) in
    let got = import_found c.args.ram.now stop.result c.args.scan c.in-Some.at import inside
    start.place.2 start.start read.table in
    subst (λ (stop : ℕ). IsNextImport c.args.ram.now stop c.args.scan import)
    stop.ensures.stop
    (record {
      table = got.0;
      next = got.1;
      stands = got.2;
      after = omega (arith, start.place, read.extent);
      place = read.extent.0;
    })
