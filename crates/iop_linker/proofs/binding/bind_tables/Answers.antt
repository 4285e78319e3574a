use Rattle.std.proofs.Common.{ℕ, ◌+◌, List, length, subst, ap, arith, ◌∙◌}
use Rattle.irx_tables.specs.Imports.{next_table}
use Rattle.irx_tables.specs.Results.{next_of, IsNextImport}
use Rattle.iop_linker.proofs.Linked.{room_for_table, linking_next, linking_last}
use Rattle.iop_linker.proofs.binding.bind_tables.Goals as goal
use Rattle.iop_linker.proofs.binding.bind_tables.Goals.{After-library}

found : (c : After-library)
    → IsNextImport c.loop-import.guest.ram
    (c.args.from + c.args.len) c.loop-import.scan c.in-Table.import
found c =
    subst (λ (m : List ℕ).
    IsNextImport m (c.args.from + c.args.len) c.loop-import.scan c.in-Table.import)
    c.ram.ensures.value c.in-Table.ensures.table

pub imports-requires-clause-inside : goal.imports-requires-clause-inside
imports-requires-clause-inside c =
    omega (
      arith,
      c.loop-import.invariant.readable.size,
      ap length c.ram.ensures.value,
      c.requires.inside,
    )

pub bind_table-requires-clause-inside : goal.bind_table-requires-clause-inside
bind_table-requires-clause-inside c =
    omega (arith, c.loop-import.invariant.readable.size, c.requires.inside)

pub bind_table-requires-clause-table : goal.bind_table-requires-clause-table
bind_table-requires-clause-table c = let t = found c in (t.table, t.stands)

pub bind_table-requires-clause-room : goal.bind_table-requires-clause-room
bind_table-requires-clause-room c =
    room_for_table c.args.from c.args.len c.args.registry.now c.args.guest.now c.requires.apart
    c.loop-import.guest c.loop-import.scan c.loop-import.invariant
    c.in-Table.import (found c) c.library.result c.library.ensures.table c.library.ensures.place

pub loop-import-preserved : goal.loop-import-preserved
loop-import-preserved c =
    let t = subst
    (λ (m : List ℕ). IsNextImport m
    (c.args.from + c.args.len) c.loop-import.scan c.in-Table.import) c.ram.ensures.value
    c.in-Table.ensures.table in
    linking_next c.args.from c.args.len c.args.registry.now c.args.guest.now c.requires.apart
    c.loop-import.guest c.loop-import.scan c.loop-import.invariant
    c.in-Table.import t c.library.result c.library.ensures.table c.library.ensures.place
    c.bind_table.new.guest c.bind_table.ensures

pub returns-clause-memory : goal.returns-clause-memory
returns-clause-memory c =
    linking_last c.args.from c.args.len c.args.registry.now c.args.guest.now c.requires.apart
    c.loop-import.guest c.loop-import.scan c.loop-import.invariant
    c.imports.result
    (c.imports.ensures.next
    ∙ ap (λ (m : List ℕ). next_of (next_table m (c.args.from + c.args.len) c.loop-import.scan))
    c.ram.ensures.value)
    c.in_default.not-Table
