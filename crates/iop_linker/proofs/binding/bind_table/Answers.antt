use Rattle.std.proofs.Common.{◌≡◌, ℕ, ◌+◌, ◌*◌, ◌%◌, Option, Some, IfSome, arith, sym, ◌∙◌, subst}
use Rattle.irx_tables.specs.declared.words.TheConstants.{HEADER_BYTES}
use Rattle.iop_registry.specs.Entries.{IsTable}
use Rattle.iop_linker.specs.Underway.{table_stubs, stubs_at, HasRoom, Binds}
use Rattle.iop_linker.proofs.Ahead.{stub_ahead}
use Rattle.iop_linker.proofs.Bound.{IsBinding, room_here, binding_next, binding_binds, rest_binds}
use Rattle.iop_linker.proofs.Tables.{stands}
use Rattle.iop_linker.proofs.binding.bind_table.Goals as goal

even : (library : Option ℕ) (table : ℕ) → library ≡ Some table → IfSome library IsTable
    → table % 4 ≡ 0
even library table e h = let is_table : IsTable table =
    subst (λ (o : Option ℕ). IfSome o IsTable) e h in is_table.1

pub bind_stub-requires-clause-next : goal.bind_stub-requires-clause-next
bind_stub-requires-clause-next c =
    let place : ℕ = c.args.import.now.at + HEADER_BYTES + 8 * c.loop-i.i in
    record {
      after = omega (arith, c.requires.after);
      before = omega (arith, c.requires.extent, c.loop-i-test.true);
      inside = omega (arith, c.loop-i.invariant.readable.size, c.requires.inside);
      aligned = omega (arith, c.requires.extent);
      stands =
          stub_ahead place c.args.guest.now.ram c.loop-i.guest.ram c.loop-i.invariant.readable.ahead
          place (omega arith)
          ∙ stands c.args.guest.now.ram c.args.import.now c.requires.table.0 c.requires.table.1
          c.loop-i.i c.loop-i-test.true;
      free = c.loop-i.invariant.free;
    }

pub bind_stub-requires-clause-functions : goal.bind_stub-requires-clause-functions
bind_stub-requires-clause-functions c = λ some.
    omega (
      arith,
      c.functions_at-functions.ensures.table,
      c.functions_at-functions.ensures.inside some,
      c.loop-i.invariant.readable.size,
    )

-- the room of one stub, by the place of the export table
pub bind_stub-requires-clause-room : goal.bind_stub-requires-clause-room
bind_stub-requires-clause-room c =
    subst (λ (table : ℕ).
    HasRoom c.loop-i.guest
    (stubs_at c.args.text.from c.args.text.len c.loop-i.guest c.args.import.now table
    (c.args.import.now.at + HEADER_BYTES + 8 * c.loop-i.i)))
    (sym c.functions_at-functions.ensures.table)
    (room_here c.args.text.from c.args.text.len c.args.import.now c.in-Some.table c.args.guest.now
    c.loop-i.guest c.loop-i.i c.loop-i-test.true
    (even c.args.library c.in-Some.table c.in-Some.is c.requires.library) c.loop-i.invariant)

pub loop-i-preserved : goal.loop-i-preserved
loop-i-preserved c =
    binding_next c.args.text.from c.args.text.len c.args.import.now c.in-Some.table c.args.guest.now
    c.loop-i.guest c.loop-i.i c.loop-i-test.true
    (even c.args.library c.in-Some.table c.in-Some.is c.requires.library) c.loop-i.invariant
    c.bind_stub.new.guest
    (subst (λ (table : ℕ).
    Binds c.args.text.from c.args.text.len
    (c.args.import.now.at + HEADER_BYTES + 8 * c.loop-i.i + 8) c.loop-i.guest
    c.bind_stub.new.guest
    (stubs_at c.args.text.from c.args.text.len c.loop-i.guest c.args.import.now table
    (c.args.import.now.at + HEADER_BYTES + 8 * c.loop-i.i)))
    c.functions_at-functions.ensures.table c.bind_stub.ensures)

pub returns : goal.returns
returns c =
    let all : c.loop-i.i ≡ c.args.import.now.stubs = omega arith in
    subst (λ (o : Option ℕ).
    Binds c.args.text.from c.args.text.len c.args.import.now.end c.args.guest.now c.loop-i.guest
    (table_stubs c.args.text.from c.args.text.len c.args.guest.now c.args.import.now o))
    (sym c.in-Some.is)
    (binding_binds c.args.text.from c.args.text.len c.args.import.now c.in-Some.table
    c.args.guest.now c.loop-i.guest c.requires.extent
    (subst (λ (i : ℕ). IsBinding c.args.text.from c.args.text.len c.args.import.now c.in-Some.table
    c.args.guest.now c.loop-i.guest i) all c.loop-i.invariant))

pub returns-in_default : goal.returns-in_default
returns-in_default c =
    subst (λ (o : Option ℕ).
    Binds c.args.text.from c.args.text.len c.args.import.now.end c.args.guest.now
    c.args.guest.now
    (table_stubs c.args.text.from c.args.text.len c.args.guest.now c.args.import.now o))
    (sym c.in_default.is)
    (rest_binds c.args.text.from c.args.text.len c.args.import.now.at c.args.import.now.end
    c.args.guest.now (omega (arith, c.requires.extent)) c.requires.extent.inside
    c.requires.free)
