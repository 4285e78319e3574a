use Rattle.std.proofs.Common.{◌+◌, List, length, arith, ap, sym, subst}
use Rattle.iop_stubs.specs.declared.live_stub.Stub.{Stub}
use Rattle.iop_linker.specs.Underway.{former_functions, Binds}
use Rattle.iop_linker.proofs.Bound.{may_bind, bind_binds, index_is, bound_here}
use Rattle.iop_linker.proofs.binding.bind_stub.Goals as goal

pub bind-requires : goal.bind-requires
bind-requires c =
    let words = former_functions c.args.text.from c.args.text.len c.args.guest.now
    c.args.functions.table in
    let import = c.args.import.now in
    let index = index_is c.args.guest.now.ram c.ram.result.now c.args.at c.requires.next.stands
    c.ram.ensures.value c.word.ensures.value in
    let one = bound_here c.args.guest.now.ram import.name words import.version c.args.at
    c.major.ensures index c.in-Some.ensures c.target.ensures.place in
    may_bind c.args.text.from c.args.text.len c.args.guest.now _ c.requires.next index
    c.target.ensures.aligned c.target.ensures.near
    (omega (arith, c.requires.room, ap length one))

pub returns-in-Some : goal.returns-in-Some
returns-in-Some c =
    let words = former_functions c.args.text.from c.args.text.len c.args.guest.now
    c.args.functions.table in
    let import = c.args.import.now in
    let index = index_is c.args.guest.now.ram c.ram.result.now c.args.at c.requires.next.stands
    c.ram.ensures.value c.word.ensures.value in
    let one = bound_here c.args.guest.now.ram import.name words import.version c.args.at
    c.major.ensures index c.in-Some.ensures c.target.ensures.place in
    subst (λ (stubs : List Stub).
    Binds c.args.text.from c.args.text.len
    (c.args.at + 8) c.args.guest.now c.bind.new.self stubs) (sym one)
    (bind_binds c.args.text.from c.args.text.len c.args.guest.now _ c.requires.next c.bind.new.self
    c.bind.ensures.memory)
