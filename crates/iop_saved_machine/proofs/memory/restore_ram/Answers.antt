use Rattle.std.proofs.Common.{◌≡◌, ℕ, Some, List, ap, length, sym, ◌∙◌, subst, arith}
use Rattle.std.specs.Prelude.{All}
use Rattle.iop_base.specs.Numbers.{IsByte}
use Rattle.iop_stubs.specs.Stubs.{Memory}
use Rattle.iop_saved_machine.specs.Parts.{ram_form}
use Rattle.iop_saved_machine.proofs.Lending.{are_bytes, bytes_long, ram_read}
use Rattle.iop_saved_machine.proofs.memory.restore_ram.Goals as goal

pub prove-unreachable-requires : goal.prove-unreachable-requires
prove-unreachable-requires c =
    let xs = c.in-Some.bytes.now in
    let long = bytes_long c.args.size c.args.decoder.now xs c.bytes.new.self
    c.in-Some.ensures.read in
    let made = ap (λ (memory : Memory). length memory.ram) c.in_ok-made.ensures.memory in
    omega (arith, long, made, c.size.ensures.value, ap length c.ram.ensures.value, c.if-prove.true)

pub returns-clause-read : goal.returns-clause-read
returns-clause-read c =
    let xs = c.in-Some.bytes.now in
    let size = c.args.size in
    let before = c.args.decoder.now in
    let rest = c.bytes.new.self in
    let same = ap (λ (memory : Memory). memory.ram) c.in_ok-made.ensures.memory in
    let all = subst (All IsByte) same c.ram.ensures.bytes in
    subst (λ (ram : List ℕ). (ram_form size).read before ≡ Some (ram, rest)) (sym same)
    (ram_read size before xs rest c.in-Some.ensures.read (are_bytes xs all))
