use Rattle.std.proofs.Common.{◌≡◌, length}
use Rattle.iop_machine.specs.Iop.{Iop, Remains}
use Rattle.iop_machine.specs.Loading.{loads_first}
use Rattle.iop_machine.specs.Modules.{modules_of}
use Rattle.iop_machine.specs.Standing.{Stands}
use Rattle.iop_machine.proofs.iop.Iop.load_first.Given as goal

abbrev pub invariant-loop : goal.invariant-loop
invariant-loop g l = record {
  rest : (s : Iop) → Stands l.fn.self s → (v : Iop) × Stands l.self v
      × Remains Stands (loads_first (modules_of s.modules) s)
      (loads_first (modules_of v.modules) v)
      (g.L.Lines.output l.fn.lines) (g.L.Lines.output l.lines);
  same_size : l.self.blocks.size ≡ length l.self.guest.ram;
}

abbrev pub decreases-loop : goal.decreases-loop
decreases-loop g l = length (modules_of l.self.modules)
