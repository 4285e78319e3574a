use Rattle.iop_kernel.specs.Standing.{system}
use Rattle.iop_kernel.proofs.Placing.Rooms.{active_room}
use Rattle.iop_kernel.proofs.Placing.Services.{services_place}
use Rattle.iop_kernel.proofs.kernel.Kernel.service.Goals as goal

pub serve_code-requires-clause-room : goal.serve_code-requires-clause-room
serve_code-requires-clause-room g c = active_room c.args.self.now c.requires.active

pub returns : goal.returns
returns g c = λ k h.
    let s = system k c.args.cpu.now c.args.guest.now c.args.blocks.now c.args.registry.now in
    record {
      served = c.serve_code.ensures k h.holds;
      placed = services_place s c.args.code h.placed;
    }
