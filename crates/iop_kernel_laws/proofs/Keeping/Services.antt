-- What each service keeps of the kernel, of its processor, of memory and of its blocks, and what
-- becomes of its caller.
use Rattle.std.proofs.Common.{◌≡◌, ℕ, true}
use Rattle.iop_kernel.specs.Laws.{ServicesKeep}
use Rattle.iop_kernel.specs.Serving.{services}
use Rattle.iop_kernel.specs.System.{System, is_active}
use Rattle.iop_kernel.proofs.Keeping.Core.{alone_of, holds_whole}
use Rattle.iop_kernel_laws.proofs.Keeping.Goes.{Went}
use Rattle.iop_kernel_laws.proofs.Keeping.Moves.{kept_moves, kept_calls}
use Rattle.iop_kernel_laws.proofs.Keeping.Stores.{services_store, has_written}
use Rattle.iop_kernel_laws.proofs.Overdue.Services.{services_overdue}
use Rattle.iop_kernel_laws.proofs.KeptPlaces.{places_in, services_have_places}
use Rattle.iop_kernel.proofs.Placing.Services.{services_place}
use Rattle.iop_kernel_laws.proofs.SoundPools.{services_sound}
use Rattle.iop_kernel.proofs.Walk.Services.{services_go, asked_active}

-- what each does with the kernel, its processor and its caller
services_went : (s : System) (code : ℕ) → is_active s.core.kernel ≡ true
    → let d = services s code in
    Went s d.left.after d.left.state d.pieces
services_went s code active =
    services_go (kept_moves s active) (kept_calls s active) (asked_active s active) code

-- each service of each code keeps all of it
pub services_keep : ServicesKeep
services_keep s code active =
    let h = services_went s code active in
    let stored = services_store s code in
    record {
      follows = λ one placed is. h.follows one placed.threads is;
      handler_follows = h.handler_follows;
      answers = h.answers;
      numbers = h.numbers;
      placed = services_place s code;
      overdue = services_overdue s code;
      core = λ clear core.
          holds_whole (services_place s code core.placed) (services_overdue s code core.overdue)
          (h.alone core.placed.threads clear (alone_of core));
      clock = stored.clock;
      memory = has_written s _ _ stored;
      blocks = stored.blocks;
      places = λ have.
          let left = (services s code).left.state in
          places_in s.memory left.memory left.core.kernel stored.stored.size
          (services_have_places s code have);
      pools = λ are size sound. services_sound s are size sound code;
    }
