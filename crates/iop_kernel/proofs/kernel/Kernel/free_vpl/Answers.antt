use Rattle.std.proofs.Common.{◌≡◌, true, refl, rules, sym}
use Rattle.iop_base.specs.declared.code.TheConstants.Code.{OK}
use Rattle.iop_pools.specs.VariablePools.{gives}
use Rattle.iop_kernel.specs.Waits.{is_code}
use Rattle.iop_kernel.proofs.Bodies.Standing.{over, told, holds_variable}
use Rattle.iop_kernel.proofs.kernel.Kernel.free_vpl.Goals as goal

pub meet_vpl-requires : goal.meet_vpl-requires
meet_vpl-requires g c =
    record { sound = (_, holds_variable g.R.Ready.stands c.requires.sound.1 refl) }

pub returns-in-OK : goal.returns-in-OK
returns-in-OK g c = over g.R.Ready.stands _ (λ t h.
    let did = gives c.args.self.now.variable_pools c.args.id c.args.block in
    let ok : is_code c.give.result OK ≡ true = search rules in
    rw (told did c.give.ensures.answer, ok)
    (c.meet_vpl.ensures _ (holds_variable g.R.Ready.stands h (sym c.give.ensures.left))))
