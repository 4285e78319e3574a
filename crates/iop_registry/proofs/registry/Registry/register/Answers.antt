use Rattle.std.proofs.Common.{arith, subst, sym}
use Rattle.iop_registry.specs.Entries.{IsRegistry}
use Rattle.iop_registry.proofs.Keeping.{one_more}
use Rattle.iop_registry.proofs.registry.Registry.register.Goals as goal

sound : (c : goal.After-push_reserved) → IsRegistry c.push_reserved.new.self.items
sound c =
    subst IsRegistry (sym c.push_reserved.ensures.items)
    (one_more c.self.inside.entries.items
    (record { name = c.args.name; major = c.args.major; table = c.args.table })
    c.self.invariant.0 c.requires (grind arith) (omega arith))

pub invariant_of-self : goal.invariant_of-self
invariant_of-self c = (sound c, omega (arith, c.push_reserved.ensures.capacity))

pub returns-clause-sound : goal.returns-clause-sound
returns-clause-sound c = sound c
