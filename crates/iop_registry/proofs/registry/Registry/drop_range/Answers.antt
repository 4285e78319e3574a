use Rattle.std.proofs.Common.{◌≡◌, rules, arith, subst, sym}
use Rattle.std.proofs.lemmas.Fn.{filter_same}
use Rattle.iop_registry.specs.Entries.{drop_range, IsRegistry}
use Rattle.iop_registry.proofs.Keeping.{without_range}
use Rattle.iop_registry.proofs.registry.Registry.drop_range.Goals as goal

is_left : (c : goal.After-retain)
    → c.retain.new.self.items ≡ drop_range c.self.inside.entries.items c.args.from c.args.len
is_left c = filter_same _ _ _ (λ x b f' k. search rules) _ _ c.retain.ensures.filtered

sound : (c : goal.After-retain) → IsRegistry c.retain.new.self.items
sound c =
    subst IsRegistry (sym (is_left c))
    (without_range c.self.inside.entries.items c.args.from c.args.len c.self.invariant.0)

pub invariant_of-self : goal.invariant_of-self
invariant_of-self c = (sound c, omega (arith, c.retain.ensures.capacity))

pub returns-clause-entries : goal.returns-clause-entries
returns-clause-entries c = rw (← c.self.view_is) (is_left c)

pub returns-clause-sound : goal.returns-clause-sound
returns-clause-sound c = sound c
