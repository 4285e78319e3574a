use Rattle.std.proofs.Common.{◌∙◌, sym, ap, subst, refl, length}
use Rattle.iop_objects.specs.Objects.{AreObjects, waiters_of}
use Rattle.iop_objects.proofs.MappedObjects.{AreObjects-map}
use Rattle.iop_pools.specs.Standing.{pool_in}
use Rattle.iop_pools.proofs.Reading.{waiters_of-in}
use Rattle.iop_pools.proofs.pools.Pools.waiters.Goals as goal

pub returns-clause-count : goal.returns-clause-count
returns-clause-count g c =
    c.waiters.ensures.count
    ∙ ap length (sym (waiters_of-in c.self.inside.objects c.self.inside.outs.items c.args.id))
    ∙ ap (λ s. length (waiters_of s c.args.id)) c.self.view_is

pub returns-clause-sound : goal.returns-clause-sound
returns-clause-sound g c =
    let objects = c.self.inside.objects in
    subst AreObjects c.self.view_is
    (AreObjects-map (pool_in c.self.inside.outs.items) (λ o. refl) objects.live objects.next
    c.waiters.ensures.sound)
