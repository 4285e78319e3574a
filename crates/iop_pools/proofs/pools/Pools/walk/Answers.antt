use Rattle.std.proofs.Common.{◌∙◌, sym, ap, option_map}
use Rattle.iop_objects.specs.Objects.{object_of}
use Rattle.iop_pools.proofs.Reading.{awaited-in}
use Rattle.iop_pools.proofs.pools.Pools.walk.Goals as goal

pub returns : goal.returns
returns g c =
    c.walk.ensures ∙ sym (awaited-in c.self.inside.objects c.self.inside.outs.items c.args.id)
    ∙ ap (λ s. option_map (λ o. o.waiters) (object_of s.live c.args.id)) c.self.view_is
