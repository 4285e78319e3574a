use Rattle.std.proofs.lemmas.List.Elements.{All-rest}
use Rattle.iop_saved_script.proofs.list.RestSaveItems.save_next.Goals as goal

pub invariant_of-self : goal.invariant_of-self
invariant_of-self g c =
    All-rest g.T.Spelled.IsSized c.in-Some.item.now c.in-Some.rest.now c.self.inside.items.now
    c.in-Some.ensures.cases.0 c.self.invariant
