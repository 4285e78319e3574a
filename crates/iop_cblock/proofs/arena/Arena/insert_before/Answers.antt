use Rattle.std.proofs.Common.{◌≡◌, ◌∙◌, sym, Some, None, refl, rules}
use Rattle.iop_cblock.specs.Lists.{list_of}
use Rattle.iop_cblock.proofs.Disjoint.{disjoint-from}
use Rattle.iop_cblock.proofs.Fields.{links, own, list_of-read, stands_below, stands_in, inserted_before-is}
use Rattle.iop_cblock.proofs.Undoing.{inserted_before-free}
use Rattle.iop_cblock.proofs.arena.Arena.insert_before.Goals as goal

pub put-requires : goal.put-requires
put-requires c =
    let t = links c.self.inside in
    let s = c.args.self.now in
    let f = own c.self.inside s c.self.invariant c.self.view_is in
    let list = c.in-Some.list in
    let stands : list_of c.args.before s ≡ Some list =
    sym (list_of-read t s f c.args.before c.requires.before c.index.result.now c.index.ensures)
    ∙ c.in-Some.is in
    record {
      list_below = stands_below t s f c.args.before c.requires.before list stands;
      node_below = c.requires.node;
      free = c.requires.free;
      in_ring = stands_in t s f c.args.before c.requires.before list stands;
    }

pub returns-in-Some : goal.returns-in-Some
returns-in-Some c =
    let t = links c.self.inside in
    let s = c.args.self.now in
    let f = own c.self.inside s c.self.invariant c.self.view_is in
    let stands : list_of c.args.before s ≡ Some c.in-Some.list =
    sym (list_of-read t s f c.args.before c.requires.before c.index.result.now c.index.ensures)
    ∙ c.in-Some.is in
    record {
      lists =
          c.put.ensures.lists
          ∙ inserted_before-is t s f c.args.before c.requires.before c.in-Some.list stands
          c.args.node;
      free = λ none. let same : Some c.in-Some.list ≡ None = sym stands ∙ none in cc;
      disjoint = c.put.ensures.disjoint;
    }

pub returns-in_default : goal.returns-in_default
returns-in_default c =
    let t = links c.self.inside in
    let s = c.args.self.now in
    let f = own c.self.inside s c.self.invariant c.self.view_is in
    let free : list_of c.args.before s ≡ None =
    sym (list_of-read t s f c.args.before c.requires.before c.index.result.now c.index.ensures)
    ∙ (search rules) in
    record {
      lists = inserted_before-free c.args.node c.args.before s free;
      free = λ none. refl;
      disjoint = disjoint-from t s f;
    }
