use Rattle.std.proofs.Common.{◌≡◌, true, false, refl, arith, rules}
use Rattle.std.specs.Option.{is_some}
use Rattle.iop_cblock.proofs.Standing.{sound_from, view_from}
use Rattle.iop_cblock.proofs.Takes.{unlinked-free}
use Rattle.iop_cblock.proofs.Fields.{links, own, free-read, is_taken}
use Rattle.iop_cblock.proofs.Disjoint.{disjoint-from, view_disjoint}
use Rattle.iop_cblock.proofs.arena.Arena.unlink.Goals as goal

pub index_mut-requires : goal.index_mut-requires
index_mut-requires c =
    let some : is_some c.index.result.now ≡ true = search rules in
    let taken = is_taken c.self.inside c.self.invariant c.self.view_is c.requires c.index.ensures
    some c.index-before.ensures c.index-behind.ensures in
    omega (arith, taken.before_below)

pub index_mut-requires-then-is_some : goal.index_mut-requires-then-is_some
index_mut-requires-then-is_some c =
    let some : is_some c.index.result.now ≡ true = search rules in
    let taken = is_taken c.self.inside c.self.invariant c.self.view_is c.requires c.index.ensures
    some c.index-before.ensures c.index-behind.ensures in
    omega (arith, taken.behind_below)

pub invariant_of-self : goal.invariant_of-self
invariant_of-self c =
    let some : is_some c.index.result.now ≡ true = search rules in
    let taken = is_taken c.self.inside c.self.invariant c.self.view_is c.requires c.index.ensures
    some c.index-before.ensures c.index-behind.ensures in
    sound_from _ _ taken.left

pub returns-then-is_some : goal.returns-then-is_some
returns-then-is_some c =
    let some : is_some c.index.result.now ≡ true = search rules in
    let taken = is_taken c.self.inside c.self.invariant c.self.view_is c.requires c.index.ensures
    some c.index-before.ensures c.index-behind.ensures in
    record {
      lists = view_from _ _ taken.left;
      free = λ none. absurd (taken.not_free none);
      disjoint = view_disjoint _ _ taken.left;
    }

pub returns-else-is_some : goal.returns-else-is_some
returns-else-is_some c =
    let a = c.self.inside in
    let s = c.args.self.now in
    let f = own c.self.inside s c.self.invariant c.self.view_is in
    let none : is_some c.index.result.now ≡ false = search rules in
    record {
      lists =
          unlinked-free a.nodes a.next.items a.previous.items a.owner.items c.args.node s f
          c.requires
          (free-read (links a) s f c.args.node c.requires c.index.result.now c.index.ensures none);
      free = λ is_free. refl;
      disjoint = disjoint-from (links a) s f;
    }
