use Rattle.std.proofs.Common.{◌≡◌, true, false, sym, arith}
use Rattle.std.proofs.lemmas.Bool.Decides.{nat_tests}
use Rattle.iop_thread.specs.Restoring.{are_listed}
use Rattle.iop_thread.proofs.RestoredTables.{complete}
use Rattle.iop_thread.proofs.restored_threads.RestoredThreads.finish.Goals as goal

pub returns-then-not-are_listed : goal.returns-then-not-are_listed
returns-then-not-are_listed g c = record {
  may = λ s r.
      let some : are_listed s ≡ false =
      sym (c.if-not-are_listed.ensures s r) in
      grind (arith, nat_tests, some);
  table = λ s r. tt;
}

pub returns-then-ne-clause-may : goal.returns-then-ne-clause-may
returns-then-ne-clause-may g c = λ s r.
    let listed : are_listed s ≡ true =
    sym (c.if-not-are_listed.ensures s r) in
    let stands = complete g.R.Ready.stands c.args.self s r listed in
    let other = rw (c.running.ensures s stands) at c.if-ne.ensures in
    grind (arith, nat_tests, listed, other)

pub returns : goal.returns
returns g c = record {
  may = λ s r.
      let listed : are_listed s ≡ true =
      sym (c.if-not-are_listed.ensures s r) in
      let stands = complete g.R.Ready.stands c.args.self s r listed in
      let same = rw (c.running.ensures s stands) at c.if-ne.ensures in
      grind (arith, nat_tests, listed, same);
  table = λ s r.
      complete g.R.Ready.stands c.args.self s r
      (sym (c.if-not-are_listed.ensures s r));
}
