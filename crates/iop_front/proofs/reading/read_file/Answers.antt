use Rattle.std.proofs.Common.{arith, ◌∙◌, ◌≤◌, length}
use Rattle.std.proofs.lemmas.Grind.{common_steps}
use Rattle.iop_front.proofs.ReadingLemmas.{so_far_more, at_the_end}
use Rattle.iop_front.proofs.reading.read_file.Goals as goal

pub loop-len-preserved : goal.loop-len-preserved
loop-len-preserved g c =
    let told = g.F.Files.told in
    let was = c.loop-len.invariant in
    let read = c.in_ok-n.ensures in
    let fits : c.in_ok-n.n ≤ length c.read.new.buf = omega (arith, read.within) in record {
      within = grind (arith, common_steps, read.within);
      told = so_far_more _ _ _ _ _ _ _ (told c.args.files.now) (told c.loop-len.files) _
          (record { within = was.within; fits = fits; told = read.told; bytes = read.bytes })
          was.told;
      no_fault = read.no_fault ∙ was.no_fault;
    }

pub returns-then-n-eq0-clause-told : goal.returns-then-n-eq0-clause-told
returns-then-n-eq0-clause-told g c =
    let told = g.F.Files.told in
    let was = c.loop-len.invariant in
    let read = c.in_ok-n.ensures in
    let fits : c.in_ok-n.n ≤ length c.read.new.buf = omega (arith, read.within) in
    at_the_end _ _ _ _ _ _ _ _ (told c.args.files.now) (told c.loop-len.files) _
    c.if-n-eq0.true (omega arith) (omega arith) (omega (arith, c.read.auto.buf))
    (record { within = was.within; fits = fits; told = read.told; bytes = read.bytes })
    was.told
