use Rattle.iop_machine.proofs.iop.Iop.load_first.Goals as goal

pub loop-init : goal.loop-init
loop-init g c = record {
  rest = λ s h. (s, h, λ later last rest. rest);
  same_size = c.requires.same_size;
}

pub loop-preserved : goal.loop-preserved
loop-preserved g c = record {
  rest = λ s h.
      let before = c.loop.invariant.rest s h in
      let after = c.loop-test.ensures.loads before.0 before.1 in
      (after.0, after.1, λ later last rest. before.2 later last (after.2 later last rest));
  same_size = c.loop-test.ensures.same_size;
}

pub returns : goal.returns
returns g c s h =
    let before = c.loop.invariant.rest s h in
    before.2 _ _ (c.loop-test.ensures.loads before.0 before.1)
