use Rattle.std.proofs.Common.{◌≡◌, ◌/◌, ℕ, length, replicate, ap, ◌∙◌, arith, rules}
use Rattle.std.proofs.lemmas.List.{length-replicate}
use Rattle.iop_stubs.proofs.WordSets.{has-zeros}
use Rattle.iop_stubs.proofs.word_set.WordSet.new.Goals as goal

pub returns : goal.returns
returns c =
    let count = c.args.bytes / 4 / 64 in
    let zeros : c.in_ok-vec.field-0.items ≡ replicate {A = ℕ} count 0 = search rules in
    let long : length c.in_ok-vec.field-0.items ≡ count =
    ap length zeros ∙ length-replicate {A = ℕ} count 0 in
    record {
      none = λ n. rw zeros (has-zeros count n);
      room = omega (arith, long, c.requires);
    }
