use Rattle.std.proofs.Common.{sym, ◌∙◌}
use Rattle.iop_front.specs.Keeping.{KeptFile}
use Rattle.iop_front.specs.Outcome.{snapshot_of}
use Rattle.iop_front.proofs.KeepingLemmas.{sent_by, not_created_by}
use Rattle.iop_front.proofs.keeping.keep_snapshot.Goals as goal

pub returns-then-is_ok : goal.returns-then-is_ok
unfolding snapshot_of
returns-then-is_ok g c = λ w stands.
    let told = g.K.Sink.told in
    let file : KeptFile = record { name = c.args.name.now; bytes = snapshot_of w } in
    sent_by file _ _ _ (told c.args.keep.now) (told c.create.new.self) (told c.save.new.sink)
    (sym c.is_ok.ensures.value ∙ c.if-is_ok.true) c.is_ok-then-is_ok.ensures.value c.create.ensures
    (c.save.ensures.written w stands)

pub returns-else-is_ok : goal.returns-else-is_ok
returns-else-is_ok g c = λ w stands.
    let told = g.K.Sink.told in
    let file : KeptFile = record { name = c.args.name.now; bytes = snapshot_of w } in
    not_created_by file _ _ (told c.args.keep.now) (told c.create.new.self)
    (sym c.is_ok.ensures.value ∙ c.if-is_ok.false) c.if-is_ok.false c.create.ensures
