use Rattle.std.proofs.Common.{map, subst, sym}
use Rattle.std.specs.Prelude.{string_bytes}
use Rattle.iop_options.specs.Commands.{command_of}
use Rattle.iop_front.specs.Answers.{outside}
use Rattle.iop_front.specs.Promises.{Promises}
use Rattle.iop_front.proofs.KeepingLemmas.{still_by}
use Rattle.iop_front.proofs.Promising.{promises}
use Rattle.iop_front.proofs.command.iop_main.Goals as goal

pub returns-clause-promises : goal.returns-clause-promises
returns-clause-promises g c =
    let seen = outside g.F.Files.told g.F.Files.faults g.K.Sink.told g.C.Sink.told g.T.Sink.told in
    subst (λ code. Promises (command_of (map string_bytes c.args.words.now)) code
    (seen c.args.files.now c.args.keep.now c.args.console.now c.args.trace.now)
    (seen c.answer.new.files c.answer.new.keep c.answer.new.console c.answer.new.trace))
    (sym c.code.ensures) (promises c.answer.ensures.answers)

pub returns-clause-unsaved : goal.returns-clause-unsaved
returns-clause-unsaved g c = λ command is e. (c.answer.ensures.uncalled command is).unsaved e

pub returns-clause-ended : goal.returns-clause-ended
returns-clause-ended g c =
    still_by (command_of (map string_bytes c.args.words.now)) c.answer.result c.code.result
    c.args.keep.now c.answer.new.keep c.code.ensures c.answer.ensures.unkept
    c.answer.ensures.uncalled
