use Rattle.std.proofs.Common.{map, string_bytes, refl}
use Rattle.iop_options.specs.Commands.{command_of}
use Rattle.iop_front.specs.Answers.{outside}
use Rattle.iop_front.specs.declared.status.Status.TheVariants.{NoMemory}
use Rattle.iop_front.proofs.AnswerLemmas.{refuses, bad_words_by, no_memory_by}
use Rattle.iop_front.proofs.answering.answer.Goals as goal

pub returns-in-Err-Bad-clause-answers : goal.returns-in-Err-Bad-clause-answers
returns-in-Err-Bad-clause-answers g c =
    let seen = outside g.F.Files.told g.F.Files.faults g.K.Sink.told g.C.Sink.told g.T.Sink.told in
    let sent = c.refuse.ensures.sent in
    let none = rw c.in-Err-Bad.field-0-is at c.in-Err-Bad.ensures in
    bad_words_by (command_of (map string_bytes c.args.words.now)) _
    (seen c.args.files.now c.args.keep.now c.args.console.now c.args.trace.now)
    (seen c.args.files.now c.args.keep.now c.args.console.now c.refuse.new.trace)
    none c.refuse.ensures.status
    (record { told = refl; faults = refl; line = refuses sent.0 _ _ _ _ _ _ _ refl sent.1 })

pub returns-in-Err-Memory-clause-answers : goal.returns-in-Err-Memory-clause-answers
returns-in-Err-Memory-clause-answers g c =
    let seen = outside g.F.Files.told g.F.Files.faults g.K.Sink.told g.C.Sink.told g.T.Sink.told in
    let same = seen c.args.files.now c.args.keep.now c.args.console.now c.args.trace.now in
    no_memory_by _ NoMemory same same refl refl
