use Rattle.std.proofs.Common.{◌≡◌, take, length, arith}
use Rattle.std.proofs.lemmas.List.{length-take-le}
use Rattle.iop_front.specs.Inputs.{seen}
use Rattle.iop_front.proofs.TakingLemmas.{takes_one, stops_unread, stops_too_long}
use Rattle.iop_front.proofs.reading.read_whole.Goals as goal

pub returns-in-Ok-clause-read : goal.returns-in-Ok-clause-read
returns-in-Ok-clause-read g c = λ kind.
    let seen_by = seen g.F.Files.told g.F.Files.faults in
    let file = take c.in-Ok.len c.read_file.new.buf in
    let len : length file ≡ c.in-Ok.len = length-take-le c.in-Ok.len c.read_file.new.buf
    (omega (arith, c.in-Ok.ensures.within, c.read_file.auto.buf)) in
    stops_too_long kind c.args.name.now file
    (seen_by c.args.files.now) (seen_by c.read_file.new.files)
    (omega (arith, len, c.if-len.true))
    (takes_one kind c.args.name.now c.read_file.new.buf (length c.args.buffer.now) c.in-Ok.len
    (seen_by c.args.files.now) (seen_by c.read_file.new.files) c.requires
    c.in-Ok.ensures.told c.in-Ok.ensures.no_fault)

pub returns-in-Ok-2-clause-read : goal.returns-in-Ok-2-clause-read
returns-in-Ok-2-clause-read g c = λ kind.
    let seen_by = seen g.F.Files.told g.F.Files.faults in
    takes_one kind c.args.name.now c.read_file.new.buf (length c.args.buffer.now) c.in-Ok.len
    (seen_by c.args.files.now) (seen_by c.read_file.new.files) c.requires
    c.in-Ok.ensures.told c.in-Ok.ensures.no_fault

pub returns-in-Err-clause-read : goal.returns-in-Err-clause-read
returns-in-Err-clause-read g c = λ kind.
    let seen_by = seen g.F.Files.told g.F.Files.faults in
    stops_unread kind c.args.name.now c.read_file.new.buf (length c.args.buffer.now)
    c.in-Err.field-0 (seen_by c.args.files.now) (seen_by c.read_file.new.files) c.requires
    c.in-Err.ensures.told c.in-Err.ensures.cause
