use Rattle.std.proofs.Common.{◌≡◌, ◌≤◌, ◌++◌, All, ap, sym, ◌∙◌, subst, length, take, arith}
use Rattle.iop_base.specs.Counts.{HasCause}
use Rattle.iop_base.specs.Numbers.{IsByte}
use Rattle.std.proofs.lemmas.List.Elements.{All-nil, All-append}
use Rattle.std.proofs.lemmas.Grind.{common_steps}
use Rattle.std.proofs.lemmas.Result.{err_from_is_err_and}
use Rattle.std.proofs.lemmas.List.{take-append-le}
use borrow.Rule.Slice.PartMut.{post_of}
use Rattle.iop_front.specs.Inputs.{seen}
use Rattle.iop_front.proofs.SnapshotLemmas.{HasFront, front_none, front_more, front_kept, unopened, unread_behind, short_behind, taken_whole}
use Rattle.iop_front.proofs.snapshots.read_pieces.Goals as goal

pub returns-in_err-open_file : goal.returns-in_err-open_file
returns-in_err-open_file g c =
    let seen_by = seen g.F.Files.told g.F.Files.faults in
    let opened = c.in_err-open_file.ensures in
    let made = c.from_residual in
    let p = err_from_is_err_and made.result made.ensures.1 in
    rw (p.1, p.2) (unopened c.args.name.now (seen_by c.args.files.now)
    (seen_by c.open_file.new.self) opened.told opened.cause)

pub loop-bytes-init : goal.loop-bytes-init
loop-bytes-init g c =
    let told = g.F.Files.told in
    let name = c.args.name.now in
    let faults = g.F.Files.faults c.args.files.now in
    let opened = c.in_ok-open_file.ensures in
    let old = told c.args.files.now in
    let new = told c.open_file.new.self in
    let made = c.new-bytes.ensures.items in
    record {
      piece = c.requires;
      fits = omega (arith, ap length made);
      front = subst (λ bytes. HasFront name faults bytes old new) (sym made)
          (front_none name faults old new opened.told);
      bytes = subst (All IsByte) (sym made) (All-nil IsByte);
      no_fault = opened.no_fault;
    }

pub returns-in_err-n : goal.returns-in_err-n
returns-in_err-n g c =
    let seen_by = seen g.F.Files.told g.F.Files.faults in
    let told = g.F.Files.told in
    let name = c.args.name.now in
    let old = seen_by c.args.files.now in
    let new = seen_by c.read.new.self in
    let was = c.loop-bytes.invariant in
    let bytes = c.loop-bytes.bytes.items in
    let read = c.in_err-n.ensures in
    let made = c.from_residual-in_err-n in
    let p = err_from_is_err_and made.result made.ensures.1 in
    rw (p.1, p.2) (unread_behind name old new bytes was.fits
    (front_kept name old.faults bytes old.told (told c.loop-bytes.files) new.told read.told
    was.front)
    (subst (λ n. HasCause n new.faults) was.no_fault read.cause))

pub loop-bytes-preserved : goal.loop-bytes-preserved
loop-bytes-preserved g c =
    let told = g.F.Files.told in
    let name = c.args.name.now in
    let faults = g.F.Files.faults c.args.files.now in
    let was = c.loop-bytes.invariant in
    let read = c.in_ok-n.ensures in
    let bytes = c.loop-bytes.bytes.items in
    let buf = c.read.new.buf in
    let n = c.in_ok-n.n in
    let fits : n ≤ length buf = omega (arith, read.within, c.read.auto.buf) in
    let pushed : c.append.new.bytes.items ≡ bytes ++ take n buf =
    subst (λ t. c.append.new.bytes.items ≡ bytes ++ t)
    (take-append-le n buf (post_of 0 c.min-most.result c.loop-bytes.piece) fits)
    c.in_ok-append.ensures.items in
    record {
      piece = grind (arith, common_steps, was.piece);
      fits = grind (arith, common_steps, read.within, was.fits, ap length pushed);
      front = subst (λ bytes. HasFront name faults bytes (told c.args.files.now)
          (told c.read.new.self)) (sym pushed)
          (front_more name faults n bytes buf (told c.args.files.now) (told c.loop-bytes.files)
          (told c.read.new.self) read.told read.bytes was.front);
      bytes = subst (All IsByte) (sym c.in_ok-append.ensures.items)
          (All-append IsByte bytes _ was.bytes c.in_ok-append.ensures.bytes);
      no_fault = read.no_fault ∙ was.no_fault;
    }

pub returns-in_err-append : goal.returns-in_err-append
returns-in_err-append g c =
    let seen_by = seen g.F.Files.told g.F.Files.faults in
    let told = g.F.Files.told in
    let name = c.args.name.now in
    let old = seen_by c.args.files.now in
    let new = seen_by c.read.new.self in
    let was = c.loop-bytes.invariant in
    let bytes = c.loop-bytes.bytes.items in
    let read = c.in_ok-n.ensures in
    let n = c.in_ok-n.n in
    let buf = c.read.new.buf in
    let made = c.from_residual-in_err-append in
    let p = err_from_is_err_and made.result made.ensures.1 in
    rw (p.1, p.2) (short_behind name old new (bytes ++ take n buf)
    (grind (arith, common_steps, read.within, was.fits))
    (front_more name old.faults n bytes buf old.told (told c.loop-bytes.files) new.told read.told
    read.bytes was.front) (read.no_fault ∙ was.no_fault))

pub returns-then-len : goal.returns-then-len
returns-then-len g c =
    let seen_by = seen g.F.Files.told g.F.Files.faults in
    let was = c.loop-bytes.invariant in
    let read = c.in_ok-n.ensures in
    let bytes = c.loop-bytes.bytes.items in
    let buf = c.read.new.buf in
    record {
      bytes = bytes;
      taken = taken_whole c.args.name.now bytes buf c.in_ok-n.n (seen_by c.args.files.now)
          (seen_by c.loop-bytes.files) (seen_by c.read.new.self) c.if-n-eq0.true was.fits
          (λ full. grind (arith, common_steps, was.fits, was.piece)) read.told read.bytes was.front was.bytes
          (read.no_fault ∙ was.no_fault);
      long = grind (arith, common_steps);
    }

pub returns : goal.returns
returns g c =
    let seen_by = seen g.F.Files.told g.F.Files.faults in
    let was = c.loop-bytes.invariant in
    let read = c.in_ok-n.ensures in
    let bytes = c.loop-bytes.bytes.items in
    let buf = c.read.new.buf in
    record {
      taken = taken_whole c.args.name.now bytes buf c.in_ok-n.n (seen_by c.args.files.now)
          (seen_by c.loop-bytes.files) (seen_by c.read.new.self) c.if-n-eq0.true was.fits
          (λ full. grind (arith, common_steps, was.fits, was.piece)) read.told read.bytes was.front was.bytes
          (read.no_fault ∙ was.no_fault);
      short = grind (arith, common_steps);
    }
