use Rattle.std.proofs.Common.{◌≡◌, Bool, true, false, sym, ◌∙◌, subst, arith}
use Rattle.std.proofs.lemmas.List.Elements.{All-from_get_or}
use Rattle.std.proofs.lemmas.Result.{err_from_is_err_and}
use Rattle.iop_base.specs.Numbers.{IsByte}
use Rattle.iop_saved_machine.specs.Loading.{LoadingIsShort, LoadingParts}
use Rattle.iop_machine.specs.Restoring.{iop_in, left_in, may_be_left, may_go_on, machine_in}
use Rattle.iop_machine.specs.World.{booted}
use Rattle.iop_machine.proofs.RestoredMachines.{machine_read, goes_back, stays_out, has_passed, none_given}
use Rattle.iop_machine.proofs.machine.Machine.restore.Goals as goal

pub returns-in_err-made-clause-back : goal.returns-in_err-made-clause-back
returns-in_err-made-clause-back c =
    let made = c.from_residual-in_err-made in
    let fault = c.in_err-made.field-0.0 in
    let given = err_from_is_err_and made.result made.ensures.1 in
    let same : given.0 ≡ fault = cc in
    rw (given.1, same) (none_given c.args.bytes.now fault c.in_err-made.ensures)

pub returns-then-not-may_go_on-clause-back : goal.returns-then-not-may_go_on-clause-back
returns-then-not-may_go_on-clause-back c =
    let (p, m, holds, back, read) = c.in_ok-made.ensures in
    let is = c.may_go_on.ensures m holds in
    let not_so = c.if-not-may_go_on.true in
    let may : may_go_on m ≡ false = grind (arith, is, not_so) in
    machine_read c.args.bytes.now p m read back ∙ stays_out m may

pub going_on-requires-clause-modules : goal.going_on-requires-clause-modules
going_on-requires-clause-modules c =
    let (p, m, holds, back, read) = c.in_ok-made.ensures in
    let is = c.may_go_on.ensures m holds in
    let so = c.if-not-may_go_on.false in
    let may : may_go_on m ≡ true = grind (arith, is, so) in
    subst (λ (l : LoadingParts). may_be_left (left_in l) ≡ true) holds.loading
    (has_passed m may).left

pub going_on-requires-clause-short : goal.going_on-requires-clause-short
going_on-requires-clause-short c =
    let (p, m, holds, back, read) = c.in_ok-made.ensures in
    let is = c.may_go_on.ensures m holds in
    let so = c.if-not-may_go_on.false in
    let may : may_go_on m ≡ true = grind (arith, is, so) in
    let bytes = c.args.bytes.now in
    let law = c.restored_machines_are_machines.ensures bytes m
    (All-from_get_or IsByte bytes 0 (λ i inside. omega (arith, c.type_inv.bytes i)))
    (machine_read bytes p m read back ∙ goes_back m may) in
    subst LoadingIsShort holds.loading law.short

pub returns-clause-back : goal.returns-clause-back
returns-clause-back c =
    let (p, m, holds, back, read) = c.in_ok-made.ensures in
    let is = c.may_go_on.ensures m holds in
    let so = c.if-not-may_go_on.false in
    let may : may_go_on m ≡ true = grind (arith, is, so) in
    let bytes = c.args.bytes.now in
    let found = machine_read bytes p m read back ∙ goes_back m may in
    let law = c.restored_machines_are_machines.ensures bytes m
    (All-from_get_or IsByte bytes 0 (λ i inside. omega (arith, c.type_inv.bytes i))) found in (
      m,
      found,
      c.going_on.ensures.stands m holds law.machine.sound.core.placed,
      law.machine,
      law.told,
    )

pub returns-clause-sound : goal.returns-clause-sound
returns-clause-sound c =
    let it = returns-clause-back c in (booted (iop_in it.0), it.2, it.3)
