use Rattle.std.proofs.Common.{◌≡◌, min, take}
use Rattle.std.specs.Str.Parse.{digits_value}
use Rattle.iop_sysclib.specs.declared.digits.TheConstants.{LIMIT}
use Rattle.iop_sysclib.proofs.digits.magnitude.Given as goal

abbrev pub invariant-loop-digit : goal.invariant-loop-digit
invariant-loop-digit l = l.value ≡ min LIMIT (digits_value l.base (take l.digit-index l.digits))
