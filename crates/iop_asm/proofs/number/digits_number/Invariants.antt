use Rattle.std.proofs.Common.{◌≡◌, ◌+◌, ◌*◌, min, take, true}
use Rattle.std.specs.List.{fold, list_all}
use Rattle.std.specs.Char.{digit_value, is_digit}
use Rattle.iop_asm.specs.Texts.{most}
use Rattle.iop_asm.proofs.number.digits_number.Given as goal

abbrev pub invariant-loop-byte : goal.invariant-loop-byte
invariant-loop-byte l = record {
  digits : list_all (λ b. is_digit b l.base) (take l.byte-index l.digits) ≡ true;
  number :
      l.number
      ≡ min most (fold (λ n b. n * l.base + digit_value b) 0 (take l.byte-index l.digits));
}
