use Rattle.std.proofs.Common.{◌≡◌, ◌+◌, ◌-◌, ◌*◌, ◌/◌, ◌^◌, ◌++◌}
use Rattle.arrayvec.specs.ArrayVec.{array_vec_len}
use Rattle.iop_base.specs.Text.{hex_digits}
use Rattle.iop_text.proofs.appending.append_hex_digits.Given as goal

abbrev pub invariant-loop-place : goal.invariant-loop-place
invariant-loop-place g l = record {
  bytes : l.text.items
      ≡ l.initial.text.items ++ hex_digits l.place (l.word / 2 ^ (4 * l.digits - 4 * l.place));
  long : array_vec_len l.text ≡ array_vec_len l.initial.text + l.place;
}
