use Rattle.std.proofs.Common.{◌≡◌, ◌+◌, ◌≤◌, ◌*◌, ◌++◌, take}
use Rattle.std.specs.List.{flat_map}
use Rattle.arrayvec.specs.ArrayVec.{array_vec_len}
use Rattle.iop_disasm.specs.Spelling.{further_text}
use Rattle.iop_disasm.proofs.text.append_operands.Given as goal

abbrev pub invariant-loop-operand : goal.invariant-loop-operand
invariant-loop-operand l = record {
  bytes : l.text.items
      ≡ l.initial.text.items
      ++ flat_map (further_text l.at l.fields) (take l.operand-index l.others);
  short : array_vec_len l.text ≤ array_vec_len l.initial.text + 9 * l.operand-index;
}
