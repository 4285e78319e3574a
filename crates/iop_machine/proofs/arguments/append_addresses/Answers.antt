use Rattle.std.proofs.Common.{◌≡◌, ◌+◌, ◌≤◌, ◌++◌, drop, length, ap, ◌∙◌, arith}
use Rattle.std.proofs.lemmas.List.{length-append, drop_all}
use Rattle.iop_base.specs.Numbers.{bytes_of}
use Rattle.iop_machine.specs.Modules.{addresses}
use Rattle.iop_machine.specs.declared.arguments.TheConstants.{ARGUMENTS_LEN}
use Rattle.iop_machine.proofs.ArgumentReading.{length-addresses, address_fits, addresses_go_on, strings_end, le_bytes}
use Rattle.iop_machine.proofs.arguments.append_addresses.Goals as goal

pub append-requires : goal.append-requires
append-requires c =
    let words = c.args.words.now in
    let whole = c.args.block.now.items ++ addresses c.args.at words in
    let fits : length whole ≤ ARGUMENTS_LEN =
    omega (
      arith,
      length-append c.args.block.now.items (addresses c.args.at words),
      length-addresses c.args.at words,
      c.requires.room,
    ) in
    let left = address_fits words c.loop-word.word-index c.word-item.result c.loop-word-test.true
    c.word-item.is c.loop-word.at c.loop-word.block.items whole ARGUMENTS_LEN
    c.loop-word.invariant.rest fits in
    let four = ap length c.to_le_bytes.ensures in
    (omega arith, omega (arith, left, four))

pub loop-word-preserved : goal.loop-word-preserved
loop-word-preserved c =
    let words = c.args.words.now in
    let rest = drop (c.loop-word.word-index + 1) words in
    let word = c.word-item.result in
    let block = c.loop-word.block.items in
    let bytes = c.to_le_bytes.ensures ∙ le_bytes c.loop-word.at in
    let view = ap length c.word.view_is in
    let long : c.len.result ≡ length word = grind (arith, c.len.ensures, view) in
    let next : c.loop-word.at + (c.len.result + 1) ≡ c.loop-word.at + length word + 1 =
    omega (arith, long) in
    record {
      rest = ap (λ t. t ++ addresses (c.loop-word.at + (c.len.result + 1)) rest)
          c.append.ensures.bytes
          ∙ ap (λ t. block ++ t ++ addresses (c.loop-word.at + (c.len.result + 1)) rest) bytes
          ∙ ap (λ n. block ++ bytes_of 4 c.loop-word.at ++ addresses n rest) next
          ∙ addresses_go_on words c.loop-word.word-index word c.loop-word-test.true
          c.word-item.is c.loop-word.at block
          (c.args.block.now.items ++ addresses c.args.at words) c.loop-word.invariant.rest;
      end = omega (
        arith,
        long,
        c.loop-word.invariant.end,
        strings_end words c.loop-word.word-index word c.loop-word-test.true c.word-item.is,
      );
    }

pub returns-clause-long : goal.returns-clause-long
returns-clause-long c =
    let words = c.args.words.now in
    let none = drop_all c.loop-word.word-index words c.loop-word-test.false in
    omega (
      arith,
      ap length c.loop-word.invariant.rest,
      length-append c.loop-word.block.items
          (addresses c.loop-word.at (drop c.loop-word.word-index words)),
      ap (λ ws. length (addresses c.loop-word.at ws)) none,
      length-append c.args.block.now.items (addresses c.args.at words),
      length-addresses c.args.at words,
    )
