use Rattle.std.proofs.Common.{◌+◌, ◌^◌, refl, ◌∙◌, add-zero, mul_comm}
use Rattle.iop_kernel.proofs.Bodies.Reads.{word_read}
use Rattle.iop_kernel.proofs.system_clock.ticks_at.Goals as goal

pub returns : goal.returns
returns c =
    let memory = c.args.guest.now in
    let place = c.args.place in
    let ram = c.ram-ram.ensures.value in
    let high = word_read memory (place + 4) ram (c.from-high.ensures ∙ c.word-2.ensures.value) in
    rw (
      add-zero place,
      word_read memory place ram (c.from-low.ensures ∙ c.word.ensures.value),
      high,
      mul_comm (2 ^ 32) c.from-high.result,
    ) refl
