use Rattle.std.proofs.Common.{◌≡◌, Some, None, option_copied, ap, sym, ◌∙◌}
use Rattle.std.proofs.lemmas.Option.{same_Some}
use Rattle.iop_saved_machine.proofs.Lending.{lent_all}
use Rattle.iop_saved_machine.proofs.memory.ram_of.Goals as goal

pub returns-in-Some : goal.returns-in-Some
returns-in-Some c =
    let ram = c.ram-ram.result.now in
    let all =
    lent_all ram c.size.result c.window.result c.size.ensures.sized c.size.ensures.value
    c.window.ensures.window in
    record {
      ram = same_Some c.in-Some.bytes.now ram (ap option_copied (sym c.in-Some.is) ∙ all)
          ∙ c.ram-ram.ensures.value;
      bytes = c.ram-ram.ensures.bytes;
    }

pub returns-in-None : goal.returns-in-None
returns-in-None c =
    let ram = c.ram-ram.result.now in
    let none : None ≡ Some ram =
    ap option_copied (sym c.in-None.is)
    ∙ lent_all ram c.size.result c.window.result c.size.ensures.sized c.size.ensures.value
    c.window.ensures.window in
    absurd cc
