use Rattle.std.proofs.Common.{◌≡◌, refl, ap, sym, ◌∙◌, map}
use Rattle.std.specs.List.{position}
use Rattle.std.specs.Str.{bytes_eq}
use Rattle.iop_base.specs.Strings.{before_zero}
use Rattle.iop_isa.specs.declared.registers.TheConstants.{REGISTER_NAMES}
use Rattle.iop_isa.specs.Registers.{register_names}
use Rattle.iop_isa.proofs.Names.{position-map}
use Rattle.iop_isa.proofs.registers.find_conventional.Goals as goal

pub returns-clause-found : goal.returns-clause-found
returns-clause-found c =
    let name = c.args.name.now in
    let names : map before_zero REGISTER_NAMES ≡ register_names = refl in
    c.find_name.ensures ∙ sym (position-map before_zero (λ known. bytes_eq known name) REGISTER_NAMES)
    ∙ ap (position (λ known. bytes_eq known name)) names
