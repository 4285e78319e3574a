use Rattle.std.proofs.Common.{sym, subst}
use Rattle.std.specs.Prelude.{Result, IsErr}
use Rattle.iop_base.specs.declared.illegal.Illegal.{Illegal}
use Rattle.irx_elf.specs.Parts.{Parts}
use Rattle.irx_cli.proofs.Refusals.{breaks_rule}
use Rattle.irx_cli.proofs.making.loadable_module.Goals as goal

pub unwrap_err-requires : goal.unwrap_err-requires
unwrap_err-requires c =
    subst (λ (r : Result Parts Illegal). IsErr r) (sym c.read_module.ensures.module)
    (breaks_rule c.args.file.now c.in-Err.field-0 (sym c.in-Err.ensures.parts))
