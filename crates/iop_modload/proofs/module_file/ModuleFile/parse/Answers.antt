use Rattle.std.proofs.Common.{Some, None, ap, ◌∙◌}
use Rattle.iop_modload.specs.Modules.{module_of_file, module_of_parts}
use Rattle.iop_modload.proofs.Reading.{module_of_parts-entries}
use Rattle.iop_modload.proofs.module_file.ModuleFile.parse.Goals as goal

pub returns-in_default-clause-parts : goal.returns-in_default-clause-parts
unfolding module_of_file
returns-in_default-clause-parts c = ap module_of_parts c.in_default.ensures.parts

pub returns-in_default-check-clause-parts : goal.returns-in_default-check-clause-parts
unfolding module_of_file
returns-in_default-check-clause-parts c =
    module_of_parts-entries c.in-Ok.irx _ _ c.length.ensures.length c.relocations.ensures.lists
    (Some c.in_default-check.field-0) c.in_default-check.ensures.misfit
    ∙ ap module_of_parts c.in-Ok.ensures.parts

pub returns-clause-parts : goal.returns-clause-parts
unfolding module_of_file
returns-clause-parts c =
    module_of_parts-entries c.in-Ok.irx _ _ c.length.ensures.length c.relocations.ensures.lists
    None c.in-Ok-check.ensures.misfit
    ∙ ap module_of_parts c.in-Ok.ensures.parts
