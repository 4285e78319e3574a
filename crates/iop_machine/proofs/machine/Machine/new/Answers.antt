use Rattle.std.proofs.Common.{refl, ap, ◌∙◌, subst}
use Rattle.iop_script.specs.Scripts.{Script}
use Rattle.iop_machine.specs.Modules.{none_loaded}
use Rattle.iop_machine.specs.Standing.{Stands}
use Rattle.iop_machine.specs.World.{reset}
use Rattle.iop_machine.proofs.KeepingMachine.{begins_as_machine}
use Rattle.iop_machine.proofs.machine.Machine.new.Goals as goal

pub returns-clause-stands : goal.returns-clause-stands
returns-clause-stands c = record {
  is_new = refl;
  iop = subst (λ events. Stands c.in_ok-new.field-0
      (reset c.args.size (none_loaded c.args.script c.args.modules.items) events))
      (c.new-events.ensures ∙ ap (λ (script : Script). script.events) c.script.view_is)
      (subst (λ modules. Stands c.in_ok-new.field-0
      (reset c.args.size modules c.new-events.result))
      (c.new-left.ensures
      ∙ ap (λ (script : Script). none_loaded script c.args.modules.items) c.script.view_is)
      c.in_ok-new.ensures);
}

pub returns-clause-sound : goal.returns-clause-sound
returns-clause-sound c = (
  _,
  returns-clause-stands c,
  begins_as_machine c.args.size _ _ c.requires.sized c.requires.events,
)
