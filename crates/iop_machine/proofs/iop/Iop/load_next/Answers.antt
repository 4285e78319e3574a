use Rattle.std.proofs.Common.{◌∷◌, ap, sym, ◌∙◌, arith}
use Rattle.std.specs.Prelude.{option_map}
use Rattle.iop_base.specs.declared.line.Line.TheVariants.{Refused}
use Rattle.iop_machine.specs.Modules.{argument_block}
use Rattle.iop_machine.specs.ModulesLeft.{module_of}
use Rattle.iop_machine.proofs.LoadingLemmas.{none_left, places_as, loaded_takes, refused_remains}
use Rattle.iop_machine.proofs.StandingLemmas.{tells_takes}
use Rattle.iop_machine.proofs.iop.Iop.load_next.Goals as goal

pub returns-in_default-clause-loads : goal.returns-in_default-clause-loads
returns-in_default-clause-loads g c =
    none_left c.args.self.now _
    (sym (ap (option_map module_of) c.in_default.is) ∙ c.first.ensures.«module»)

pub returns-in-Ok-clause-loads : goal.returns-in-Ok-clause-loads
returns-in-Ok-clause-loads g c =
    let m = module_of c.in-Some.next in
    let first = sym (ap (option_map module_of) c.in-Some.is) ∙ c.first.ensures.«module» in
    let placed = places_as c.args.self.now c.now.result m c.now.ensures.moment first
    c.load.ensures.answer c.load.ensures.memory c.load.ensures.blocks c.load.ensures.lines
    c.take_first.ensures.taken in
    loaded_takes c.args.self.now c.now.result m placed c.in-Ok.loaded _ _ c.in-Ok.is (omega arith)
    (c.deref.ensures.0 ∙ c.argument_block-block.ensures.block
    ∙ ap (λ name. argument_block (name ∷ c.in-Some.next.words.now)) c.as_bytes.ensures.value)
    c.enter.ensures

pub returns-in-Err-clause-loads : goal.returns-in-Err-clause-loads
returns-in-Err-clause-loads g c =
    let m = module_of c.in-Some.next in
    let first = sym (ap (option_map module_of) c.in-Some.is) ∙ c.first.ensures.«module» in
    let placed = places_as c.args.self.now c.now.result m c.now.ensures.moment first
    c.load.ensures.answer c.load.ensures.memory c.load.ensures.blocks c.load.ensures.lines
    c.take_first-in-Err.ensures.taken in
    refused_remains c.args.self.now c.now.result m placed c.in-Err.code c.in-Err.is
    (tells_takes _ c.now-in-Err.result c.now-in-Err.ensures.moment
    (Refused m.number c.in-Err.code) c.line.ensures)
