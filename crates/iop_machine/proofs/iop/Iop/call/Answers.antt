use Rattle.std.proofs.Common.{inl, inr, arith}
use Rattle.iop_kernel.specs.declared.after.After.TheVariants.{Resume, Switch, ModuleReturned}
use Rattle.iop_machine.specs.Registers.{ends_call}
use Rattle.iop_machine.specs.Services.{returns_by}
use Rattle.iop_machine.specs.Standing.{Stands}
use Rattle.iop_machine.proofs.ServiceLemmas.{served, serves_takes, calls_takes, faults_takes, clock_left, size_left, clock_returned}
use Rattle.iop_machine.proofs.StandingLemmas.{takes_then, takes_with}
use Rattle.iop_machine.proofs.iop.Iop.call.Goals as goal

pub service-after-requires : goal.service-after-requires
service-after-requires g c = record {
  active = (_, c.requires.runs.1.kernel, c.requires.runs.2);
  number = c.requires.number;
  same_size = c.requires.same_size;
}

pub end_call-requires : goal.end_call-requires
end_call-requires g c =
    let h = served c.args.self.now _ c.args.code c.move_on.ensures c.service-after.ensures in
    let clock = clock_left h _ c.requires.runs.1 c.requires.runs.2 in
    record {
      sound = (_, (serves_takes h _ c.requires.runs.1).state);
      time = omega (arith, clock, c.requires.time);
    }

pub return_module-requires : goal.return_module-requires
return_module-requires g c =
    let h = served c.args.self.now _ c.args.code c.move_on.ensures c.service-after.ensures in
    record {
      sound = (_, (serves_takes h _ c.requires.runs.1).state);
      same_size = size_left h _ c.requires.runs.1 c.requires.runs.2 c.requires.same_size;
    }

pub end_call-requires-in-ModuleReturned : goal.end_call-requires-in-ModuleReturned
end_call-requires-in-ModuleReturned g c =
    let h = served c.args.self.now _ c.args.code c.move_on.ensures c.service-after.ensures in
    let left = (serves_takes h _ c.requires.runs.1).state in
    let returned = c.return_module.ensures _ left in
    let clock = clock_left h _ c.requires.runs.1 c.requires.runs.2 in
    let same = clock_returned c.in-ModuleReturned.value _ left returned in
    record {
      sound = (_, returned.state);
      time = omega (arith, clock, same, c.requires.time);
    }

pub returns-in-Resume : goal.returns-in-Resume
returns-in-Resume g c s stands =
    let h = served c.args.self.now _ c.args.code c.move_on.ensures c.service-after.ensures in
    let taken = takes_with (serves_takes h s stands) Stands ends_call _ (c.end_call.ensures _) in
    elim c.in-Resume.is [
      | inl resumes ↦ calls_takes h Resume resumes s stands taken
      | inr switches ↦ calls_takes h Switch switches s stands taken
    ]

pub returns-in-ModuleReturned : goal.returns-in-ModuleReturned
returns-in-ModuleReturned g c s stands =
    let h = served c.args.self.now _ c.args.code c.move_on.ensures c.service-after.ensures in
    let value = c.in-ModuleReturned.value in
    let taken = serves_takes h s stands in
    calls_takes h (ModuleReturned value) c.in-ModuleReturned.is s stands
    (takes_with (takes_then taken (λ v. returns_by v v.begun value)
    (c.return_module.ensures _ taken.state)) Stands ends_call _ (c.end_call-in-ModuleReturned.ensures _))

pub returns-in-Fault : goal.returns-in-Fault
returns-in-Fault g c =
    let h = served c.args.self.now _ c.args.code c.move_on.ensures c.service-after.ensures in
    faults_takes h c.in-Fault.kind c.in-Fault.is _ c.fault.ensures
