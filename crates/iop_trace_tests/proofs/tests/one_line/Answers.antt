use Rattle.std.proofs.Common.{◌≡◌, rules}
use Rattle.iop_trace.specs.Outs.{console_name, trace_name}
use Rattle.iop_trace.proofs.Leaving.{gives_leaves, gives_same_names}
use Rattle.iop_trace_tests.proofs.tests.one_line.Goals as goal

pub returns : goal.returns
returns g c =
    let out = c.new-out.result in
    let after = c.give_line.new.lines in
    let names = gives_same_names g.C.Sink.told g.T.Sink.told out after _ c.give_line.ensures in
    let console : console_name out ≡ console_name after = names.0 in
    let trace : trace_name out ≡ trace_name after = names.1 in
    gives_leaves g.C.Sink.told g.T.Sink.told out after _ c.failed.result _ _ _ _
    c.failed.ensures c.new-out.ensures.failed c.give_line.ensures
    c.new-out.ensures.console c.new-out.ensures.trace
    (search (rules, console)) (search (rules, trace))
