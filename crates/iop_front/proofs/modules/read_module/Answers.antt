use Rattle.std.proofs.Common.{◌∷◌, [], refl, sym, subst}
use Rattle.std.proofs.lemmas.Result.{err_from_is_err_and}
use Rattle.iop_front.specs.Inputs.{seen, HasTaken}
use Rattle.iop_front.specs.Named.{AsModule}
use Rattle.iop_front.proofs.TakingLemmas.{stops_short}
use Rattle.iop_front.proofs.modules.read_module.Goals as goal

pub returns-in_err-module_of-clause-read : goal.returns-in_err-module_of-clause-read
returns-in_err-module_of-clause-read g c =
    let seen_by = seen g.F.Files.told g.F.Files.faults in
    let names = c.args.word.text.now ∷ [] in
    let made = c.from_residual-in_err-module_of in
    let p = err_from_is_err_and made.result made.ensures.1 in
    rw (p.1, p.2) (stops_short AsModule names names [] _
    (seen_by c.args.files.now) (seen_by c.read_whole.new.files) refl
    (c.in_ok-len.ensures.read AsModule))

pub returns-clause-read : goal.returns-clause-read
returns-clause-read g c =
    let seen_by = seen g.F.Files.told g.F.Files.faults in
    subst (λ one. HasTaken AsModule (c.args.word.text.now ∷ []) (one ∷ [])
    (seen_by c.args.files.now) (seen_by c.read_whole.new.files))
    (sym c.in_ok-module_of.ensures) (c.in_ok-len.ensures.read AsModule)
