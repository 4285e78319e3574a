use Rattle.std.proofs.Common.{◌∙◌, sym, ap, subst, map, string_bytes, ⊎_elim}
use Rattle.clap.specs.Simple.{is_simple, matches_of}
use Rattle.clap.specs.Kinds.{HasKind}
use Rattle.clap.specs.Faults.{fault_of, is_simple_and_free}
use Rattle.iop_options.proofs.RuleLemmas.{iop_is_simple, iop_is_free}
use Rattle.iop_options.proofs.FoundLemmas.{parts_held, none_wanted, fault_finds}
use Rattle.iop_options.proofs.command.matches_of.Goals as goal

pub returns-in-Ok : goal.returns-in-Ok
returns-in-Ok c =
    let words = map string_bytes c.args.words.now in
    let app = c.in_ok-command.ensures in
    parts_held c.args.words.now c.in-Ok.matches
    (ap (λ a. fault_of a words) (sym app)
    ∙ c.in-Ok.ensures.kinds (ap is_simple_and_free app ∙ iop_is_free))
    ((c.in-Ok.ensures.matches (ap is_simple app ∙ iop_is_simple)).0
    ∙ ap (λ a. matches_of a words) app)

pub returns-in-Err : goal.returns-in-Err
returns-in-Err c =
    let words = map string_bytes c.args.words.now in
    let app = c.in_ok-command.ensures in
    let kinds = subst (λ a. HasKind (fault_of a words) c.in-Err.error) app
    (c.in-Err.ensures.kinds (ap is_simple_and_free app ∙ iop_is_free)) in
    fault_finds c.fault_of.result _ (λ bad.
    ⊎_elim (λ memory. absurd (c.fault_of.ensures.bad bad memory))
    (λ among. none_wanted c.args.words.now _ among) kinds)
