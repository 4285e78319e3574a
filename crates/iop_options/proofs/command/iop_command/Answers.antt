use Rattle.std.proofs.Common.{◌≡◌, ◌∙◌, ap, ap₂, true}
use Rattle.std.proofs.lemmas.Result.{IfOk-weaker}
use Rattle.clap.specs.Simple.{Shape, app_of, app_of_fields, on_top, with_rule}
use Rattle.iop_options.specs.Matched.{iop_app, bare_app}
use Rattle.iop_options.proofs.command.iop_command.Goals as goal

abbrev unnamed : Shape → Shape
unnamed shape = record shape { no_binary_name = true }

abbrev helpless : Shape → Shape
helpless shape = record shape { disable_help_flag = true }

pub returns : goal.returns
unfolding iop_app
returns c =
    let bare_is : app_of c.disable_help_flag.result ≡ bare_app =
    ap app_of_fields c.disable_help_flag.ensures
    ∙ ap (on_top helpless) (ap app_of_fields c.no_binary_name.ensures
    ∙ ap (on_top unnamed) c.new.ensures.app) in
    let one = c.in_ok-arg.ensures.shape c.value_option.ensures.local
    ∙ ap₂ with_rule bare_is c.value_option.ensures.rule in
    let two = c.in_ok-arg-2.ensures.shape c.value_option-2.ensures.local
    ∙ ap₂ with_rule one c.value_option-2.ensures.rule in
    let three = c.in_ok-arg-3.ensures.shape c.value_option-3.ensures.local
    ∙ ap₂ with_rule two c.value_option-3.ensures.rule in
    let four = c.in_ok-arg-4.ensures.shape c.value_option-4.ensures.local
    ∙ ap₂ with_rule three c.value_option-4.ensures.rule in
    let five = c.in_ok-arg-5.ensures.shape c.value_option-5.ensures.local
    ∙ ap₂ with_rule four c.value_option-5.ensures.rule in
    let six = c.in_ok-arg-6.ensures.shape c.value_option-6.ensures.local
    ∙ ap₂ with_rule five c.value_option-6.ensures.rule in
    let seven = c.in_ok-arg-7.ensures.shape c.value_option-7.ensures.local
    ∙ ap₂ with_rule six c.value_option-7.ensures.rule in
    IfOk-weaker c.arg-8.result _ _
    (λ command h. h.shape c.module_words.ensures.local
    ∙ ap₂ with_rule seven c.module_words.ensures.rule) c.arg-8.ensures
