use Rattle.std.proofs.Common.{ap, sym, ◌∙◌, option_copied}
use Rattle.std.specs.List.{slice_get}
use Rattle.iop_script.specs.Scripts.{words_for}
use Rattle.iop_machine.specs.Modules.{NamedFile, modules_of}
use Rattle.iop_machine.proofs.ModulesTaken.{next_is, has_room}
use Rattle.iop_machine.proofs.modules_left.ModulesLeft.first.Goals as goal

pub returns-clause-module : goal.returns-clause-module
returns-clause-module c =
    let left = c.args.self.now in
    let number = c.next_number-number.result in
    let name = c.as_bytes.result.now in
    let words = c.words_for-words.ensures
    ∙ ap (λ x. words_for x c.words_by_name.result.now number name)
    c.words_by_number-by_number.ensures.words
    ∙ ap (λ x. words_for left.args x number name) c.words_by_name.ensures.words
    ∙ ap (words_for left.args left.named number)
    (c.as_bytes.ensures.value ∙ ap (λ (x : NamedFile). x.name) c.module.view_is) in
    next_is left c.in_ok-module.module.now
    (record {
      number = number;
      name = c.as_str.result;
      words = c.words_for-words.result;
      file = c.deref.result;
    })
    (ap (λ files. slice_get files 0) (sym c.files.ensures.files)
    ∙ sym c.first.ensures.value
    ∙ ap option_copied c.in_ok-module.was)
    c.next_number-number.ensures.number
    (c.as_str.ensures.value ∙ ap (λ (x : NamedFile). x.name) c.module.view_is)
    words (c.deref.ensures.value ∙ ap (λ (x : NamedFile). x.file) c.module.view_is)

pub returns-clause-room : goal.returns-clause-room
returns-clause-room c =
    has_room (modules_of c.args.self.now) _ c.files.ensures.room (returns-clause-module c)
