use Rattle.std.proofs.Common.{◌≡◌, ◌+◌, suc, drop, ap, sym, ◌∙◌, ◌∷◌, arith}
use Rattle.std.specs.Prelude.{◌&&◌, Bool, List}
use Rattle.std.specs.List.{list_all}
use Rattle.iop_script.specs.Scripts.{words_for}
use Rattle.iop_machine.specs.Modules.{Module, modules_from, NamedFile}
use Rattle.iop_machine.specs.Restoring.{has_room}
use Rattle.iop_machine.proofs.ListsLeft.{left_is}
use Rattle.iop_machine.proofs.restoring.all_have_room.Goals as goal

pub returns-then-not-has_room : goal.returns-then-not-has_room
returns-then-not-has_room c =
    let modules = c.args.modules.now in
    let i = c.loop-module.module-index in
    let first = c.module-item.result in
    let number = c.loop-module.number in
    let from : List NamedFile → List Module =
    λ ms. modules_from c.args.args.now c.args.named.now number ms in
    let rest : Bool = list_all has_room
    (modules_from c.args.args.now c.args.named.now (suc number) (drop (i + 1) modules)) in
    let name = c.as_bytes.ensures.value ∙ ap (λ m. m.name) c.module.view_is in
    let words = c.words_for-words.ensures
    ∙ ap (words_for c.args.args.now c.args.named.now number) name in
    sym (c.loop-module.invariant.all
    ∙ ap (λ ms. list_all has_room (from ms))
    (left_is modules i first c.loop-module-test.true c.module-item.is)
    ∙ ap (λ ws. has_room (record {
      number = number;
      words = first.name ∷ ws;
      file = first.file;
    }) && rest) (sym words)
    ∙ ap (λ may. may && rest) (sym (c.has_room.ensures number) ∙ c.if-not-has_room.true))

pub loop-module-preserved : goal.loop-module-preserved
loop-module-preserved c =
    let modules = c.args.modules.now in
    let i = c.loop-module.module-index in
    let first = c.module-item.result in
    let number = c.loop-module.number in
    let next : suc number ≡ number + 1 = omega arith in
    let rest : Bool = list_all has_room
    (modules_from c.args.args.now c.args.named.now (suc number) (drop (i + 1) modules)) in
    let name = c.as_bytes.ensures.value ∙ ap (λ m. m.name) c.module.view_is in
    let words = c.words_for-words.ensures
    ∙ ap (words_for c.args.args.now c.args.named.now number) name in
    record {
      all = c.loop-module.invariant.all
          ∙ ap (λ ms. list_all has_room (modules_from c.args.args.now c.args.named.now number ms))
          (left_is modules i first c.loop-module-test.true c.module-item.is)
          ∙ ap (λ ws. has_room (record {
            number = number;
            words = first.name ∷ ws;
            file = first.file;
          }) && rest) (sym words)
          ∙ ap (λ may. may && rest) (sym (c.has_room.ensures number) ∙ c.if-not-has_room.false)
          ∙ ap (λ n. list_all has_room
          (modules_from c.args.args.now c.args.named.now n (drop (i + 1) modules))) next;
      number = omega (arith, c.loop-module.invariant.number);
    }
