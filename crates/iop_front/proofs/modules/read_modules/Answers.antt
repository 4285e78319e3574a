use Rattle.std.proofs.Common.{◌≡◌, suc, cond, Result, is_ok, List, [], ◌∷◌, ◌++◌, All, take, drop, length, map, string_bytes, refl, ap, sym, ◌∙◌, subst, arith}
use Rattle.std.specs.declared.alloc.AllocFailed.{AllocFailed}
use Rattle.std.proofs.lemmas.Grind.{common_steps}
use Rattle.std.proofs.lemmas.List.{length-append}
use Rattle.std.proofs.lemmas.List.Elements.{All-nil, All-push}
use Rattle.std.proofs.lemmas.Result.{err_from_is_err_and}
use Rattle.iop_machine.specs.Modules.{NamedFile}
use Rattle.iop_front.specs.Inputs.{seen, HasTaken, IsShort}
use Rattle.iop_front.specs.Named.{AsModule}
use Rattle.iop_front.proofs.OpeningLemmas.{modules_followed}
use Rattle.iop_front.proofs.TakingLemmas.{files_short, stops_short, takes_none, stops_behind, split_text, take_text, takes-append}
use Rattle.iop_front.proofs.modules.read_modules.Goals as goal

pub returns-in_err-modules-clause-read : goal.returns-in_err-modules-clause-read
returns-in_err-modules-clause-read g c =
    let now = seen g.F.Files.told g.F.Files.faults c.args.files.now in
    let names = map string_bytes c.args.words.texts.now in
    let p = err_from_is_err_and c.from_residual.result c.from_residual.ensures.1 in
    rw (p.1, p.2) (stops_short AsModule names [] names [] now now refl (takes_none AsModule now))

pub loop-text-init : goal.loop-text-init
loop-text-init g c =
    let now = seen g.F.Files.told g.F.Files.faults c.args.files.now in
    let made = c.in_ok-modules.ensures in
    record {
      buffer = c.requires;
      room = omega (arith, made.capacity);
      count = ap length made.items;
      short = subst (λ items. All IsShort items) (sym made.items) (All-nil IsShort);
      taken = subst (λ items. HasTaken AsModule [] items now now) (sym made.items)
          (takes_none AsModule now);
    }

pub returns-in_err-module-clause-read : goal.returns-in_err-module-clause-read
returns-in_err-module-clause-read g c =
    let seen_by = seen g.F.Files.told g.F.Files.faults in
    let texts = c.args.words.texts.now in
    let index = c.loop-text.text-index in
    let was = c.loop-text.invariant in
    let made = c.from_residual-in_err-module in
    let p = err_from_is_err_and made.result made.ensures.1 in
    rw (p.1, p.2) (stops_behind AsModule (map string_bytes texts)
    (map string_bytes (take index texts)) (c.as_str.result.now ∷ [])
    (map string_bytes (drop (suc index) texts))
    c.loop-text.modules.items (seen_by c.args.files.now) (seen_by c.loop-text.files)
    (seen_by c.read_module.new.files)
    (split_text string_bytes texts index c.text-item.result c.as_str.result.now
    c.as_str.ensures.value (omega (arith, c.loop-text-test.true)) c.text-item.is)
    was.taken (files_short _ was.short) (modules_followed _)
    c.in_err-module.field-0.0 c.in_err-module.ensures.read)

pub loop-text-preserved : goal.loop-text-preserved
loop-text-preserved g c =
    let seen_by = seen g.F.Files.told g.F.Files.faults in
    let texts = c.args.words.texts.now in
    let index = c.loop-text.text-index in
    let was = c.loop-text.invariant in
    let old = seen_by c.args.files.now in
    let new = seen_by c.read_module.new.files in
    let name = c.as_str.result.now in
    let before = map string_bytes (take index texts) in
    let names = take_text string_bytes texts index c.text-item.result name c.as_str.ensures.value
    (omega (arith, c.loop-text-test.true)) c.text-item.is in
    let items = c.loop-text.modules.items in
    let one = c.in_ok-module.module in
    let pushed : c.push.new.self.items ≡ items ++ one ∷ [] =
    ◌∙◌ {A = List NamedFile} c.push.ensures.items
    (ap (λ (r : Result (Unit {0}) (AllocFailed NamedFile)). cond (is_ok r) (items ++ one ∷ [])
    items) c.unwrap.ensures) in
    let both = takes-append AsModule before (name ∷ []) items (one ∷ []) old
    (seen_by c.loop-text.files) new (files_short _ was.short) (modules_followed _) was.taken
    c.in_ok-module.ensures.read in
    record {
      buffer = grind (arith, common_steps, was.buffer, c.read_module.auto.buffer);
      room = omega (arith, was.room, c.push.ensures.lower_bound);
      count = ap length pushed ∙ length-append items (one ∷ []) ∙ omega (arith, was.count);
      short = rw pushed (All-push IsShort items one was.short c.in_ok-module.ensures.short);
      taken = rw (names, pushed) both;
    }
