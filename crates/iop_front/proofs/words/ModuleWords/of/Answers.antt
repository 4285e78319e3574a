use Rattle.std.proofs.Common.{option_map, string_bytes, sym, subst}
use Rattle.iop_front.proofs.RoomLemmas.{AreShortWords, words_short}
use Rattle.iop_front.proofs.words.ModuleWords.of.Goals as goal

pub invariant_of-result : goal.invariant_of-result
invariant_of-result c =
    let held = c.options.inside in
    let short = subst (λ words. AreShortWords string_bytes words) (sym c.deref.ensures.value)
    (words_short string_bytes held.generate (option_map string_bytes held.restore)
    held.modules.items c.options.invariant.source) in
    record { few = short.few; short = short.short }
