use Rattle.std.proofs.Common.{◌≡◌, ℕ, List, length, refl, ap, sym, subst, ◌∙◌}
use Rattle.std.proofs.lemmas.Result.{err_from_is_err_and}
use Rattle.iop_stubs.specs.Layers.{base_of}
use Rattle.iop_linker.specs.Linking.{text_stubs, linking, linked_memory, after_linking}
use Rattle.iop_linker.specs.Laws.{MayLink}
use Rattle.iop_linker.specs.Underway.{HasRoom}
use Rattle.iop_linker.proofs.Counted.{links_bad, links_without, links_full, links_fit, room_for_all, answered}
use Rattle.iop_linker.proofs.Soundness.{based_by}
use Rattle.iop_linker.proofs.linking.link.Goals as goal

pub returns-in-Some : goal.returns-in-Some
returns-in-Some c =
    let memory = c.args.guest.now in
    let entries = c.args.registry.now in
    let ram = c.ram-ram in
    let outcome = links_bad ram.result.now entries (length memory.live) c.args.from c.args.len
    c.in-Some.at c.in-Some.ensures in
    let t = answered ram.result.now memory.ram entries (length memory.live) c.args.from c.args.len
    memory _ ram.ensures.value outcome in
    record { result = t.0; memory = t.1; base = refl; sound = ram.ensures.sound }

pub returns-in_err-count : goal.returns-in_err-count
returns-in_err-count c =
    let memory = c.args.guest.now in
    let entries = c.args.registry.now in
    let ram = c.ram-ram in
    let p = err_from_is_err_and c.from_residual.result c.from_residual.ensures.1 in
    let outcome = links_without ram.result.now entries (length memory.live) c.args.from c.args.len
    (sym c.in_default.is ∙ c.bad_table.ensures) c.in_err-count.field-0.0 c.in_err-count.ensures in
    let t = answered ram.result.now memory.ram entries (length memory.live) c.args.from c.args.len
    memory _ ram.ensures.value outcome in
    record { result = rw (p.1, p.2) t.0; memory = t.1; base = refl; sound = ram.ensures.sound }

pub returns-then-room-count : goal.returns-then-room-count
returns-then-room-count c =
    let memory = c.args.guest.now in
    let entries = c.args.registry.now in
    let ram = c.ram-ram in
    let outcome = links_full ram.result.now entries (length memory.live) c.args.from c.args.len
    (sym c.in_default.is ∙ c.bad_table.ensures) c.in_ok-count.count c.room.result
    c.in_ok-count.ensures c.room.ensures.room c.if-room-count.true in
    let t = answered ram.result.now memory.ram entries (length memory.live) c.args.from c.args.len
    memory _ ram.ensures.value outcome in
    record { result = t.0; memory = t.1; base = refl; sound = ram.ensures.sound }

pub bind_tables-requires-clause-room : goal.bind_tables-requires-clause-room
bind_tables-requires-clause-room c =
    let memory = c.args.guest.now in
    let entries = c.args.registry.now in
    subst (λ (m : List ℕ). HasRoom memory (text_stubs m entries c.args.from c.args.len))
    c.ram-ram.ensures.value
    (room_for_all c.ram-ram.result.now entries (length memory.live) c.args.from c.args.len
    (sym c.in_default.is ∙ c.bad_table.ensures) c.in_ok-count.count c.room.result
    c.in_ok-count.ensures c.room.ensures.room c.if-room-count.false)

pub returns : goal.returns
returns c =
    let memory = c.args.guest.now in
    let entries = c.args.registry.now in
    let ram = c.ram-ram in
    let outcome = links_fit ram.result.now entries (length memory.live) c.args.from c.args.len
    (sym c.in_default.is ∙ c.bad_table.ensures) c.in_ok-count.count c.room.result
    c.in_ok-count.ensures c.room.ensures.room c.if-room-count.false in
    let t = answered ram.result.now memory.ram entries (length memory.live) c.args.from c.args.len
    memory _ ram.ensures.value outcome in
    let left : c.bind_tables.new.guest
    ≡ after_linking memory (linking memory entries c.args.from c.args.len) =
    c.bind_tables.ensures.memory
    ∙ subst (λ (m : List ℕ).
    linked_memory memory (text_stubs m entries c.args.from c.args.len)
    ≡ after_linking memory (linking memory entries c.args.from c.args.len))
    ram.ensures.value t.1 in
    let may : MayLink memory c.args.from c.args.len = record {
      sound = ram.ensures.sound;
      aligned = c.requires.aligned;
      inside = c.requires.inside;
      apart = c.requires.apart;
    } in
    record {
      result = t.0;
      memory = left;
      base = ap base_of left
          ∙ based_by memory entries c.args.from c.args.len
          (linking memory entries c.args.from c.args.len) may ram.ensures.bytes refl;
      sound = c.bind_tables.ensures.sound;
    }
