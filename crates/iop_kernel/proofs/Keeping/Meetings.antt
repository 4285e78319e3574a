-- What waking the threads whose conditions on an event flag held keeps: only threads and memory
-- change, and each pattern is stored in RAM.
use Rattle.std.proofs.Common.{◌≡◌, ℕ, ◌+◌, ◌≤◌, ◌==◌, Option, Some, None, List, [], ◌∷◌, ◌++◌, map, length, append_assoc, bit_or, refl, ap, sym, ◌∙◌, arith}
use Rattle.std.proofs.lemmas.Bool.{cond_both}
use Rattle.std.proofs.lemmas.List.Elements.{All-append, All-weaker}
use Rattle.iop_base.specs.Piece.{Piece}
use Rattle.iop_base.specs.declared.code.TheConstants.Code.{OK}
use Rattle.iop_event.specs.EventFlags.{EventFlags, with_pattern}
use Rattle.iop_event.specs.WakeConditions.{settles}
use Rattle.iop_event.specs.declared.met.Met.{Met}
use Rattle.iop_objects.specs.Objects.{changes}
use Rattle.iop_stubs.specs.Stubs.{Memory, after_store, store_lines}
use Rattle.iop_kernel.specs.Boards.{Board}
use Rattle.iop_kernel.specs.EventFlags.{LiveFlag, met_place, meets_one, meets_all}
use Rattle.iop_kernel.specs.Laws.{Store, after_stores, stores_lines}
use Rattle.iop_kernel.specs.System.{Core, code_word, with_threads, words_place}
use Rattle.iop_kernel.specs.Waits.{wakes_all}
use Rattle.iop_kernel.proofs.Keeping.Memory.{Stored, words_inside}

-- the threads that are met when bits are set, and the event flags that are left
abbrev pub met_of : LiveFlag → (bits : ℕ) → List Met
met_of o bits = (settles (bit_or o.state.pattern bits) o.waiters).met

abbrev pub set_flags : Core → LiveFlag → (bits : ℕ) → EventFlags
set_flags c o bits =
    let done = settles (bit_or o.state.pattern bits) o.waiters in
    changes c.kernel.event_flags o.id
    (λ u. record u { state = with_pattern u.state done.pattern; waiters = done.waiters })

-- the threads of those that were met
abbrev pub threads_met : List Met → List ℕ
threads_met met = map (λ one. one.thread) met

-- they are woken with 0, and nothing else of the kernel and its processor changes
pub meets_core : (met : List Met) (b : Board) → (meets_all b met).core
    ≡ with_threads b.core (wakes_all b.core.kernel.threads (threads_met met) (code_word OK))
meets_core [] b = refl
meets_core (one ∷ met) b = meets_core met (meets_one b one)

-- stores behind others
after_stores-append : (stores more : List Store) (memory : Memory)
    → after_stores memory (stores ++ more) ≡ after_stores (after_stores memory stores) more
after_stores-append [] more memory = refl
after_stores-append (x ∷ stores) more memory =
    after_stores-append stores more (after_store memory (Some x.place) x.bytes)

stores_lines-append : (clock : ℕ) (stores more : List Store) (memory : Memory)
    → stores_lines clock memory (stores ++ more)
    ≡ stores_lines clock memory stores ++ stores_lines clock (after_stores memory stores) more
stores_lines-append clock [] more memory = refl
stores_lines-append clock (x ∷ stores) more memory =
    let next = after_store memory (Some x.place) x.bytes in
    let lines = store_lines clock memory (Some x.place) (length x.bytes) in
    ap (λ pieces. lines ++ pieces) (stores_lines-append clock stores more next)
    ∙ sym (append_assoc lines (stores_lines clock next stores)
    (stores_lines clock (after_stores next stores) more))

-- some stores and then others
pub stored_then : (clock : ℕ) (old between new : Memory) (pieces more : List Piece)
    → Stored clock old between pieces → Stored clock between new more
    → Stored clock old new (pieces ++ more)
stored_then clock old between new pieces more g h = record {
  stores = g.stores ++ h.stores;
  inside = All-append (λ x. x.place + length x.bytes ≤ length old.ram) g.stores h.stores g.inside
      (All-weaker (λ x. x.place + length x.bytes ≤ length between.ram)
      (λ x. x.place + length x.bytes ≤ length old.ram)
      (λ x fits. omega (arith, fits, g.size)) h.stores h.inside);
  left = h.left ∙ ap (λ memory. after_stores memory h.stores) g.left
      ∙ sym (after_stores-append g.stores h.stores old);
  told = ap (λ lines. lines ++ more) g.told
      ∙ ap (λ lines. stores_lines clock old g.stores ++ lines) (h.told
      ∙ ap (λ memory. stores_lines clock memory h.stores) g.left)
      ∙ sym (stores_lines-append clock g.stores h.stores old);
  size = h.size ∙ g.size;
}

-- a place for the pattern of one that was met lies in RAM
pub met_inside : (b : Board) (one : Met) (p : ℕ) → met_place b one ≡ Some p
    → p + 4 ≤ length b.memory.ram
met_inside b one p =
    cond_both (one.place == 0) None (words_place b.memory one.place 1)
    (λ (o : Option ℕ). o ≡ Some p → p + 4 ≤ length b.memory.ram) (λ none e. absurd (cc e))
    (λ some. words_inside b.memory one.place 1 p)
