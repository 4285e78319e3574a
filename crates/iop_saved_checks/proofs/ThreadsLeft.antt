-- A test of all threads, one after the other by their ids.
use Rattle.std.proofs.Common.{◌≡◌, ℕ, ◌+◌, ◌≤◌, Bool, true, false, if◌then◌else◌, Some, None, List, [], ◌∷◌, length, filter, find, refl, sym, ap, ◌∙◌, arith}
use Rattle.std.specs.Prelude.{nat_lt, ◌&&◌}
use Rattle.std.specs.List.{list_all}
use Rattle.std.proofs.lemmas.Option.{same_Some}
use Rattle.iop_ready.specs.declared.entry.Entry.{Entry}
use Rattle.iop_ready.specs.declared.slot.TheConstants.{MOST_THREADS}
use Rattle.iop_saved_threads.proofs.ThreadsInOrder.{rising, all_left, next_is, rest_above}
use Rattle.iop_saved_threads.specs.Tables.{above}
use Rattle.iop_thread.proofs.ReadingInOrder.{next_rising}
use Rattle.iop_thread.specs.Reading.{next_above}
use Rattle.iop_thread.specs.Standing.{Stands}
use Rattle.iop_thread.specs.ThreadTable.{ThreadTable}
use Rattle.iop_thread.specs.declared.thread.Thread.{Thread}
use Rattle.iop_thread.specs.declared.threads.Threads.{Threads}

-- what no value passes, none is found by
none_found : {X : Type 0} (p : X → Bool) (xs : List X) → filter p xs ≡ [] → find p xs ≡ None
none_found p [] none = refl
none_found {X} p (x ∷ xs) none = by (p x) refl none (none_found p xs)
  where
    by : (b : Bool) → p x ≡ b → (if b then x ∷ filter p xs else filter p xs) ≡ []
        → (filter p xs ≡ [] → find p xs ≡ None) → (if b then Some x else find p xs) ≡ None
    by true is none later = absurd cc
    by false is none later = later none

module _ {R : Type 0} {stands_for : R → List Entry → Type 0} {threads : Threads R} {s : ThreadTable}
    (h : Stands stands_for threads s) (last : ℕ) where
  -- the next thread is the first that is left, and behind it are those above its own id
  pub next_left : (t : Thread) → next_above s.live last ≡ Some t
      → above last s.live ≡ t ∷ above t.id s.live
  next_left t is = by (above last s.live) refl
    where
      by : (left : List Thread) → above last s.live ≡ left
          → above last s.live ≡ t ∷ above t.id s.live
      by [] e =
          absurd (cc (sym is ∙ next_rising s.live last (rising h)
          ∙ none_found (λ u. nat_lt last u.id) s.live e))
      by (u ∷ rest) e =
          let same : t ≡ u = same_Some t u (next_is h last u rest (Some t) (sym is) e) in
          let behind = (rest_above last s.live u rest (rising h) e).0 in
          e ∙ ap (λ l. u ∷ l) (sym behind) ∙ ap (λ (v : Thread). v ∷ above v.id s.live) (sym same)

  -- where there is none, none is left
  pub none_left : next_above s.live last ≡ None → above last s.live ≡ []
  none_left none = by (above last s.live) refl
    where
      by : (left : List Thread) → above last s.live ≡ left → above last s.live ≡ []
      by [] e = e
      by (u ∷ rest) e = absurd (cc (next_is h last u rest None (sym none) e))

  module _ (p : Thread → Bool) (t : Thread) (is : next_above s.live last ≡ Some t) where
    one_of_them : list_all p (above last s.live) ≡ (p t && list_all p (above t.id s.live))
    one_of_them = ap (list_all p) (next_left t is)

    -- where it passes, those above it decide
    pub passed : true ≡ p t
        → list_all p (above t.id s.live) ≡ list_all p (above last s.live)
    passed ok = ap (λ b. b && list_all p (above t.id s.live)) ok ∙ sym one_of_them

    -- and where it does not, all do not
    pub failed : false ≡ p t → false ≡ list_all p (above last s.live)
    failed bad = ap (λ b. b && list_all p (above t.id s.live)) bad ∙ sym one_of_them

    pub one_less : length (above t.id s.live) + 1 ≡ length (above last s.live)
    one_less = omega (arith, ap length (next_left t is))

-- at first all are left
pub all_at_first : {R : Type 0} {stands_for : R → List Entry → Type 0} {threads : Threads R}
    {s : ThreadTable} (h : Stands stands_for threads s) (p : Thread → Bool)
    → (list_all p (above 0 s.live) ≡ list_all p s.live)
    × (length (above 0 s.live) + 0 ≤ MOST_THREADS)
all_at_first h p =
    let all = all_left h in
    (ap (list_all p) all, omega (arith, ap length all, h.placed.ids.few))
