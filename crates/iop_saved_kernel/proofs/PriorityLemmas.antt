-- The priorities of all threads are those of the threads found and of the ones above them.
use Rattle.std.proofs.Common.{◌≡◌, ℕ, ◌<◌, ◌≤◌, Bool, true, false, if◌then◌else◌, Option, Some, None, List, [], ◌∷◌, ◌++◌, length, filter, find, refl, sym, ap, ◌∙◌, arith, length-append, append_assoc, append-nil}
use Rattle.std.specs.Prelude.{nat_lt}
use Rattle.std.proofs.lemmas.List.{length-map}
use Rattle.std.proofs.lemmas.Option.{same_Some}
use Rattle.iop_ready.specs.declared.entry.Entry.{Entry}
use Rattle.iop_ready.specs.declared.slot.TheConstants.{MOST_THREADS}
use Rattle.iop_thread.proofs.ReadingInOrder.{next_rising}
use Rattle.iop_thread.specs.Reading.{next_above}
use Rattle.iop_thread.specs.Standing.{Stands}
use Rattle.iop_thread.specs.ThreadTable.{ThreadTable}
use Rattle.iop_thread.specs.declared.thread.Thread.{Thread}
use Rattle.iop_thread.specs.declared.threads.Threads.{Threads}
use Rattle.iop_saved_threads.specs.Tables.{above}
use Rattle.iop_saved_threads.proofs.ThreadsInOrder.{rising, all_left, next_is, rest_above}
use Rattle.iop_saved_kernel.specs.ThreadLists.{priority_in, priorities_in}
use Rattle.iop_saved_kernel.specs.declared.priorities.ThreadPriority.{ThreadPriority}

-- what no value passes, none is found by
none_found : {X : Type 0} (p : X → Bool) (xs : List X) → filter p xs ≡ [] → find p xs ≡ None
none_found p [] none = refl
none_found {X} p (x ∷ xs) none = by (p x) refl none (none_found p xs)
  where
    by : (b : Bool) → p x ≡ b → (if b then x ∷ filter p xs else filter p xs) ≡ []
        → (filter p xs ≡ [] → find p xs ≡ None) → (if b then Some x else find p xs) ≡ None
    by true is none later = absurd cc
    by false is none later = later none

-- those that were found, and those above the last of them, are all
abbrev pub HaveFound : ThreadTable → List ThreadPriority → (last : ℕ) → Type 0
HaveFound s found last = found ++ priorities_in (above last s.live) ≡ priorities_in s.live

module _ {R : Type 0} {stands_for : R → List Entry → Type 0} {threads : Threads R} {s : ThreadTable}
    (h : Stands stands_for threads s) where
  pub first_found : HaveFound s [] 0
  first_found = ap priorities_in (all_left h)

  -- where one more is found, it is the first above
  pub more_found : (found : List ThreadPriority) (last : ℕ) (t : Thread)
      → next_above s.live last ≡ Some t → HaveFound s found last
      → HaveFound s (found ++ priority_in t ∷ []) t.id
  more_found found last t is have = by (above last s.live) refl
    where
      by : (left : List Thread) → above last s.live ≡ left
          → HaveFound s (found ++ priority_in t ∷ []) t.id
      by [] e =
          absurd (cc (sym is ∙ next_rising s.live last (rising h)
          ∙ none_found (λ u. nat_lt last u.id) s.live e))
      by (u ∷ rest) e =
          let found_is = next_is h last u rest (Some t) (sym is) e in
          let same : t ≡ u = same_Some t u found_is in
          let behind = (rest_above last s.live u rest (rising h) e).0 in
          append_assoc found (priority_in t ∷ []) (priorities_in (above t.id s.live))
          ∙ ap (λ (l : List ThreadPriority). found ++ priority_in t ∷ l)
          (ap (λ (v : Thread). priorities_in (above v.id s.live)) same ∙ ap priorities_in behind)
          ∙ ap (λ (v : Thread). found ++ priority_in v ∷ priorities_in rest) same
          ∙ ap (λ (l : List Thread). found ++ priorities_in l) (sym e) ∙ have

  -- where none is, all are found
  pub all_found : (found : List ThreadPriority) (last : ℕ) → next_above s.live last ≡ None
      → HaveFound s found last → found ≡ priorities_in s.live
  all_found found last none have = by (above last s.live) refl
    where
      by : (left : List Thread) → above last s.live ≡ left → found ≡ priorities_in s.live
      by [] e =
          sym (append-nil found)
          ∙ ap (λ (l : List Thread). found ++ priorities_in l) (sym e) ∙ have
      by (u ∷ rest) e = absurd (cc (next_is h last u rest None (sym none) e))

  -- where as many are found as can be, all are
  pub most_found : (found : List ThreadPriority) (last : ℕ) → MOST_THREADS ≤ length found
      → HaveFound s found last → found ≡ priorities_in s.live
  most_found found last many have = by (above last s.live) refl
    where
      by : (left : List Thread) → above last s.live ≡ left → found ≡ priorities_in s.live
      by [] e =
          sym (append-nil found)
          ∙ ap (λ (l : List Thread). found ++ priorities_in l) (sym e) ∙ have
      by (u ∷ rest) e =
          let all = ap (λ (l : List Thread). length (found ++ priorities_in l)) (sym e)
          ∙ ap length have ∙ length-map s.live priority_in in
          absurd (omega (
            arith,
            all,
            length-append found (priorities_in (u ∷ rest)),
            h.placed.ids.few,
            many,
          ))
