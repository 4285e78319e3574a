-- The threads above an id, where ids rise.
use Rattle.std.proofs.Common.{◌≡◌, ℕ, ◌<◌, ◌≤◌, nat_lt, Bool, true, false, cond, Option, Some, None, List, [], ◌∷◌, length, filter, find, All, refl, ap, sym, ◌∙◌, subst, arith}
use Rattle.std.proofs.lemmas.Bool.Decides.{nat_tests}
use Rattle.std.proofs.lemmas.List.Elements.{All-head, All-tail, All-weaker}
use Rattle.std.specs.Prelude.{Result, Ok, Err, IsErr, MatchResult}
use Rattle.iop_base.specs.declared.write_fault.WriteFault.{WriteFault}
use Rattle.iop_base.proofs.Searching.{AllPairs-head, AllPairs-tail}
use Rattle.iop_ready.specs.declared.entry.Entry.{Entry}
use Rattle.iop_thread.proofs.ReadingInOrder.{next_rising}
use Rattle.iop_thread.specs.Placing.{AreRising}
use Rattle.iop_thread.specs.Reading.{next_above}
use Rattle.iop_thread.specs.Standing.{Stands}
use Rattle.iop_thread.specs.ThreadTable.{ThreadTable}
use Rattle.iop_thread.specs.declared.thread.Thread.{Thread}
use Rattle.iop_thread.specs.declared.thread.TheConstants.{LOADER}
use Rattle.iop_thread.specs.declared.threads.Threads.{Threads}
use Rattle.iop_snapshot.specs.Writing.{Place, Writes}
use Rattle.iop_saved_threads.specs.Processors.{cpu_form}
use Rattle.iop_saved_threads.specs.Tables.{above}
use Rattle.iop_saved_threads.specs.Threads.{thread_form}

-- all are above an id where each is
pub all_above : (id : ℕ) (live : List Thread) → All (λ t. id < t.id) live → above id live ≡ live
all_above id [] h = refl
all_above id (t ∷ live) h =
    let here : id < t.id = All-head (λ u. id < u.id) t live h in
    let is : nat_lt id t.id ≡ true = grind (arith, nat_tests, here) in
    rw is (ap (λ ts. t ∷ ts) (all_above id live (All-tail (λ u. id < u.id) t live h)))

-- a thread was written, by another name of it
pub written_as : {result : Result Unit WriteFault} {t u : Thread} {old new : Place} → t ≡ u
    → Writes result ((thread_form cpu_form).spell t) old new
    → Writes result ((thread_form cpu_form).spell u) old new
written_as {result} {old = old} {new} e =
    subst (λ v. Writes result ((thread_form cpu_form).spell v) old new) e

-- the same where a `?` returns
pub failed_as : (result : Result Unit WriteFault) {fault : WriteFault} {t u : Thread}
    {old new : Place} → t ≡ u → IsErr result
    → Writes (Err fault) ((thread_form cpu_form).spell t) old new
    → Writes result ((thread_form cpu_form).spell u) old new
failed_as (Err e) is failed w = written_as is w
failed_as (Ok done) is failed w = absurd cc

-- the first above an id is found
pub first_above : (id : ℕ) (live : List Thread) (t : Thread) (rest : List Thread)
    → above id live ≡ t ∷ rest → find (λ u. nat_lt id u.id) live ≡ Some t
first_above id [] t rest e = absurd (cc e)
first_above id (u ∷ live) t rest e = by (nat_lt id u.id) refl (first_above id live t rest)
  where
    by : (b : Bool) → nat_lt id u.id ≡ b
        → (above id live ≡ t ∷ rest → find (λ v. nat_lt id v.id) live ≡ Some t)
        → find (λ v. nat_lt id v.id) (u ∷ live) ≡ Some t
    by true is later =
        let same : u ∷ above id live ≡ t ∷ rest = sym (rw is refl) ∙ e in rw is (cc same)
    by false is later =
        let same : above id live ≡ t ∷ rest = sym (rw is refl) ∙ e in rw is (later same)

-- behind it are those above its own
pub rest_above : (id : ℕ) (live : List Thread) (t : Thread) (rest : List Thread)
    → AreRising live → above id live ≡ t ∷ rest → (above t.id live ≡ rest) × (id < t.id)
rest_above id [] t rest rising e = absurd (cc e)
rest_above id (u ∷ live) t rest rising e =
    by (nat_lt id u.id) refl
    (rest_above id live t rest (AllPairs-tail (λ v w. v.id < w.id) u live rising))
  where
    behind : All (λ v. u.id < v.id) live
    behind = AllPairs-head (λ v w. v.id < w.id) u live rising

    by : (b : Bool) → nat_lt id u.id ≡ b
        → (above id live ≡ t ∷ rest → (above t.id live ≡ rest) × (id < t.id))
        → (above t.id (u ∷ live) ≡ rest) × (id < t.id)
    by true is later =
        let less : id < u.id = grind (arith, nat_tests, is) in
        let same : u ∷ above id live ≡ t ∷ rest = sym (rw is refl) ∙ e in
        let first : u ≡ t = cc same in
        let others : above id live ≡ rest = cc same in
        let all = all_above id live
        (All-weaker (λ v. u.id < v.id) (λ v. id < v.id) (λ v lt. omega (arith, lt, less)) live behind)
        in
        let own : nat_lt u.id u.id ≡ false = grind (arith, nat_tests) in
        let here : (above u.id (u ∷ live) ≡ rest) × (id < u.id) =
        (rw own (all_above u.id live behind ∙ sym all ∙ others), less) in
        subst (λ v. (above v.id (u ∷ live) ≡ rest) × (id < v.id)) first here
    by false is later =
        let same : above id live ≡ t ∷ rest = sym (rw is refl) ∙ e in
        let found = later same in
        let less = found.1 in
        let passed : nat_lt t.id u.id ≡ false = grind (arith, nat_tests, is, less) in
        (rw passed found.0, less)

module _ {R : Type 0} {stands_for : R → List Entry → Type 0} {threads : Threads R} {s : ThreadTable}
    (h : Stands stands_for threads s) where
  -- ids rise, from 1 on
  pub rising : AreRising s.live
  rising = h.placed.ids.rising

  pub all_left : above 0 s.live ≡ s.live
  all_left =
      all_above 0 s.live
      (All-weaker (λ t. LOADER ≤ t.id) (λ t. 0 < t.id) (λ t le. omega (arith, le)) s.live
      h.placed.ids.first)

  -- the next thread that is found is the first that is left
  pub next_is : (id : ℕ) (t : Thread) (rest : List Thread) (found : Option Thread)
      → found ≡ next_above s.live id → above id s.live ≡ t ∷ rest → found ≡ Some t
  next_is id t rest found is e =
      is ∙ next_rising s.live id rising ∙ first_above id s.live t rest e

-- what holds where a result is good holds in another way
pub match_ok : {T E : Type 0} {P Q : T → Type 0} (F : E → Type 0) (result : Result T E)
    → ((x : T) → P x → Q x) → MatchResult result P F → MatchResult result Q F
match_ok F (Ok x) f h = f x h
match_ok F (Err e) f h = h
