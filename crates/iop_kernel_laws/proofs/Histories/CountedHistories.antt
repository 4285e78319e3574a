-- What a history of calls counts for the semaphores, and that one more call counts what has become
-- of them.
use Rattle.std.proofs.Common.{◌≡◌, ℕ, ◌≤◌, ◌+◌, ◌==◌, ◌&&◌, not, Bool, true, false, option_to_list, Option, Some, None, List, refl, ap, subst, arith}
use Rattle.std.proofs.lemmas.Bool.{and_left, and_right}
use Rattle.std.proofs.lemmas.List.Sums.{sum_by-append}
use Rattle.iop_objects.specs.Objects.{state_of}
use Rattle.iop_objects.proofs.Others.{HaveIdsBelow}
use Rattle.iop_sema.specs.Semaphores.{Semaphores}
use Rattle.iop_sema.specs.declared.semaphore.Semaphore.{Semaphore}
use Rattle.iop_kernel_laws.specs.Histories.{Called, is_signal, is_take, succeeds, signals_in, takes_in, signals, takes, AreCounted}
use Rattle.iop_kernel_laws.proofs.Histories.Telling.{Tells, TellsBy, Becomes, longer, nothing_yet}

-- how many signals of a semaphore a call is, if there is one, and how many takes
abbrev pub signals_of : (id : ℕ) → Option Called → ℕ
signals_of id call = signals id (option_to_list call)

abbrev pub takes_of : (id : ℕ) → Option Called → ℕ
takes_of id call = takes id (option_to_list call)

-- it counts nothing for a semaphore
abbrev pub CountsNothing : (id : ℕ) → Option Called → Type 0
CountsNothing id call = (signals_of id call ≡ 0) × (takes_of id call ≡ 0)

module _ (id : ℕ) (c : Called) where
  abbrev signals_it : Bool
  signals_it = is_signal c.service && c.first == id

  abbrev takes_it : Bool
  takes_it = is_take c.service && c.first == id

  -- so where it is neither a signal that succeeds nor a take that does
  nothing_counts : (signals_it && succeeds c) ≡ false → (takes_it && succeeds c) ≡ false
      → CountsNothing id (Some c)
  nothing_counts no_signal no_take =
      (rw (and_left _ (not c.had_waiter) no_signal) refl, rw no_take refl)

  -- so where it does not succeed
  pub refused_counts : succeeds c ≡ false → CountsNothing id (Some c)
  refused_counts fails =
      nothing_counts (and_right signals_it _ fails) (and_right takes_it _ fails)

  -- or where it neither signals it nor takes it
  pub elsewhere_counts : signals_it ≡ false → takes_it ≡ false → CountsNothing id (Some c)
  elsewhere_counts no_signal no_take =
      nothing_counts (and_left _ (succeeds c) no_signal) (and_left _ (succeeds c) no_take)

  -- or is a signal of one for which a thread waits
  pub waited_counts : c.had_waiter ≡ true → takes_it ≡ false → CountsNothing id (Some c)
  waited_counts waited no_take = (
    rw (and_right (signals_it && succeeds c) _ (ap not waited)) refl,
    rw (and_left _ (succeeds c) no_take) refl,
  )

-- the count of a semaphore grows by the signals less the takes, and stays within its most; one that
-- is made has its first count
abbrev pub counts : Tells Semaphore
counts = record {
  Keeps = λ id call x y.
      (y.initial ≡ x.initial) × (y.count + takes_of id call ≡ x.count + signals_of id call)
      × (x.count ≤ x.max → y.count ≤ y.max);
  Nothing = CountsNothing;
  First = λ x. (x.count ≡ x.initial) × (x.count ≤ x.max);
  Silent = λ x. (is_signal x ≡ false) × (is_take x ≡ false);
  alone = λ id call nothing x. (refl, omega (arith, nothing.0, nothing.1), λ within. within);
  none = λ id. (refl, refl);
  silent = λ id c no.
      elsewhere_counts id c (and_left _ (c.first == id) no.0) (and_left _ (c.first == id) no.1);
  fails = refused_counts;
}

-- all counts are those of a history, which has no call for a semaphore that is still to be made
pub record IsHistory (s : Semaphores) (history : List Called) : Type 0 where
  pub counted : AreCounted s history
  pub fresh : (id : ℕ) → s.next ≤ id → (signals id history ≡ 0) × (takes id history ≡ 0)

-- a call more, if there is one
module _ (history : List Called) (call : Option Called) where
  abbrev with_call : List Called
  with_call = longer history call

  -- its signals and its takes are added
  added : (id : ℕ) → (signals id with_call ≡ signals id history + signals_of id call)
      × (takes id with_call ≡ takes id history + takes_of id call)
  added id = (
    sum_by-append (signals_in id) history (option_to_list call),
    sum_by-append (takes_in id) history (option_to_list call),
  )

  module _ (old new : Semaphores) (given : HaveIdsBelow old.next old.live)
      (by : TellsBy counts old new call) (h : IsHistory old history) where
    -- each semaphore that is live then is counted, by what was known of it before
    counted_by : (id : ℕ) (y : Semaphore) (o : Option Semaphore) → state_of old id ≡ o
        → Becomes counts old.next id call o (Some y)
        → (y.count + takes id with_call ≡ y.initial + signals id with_call) × (y.count ≤ y.max)
    counted_by id y None was (none, above, first) =
        let before = h.fresh id above in (omega (arith, added id), first.1)
    counted_by id y (Some x) was kept =
        let before = h.counted id x was in (omega (arith, added id), kept.2 before.1)

    -- the counts are those of the longer history
    pub history_grows : IsHistory new with_call
    history_grows = record {
      counted = λ id y live.
          counted_by id y (state_of old id) refl
          (subst (Becomes counts old.next id call (state_of old id)) live (by.each id));
      fresh = λ id above.
          let still : old.next ≤ id = omega (arith, by.rises, above) in
          let before = h.fresh id still in
          let none = nothing_yet counts old call new given by id still in
          (omega (arith, added id), omega (arith, added id));
    }
