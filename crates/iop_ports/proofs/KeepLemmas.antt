-- What is left of a keep where a file was asked for and written.
use Rattle.std.proofs.Common.{◌≡◌, ℕ, inl, inr, Bool, true, false, Option, Some, None, List, refl, ap, sym, subst, arith}
use Rattle.std.specs.Prelude.{IfSome, option_map}
use Rattle.iop_base.specs.Counts.{risen}
use Rattle.iop_ports.specs.Keeps.{HasAsked}
use Rattle.iop_ports.specs.Sinks.{SinkTold, Sends}
use Rattle.iop_ports.specs.Creating.{Creates, AsksOnce}

-- what is told of the calls that create stays where a piece is sent
pub keep_stays : (whole : Bool) (piece : List ℕ) (old new : SinkTold) → Sends whole piece old new
    → new.keep ≡ old.keep
keep_stays true piece old new h = ap (λ (told : SinkTold). told.keep) h
keep_stays false piece old new h = h.fails.keep

-- a file was asked for, whether or not the call succeeded
pub asked_of : (succeeds : Bool) (name : List ℕ) (old new : SinkTold)
    → Creates succeeds name old new → HasAsked name old.faults old.keep new.keep
asked_of true name old new h = h.asked
asked_of false name old new h = h.asked

-- of two numbers, where both are told
abbrev OnBoth : Option ℕ → Option ℕ → (ℕ → ℕ → Type 0) → Type 0
OnBoth old new P = IfSome old (λ before. IfSome new (P before))

on_all : (old new : Option ℕ) (P : ℕ → ℕ → Type 0) → ((n m : ℕ) → P n m) → OnBoth old new P
on_all None new P h = tt
on_all (Some n) None P h = tt
on_all (Some n) (Some m) P h = h n m

on_same : (told : Option ℕ) (P : ℕ → ℕ → Type 0) → ((n : ℕ) → P n n) → OnBoth told told P
on_same None P h = tt
on_same (Some n) P h = h n

on_risen : (old new : Option ℕ) (P : ℕ → ℕ → Type 0) → new ≡ option_map risen old
    → ((n : ℕ) → P n (risen n)) → OnBoth old new P
on_risen None new P e h = tt
on_risen (Some n) new P e h = rw e (h n)

is_last : (old new : Option ℕ) (faults : ℕ) → new ≡ option_map (λ _. faults) old
    → IfSome new (λ count. count ≡ faults)
is_last None new faults e = rw e tt
is_last (Some n) new faults e = rw e refl

-- nothing was asked for, and no fault counted
pub asks_none : (name : List ℕ) (told : SinkTold) → AsksOnce name told told
asks_none name told = record {
  once = on_same told.keep.creates _ (λ n. inl refl);
  name = on_same told.keep.creates _ (λ n less. absurd (omega arith));
  cause = λ less. absurd (omega arith);
  before = λ less. absurd (omega arith);
}

-- one file was asked for first, whatever was written then
pub asks_first : (name : List ℕ) (old new : SinkTold)
    → HasAsked name old.faults old.keep new.keep → AsksOnce name old new
asks_first name old new h = record {
  once = on_risen old.keep.creates _ _ h.creates (λ n. inr refl);
  name = on_all old.keep.creates new.keep.creates _ (λ n m less. h.name);
  cause = λ less. on_risen old.keep.creates _ _ h.creates (λ n. omega arith);
  before = λ less. is_last old.keep.faults_before _ _ h.faults_before;
}

-- a piece was sent behind a call that asked for a file
pub asks_then_sends : (succeeds whole : Bool) (name piece : List ℕ) (old middle new : SinkTold)
    → Creates succeeds name old middle → Sends whole piece middle new → AsksOnce name old new
asks_then_sends succeeds whole name piece old middle new creates sends =
    let asked = asked_of succeeds name old middle creates in
    let same = keep_stays whole piece middle new sends in
    asks_first name old new (subst (HasAsked name old.faults old.keep) (sym same) asked)
