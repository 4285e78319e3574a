-- What one stub more leaves is sound.
use Rattle.std.proofs.Common.{◌≡◌, ℕ, suc, ◌+◌, ◌<◌, ◌≤◌, Bool, true, false, cond, not, List, [], ◌∷◌, length, get_or, nat_lt, refl, ap, sym, ◌∙◌, subst, arith}
use Rattle.std.specs.List.{All, AllPairs, insert, prefix_len}
use Rattle.std.proofs.lemmas.List.Elements.{All-cons, All-head, All-tail, All-weaker}
use Rattle.std.proofs.lemmas.List.Kept.{AllPairs-cons}
use Rattle.std.proofs.lemmas.Bool.{ltb-true, ltb-false, lt-ltb, le-ltb}
use Rattle.iop_base.specs.Numbers.{bytes_of, with_bytes}
use Rattle.iop_base.specs.Places.{IsRamSize}
use Rattle.iop_base.proofs.Lists.{number_at_behind, bytes_inside}
use Rattle.iop_base.proofs.Memory.{length-with_bytes}
use Rattle.iop_stubs.specs.Stubs.{Memory, stands_before}
use Rattle.iop_stubs.specs.Binding.{jump_word, with_stub, after_bind, MayBind, IsBound, IsSound}
use Rattle.iop_stubs.specs.declared.live_stub.Stub.{Stub}
use Rattle.iop_stubs.proofs.Storing.{Apart, before, behind, empty, apart, stays_bound}

module _ (stub : Stub) where
  insert_by : (b c : Bool) (first : Stub) (rest : List Stub) (n m : ℕ) → c ≡ not b → m ≡ suc n →
      insert rest n stub ≡ with_stub stub rest →
      insert (first ∷ rest) (cond b m 0) stub
      ≡ cond c (stub ∷ first ∷ rest) (first ∷ with_stub stub rest)
  insert_by true c first rest n m other next e = rw (other, next) (ap (λ stubs. first ∷ stubs) e)
  insert_by false c first rest n m other next e = rw other refl

  one_side : (other : Stub) → Apart other.at stub.at 8 →
      nat_lt stub.at other.at ≡ not (nat_lt other.at stub.at)
  one_side other (before h) = le-ltb _ _ (omega arith) ∙ ap not (sym (lt-ltb _ _ (omega arith)))
  one_side other (behind h) = lt-ltb _ _ (omega arith) ∙ ap not (sym (le-ltb _ _ (omega arith)))
  one_side other (empty h) = cc

  -- the place that a search gives
  pub insert_is : (stubs : List Stub) → All (λ other. Apart other.at stub.at 8) stubs →
      insert stubs (prefix_len (stands_before stub.at) stubs) stub ≡ with_stub stub stubs
  insert_is [] far = refl
  insert_is (first ∷ rest) far =
      let n = prefix_len (stands_before stub.at) rest in
      insert_by (nat_lt first.at stub.at) (nat_lt stub.at first.at) first rest n (1 + n)
      (one_side first (All-head (λ other. Apart other.at stub.at 8) first rest far)) (omega arith)
      (insert_is rest (All-tail (λ other. Apart other.at stub.at 8) first rest far))

  length_by : (b : Bool) (first : Stub) (rest : List Stub) →
      length (with_stub stub rest) ≡ suc (length rest) →
      length (cond b (stub ∷ first ∷ rest) (first ∷ with_stub stub rest)) ≡ suc (suc (length rest))
  length_by true first rest e = refl
  length_by false first rest e = ap suc e

  pub length-with_stub : (stubs : List Stub) → length (with_stub stub stubs) ≡ suc (length stubs)
  length-with_stub [] = refl
  length-with_stub (first ∷ rest) =
      length_by (nat_lt stub.at first.at) first rest (length-with_stub rest)

  all_by : (P : Stub → Type 0) (b : Bool) (first : Stub) (rest : List Stub) → P stub →
      All P (first ∷ rest) → All P (with_stub stub rest) →
      All P (cond b (stub ∷ first ∷ rest) (first ∷ with_stub stub rest))
  all_by P true first rest p all later = All-cons P stub (first ∷ rest) p all
  all_by P false first rest p all later =
      All-cons P first (with_stub stub rest) (All-head P first rest all) later

  pub All-with_stub : (P : Stub → Type 0) (stubs : List Stub) → P stub → All P stubs →
      All P (with_stub stub stubs)
  All-with_stub P [] p all = All-cons P stub [] p all
  All-with_stub P (first ∷ rest) p all =
      all_by P (nat_lt stub.at first.at) first rest p all
      (All-with_stub P rest p (All-tail P first rest all))

  abbrev IsBefore : Stub → Stub → Type 0
  IsBefore first second = first.at + 8 ≤ second.at

  comes_before : (other : Stub) → Apart other.at stub.at 8 → stub.at < other.at →
      stub.at + 8 ≤ other.at
  comes_before other (before h) lt = omega arith
  comes_before other (behind h) lt = h
  comes_before other (empty h) lt = cc

  comes_behind : (other : Stub) → Apart other.at stub.at 8 → other.at ≤ stub.at →
      other.at + 8 ≤ stub.at
  comes_behind other (before h) le = h
  comes_behind other (behind h) le = omega arith
  comes_behind other (empty h) le = cc

  pairs_by : (b : Bool) (first : Stub) (rest : List Stub) → nat_lt stub.at first.at ≡ b →
      Apart first.at stub.at 8 → All (IsBefore first) rest → AllPairs IsBefore (first ∷ rest) →
      AllPairs IsBefore (with_stub stub rest) →
      AllPairs IsBefore (cond b (stub ∷ first ∷ rest) (first ∷ with_stub stub rest))
  pairs_by true first rest e far all pairs later =
      let le : stub.at + 8 ≤ first.at = comes_before first far (ltb-true _ _ e) in
      AllPairs-cons IsBefore stub (first ∷ rest) (All-cons (IsBefore stub) first rest le
      (All-weaker (IsBefore first) (IsBefore stub) (λ s h. omega arith) rest all)) pairs
  pairs_by false first rest e far all pairs later =
      AllPairs-cons IsBefore first (with_stub stub rest)
      (All-with_stub (IsBefore first) rest (comes_behind first far (ltb-false _ _ e)) all) later

  pub AllPairs-with_stub : (stubs : List Stub) → All (λ other. Apart other.at stub.at 8) stubs →
      AllPairs IsBefore stubs → AllPairs IsBefore (with_stub stub stubs)
  AllPairs-with_stub [] far pairs =
      AllPairs-cons IsBefore stub [] (λ k d below. absurd (omega arith)) pairs
  AllPairs-with_stub (first ∷ rest) far pairs =
      let later : AllPairs IsBefore rest =
      λ i j d lt below. pairs (suc i) (suc j) d (omega arith) (omega arith) in
      pairs_by (nat_lt stub.at first.at) first rest refl
      (All-head (λ other. Apart other.at stub.at 8) first rest far)
      (λ k d below. pairs 0 (suc k) d (omega arith) (omega arith)) pairs
      (AllPairs-with_stub rest (All-tail (λ other. Apart other.at stub.at 8) first rest far) later)

pub narrower : (at p : ℕ) → Apart at p 8 → Apart at p 4
narrower at p (before h) = before h
narrower at p (behind h) = behind (omega arith)
narrower at p (empty h) = cc

-- what binding a stub leaves is sound
pub bind_sound : (old : Memory) (ram : List ℕ) (live : List Stub) (stub : Stub) →
    ram ≡ (after_bind old stub).ram → live ≡ with_stub stub old.live → MayBind old stub →
    IsSound old → IsSound (record { ram = ram; live = live })
bind_sound old ram live stub ram_is live_is may h =
    let bytes = bytes_of 4 (jump_word stub.target) in
    let new = with_bytes old.ram stub.at bytes in
    let fits : stub.at + 4 ≤ length old.ram = omega (arith, may.inside) in
    let far : All (λ other. Apart other.at stub.at 8) old.live =
    λ k d below. apart (get_or old.live k d).at stub.at 8 (may.apart k d below) in
    let bound : IsBound new stub = record {
      aligned = may.aligned;
      inside = omega (arith, may.inside, length-with_bytes old.ram stub.at bytes fits);
      jump = bytes_inside old.ram stub.at bytes fits;
      index = number_at_behind old.ram stub.at bytes fits (stub.at + 4) 4 (omega arith) ∙ may.index;
      index_small = may.index_small;
      target_aligned = may.target_aligned;
      target_near = may.target_near;
    } in
    let others : All (IsBound new) old.live =
    λ k d below. stays_bound old.ram stub.at bytes fits (get_or old.live k d)
    (narrower _ _ (far k d below)) (h.bound k d below) in
    let sound : IsSound (after_bind old stub) = record {
      sized = subst IsRamSize (sym (length-with_bytes old.ram stub.at bytes fits)) h.sized;
      few = omega (arith, length-with_stub stub old.live, may.room);
      bound = All-with_stub stub (IsBound new) old.live bound others;
      apart = AllPairs-with_stub stub old.live far h.apart;
    } in
    rw (ram_is, live_is) sound

pub bind_is : (old : Memory) (ram : List ℕ) (live : List Stub) (stub : Stub) →
    ram ≡ (after_bind old stub).ram → live ≡ with_stub stub old.live →
    record { ram = ram; live = live } ≡ after_bind old stub
bind_is old ram live stub ram_is live_is = rw (ram_is, live_is) refl
