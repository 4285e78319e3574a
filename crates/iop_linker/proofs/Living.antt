-- The live stubs after others were bound.
use Rattle.std.proofs.Common.{◌≡◌, ℕ, zero, suc, ◌<◌, Bool, true, false, cond, List, [], ◌∷◌, length, get_or, nat_lt, refl, arith, subst, inl, inr, ◌⊎◌}
use Rattle.std.specs.List.{All, Contains}
use Rattle.std.proofs.lemmas.List.Elements.{All-cons, All-weaker}
use Rattle.iop_stubs.specs.Stubs.{Memory}
use Rattle.iop_stubs.specs.Binding.{with_stub, after_bind}
use Rattle.iop_stubs.specs.declared.live_stub.Stub.{Stub}
use Rattle.iop_stubs.proofs.Binding.{length-with_stub, All-with_stub}
use Rattle.iop_linker.specs.Linking.{linked_memory}
use Rattle.iop_linker.specs.Laws.{AreLive}

in_head : (stub : Stub) (stubs : List Stub) → Contains (stub ∷ stubs) stub
in_head stub stubs = (0, omega arith, refl)

in_tail : (stub first : Stub) (stubs : List Stub) → Contains stubs stub
    → Contains (first ∷ stubs) stub
in_tail stub first stubs h = (suc h.0, omega (arith, h.1), h.2)

new_by : (before : Bool) (stub first : Stub) (rest : List Stub)
    → Contains (with_stub stub rest) stub
    → Contains (cond before (stub ∷ first ∷ rest) (first ∷ with_stub stub rest)) stub
new_by true stub first rest h = in_head stub (first ∷ rest)
new_by false stub first rest h = in_tail stub first (with_stub stub rest) h

new_there : (stub : Stub) (live : List Stub) → Contains (with_stub stub live) stub
new_there stub [] = in_head stub []
new_there stub (first ∷ rest) =
    new_by (nat_lt stub.at first.at) stub first rest (new_there stub rest)

same_read : (stubs : List Stub) (k : ℕ) (d e : Stub) → k < length stubs
    → get_or stubs k e ≡ get_or stubs k d
same_read [] k d e below = absurd (omega arith)
same_read (stub ∷ stubs) zero d e below = refl
same_read (stub ∷ stubs) (suc k) d e below = same_read stubs k d e (omega arith)

-- each stub of a list is in it
all_in : (stubs : List Stub) → All (Contains stubs) stubs
all_in stubs = λ k d below. (k, below, same_read stubs k d (get_or stubs k d) below)

-- what holds of all holds of one
one_of : (P : Stub → Type 0) (stubs : List Stub) (stub : Stub) → All P stubs → Contains stubs stub
    → P stub
one_of P stubs stub all h = subst P h.2 (all h.0 stub h.1)

old_by : (before : Bool) (stub first : Stub) (rest : List Stub)
    → All (Contains (with_stub stub rest)) rest
    → All (Contains (cond before (stub ∷ first ∷ rest) (first ∷ with_stub stub rest)))
    (first ∷ rest)
old_by true stub first rest h = λ k d below.
    in_tail (get_or (first ∷ rest) k d) stub (first ∷ rest) (all_in (first ∷ rest) k d below)
old_by false stub first rest h =
    All-cons (Contains (first ∷ with_stub stub rest)) first rest
    (in_head first (with_stub stub rest))
    (All-weaker (Contains (with_stub stub rest)) (Contains (first ∷ with_stub stub rest))
    (λ s q. in_tail s first (with_stub stub rest) q) rest h)

old_there : (stub : Stub) (live : List Stub) → All (Contains (with_stub stub live)) live
old_there stub [] = λ k d below. absurd (omega arith)
old_there stub (first ∷ rest) =
    old_by (nat_lt stub.at first.at) stub first rest (old_there stub rest)

-- a stub is of these, or was live
abbrev IsEither : List Stub → List Stub → Stub → Type 0
IsEither stubs live stub = Contains stubs stub ⊎ Contains live stub

either_by : (first : Stub) (rest live : List Stub) (stub : Stub)
    → Contains rest stub ⊎ Contains (with_stub first live) stub → IsEither (first ∷ rest) live stub
either_by first rest live stub (inl h) = inl (in_tail stub first rest h)
either_by first rest live stub (inr h) =
    one_of (IsEither (first ∷ rest) live) (with_stub first live) stub
    (All-with_stub first (IsEither (first ∷ rest) live) live (inl (in_head first rest))
    (λ k d below. inr (all_in live k d below)))
    h

pub all_live : (memory : Memory) (stubs : List Stub) → AreLive memory stubs
all_live memory [] = record {
  new = λ k d below. absurd (omega arith);
  old = all_in memory.live;
  others = λ k d below. inr (all_in memory.live k d below);
  count = omega arith;
}
all_live memory (stub ∷ stubs) =
    let after = linked_memory (after_bind memory stub) stubs in
    let h = all_live (after_bind memory stub) stubs in
    record {
      new = All-cons (Contains after.live) stub stubs
          (one_of (Contains after.live) (with_stub stub memory.live) stub h.old
          (new_there stub memory.live)) h.new;
      old = All-weaker (Contains (with_stub stub memory.live)) (Contains after.live)
          (λ s q. one_of (Contains after.live) (with_stub stub memory.live) s h.old q) memory.live
          (old_there stub memory.live);
      others = All-weaker (IsEither stubs (with_stub stub memory.live))
          (IsEither (stub ∷ stubs) memory.live)
          (λ s q. either_by stub stubs memory.live s q) after.live h.others;
      count = omega (arith, h.count, length-with_stub stub memory.live);
    }
