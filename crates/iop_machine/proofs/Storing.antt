-- Where the bytes of a store lie, how long it leaves memory, and what the kernel's stores make of
-- the machine.
use Rattle.std.proofs.Common.{◌≡◌, ℕ, ◌+◌, ◌≤◌, nat_le, Bool, true, false, cond, Option, Some, None, List, [], ◌∷◌, All, length, replicate, refl, ap, sym, ◌∙◌, subst, arith}
use Rattle.std.proofs.lemmas.Bool.Decides.{nat_tests}
use Rattle.std.proofs.lemmas.List.Elements.{All-head, All-tail}
use Rattle.std.proofs.lemmas.List.{length-replicate}
use Rattle.iop_base.specs.Numbers.{width_bytes, bytes_of}
use Rattle.iop_base.specs.Places.{phys, range_at}
use Rattle.iop_base.proofs.Lists.{length-bytes_of}
use Rattle.iop_base.proofs.Memory.{length-with_bytes}
use Rattle.iop_base.specs.Output.{Output, Gives}
use Rattle.iop_exec.specs.Row.{Storing}
use Rattle.iop_kernel.specs.Laws.{Store, after_stores}
use Rattle.iop_stubs.specs.Stubs.{access_place, Memory, after_store, range_place, store_lines}
use Rattle.iop_machine.specs.Storing.{memory_after, stores_bytes, fills}
use Rattle.iop_machine.specs.Iop.{Iop, Takes}
use Rattle.iop_machine.specs.Standing.{iop_of, Stands}
use Rattle.iop_machine.specs.declared.iop.Iop.{Iop as Program}
use Rattle.iop_machine.proofs.StandingLemmas.{IsMoment, carried}

-- a range that has a place lies in memory
in_range : (b : Bool) (p size len q : ℕ) → nat_le (p + len) size ≡ b → cond b (Some p) None ≡ Some q
    → q + len ≤ size
in_range true p size len q t e =
    let fits : p + len ≤ size = grind (arith, nat_tests, t) in
    let is : p ≡ q = cc e in
    omega (arith, fits, is)
in_range false p size len q t e = absurd (cc e)

-- by whether its address has one
pub range_by : (o : Option ℕ) (size at len q : ℕ) → phys size at ≡ o → range_at size at len ≡ Some q
    → q + len ≤ size
range_by None size at len q f e = let none : range_at size at len ≡ None =
    rw f refl in absurd (cc (none, e))
range_by (Some p) size at len q f e =
    let is : range_at size at len ≡ cond (nat_le (p + len) size) (Some p) None = rw f refl in
    in_range (nat_le (p + len) size) p size len q refl (sym is ∙ e)

-- by whether it is aligned
access_by : (b : Bool) (size at width q : ℕ) → cond b (range_at size at width) None ≡ Some q
    → q + width ≤ size
access_by true size at width q e = range_by (phys size at) size at width q refl e
access_by false size at width q e = absurd (cc e)

-- where bytes are stored they lie in memory
abbrev pub LiesInside : Memory → Option ℕ → List ℕ → Type 0
LiesInside memory place bytes =
    (p : ℕ) → place ≡ Some p → p + length bytes ≤ length memory.ram

-- a store leaves memory as long as it was
pub length-after_store : (memory : Memory) (place : Option ℕ) (bytes : List ℕ)
    → LiesInside memory place bytes
    → length (after_store memory place bytes).ram ≡ length memory.ram
length-after_store memory None bytes inside = refl
length-after_store memory (Some p) bytes inside =
    length-with_bytes memory.ram p bytes (inside p refl)

-- where several stores lie in memory
abbrev pub LieInside : Memory → List Store → Type 0
LieInside memory stores = All (λ x. x.place + length x.bytes ≤ length memory.ram) stores

-- the first does
pub first_inside : (memory : Memory) (x : Store) (xs : List Store) → LieInside memory (x ∷ xs)
    → LiesInside memory (Some x.place) x.bytes
first_inside memory x xs inside = λ p e.
    let is : x.place ≡ p = cc e in
    let fits = All-head (λ (y : Store). y.place + length y.bytes ≤ length memory.ram) x xs inside in
    omega (arith, is, fits)

-- and the others, once it is made
pub others_inside : (memory : Memory) (x : Store) (xs : List Store) → LieInside memory (x ∷ xs)
    → LieInside (after_store memory (Some x.place) x.bytes) xs
others_inside memory x xs inside =
    subst (λ n. All (λ (y : Store). y.place + length y.bytes ≤ n) xs)
    (sym (length-after_store memory (Some x.place) x.bytes (first_inside memory x xs inside)))
    (All-tail (λ (y : Store). y.place + length y.bytes ≤ length memory.ram) x xs inside)

-- and so do they all
pub length-after_stores : (memory : Memory) (stores : List Store) → LieInside memory stores
    → length (after_stores memory stores).ram ≡ length memory.ram
length-after_stores memory [] inside = refl
length-after_stores memory (x ∷ xs) inside =
    length-after_stores (after_store memory (Some x.place) x.bytes) xs
    (others_inside memory x xs inside)
    ∙ length-after_store memory (Some x.place) x.bytes (first_inside memory x xs inside)

-- what an instruction stores lies in memory
pub number_inside : (memory : Memory) (s : Storing)
    → LiesInside memory (access_place memory s.at s.width) (bytes_of (width_bytes s.width) s.value)
number_inside memory s = λ p e.
    let n = width_bytes s.width in
    let fits = access_by _ (length memory.ram) s.at n p e in omega
    (arith, fits, length-bytes_of n s.value)

-- the store that an instruction makes leaves memory as long as it was
pub length-memory_after : (memory : Memory) (o : Option Storing)
    → length (memory_after memory o).ram ≡ length memory.ram
length-memory_after memory None = refl
length-memory_after memory (Some s) =
    length-after_store memory (access_place memory s.at s.width)
    (bytes_of (width_bytes s.width) s.value) (number_inside memory s)

-- what the kernel's stores make of the machine
module _ (m : Program) (t : ℕ) (moment : IsMoment m t) (memory : Memory) (at : ℕ)
    {a b : Output} where
  -- bytes were stored
  pub stores_takes : (bytes : List ℕ)
      → memory ≡ after_store m.guest (range_place m.guest at (length bytes)) bytes
      → Gives a b (store_lines t m.guest (range_place m.guest at (length bytes)) (length bytes))
      → (s : Iop) → Stands m s
      → Takes Stands (stores_bytes s at bytes) (record m { guest = memory }) a b
  stores_takes bytes e g =
      let place = range_place m.guest at (length bytes) in
      carried m (λ s. Takes Stands (stores_bytes s at bytes) (record m { guest = memory }) a b)
      (λ k h. record {
        state = record {
          kernel = h;
          rest = ap (λ x. record (iop_of m k) { memory = x }) (sym e);
        };
        gives = subst (λ u. Gives a b (store_lines u m.guest place (length bytes))) (moment k h) g;
      })

  -- zeros were
  pub fills_takes : (len : ℕ)
      → memory ≡ after_store m.guest (range_place m.guest at len) (replicate len 0)
      → Gives a b (store_lines t m.guest (range_place m.guest at len) len)
      → (s : Iop) → Stands m s → Takes Stands (fills s at len) (record m { guest = memory }) a b
  fills_takes len e g =
      let long = sym (length-replicate len 0) in
      stores_takes (replicate len 0)
      (e ∙ ap (λ n. after_store m.guest (range_place m.guest at n) (replicate len 0)) long)
      (subst (λ n. Gives a b (store_lines t m.guest (range_place m.guest at n) n)) long g)
