-- The lines of one stub more.
use Rattle.std.proofs.Common.{◌≡◌, ℕ, ◌+◌, ◌<◌, false, Option, Some, None, Err, List, [], ◌∷◌, ◌++◌, length, take, get_or, map, filter, ap, sym, ◌∙◌, subst}
use Rattle.std.specs.Option.{ok_or}
use Rattle.std.proofs.lemmas.List.{take_more, map-append}
use Rattle.std.proofs.lemmas.List.Elements.{filter-append}
use Rattle.iop_base.specs.Output.{Output, Gives}
use Rattle.iop_base.proofs.Giving.{gives_none, gives_then}
use Rattle.iop_stubs.specs.Stubs.{Memory, meets, stub_line, stub_lines, store_lines}
use Rattle.iop_stubs.specs.declared.live_stub.Stub.{Stub}

stub_lines-append : (t p len : ℕ) (xs ys : List Stub) →
    stub_lines t p len (xs ++ ys) ≡ stub_lines t p len xs ++ stub_lines t p len ys
stub_lines-append t p len xs ys =
    ap (map (stub_line t)) (filter-append (meets p len) xs ys)
    ∙ map-append (stub_line t) (filter (meets p len) xs) (filter (meets p len) ys)

pub stub_lines-more : {a b c : Output} (t p len : ℕ) (stubs : List Stub) (i : ℕ) (d : Stub) →
    i < length stubs → Gives a b (stub_lines t p len (take i stubs)) →
    Gives b c (stub_lines t p len (get_or stubs i d ∷ [])) →
    Gives a c (stub_lines t p len (take (i + 1) stubs))
stub_lines-more {a} {b} {c} t p len stubs i d below before now =
    subst (Gives a c) (sym
    (ap (stub_lines t p len) (take_more stubs i d below)
    ∙ stub_lines-append t p len (take i stubs) (get_or stubs i d ∷ []))) (gives_then before now)

-- a stub that is not met has no line
pub stub_lines-apart : (seen : Output) (t p len : ℕ) (stub : Stub) → meets p len stub ≡ false →
    Gives seen seen (stub_lines t p len (stub ∷ []))
stub_lines-apart seen t p len stub e = rw e (gives_none seen)

-- a store that is refused has no line
pub store_lines-refused : {E : Type 0} (seen : Output) (t : ℕ) (memory : Memory) (place : Option ℕ)
    (len : ℕ) (x y : E) → Err y ≡ ok_or place x → Gives seen seen (store_lines t memory place len)
store_lines-refused seen t memory None len x y e = gives_none seen
store_lines-refused seen t memory (Some p) len x y e = cc
