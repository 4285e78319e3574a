-- What follows from `Gives`: its composition, and what there is where nothing failed or something
-- did.
use Rattle.std.proofs.Common.{◌≡◌, ℕ, Bool, true, false, Option, Some, None, List, [], ◌∷◌, ◌++◌, refl, ap, sym, ◌∙◌, append_assoc, append-nil, arith, subst}
use Rattle.iop_base.specs.Piece.{Piece, Traced, Told, trace_of, console_of}
use Rattle.iop_base.specs.Output.{Output, Adds, Gives, given, GivesBy, HasNoFault, FailsAt, StopsShort, extended}

pub console_of-append : (xs ys : List Piece)
    → console_of (xs ++ ys) ≡ console_of xs ++ console_of ys
console_of-append [] ys = refl
console_of-append (Traced b ∷ xs) ys = console_of-append xs ys
console_of-append (Told b ∷ xs) ys =
    ap (λ t. b ++ t) (console_of-append xs ys)
    ∙ sym (append_assoc b (console_of xs) (console_of ys))

pub trace_of-append : (xs ys : List Piece) → trace_of (xs ++ ys) ≡ trace_of xs ++ trace_of ys
trace_of-append [] ys = refl
trace_of-append (Told b ∷ xs) ys = trace_of-append xs ys
trace_of-append (Traced b ∷ xs) ys =
    ap (λ t. b ++ t) (trace_of-append xs ys) ∙ sym (append_assoc b (trace_of xs) (trace_of ys))

pub extended-nil : (o : Option (List ℕ)) → extended o [] ≡ o
extended-nil None = refl
extended-nil (Some b) = ap Some (append-nil b)

pub extended-extended : (o : Option (List ℕ)) (xs ys : List ℕ)
    → extended (extended o xs) ys ≡ extended o (xs ++ ys)
extended-extended None xs ys = refl
extended-extended (Some b) xs ys = ap Some (append_assoc b xs ys)

pub adds_none : (a : Output) → Adds a a []
adds_none a = record { console = sym (extended-nil a.console); trace = sym (extended-nil a.trace) }

pub adds_then : {a b c : Output} {xs ys : List Piece} → Adds a b xs → Adds b c ys
    → Adds a c (xs ++ ys)
adds_then {a} {b} {c} {xs} {ys} p q = record {
  console = q.console ∙ ap (λ o. extended o (console_of ys)) p.console
      ∙ extended-extended a.console (console_of xs) (console_of ys)
      ∙ ap (extended a.console) (sym (console_of-append xs ys));
  trace = q.trace ∙ ap (λ o. extended o (trace_of ys)) p.trace
      ∙ extended-extended a.trace (trace_of xs) (trace_of ys)
      ∙ ap (extended a.trace) (sym (trace_of-append xs ys));
}

-- a fault before more pieces
pub stops_before : {a b : Output} {xs : List Piece} (ys : List Piece) → StopsShort a b xs
    → StopsShort a b (xs ++ ys)
stops_before ys s = record {
  before = s.before;
  part = s.part;
  piece = s.piece;
  after = s.after ++ ys;
  pieces_are = ap (λ t. t ++ ys) s.pieces_are ∙ append_assoc s.before (s.piece ∷ s.after) ys;
  is_part = s.is_part;
  adds = s.adds;
  fails = s.fails;
}

fails_after : {a b : Output} (c : Output) (p : Piece) → HasNoFault a b → FailsAt p b c
    → FailsAt p a c
fails_after c (Traced bytes) h f = (omega (arith, f.0, h.trace), f.1 ∙ h.console)
fails_after c (Told bytes) h f = (omega (arith, f.0, h.console), f.1 ∙ h.trace)

-- a fault after whole pieces
pub stops_after : {a b c : Output} {xs ys : List Piece} → Adds a b xs → HasNoFault a b
    → StopsShort b c ys → StopsShort a c (xs ++ ys)
stops_after {a} {b} {c} {xs} {ys} h none s = record {
  before = xs ++ s.before;
  part = s.part;
  piece = s.piece;
  after = s.after;
  pieces_are = ap (λ t. xs ++ t) s.pieces_are ∙ sym (append_assoc xs s.before (s.piece ∷ s.after));
  is_part = s.is_part;
  adds = subst (Adds a c) (sym (append_assoc xs s.before (s.part ∷ []))) (adds_then h s.adds);
  fails = fails_after c s.piece none s.fails;
}

none_by : (x : Bool) (a : Output) → GivesBy x x a a []
none_by true a = refl
none_by false a = (adds_none a, record { console = refl; trace = refl })

pub gives_none : (a : Output) → Gives a a []
gives_none a = given (record { by = none_by a.failed a; names = refl })

then_by : (x y z : Bool) (a b c : Output) (xs ys : List Piece) → GivesBy x y a b xs
    → GivesBy y z b c ys → GivesBy x z a c (xs ++ ys)
then_by true true true a b c xs ys p q = q ∙ p
then_by true true false a b c xs ys p q = q
then_by true false true a b c xs ys p q = absurd p
then_by true false false a b c xs ys p q = p
then_by false false false a b c xs ys p q = (
  adds_then p.0 q.0,
  record { console = q.1.console ∙ p.1.console; trace = q.1.trace ∙ p.1.trace },
)
then_by false false true a b c xs ys p q = stops_after p.0 p.1 q
then_by false true true a b c xs ys p q =
    subst (λ (s : Output). StopsShort a s (xs ++ ys)) (sym q) (stops_before ys p)
then_by false true false a b c xs ys p q = absurd q

pub gives_then : {a b c : Output} {xs ys : List Piece} → Gives a b xs → Gives b c ys
    → Gives a c (xs ++ ys)
gives_then {a} {b} {c} {xs} {ys} (given p) (given q) =
    given (record {
      by = then_by a.failed b.failed c.failed a b c xs ys p.by q.by;
      names = q.names ∙ p.names;
    })

whole_by : (x y : Bool) (a b : Output) (ps : List Piece) → x ≡ false → y ≡ false
    → GivesBy x y a b ps → Adds a b ps × HasNoFault a b
whole_by true y a b ps e f h = cc
whole_by false true a b ps e f h = cc
whole_by false false a b ps e f h = h

-- where nothing failed all of it is there
pub gives_whole : {a b : Output} {ps : List Piece} → Gives a b ps → a.failed ≡ false
    → b.failed ≡ false → Adds a b ps × HasNoFault a b
gives_whole {a} {b} {ps} (given h) e f = whole_by a.failed b.failed a b ps e f h.by

short_by : (x y : Bool) (a b : Output) (ps : List Piece) → x ≡ false → y ≡ true → GivesBy x y a b ps
    → StopsShort a b ps
short_by true y a b ps e f h = cc
short_by false false a b ps e f h = cc
short_by false true a b ps e f h = h

-- where it failed it stops short
pub gives_short : {a b : Output} {ps : List Piece} → Gives a b ps → a.failed ≡ false
    → b.failed ≡ true → StopsShort a b ps
gives_short {a} {b} {ps} (given h) e f = short_by a.failed b.failed a b ps e f h.by

not_nil : (xs ys : List Piece) (p : Piece) → [] ≡ xs ++ p ∷ ys → ⊥
not_nil [] ys p e = cc
not_nil (x ∷ xs) ys p e = cc

-- nothing to tell is no reason to fail
pub nothing_fails : {a b : Output} → Gives a b [] → a.failed ≡ false → b.failed ≡ true → ⊥
nothing_fails h e f = let s = gives_short h e f in not_nil s.before s.after s.piece s.pieces_are

-- the borrows stay
pub gives_names : {a b : Output} {ps : List Piece} → Gives a b ps → b.names ≡ a.names
gives_names (given h) = h.names

whole_into : (x y : Bool) (a b : Output) (ps : List Piece) → x ≡ false → y ≡ false
    → Adds a b ps × HasNoFault a b → GivesBy x y a b ps
whole_into true y a b ps e f h = cc
whole_into false true a b ps e f h = cc
whole_into false false a b ps e f h = h

-- to show that all of it is there
pub whole_gives : (a b : Output) (ps : List Piece) → a.failed ≡ false → b.failed ≡ false
    → Adds a b ps → HasNoFault a b → b.names ≡ a.names → Gives a b ps
whole_gives a b ps e f h none n =
    given (record { by = whole_into a.failed b.failed a b ps e f (h, none); names = n })

short_into : (x y : Bool) (a b : Output) (ps : List Piece) → x ≡ false → y ≡ true
    → StopsShort a b ps → GivesBy x y a b ps
short_into true y a b ps e f h = cc
short_into false false a b ps e f h = cc
short_into false true a b ps e f h = h

-- to show that it stopped short
pub short_gives : (a b : Output) (ps : List Piece) → a.failed ≡ false → b.failed ≡ true
    → StopsShort a b ps → b.names ≡ a.names → Gives a b ps
short_gives a b ps e f s n =
    given (record { by = short_into a.failed b.failed a b ps e f s; names = n })

failed_into : (x : Bool) (a : Output) (ps : List Piece) → x ≡ true → GivesBy x x a a ps
failed_into true a ps e = refl
failed_into false a ps e = cc

-- what has failed gives nothing more
pub failed_gives : (a : Output) (ps : List Piece) → a.failed ≡ true → Gives a a ps
failed_gives a ps e = given (record { by = failed_into a.failed a ps e; names = refl })
