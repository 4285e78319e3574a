-- What several writes leave in a sink.
use Rattle.std.proofs.Common.{◌≡◌, ℕ, ◌+◌, ◌-◌, ◌<◌, List, [], ◌++◌, ap, sym, ◌∙◌, append-nil, arith, take, drop, length, subst}
use Rattle.std.proofs.Math.Seq.{take-add, take-length}
use Rattle.std.proofs.lemmas.List.{take-append-drop, length-drop}
use Rattle.iop_base.specs.Piece.{IsFrontOf}
use Rattle.iop_base.proofs.Giving.{extended-extended}
use Rattle.iop_ports.specs.Sinks.{SinkTold, after_taking, FailsAfter}

-- bytes that were taken in two parts
pub after_taking-append : (xs ys : List ℕ) (told : SinkTold)
    → after_taking ys (after_taking xs told) ≡ after_taking (xs ++ ys) told
after_taking-append xs ys told =
    ap (λ o. record told { taken = o }) (extended-extended told.taken xs ys)

-- a failure after more bytes
pub fails_later : {old middle new : SinkTold} (xs ys : List ℕ)
    → middle ≡ after_taking xs old → FailsAfter ys middle new → FailsAfter (xs ++ ys) old new
fails_later {old} {middle} {new} xs ys e f =
    let h : FailsAfter ys (after_taking xs old) new =
    subst (λ (t : SinkTold). FailsAfter ys t new) e f in
    record {
      taken = h.taken ∙ extended-extended old.taken xs ys;
      cause = h.cause;
      never_falls = h.never_falls;
      keep = h.keep;
    }

-- the rest of a list, as a slice has it
pub rest_is : (at : ℕ) (xs : List ℕ) → take (length xs - at) (drop at xs) ≡ drop at xs
rest_is at xs = rw (← length-drop at xs) (take-length (drop at xs))

-- what lies before a place inside is a front
pub front_of : (at : ℕ) (xs : List ℕ) → at < length xs → IsFrontOf (take at xs) xs
front_of at xs inside =
    (drop at xs, omega (arith, length-drop at xs), take-append-drop at xs)

-- a piece that was taken in parts
pub taken_more : (old middle new : SinkTold) (at n : ℕ) (xs : List ℕ)
    → middle ≡ after_taking (take at xs) old → new ≡ after_taking (take n (drop at xs)) middle
    → new ≡ after_taking (take (at + n) xs) old
taken_more old middle new at n xs p q =
    q ∙ ap (after_taking (take n (drop at xs))) p
    ∙ after_taking-append (take at xs) (take n (drop at xs)) old
    ∙ ap (λ t. after_taking t old) (sym (take-add at n xs))

-- a write that failed behind the front of a piece
pub fails_at : {old middle new : SinkTold} (bytes : List ℕ)
    → middle ≡ after_taking bytes old → FailsAfter [] middle new → FailsAfter bytes old new
fails_at {old} {middle} {new} bytes e f =
    subst (λ (t : List ℕ). FailsAfter t old new) (append-nil bytes) (fails_later bytes [] e f)
