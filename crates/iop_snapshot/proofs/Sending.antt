-- What writes that follow one another leave in a sink.
use Rattle.std.proofs.Common.{◌≡◌, ℕ, Bool, true, false, Result, Ok, Err, List, [], ◌++◌, refl, sym, ap, subst, ◌∙◌, append_assoc, arith}
use Rattle.std.specs.Prelude.{is_ok}
use Rattle.std.specs.Result.{IsErr}
use Rattle.std.proofs.lemmas.List.{length-append}
use Rattle.iop_base.specs.declared.write_fault.WriteFault.{WriteFault}
use Rattle.iop_base.proofs.Giving.{extended-nil}
use Rattle.iop_ports.specs.Sinks.{SinkTold, after_taking, IsSentShort, Sends}
use Rattle.iop_ports.proofs.SinkLemmas.{after_taking-append, fails_later}
use Rattle.iop_snapshot.specs.Writing.{Place, Writes, written}

after_taking-nil : (told : SinkTold) → after_taking [] told ≡ told
after_taking-nil told = ap (λ o. record told { taken = o }) (extended-nil told.taken)

pub writes_none : (p : Place) → Writes (Ok tt) [] p p
writes_none p = written (record { sends = sym (after_taking-nil p.told); name = refl })

sends_then : (whole : Bool) (xs ys : List ℕ) (old middle new : SinkTold)
    → middle ≡ after_taking xs old → Sends whole ys middle new → Sends whole (xs ++ ys) old new
sends_then true xs ys old middle new e h =
    h ∙ ap (after_taking ys) e ∙ after_taking-append xs ys old
sends_then false xs ys old middle new e h = record {
  part = xs ++ h.part;
  is_front = (
    h.is_front.0,
    h.is_front.1,
    append_assoc xs h.part h.is_front.0 ∙ ap (λ (l : List ℕ). xs ++ l) h.is_front.2,
  );
  fails = fails_later xs h.part e h.fails;
}

-- a write behind one that did not fail
pub writes_then : {r : Result Unit WriteFault} {u : Unit {0}} {xs ys : List ℕ} {p q s : Place}
    → Writes (Ok u) xs p q → Writes r ys q s → Writes r (xs ++ ys) p s
writes_then {r} {u} {xs} {ys} {p} {q} {s} (written h) (written k) = written (record {
  sends = sends_then (is_ok r) xs ys p.told q.told s.told h.sends k.sends;
  name = k.name ∙ h.name;
})

short_before : (xs ys : List ℕ) (old new : SinkTold) → IsSentShort xs old new
    → IsSentShort (xs ++ ys) old new
short_before xs ys old new h =
    let rest = h.is_front.0 in record {
      part = h.part;
      is_front = (
        rest ++ ys,
        omega (arith, h.is_front.1, length-append rest ys),
        sym (append_assoc h.part rest ys) ∙ ap (λ (l : List ℕ). l ++ ys) h.is_front.2,
      );
      fails = h.fails;
    }

-- a write that failed, before more bytes
pub writes_short : {f : WriteFault} {xs : List ℕ} {p q : Place} (ys : List ℕ)
    → Writes (Err f) xs p q → Writes (Err f) (xs ++ ys) p q
writes_short {f} {xs} {p} {q} ys (written h) =
    written (record { sends = short_before xs ys p.told q.told h.sends; name = h.name })

-- the same where a `?` returns
pub writes_exit : (r : Result Unit WriteFault) {f : WriteFault} {xs : List ℕ} {p q : Place}
    (ys : List ℕ) → IsErr r → Writes (Err f) xs p q → Writes r (xs ++ ys) p q
writes_exit (Err e) ys h w = writes_short ys w
writes_exit (Ok u) ys h w = absurd cc

-- what is still to be written completes the whole
pub record Continues (whole rest : List ℕ) (p q : Place) : Type 0 where
  pub by : (r : Result Unit WriteFault) (s : Place) → Writes r rest q s → Writes r whole p s

pub continues_first : (whole : List ℕ) (p : Place) → Continues whole whole p p
continues_first whole p = record { by = λ r s w. w }

pub continues_then : {whole xs rest : List ℕ} {p q s : Place} {u : Unit {0}}
    → Continues whole (xs ++ rest) p q → Writes (Ok u) xs q s → Continues whole rest p s
continues_then c w = record { by = λ r t more. c.by r t (writes_then w more) }

pub continues_exit : (r : Result Unit WriteFault) {whole xs : List ℕ} (rest : List ℕ)
    {p q s : Place} {f : WriteFault} → IsErr r → Continues whole (xs ++ rest) p q
    → Writes (Err f) xs q s → Writes r whole p s
continues_exit r {whole} {xs} rest {p} {q} {s} {f} h c w = c.by r s (writes_exit r rest h w)

pub continues_last : {whole rest : List ℕ} {p q : Place} → Continues whole rest p q
    → rest ≡ [] → Writes (Ok tt) whole p q
continues_last {whole} {rest} {p} {q} c none =
    c.by (Ok tt) q
    (subst (λ (l : List ℕ). Writes (Ok tt) l q q) (sym none) (writes_none q))
