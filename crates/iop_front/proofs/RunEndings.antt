-- What the end of a run shows of the sinks and of the keep.
use Rattle.std.proofs.Common.{◌≡◌, ◌≢◌, ◌⊎◌, ℕ, ◌<◌, Bool, true, false, cond, Option, Some, None, List, refl, ap, sym, ◌∙◌, subst, arith, inl, inr}
use Rattle.iop_base.specs.Counts.{HasCause}
use Rattle.iop_base.specs.Piece.{Piece, Traced, Told}
use Rattle.iop_base.specs.Output.{Output, FailsAt}
use Rattle.iop_base.specs.declared.stop.Stop.{Stop}
use Rattle.iop_base.specs.declared.stop.Stop.TheVariants.{Quiet, Budget, Fault}
use Rattle.iop_machine.specs.Stepping.{Ran}
use Rattle.iop_machine.specs.World.{World}
use Rattle.iop_options.specs.Values.{DumpRange}
use Rattle.iop_ports.specs.Creating.{AsksOnce}
use Rattle.iop_ports.specs.Sinks.{SinkTold}
use Rattle.iop_ports.proofs.KeepLemmas.{asked_of, asks_none, asks_first, asks_then_sends}
use Rattle.iop_front.specs.Keeping.{KeptFile, KeepsFile, Keeps, Written, sent, not_created}
use Rattle.iop_front.specs.Outcome.{Comes, all_written, cut_short, not_kept, can_be_resumed, kept_of, outcome_of_run, snapshot_of}
use Rattle.iop_front.specs.Statuses.{status_code, status_of, IsRunCode, IsRanCode}
use Rattle.iop_front.specs.declared.status.Status.{Status}

-- the status of a run
run_code : (stop : Stop) → IsRunCode (status_code (status_of stop))
run_code Quiet = inl refl
run_code Budget = inr (inl refl)
run_code (Fault kind pc) = inr (inr refl)

-- it is another than any of 20 and more
run_low : {status : Status} (stop : Stop) → status ≡ status_of stop → status_code status < 20
run_low stop e =
    let run = run_code stop in
    subst (λ (s : Status). status_code s < 20) (sym e) (grind (arith, run))

-- a count of a sink's
failed_sink : (piece : Piece) (old new : Output) → FailsAt piece old new
    → HasCause old.trace_faults new.trace_faults ⊎ HasCause old.console_faults new.console_faults
failed_sink (Traced bytes) old new f = inl f.0
failed_sink (Told bytes) old new f = inr f.0

-- where a file is kept it was asked for
file_asked : {file : KeptFile} {whole : Bool} {old new : SinkTold} → KeepsFile file whole old new
    → AsksOnce file.name old new
file_asked {file = file} (sent {whole = whole} {old = old} {middle = middle} {new = new} h k) =
    asks_then_sends true whole file.name file.bytes old middle new h k
file_asked {file = file} (not_created {old = old} {new = new} h) =
    asks_first file.name old new (asked_of false file.name old new h)

-- and where it is not kept whole a call failed
file_failed : {file : KeptFile} {whole : Bool} {old new : SinkTold} → KeepsFile file whole old new
    → whole ≡ false → HasCause old.faults new.faults
file_failed (sent {whole = true} h k) e = absurd (cc)
file_failed (sent {whole = false} {new = new} h k) e =
    subst (λ n. HasCause n new.faults) h.faults k.fails.cause
file_failed (not_created h) e = h.cause

-- else none did
file_whole : {file : KeptFile} {whole : Bool} {old new : SinkTold} → KeepsFile file whole old new
    → whole ≡ true → new.faults ≡ old.faults
file_whole (sent {whole = true} h k) e = ap (λ (told : SinkTold). told.faults) k ∙ h.faults
file_whole (sent {whole = false} h k) e = absurd (cc)
file_whole (not_created h) e = absurd (cc)

-- the same of a file, if there is one
keep_failed : (file : Option KeptFile) (old new : SinkTold) → Keeps file false old new
    → HasCause old.faults new.faults
keep_failed None old new h = let never = h.0 in absurd (cc)
keep_failed (Some file) old new h = file_failed h refl

keep_whole : (file : Option KeptFile) (old new : SinkTold) → Keeps file true old new
    → new.faults ≡ old.faults
keep_whole None old new h = ap (λ (told : SinkTold). told.faults) h.1
keep_whole (Some file) old new h = file_whole h refl

module _ (w : World) (stop : Stop) (whole : Bool) (old new : SinkTold) where
  -- the file that is asked for is the one that is to be saved
  asks_by : (name : List ℕ) (resumed : Bool)
      → Keeps (cond resumed (Some (record { name = name; bytes = snapshot_of w })) None) whole old
      new
      → AsksOnce name old new
  asks_by name true h = file_asked h
  asks_by name false h = subst (AsksOnce name old) (sym h.1) (asks_none name old)

  keep_asks : (save : Option (List ℕ)) → Keeps (kept_of save w stop) whole old new
      → (name : List ℕ) → save ≡ Some name → AsksOnce name old new
  keep_asks None h name e = absurd (cc)
  keep_asks (Some own) h name e =
      let same : own ≡ name = cc in
      subst (λ n. AsksOnce n old new) same (asks_by own (can_be_resumed stop w) h)

  -- where none is to be saved none is asked for
  keep_unsaved : (save : Option (List ℕ)) → Keeps (kept_of save w stop) whole old new
      → save ≡ None → new ≡ old
  keep_unsaved None h e = h.1
  keep_unsaved (Some name) h e = absurd (cc)

-- nor where the run did not end with its budget
keep_ended : (w : World) (stop : Stop) (whole : Bool) (old new : SinkTold)
    (save : Option (List ℕ)) → Keeps (kept_of save w stop) whole old new
    → status_code (status_of stop) ≢ 10 → new ≡ old
keep_ended w stop whole old new None h other = h.1
keep_ended w Quiet whole old new (Some name) h other = h.1
keep_ended w Budget whole old new (Some name) h other = absurd (other refl)
keep_ended w (Fault kind pc) whole old new (Some name) h other = h.1

-- what a status shows of the keep, where this file is to be saved
pub record ShowsKeep (save : Option (List ℕ)) (code : ℕ) (old new : Written) : Type 0 where
  pub asks : (name : List ℕ) → save ≡ Some name → AsksOnce name old.keep new.keep
  pub unsaved : save ≡ None → new.keep ≡ old.keep
  pub behind : (new.output.trace_faults ≢ old.output.trace_faults)
      ⊎ (new.output.console_faults ≢ old.output.console_faults) → new.keep ≡ old.keep
  pub ended : code ≢ 10 → code ≢ 24 → new.keep ≡ old.keep
  pub cut : new.keep.faults ≢ old.keep.faults → code ≡ 24

-- where it was not called
pub keep_same : (save : Option (List ℕ)) (code : ℕ) (old new : Written) → new.keep ≡ old.keep
    → ShowsKeep save code old new
keep_same save code old new same = record {
  asks = λ name e. subst (AsksOnce name old.keep) (sym same) (asks_none name old.keep);
  unsaved = λ e. same;
  behind = λ failed. same;
  ended = λ other cut. same;
  cut = λ other. absurd (other (ap (λ (told : SinkTold). told.faults) same));
}

-- what the status of a run shows
pub record ShowsRun (save : Option (List ℕ)) (status : Status) (old new : Written) : Type 0 where
  pub ran : IsRanCode (status_code status)
  -- 24, and the counts of the sinks
  pub cut : status_code status ≡ 24
      → HasCause old.output.trace_faults new.output.trace_faults
      ⊎ (HasCause old.output.console_faults new.output.console_faults
      ⊎ HasCause old.keep.faults new.keep.faults)
  pub trace_shows : new.output.trace_faults ≢ old.output.trace_faults → status_code status ≡ 24
  pub console_shows : new.output.console_faults ≢ old.output.console_faults
      → status_code status ≡ 24
  pub keep : ShowsKeep save (status_code status) old new

pub run_shows : (dump : Option DumpRange) (save : Option (List ℕ)) (ran : Ran) {status : Status}
    {old new : Written} → Comes (outcome_of_run dump save ran) status old new
    → ShowsRun save status old new
run_shows dump save ran {status = status} {old = old} {new = new}
    (all_written e leaves keeps) =
    let low = run_low ran.stop e in
    let code : status_code status ≡ status_code (status_of ran.stop) = ap status_code e in
    record {
      ran = inl (subst (λ (s : Status). IsRunCode (status_code s)) (sym e) (run_code ran.stop));
      cut = λ s. absurd (omega (arith, s, low));
      trace_shows = λ other. absurd (other leaves.1.trace);
      console_shows = λ other. absurd (other leaves.1.console);
      keep = record {
        asks = keep_asks ran.world ran.stop true old.keep new.keep save keeps;
        unsaved = keep_unsaved ran.world ran.stop true old.keep new.keep save keeps;
        behind = λ failed. elim failed [
          | inl other ↦ absurd (other leaves.1.trace)
          | inr other ↦ absurd (other leaves.1.console)
        ];
        ended = λ other cut. keep_ended ran.world ran.stop true old.keep new.keep save keeps
            (λ is. other (code ∙ is));
        cut = λ other. absurd (other (keep_whole (kept_of save ran.world ran.stop) old.keep
            new.keep keeps));
      };
    }
run_shows dump save ran {status = status} {old = old} {new = new} (cut_short e short same) =
    let code : status_code status ≡ 24 = ap status_code e in
    record {
      ran = inr code;
      cut = λ s. elim (failed_sink short.piece old.output new.output short.fails) [
        | inl traced ↦ inl traced
        | inr printed ↦ inr (inl printed)
      ];
      trace_shows = λ other. code;
      console_shows = λ other. code;
      keep = keep_same save (status_code status) old new same;
    }
run_shows dump save ran {status = status} {old = old} {new = new}
    (not_kept e leaves keeps) =
    let code : status_code status ≡ 24 = ap status_code e in
    record {
      ran = inr code;
      cut = λ s. inr (inr (keep_failed (kept_of save ran.world ran.stop) old.keep new.keep
          keeps));
      trace_shows = λ other. code;
      console_shows = λ other. code;
      keep = record {
        asks = keep_asks ran.world ran.stop false old.keep new.keep save keeps;
        unsaved = keep_unsaved ran.world ran.stop false old.keep new.keep save keeps;
        behind = λ failed. elim failed [
          | inl other ↦ absurd (other leaves.1.trace)
          | inr other ↦ absurd (other leaves.1.console)
        ];
        ended = λ other cut. absurd (cut code);
        cut = λ other. code;
      };
    }
