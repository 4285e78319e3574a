-- What holds after each service that stores words in memory and leaves the rest.
use Rattle.std.proofs.Common.{◌≡◌, ℕ, ◌+◌, ◌/◌, ◌%◌, ◌≤◌, Bool, true, false, if◌then◌else◌, Option, Some, None, List, [], ◌∷◌, ◌++◌, length, ◌∙◌, refl, sym, subst, ap, append_assoc, arith}
use Rattle.std.proofs.lemmas.Bool.{cond_both}
use Rattle.std.proofs.lemmas.List.{append-nil}
use Rattle.iop_base.specs.Numbers.{wrapped}
use Rattle.iop_base.specs.Piece.{Piece}
use Rattle.iop_base.specs.declared.code.Code.{Code}
use Rattle.iop_base.specs.declared.code.TheConstants.Code.{OK}
use Rattle.iop_base.proofs.Memory.{length-with_bytes}
use Rattle.iop_event.specs.declared.met.Met.{Met}
use Rattle.iop_objects.specs.Objects.{Object, Objects, object_of}
use Rattle.iop_objects.proofs.Others.{object_of_id}
use Rattle.iop_stubs.specs.Stubs.{Memory, after_store, store_lines}
use Rattle.iop_thread.specs.declared.kind.Kind.{Kind}
use Rattle.iop_time.specs.ClockTime.{micros_of}
use Rattle.iop_kernel.specs.Boards.{Board, board_of, bytes_of_words, writes_with, writes}
use Rattle.iop_kernel.specs.EventFlags.{met_place, meets_one, meets_all, meeting_lines, meeting_all}
use Rattle.iop_kernel.specs.Kinds.{Live, table}
use Rattle.iop_kernel.specs.ObjectServices.{refers_to, refers_at}
use Rattle.iop_kernel.specs.System.{Core, Left, System, Done}
use Rattle.iop_kernel.specs.SystemClock.{time_words, ticks_in, writes_time, writes_seconds, converts_at}
use Rattle.iop_kernel.specs.declared.after.After.{After}
use Rattle.iop_kernel.specs.declared.system_clock.TheConstants.{MICROS_OF_SECOND}
use Rattle.iop_kernel.proofs.Keeping.Meetings.{met_inside}
use Rattle.iop_kernel.proofs.Keeping.Memory.{WordsFit}
use Rattle.iop_kernel.proofs.Readings.WordBytes.{length-bytes_of_words}
use Rattle.iop_kernel.proofs.Walk.Moves.{EachMoves, CoreEnds, BoardEnds}
use Rattle.iop_kernel.proofs.Walk.Threads.{only}

-- an object that an id finds has that id
pub own_id : {A W : Type 0} (objects : Objects A W) (id : ℕ) (o : Object A W)
    → object_of objects.live id ≡ Some o → object_of objects.live o.id ≡ Some o
own_id objects id o found =
    ap (object_of objects.live) (object_of_id objects.live id o found) ∙ found

module _ {P : System → List Piece → Type 0} {Q : After → System → List Piece → Type 0}
    {Asks : Type 0} {s : System} (e : EachMoves P Q Asks s) where
  abbrev c : Core
  c = s.core

  abbrev b : Board
  b = board_of s

  abbrev CoreGoes : Left Core → Type 0
  CoreGoes = CoreEnds Q s

  abbrev BoardGoes : Done Board → Type 0
  BoardGoes = BoardEnds Q s

  -- bytes are stored at a place, if there is one
  pub stored : (d : System) (given : List Piece) (place : Option ℕ) (bytes : List ℕ)
      → ((p : ℕ) → place ≡ Some p → p + length bytes ≤ length d.memory.ram) → P d given
      → P (record d { memory = after_store d.memory place bytes })
      (given ++ store_lines d.core.kernel.clock d.memory place (length bytes))
  stored d given None bytes fits h = subst (P d) (sym (append-nil given)) h
  stored d given (Some p) bytes fits h = e.stores d given p bytes (fits p refl) h

  -- words are, and a code is answered
  pub written : (place : Option ℕ) (words : List ℕ) (d : Core) (code : Code)
      → WordsFit s.memory place (length words) → P (record s { core = d }) []
      → BoardGoes (writes_with s.memory place words d code)
  written place words d code fits h =
      e.goes_on _ _ _ (stored (record s { core = d }) [] place (bytes_of_words words)
      (λ p e. omega (arith, fits p e, length-bytes_of_words words)) h)

  -- of two ways, both are such
  pub either_board : (o : Bool) (x y : Done Board) → (o ≡ true → BoardGoes x)
      → (o ≡ false → BoardGoes y) → BoardGoes (if o then x else y)
  either_board o x y = cond_both o x y BoardGoes

  -- those that were met are woken, and their patterns stored
  pub met_stored : (met : List Met) (d : Board) (t : System) (given : List Piece)
      → t.memory ≡ d.memory → t.core.kernel.clock ≡ d.core.kernel.clock → P t given
      → P (record t { memory = (meets_all d met).memory }) (given ++ meeting_all d met)
  met_stored [] d t given same clock h =
      subst (λ (x : Memory). P (record t { memory = x }) (given ++ [])) same
      (subst (P t) (sym (append-nil given)) h)
  met_stored (one ∷ met) d t given same clock h =
      let bytes = bytes_of_words (one.pattern ∷ []) in
      let next = meets_one d one in
      let first : P (record t { memory = after_store d.memory (met_place d one) bytes })
      (given ++ store_lines d.core.kernel.clock d.memory (met_place d one) (length bytes)) =
      subst (λ (x : Memory). P (record t { memory = after_store x (met_place d one) bytes })
      (given ++ store_lines d.core.kernel.clock x (met_place d one) (length bytes))) same
      (subst (λ (n : ℕ). P (record t { memory = after_store t.memory (met_place d one) bytes })
      (given ++ store_lines n t.memory (met_place d one) (length bytes))) clock
      (stored t given (met_place d one) bytes (λ p e.
      let fits : p + 4 ≤ length d.memory.ram = met_inside d one p e in
      let whole : length t.memory.ram ≡ length d.memory.ram =
      ap (λ (x : Memory). length x.ram) same in
      omega (arith, fits, whole, length-bytes_of_words (one.pattern ∷ []))) h)) in
      subst (P (record t { memory = (meets_all next met).memory }))
      (append_assoc given (meeting_lines d one) (meeting_all next met))
      (met_stored met next (record t { memory = next.memory }) _ refl clock first)

  -- words are written where there is something to tell of
  told : (place : ℕ) (words : List ℕ) → WordsFit s.memory (Some place) (length words)
      → BoardGoes (writes s.memory (Some place) words c)
  told place words fits = written (Some place) words c OK fits e.begins

  -- the status of an object, by what is found
  module _ (kind : Kind) (words : Live kind → List ℕ) (count : ℕ)
      (many : (o : Live kind) → length (words o) ≡ count) where
    refers_to_goes : (place : ℕ) → WordsFit s.memory (Some place) count → (o : Option (Live kind))
        → BoardGoes (refers_to kind words b place o)
    refers_to_goes place fits None = only e _
    refers_to_goes place fits (Some o) =
        told place (words o) (subst (WordsFit s.memory (Some place)) (sym (many o)) fits)

    pub status_goes : (id : ℕ) (o : Option ℕ) → WordsFit s.memory o count
        → BoardGoes (refers_at kind words b id o)
    status_goes id None fits = e.bad_place
    status_goes id (Some place) fits =
        refers_to_goes place fits (object_of (table kind c.kernel).live id)

  -- a time is written
  pub writes_time_goes : (ticks : ℕ) (o : Option ℕ) → WordsFit s.memory o 2
      → BoardGoes (writes_time b ticks o)
  writes_time_goes ticks None fits = e.bad_place
  writes_time_goes ticks (Some place) fits = told place (time_words ticks) fits

  -- the seconds of a time and its other microseconds are
  writes_seconds_goes : (seconds rest micros : ℕ) → WordsFit s.memory (Some seconds) 1
      → WordsFit s.memory (Some rest) 1 → BoardGoes (writes_seconds b seconds rest micros)
  writes_seconds_goes seconds rest micros first_fits last_fits =
      let words = wrapped (micros / MICROS_OF_SECOND) ∷ [] in
      let whole = bytes_of_words words in
      let fits : seconds + length whole ≤ length s.memory.ram =
      omega (arith, first_fits seconds refl, length-bytes_of_words words) in
      let between = after_store s.memory (Some seconds) whole in
      let first : P (record s { memory = between })
      (store_lines c.kernel.clock s.memory (Some seconds) (length whole)) =
      stored s [] (Some seconds) whole
      (λ p e. let same : seconds ≡ p = cc e in omega (arith, fits, same)) e.begins in
      e.goes_on _ _ _ (stored (record s { memory = between }) _ (Some rest)
      (bytes_of_words ((micros % MICROS_OF_SECOND) ∷ [])) (λ p e.
      omega (
        arith,
        last_fits p e,
        length-bytes_of_words ((micros % MICROS_OF_SECOND) ∷ []),
        length-with_bytes s.memory.ram seconds whole fits,
      )) first)

  -- by their places
  pub converts_go : (time seconds rest : Option ℕ) → WordsFit s.memory seconds 1
      → WordsFit s.memory rest 1 → BoardGoes (converts_at b time seconds rest)
  converts_go (Some time) (Some seconds) (Some rest) first last =
      writes_seconds_goes seconds rest (micros_of (ticks_in s.memory time)) first last
  converts_go time seconds rest first last = e.bad_place
