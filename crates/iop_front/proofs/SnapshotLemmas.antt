-- Reading the file of a snapshot, piece by piece, and what a machine that is put back has.
use Rattle.std.proofs.Common.{◌≡◌, ℕ, ◌+◌, ◌<◌, ◌≤◌, Bool, true, false, cond, Option, Some, None, IfSome, option_map, option_and_then, All, List, [], ◌∷◌, ◌++◌, length, take, drop, append-nil, refl, ap, sym, ◌∙◌, subst, arith}
use Rattle.std.proofs.lemmas.Bool.{and_parts, ltb-true}
use Rattle.std.proofs.lemmas.List.{append_assoc, take-append-drop, take_at, drop_at, take_all}
use Rattle.iop_base.specs.Counts.{HasCause}
use Rattle.iop_base.specs.Numbers.{IsByte}
use Rattle.iop_machine.specs.Loader.{loader_may_go_on}
use Rattle.iop_machine.specs.ScriptWords.{words_may_stand}
use Rattle.iop_machine.specs.Restoring.{if_it_may, is_savable_at, machine_in, may_go_on}
use Rattle.iop_machine.specs.declared.snapshots.TheConstants.{SAVABLE_MOMENTS}
use Rattle.iop_ports.specs.Files.{FilesTold, after_opening, after_reading, Reads}
use Rattle.iop_saved_machine.specs.Back.{MachineState, machine_back, machine_form}
use Rattle.iop_snapshot.specs.Forms.{read_whole}
use Rattle.iop_front.specs.Answers.{FilesRead, IsSnapshotOf}
use Rattle.iop_front.specs.Inputs.{Seen, HasStoppedShort, HasStoppedUnread}
use Rattle.iop_front.specs.Named.{AsSnapshot, longest}
use Rattle.iop_front.specs.Outcome.{none, more}
use Rattle.iop_front.specs.Reading.{file_named, opened_with}
use Rattle.iop_front.specs.Snapshots.{HasTakenFile}
use Rattle.iop_front.proofs.OpeningLemmas.{read_none}

-- how many bytes of a snapshot's file are read at most
abbrev pub most_read : ℕ
most_read = longest AsSnapshot + 1

-- these bytes of the file were read so far, and the others are left
abbrev pub HasFront : (name : List ℕ) (faults : ℕ) (bytes : List ℕ) → Option FilesTold
    → Option FilesTold → Type 0
HasFront name faults bytes None new = new ≡ None
HasFront name faults bytes (Some files) new = (left : List ℕ)
    × (file_named files name ≡ bytes ++ left)
    × (new ≡ Some (opened_with name true faults left files))

-- a list is its own front, where the last read found no room, or nothing that was left
whole_by : (most : ℕ) (bytes left room : List ℕ) → length bytes ≤ most
    → (length room ≡ 0 → length bytes ≡ most) → (0 < length room → left ≡ [])
    → bytes ≡ take most (bytes ++ left)
whole_by most bytes left [] fits full ended = sym (take_at bytes left most (full refl))
whole_by most bytes left (first ∷ room) fits full ended =
    let none_left = append-nil bytes in
    sym (ap (λ t. take most (bytes ++ t)) (ended (omega arith))
    ∙ take_all most (bytes ++ []) (omega (arith, ap length none_left, fits)) ∙ none_left)

-- the file of a name, of which so much was read
module _ (name : List ℕ) (faults : ℕ) where
  -- nothing of it, once it is open
  pub front_none : (old new : Option FilesTold)
      → new ≡ option_map (after_opening name true faults) old
      → HasFront name faults [] old new
  front_none None new h = h
  front_none (Some files) new h = (file_named files name, refl, h)

  -- more of it
  pub front_more : (n : ℕ) (bytes buf : List ℕ) (old between new : Option FilesTold)
      → new ≡ option_map (after_reading n) between
      → IfSome between (λ files. Reads n buf files.left)
      → HasFront name faults bytes old between
      → HasFront name faults (bytes ++ take n buf) old new
  front_more n bytes buf None between new told reads h =
      told ∙ ap (option_map (after_reading n)) h
  front_more n bytes buf (Some files) between new told reads h =
      let left = h.0 in
      let read = subst (λ (o : Option FilesTold). IfSome o (λ f. Reads n buf f.left)) h.2 reads in
      let front : bytes ++ left ≡ (bytes ++ take n buf) ++ drop n left =
      ap (λ t. bytes ++ t) (sym (take-append-drop n left))
      ∙ sym (append_assoc bytes (take n left) (drop n left))
      ∙ ap (λ t. (bytes ++ t) ++ drop n left) (sym read.bytes) in
      (drop n left, h.1 ∙ front, told ∙ ap (option_map (after_reading n)) h.2)

  -- a call that failed read nothing more
  pub front_kept : (bytes : List ℕ) (old between new : Option FilesTold)
      → new ≡ option_map (after_reading 0) between
      → HasFront name faults bytes old between → HasFront name faults bytes old new
  front_kept bytes None between new told h = told ∙ ap (option_map (after_reading 0)) h
  front_kept bytes (Some files) between new told h =
      (h.0, h.1, told ∙ ap (option_map (after_reading 0)) h.2)

  -- one file was opened and read
  pub front_read : (bytes : List ℕ) (old new : Option FilesTold) → length bytes ≤ most_read
      → HasFront name faults bytes old new → FilesRead AsSnapshot (name ∷ []) faults old new
  front_read bytes None new fits h = h
  front_read bytes (Some files) new fits h =
      let is_left = ap (drop (length bytes)) h.1 ∙ drop_at bytes h.0 (length bytes) refl in
      subst (FilesRead AsSnapshot (name ∷ []) faults (Some files)) (sym h.2)
      (more (record {
        opens = true;
        taken = length bytes;
        within = fits;
        files = ap (λ left. opened_with name true faults left files) (sym is_left);
      }) tt none)

  -- or its opening failed
  pub none_opened : (old new : Option FilesTold)
      → new ≡ option_map (after_opening name false faults) old
      → FilesRead AsSnapshot (name ∷ []) faults old new
  none_opened None new h = h
  none_opened (Some files) new h =
      subst (FilesRead AsSnapshot (name ∷ []) faults (Some files)) (sym h)
      (more (record { opens = false; taken = 0; within = omega arith; files = refl }) tt none)

  -- a read gave nothing: all of it was read, or as much as may be
  front_whole : (bytes buf : List ℕ) (old between : Option FilesTold)
      → length bytes ≤ most_read → (length buf ≡ 0 → length bytes ≡ most_read)
      → IfSome between (λ files. Reads 0 buf files.left)
      → HasFront name faults bytes old between
      → IfSome old (IsSnapshotOf (record { name = name; file = bytes }))
  front_whole bytes buf None between fits full reads h = tt
  front_whole bytes buf (Some files) between fits full reads h =
      let read = subst (λ (o : Option FilesTold). IfSome o (λ f. Reads 0 buf f.left)) h.2 reads in
      whole_by most_read bytes h.0 buf fits full (λ some. read.at_end some refl)
      ∙ ap (take most_read) (sym h.1)

-- what was read of the file of a name
module _ (name : List ℕ) (old new : Seen) where
  -- it could not be opened
  pub unopened : new.told ≡ option_map (after_opening name false old.faults) old.told
      → HasCause old.faults new.faults → HasStoppedUnread AsSnapshot (name ∷ []) name old new
  unopened told cause = record {
    before = [];
    left = [];
    are_names = refl;
    read = none_opened name old.faults old.told new.told told;
    cause = cause;
  }

  module _ (bytes : List ℕ) (fits : length bytes ≤ most_read)
      (front : HasFront name old.faults bytes old.told new.told) where
    -- it could not be read on
    pub unread_behind : HasCause old.faults new.faults
        → HasStoppedUnread AsSnapshot (name ∷ []) name old new
    unread_behind cause = record {
      before = [];
      left = [];
      are_names = refl;
      read = front_read name old.faults bytes old.told new.told fits front;
      cause = cause;
    }

    -- there was no memory for more
    pub short_behind : new.faults ≡ old.faults → HasStoppedShort AsSnapshot (name ∷ []) old new
    short_behind same = record {
      opened = name ∷ [];
      left = [];
      are_names = refl;
      read = front_read name old.faults bytes old.told new.told fits front;
      no_fault = same;
    }

-- it was read whole, since a read gave nothing more
pub taken_whole : (name bytes buf : List ℕ) (n : ℕ) (old between new : Seen) → n ≡ 0
    → length bytes ≤ most_read → (length buf ≡ 0 → length bytes ≡ most_read)
    → new.told ≡ option_map (after_reading n) between.told
    → IfSome between.told (λ files. Reads n buf files.left)
    → HasFront name old.faults bytes old.told between.told → All IsByte bytes
    → new.faults ≡ old.faults → HasTakenFile name bytes old new
taken_whole name bytes buf n old between new none_read fits full told reads front are same = record {
  bytes_are = are;
  is_file = front_whole name old.faults bytes buf old.told between.told fits full
      (subst (λ n. IfSome between.told (λ files. Reads n buf files.left)) none_read reads) front;
  read = front_read name old.faults bytes old.told new.told fits
      (front_kept name old.faults bytes old.told between.told new.told
      (subst (λ n. new.told ≡ option_map (after_reading n) between.told) none_read told) front);
  no_fault = same;
}

-- there was no memory before it was opened
pub short_before : (name : List ℕ) (seen : Seen)
    → HasStoppedShort AsSnapshot (name ∷ []) seen seen
short_before name seen = record {
  opened = [];
  left = name ∷ [];
  are_names = refl;
  read = read_none AsSnapshot seen.faults seen.told;
  no_fault = refl;
}

-- a machine that may go on stands at a moment at which machines are saved
in_time_if : (m state : MachineState) (may : Bool) → may_go_on m ≡ may
    → cond may (Some m) None ≡ Some state → state.system.core.kernel.clock < SAVABLE_MOMENTS
in_time_if m state true may e =
    let same : m ≡ state = cc in
    subst (λ (s : MachineState). s.system.core.kernel.clock < SAVABLE_MOMENTS) same
    (ltb-true m.system.core.kernel.clock SAVABLE_MOMENTS
    (and_parts _ (is_savable_at m.system.core.kernel.clock)
    (and_parts _ (words_may_stand m.loading) (and_parts _ (loader_may_go_on m) may).0).0).1)
in_time_if m state false may e = absurd (cc)

in_time_of : (o : Option MachineState) (state : MachineState)
    → option_and_then if_it_may o ≡ Some state
    → state.system.core.kernel.clock < SAVABLE_MOMENTS
in_time_of None state e = absurd (cc)
in_time_of (Some m) state e = in_time_if m state (may_go_on m) refl e

-- so does each that is put back
pub restored_in_time : (bytes : List ℕ) (m : MachineState) → machine_in bytes ≡ Some m
    → m.system.core.kernel.clock < SAVABLE_MOMENTS
unfolding machine_in
restored_in_time bytes m e =
    in_time_of (option_and_then machine_back (read_whole machine_form bytes)) m e
