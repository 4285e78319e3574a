-- From the reading of one file to that of many.
use Rattle.std.proofs.Common.{◌≡◌, ℕ, suc, ◌+◌, ◌<◌, ◌≤◌, nat_lt, true, cond, Option, Some, None, Ok, Err, List, [], ◌∷◌, ◌++◌, All, get_or, length, map, take, drop, refl, ap, sym, ◌∙◌, subst, arith}
use Rattle.std.specs.Option.{option_or}
use Rattle.std.proofs.lemmas.Bool.{lt-ltb}
use Rattle.std.proofs.lemmas.Bool.Decides.{nat_tests}
use Rattle.std.proofs.lemmas.List.{append_assoc, map-append, take-append-drop, take_more}
use Rattle.std.proofs.lemmas.List.Folds.{find-append}
use Rattle.std.proofs.Math.Seq.{drop-cons}
use Rattle.iop_base.specs.Counts.{HasCause}
use Rattle.iop_base.proofs.Lists.{find-none}
use Rattle.iop_machine.specs.Modules.{NamedFile}
use Rattle.iop_modload.specs.declared.limits.TheConstants.{LONGEST_FILE}
use Rattle.iop_ports.specs.Files.{FilesTold}
use Rattle.iop_ports.specs.declared.ports.Failed.{Failed}
use Rattle.iop_script.specs.Reading.{BadLine, script_of}
use Rattle.iop_front.specs.Answers.{FilesRead, AreFilesOf}
use Rattle.iop_front.specs.Inputs.{Seen, GoesOn, HasTaken, HasStopped, HasStoppedUnread, HasStoppedTooLong, HasStoppedBad, IsShort}
use Rattle.iop_front.specs.Outcome.{IsGoodFile, OpensAndReads, none, more, read_limit, first_too_long}
use Rattle.iop_front.specs.Reading.{HasRead, file_named, opened_with, left_after}
use Rattle.iop_front.specs.Named.{FileKind, AsScript, AsModule}
use Rattle.iop_front.specs.declared.unread.Unread.{Unread}
use Rattle.iop_front.specs.declared.unread.Unread.TheVariants.{Unreadable, TooLong, BadScript, NoMemory}
use Rattle.iop_front.proofs.OpeningLemmas.{IsNotLong, AreFollowed, read_none, read-append, are_files-append, room_for}

-- the files of short modules are not too long
pub files_short : (files : List NamedFile) → All IsShort files → All IsNotLong files
files_short files h = λ k d within. (h k d within).file

-- no file is too long
pub none_too_long : (files : List NamedFile) → All IsNotLong files → first_too_long files ≡ None
none_too_long files h =
    find-none (λ (named : NamedFile). nat_lt LONGEST_FILE (length named.file)) files
    (λ k d within. let short = h k d within in grind (arith, nat_tests, short))

-- a good file may be the first of any
first_goes_on : (kind : FileKind) (first : NamedFile) (files : List NamedFile)
    → IsGoodFile kind first.file → GoesOn kind (first ∷ files)
first_goes_on kind first [] h = tt
first_goes_on kind first (next ∷ files) h = h

-- and so may these be before the modules'
goes_on-append : (kind : FileKind) (files others : List NamedFile) → AreFollowed kind files
    → GoesOn AsModule others → GoesOn kind (files ++ others)
goes_on-append kind [] others e h = subst (λ kind. GoesOn kind others) (sym e) h
goes_on-append kind (first ∷ files) others good h =
    first_goes_on kind first (files ++ others) good

-- modules were read behind these files
pub takes-append : (kind : FileKind) (xs ys : List (List ℕ)) (files others : List NamedFile)
    (old between new : Seen) → All IsNotLong files → AreFollowed kind files
    → HasTaken kind xs files old between → HasTaken AsModule ys others between new
    → HasTaken kind (xs ++ ys) (files ++ others) old new
takes-append kind xs ys files others old between new short follow h k = record {
  are_files =
      are_files-append kind xs ys files old.faults others old.told between.told h.are_files
      h.read k.are_files;
  goes_on = goes_on-append kind files others follow k.goes_on;
  read = read-append kind xs ys files old.faults old.told between.told new.told h.are_files
      short follow h.read
      (subst (λ n. FilesRead AsModule ys n between.told new.told) h.no_fault k.read);
  no_fault = k.no_fault ∙ h.no_fault;
}

no_files : (told : Option FilesTold) → AreFilesOf [] [] told
no_files None = refl
no_files (Some files) = refl

pub takes_none : (kind : FileKind) (seen : Seen) → HasTaken kind [] [] seen seen
takes_none kind seen = record {
  are_files = no_files seen.told;
  goes_on = tt;
  read = read_none kind seen.faults seen.told;
  no_fault = refl;
}

-- there is no memory for the modules behind those that were read
pub stops_short : (kind : FileKind) (names xs left : List (List ℕ)) (files : List NamedFile)
    (old new : Seen) → names ≡ xs ++ left → HasTaken kind xs files old new
    → HasStopped kind names NoMemory old new
stops_short kind names xs left files old new e h = record {
  opened = xs;
  left = left;
  are_names = e;
  read = h.read;
  no_fault = h.no_fault;
}

-- behind modules that were read, and before others
within : (xs opened left zs : List (List ℕ))
    → xs ++ (opened ++ left ++ zs) ≡ xs ++ opened ++ (left ++ zs)
within xs opened left zs =
    ap (λ t. xs ++ t) (append_assoc opened left zs) ∙ sym (append_assoc xs opened (left ++ zs))

module _ (kind : FileKind) (names xs ys zs : List (List ℕ)) (files : List NamedFile)
    (old between new : Seen) (e : names ≡ xs ++ (ys ++ zs))
    (taken : HasTaken kind xs files old between) (short : All IsNotLong files)
    (follow : AreFollowed kind files) where
  are_names : (opened left : List (List ℕ)) → ys ≡ opened ++ left
      → names ≡ xs ++ opened ++ (left ++ zs)
  are_names opened left s = e ∙ ap (λ t. xs ++ (t ++ zs)) s ∙ within xs opened left zs

  read_then : (opened : List (List ℕ))
      → FilesRead AsModule opened between.faults between.told new.told
      → FilesRead kind (xs ++ opened) old.faults old.told new.told
  read_then opened h =
      read-append kind xs opened files old.faults old.told between.told new.told
      taken.are_files short follow taken.read
      (subst (λ n. FilesRead AsModule opened n between.told new.told) taken.no_fault h)

  pub stops_behind : (unread : Unread) → HasStopped AsModule ys unread between new
      → HasStopped kind names unread old new
  stops_behind (Unreadable word) h = record {
    before = xs ++ h.before;
    left = h.left ++ zs;
    are_names = are_names h.before (word.now ∷ h.left) h.are_names;
    read = subst (λ opened. FilesRead kind opened old.faults old.told new.told)
        (sym (append_assoc xs h.before (word.now ∷ [])))
        (read_then (h.before ++ word.now ∷ []) h.read);
    cause = subst (λ n. HasCause n new.faults) taken.no_fault h.cause;
  }
  stops_behind (TooLong word) h = record {
    opened = xs ++ h.opened;
    left = h.left ++ zs;
    are_names = are_names h.opened h.left h.are_names;
    files = files ++ h.files;
    file = h.file;
    taken = takes-append kind xs h.opened files h.files old between new short follow taken
        h.taken;
    decides =
        find-append (λ (named : NamedFile). nat_lt LONGEST_FILE (length named.file)) files h.files
        ∙ ap (λ o. option_or o (first_too_long h.files)) (none_too_long files short) ∙ h.decides;
  }
  stops_behind (BadScript number) h = let never = h.as_script in absurd (cc)
  stops_behind NoMemory h = record {
    opened = xs ++ h.opened;
    left = h.left ++ zs;
    are_names = are_names h.opened h.left h.are_names;
    read = read_then h.opened h.read;
    no_fault = h.no_fault ∙ taken.no_fault;
  }

-- what is not read before others is not read where they are named too
module _ (kind : FileKind) (names more : List (List ℕ)) (old new : Seen) where
  are_more : (opened left : List (List ℕ)) → names ≡ opened ++ left
      → names ++ more ≡ opened ++ (left ++ more)
  are_more opened left e = ap (λ t. t ++ more) e ∙ append_assoc opened left more

  pub stops_before : (unread : Unread) → HasStopped kind names unread old new
      → HasStopped kind (names ++ more) unread old new
  stops_before (Unreadable word) h = record {
    before = h.before;
    left = h.left ++ more;
    are_names = are_more h.before (word.now ∷ h.left) h.are_names;
    read = h.read;
    cause = h.cause;
  }
  stops_before (TooLong word) h = record {
    opened = h.opened;
    left = h.left ++ more;
    are_names = are_more h.opened h.left h.are_names;
    files = h.files;
    file = h.file;
    taken = h.taken;
    decides = h.decides;
  }
  stops_before (BadScript number) h = record {
    as_script = h.as_script;
    file = h.file;
    left = h.left ++ more;
    are_names = ap (λ t. t ++ more) h.are_names;
    taken = h.taken;
    short = h.short;
    found = h.found;
    is_number = h.is_number;
    bad = h.bad;
  }
  stops_before NoMemory h = record {
    opened = h.opened;
    left = h.left ++ more;
    are_names = are_more h.opened h.left h.are_names;
    read = h.read;
    no_fault = h.no_fault;
  }

-- one file was opened, and read as far as there was room
module _ (kind : FileKind) (name : List ℕ) (room faults : ℕ) (limit : room ≡ read_limit) where
  opened_alone : (files after : FilesTold) (new : Option FilesTold)
      → OpensAndReads kind name faults files after → new ≡ Some after
      → FilesRead kind (name ∷ []) faults (Some files) new
  opened_alone files after new h e =
      subst (FilesRead kind (name ∷ []) faults (Some files)) (sym e) (more h tt none)

  is_file : (len : ℕ) (bytes : List ℕ) (old new : Option FilesTold)
      → HasRead name room faults (Ok len) bytes old new
      → AreFilesOf (name ∷ []) (record { name = name; file = take len bytes } ∷ []) old
  is_file len bytes None new h = refl
  is_file len bytes (Some files) new h =
      ap (λ file. record { name = name; file = file } ∷ [])
      (h.1 ∙ ap (λ n. take n (file_named files name)) limit)

  file_read : (len : ℕ) (bytes : List ℕ) (old new : Option FilesTold)
      → HasRead name room faults (Ok len) bytes old new
      → FilesRead kind (name ∷ []) faults old new
  file_read len bytes None new h = h
  file_read len bytes (Some files) new h =
      opened_alone files
      (opened_with name true faults (drop room (file_named files name)) files) new
      (record { opens = true; taken = room; within = room_for kind limit; files = refl }) h.2

  file_unread : (failed : Failed) (bytes : List ℕ) (old new : Option FilesTold)
      → HasRead name room faults (Err failed) bytes old new
      → FilesRead kind (name ∷ []) faults old new
  file_unread failed bytes None new h = h
  file_unread failed bytes (Some files) new h =
      let most = room_for kind limit in
      opened_alone files
      (opened_with name h.0 faults (left_after name h.0 h.1 files) files) new
      (record { opens = h.0; taken = h.1; within = omega (arith, most, h.2); files = refl }) h.3

-- it was read whole, as far as there was room
pub takes_one : (kind : FileKind) (name bytes : List ℕ) (room len : ℕ) (old new : Seen)
    → room ≡ read_limit
    → HasRead name room old.faults (Ok len) bytes old.told new.told → new.faults ≡ old.faults
    → HasTaken kind (name ∷ []) (record { name = name; file = take len bytes } ∷ []) old new
takes_one kind name bytes room len old new limit h same = record {
  are_files = is_file kind name room old.faults limit len bytes old.told new.told h;
  goes_on = tt;
  read = file_read kind name room old.faults limit len bytes old.told new.told h;
  no_fault = same;
}

-- it could not be read
pub stops_unread : (kind : FileKind) (name bytes : List ℕ) (room : ℕ) (failed : Failed)
    (old new : Seen) → room ≡ read_limit
    → HasRead name room old.faults (Err failed) bytes old.told new.told
    → HasCause old.faults new.faults → HasStoppedUnread kind (name ∷ []) name old new
stops_unread kind name bytes room failed old new limit h cause = record {
  before = [];
  left = [];
  are_names = refl;
  read = file_unread kind name room old.faults limit failed bytes old.told new.told h;
  cause = cause;
}

-- it is too long
pub stops_too_long : (kind : FileKind) (name file : List ℕ) (old new : Seen)
    → LONGEST_FILE < length file
    → HasTaken kind (name ∷ []) (record { name = name; file = file } ∷ []) old new
    → HasStoppedTooLong kind (name ∷ []) name old new
stops_too_long kind name file old new long h = record {
  opened = name ∷ [];
  left = [];
  are_names = refl;
  files = record { name = name; file = file } ∷ [];
  file = file;
  taken = h;
  decides =
      let one : NamedFile = record { name = name; file = file } in
      ap (λ b. cond b (Some one) None) (lt-ltb LONGEST_FILE (length file) long);
}

-- a script has a bad line
pub stops_bad : (name file : List ℕ) (found : BadLine) (old new : Seen)
    → length file ≤ LONGEST_FILE → script_of file ≡ Err found
    → HasTaken AsScript (name ∷ []) (record { name = name; file = file } ∷ []) old new
    → HasStoppedBad AsScript (name ∷ []) found.number old new
stops_bad name file found old new short bad h = record {
  as_script = refl;
  file = record { name = name; file = file };
  left = [];
  are_names = refl;
  taken = h;
  short = short;
  found = found;
  is_number = refl;
  bad = bad;
}

-- the names before one, it, and those behind it
module _ {S : Type 0} (bytes : S → List ℕ) (texts : List S) (index : ℕ) (text : S)
    (name : List ℕ) (is : name ≡ bytes text) where
  pub split_text : index < length texts → text ≡ get_or texts index text
      → map bytes texts
      ≡ map bytes (take index texts) ++ (name ∷ [] ++ map bytes (drop (suc index) texts))
  split_text within is_item =
      let front = take index texts in
      let back = drop (suc index) texts in
      let cut : drop index texts ≡ text ∷ back =
      drop-cons texts index text within ∙ ap (λ t. t ∷ back) (sym is_item) in
      ap (map bytes) (sym (take-append-drop index texts) ∙ ap (λ t. front ++ t) cut)
      ∙ map-append bytes front (text ∷ back)
      ∙ ap (λ n. map bytes front ++ n ∷ map bytes back) (sym is)

  pub take_text : index < length texts → text ≡ get_or texts index text
      → map bytes (take (index + 1) texts) ≡ map bytes (take index texts) ++ name ∷ []
  take_text within is_item =
      let front = take index texts in
      ap (map bytes)
      (take_more texts index text within ∙ ap (λ t. front ++ t ∷ []) (sym is_item))
      ∙ map-append bytes front (text ∷ []) ∙ ap (λ n. map bytes front ++ n ∷ []) (sym is)
