-- Files that were opened and read one after the other.
use Rattle.std.proofs.Common.{◌≡◌, ◌⊎◌, ℕ, ◌+◌, ◌<◌, ◌≤◌, nat_lt, min, Bool, true, false, cond, Option, Some, None, IfSome, IsSome, is_some, List, [], ◌∷◌, ◌++◌, All, Contains, length, map, take, unwrap_or, refl, ap, sym, ◌∙◌, subst, arith, inl, inr}
use Rattle.std.proofs.lemmas.Bool.{ltb-true}
use Rattle.std.proofs.lemmas.List.{map-append, length-take, take_all}
use Rattle.std.proofs.lemmas.List.Elements.{All-head, All-tail, Contains-append_left, Contains-append_right, Contains-push}
use Rattle.iop_base.specs.Counts.{last_count}
use Rattle.iop_machine.specs.Modules.{NamedFile}
use Rattle.iop_modload.specs.declared.limits.TheConstants.{LONGEST_FILE}
use Rattle.iop_ports.specs.Files.{FilesTold, IsAskedName, Asked, Untold, NoName, Named, asked_next}
use Rattle.iop_front.specs.Answers.{FilesRead, AreFilesOf, IsNameAsked}
use Rattle.iop_front.specs.Outcome.{OpensAndReads, OpensInOrder, IsGoodFile, MayGoOn, none, more, read_limit, first_too_long}
use Rattle.iop_front.specs.Reading.{file_named}
use Rattle.iop_front.specs.Named.{FileKind, AsScript, AsModule, AsSnapshot, longest}

-- as much of every file may be read as of a module's
pub room_for : (kind : FileKind) {room : ℕ} → room ≡ read_limit → room ≤ longest kind + 1
room_for AsScript limit = omega (arith, limit)
room_for AsModule limit = omega (arith, limit)
room_for AsSnapshot limit = omega (arith, limit)

-- the fronts of the files of these names
abbrev files_in : (List ℕ → Option (List ℕ)) → List (List ℕ) → List NamedFile
files_in content names =
    map (λ name. record { name = name; file = take read_limit (unwrap_or (content name) []) }) names

content_then : {kind : FileKind} {name : List ℕ} {faults : ℕ} {old new : FilesTold}
    → OpensAndReads kind name faults old new → new.content ≡ old.content
content_then h = ap (λ (files : FilesTold). files.content) h.files

-- the content stays
same_content : {faults : ℕ} {kind : FileKind} {names : List (List ℕ)} {old new : FilesTold}
    → OpensInOrder faults kind names old new → new.content ≡ old.content
same_content none = refl
same_content (more first fits rest) = same_content rest ∙ content_then first

pub short_whole : (file : List ℕ) → length (take read_limit file) ≤ LONGEST_FILE
    → length file ≤ LONGEST_FILE
short_whole file h = omega (arith, length-take read_limit file, h)

-- a file that is not too long is its own front
pub whole_front : (file : List ℕ) → length (take read_limit file) ≤ LONGEST_FILE
    → take read_limit file ≡ file
whole_front file h =
    let short = short_whole file h in take_all read_limit file (omega (arith, short))

-- another may be opened behind a file that is not too long, and good
goes_on : (kind : FileKind) (file : List ℕ) (names : List (List ℕ))
    → length (take read_limit file) ≤ LONGEST_FILE → IsGoodFile kind (take read_limit file)
    → MayGoOn kind file names
goes_on kind file [] h good = tt
goes_on kind file (next ∷ names) h good =
    (short_whole file h, subst (IsGoodFile kind) (whole_front file h) good)

-- its file is not too long
abbrev pub IsNotLong : NamedFile → Type 0
IsNotLong named = length named.file ≤ LONGEST_FILE

-- behind these files, of which the first is of this kind, the modules' may be read
abbrev pub AreFollowed : (kind : FileKind) → List NamedFile → Type 0
AreFollowed kind [] = kind ≡ AsModule
AreFollowed kind (first ∷ files) = IsGoodFile kind first.file

-- behind those of modules they may
pub modules_followed : (files : List NamedFile) → AreFollowed AsModule files
modules_followed [] = refl
modules_followed (first ∷ files) = tt

-- so the modules' are opened behind these
opens-append : {faults : ℕ} {kind : FileKind} {xs ys : List (List ℕ)}
    {old between new : FilesTold}
    → OpensInOrder faults kind xs old between → All IsNotLong (files_in old.content xs)
    → AreFollowed kind (files_in old.content xs)
    → OpensInOrder faults AsModule ys between new → OpensInOrder faults kind (xs ++ ys) old new
opens-append {faults = faults} {ys = ys} {new = new} (none {files = files}) short follow h =
    subst (λ kind. OpensInOrder faults kind ys files new) (sym follow) h
opens-append {ys = ys} {old = old}
    (more {kind = kind} {name = name} {names = names} {between = middle} first fits rest)
    short follow h =
    let front : NamedFile = record { name = name; file = take read_limit (file_named old name) } in
    let one = All-head IsNotLong front (files_in old.content names) short in
    let others = All-tail IsNotLong front (files_in old.content names) short in
    more first (goes_on kind (file_named old name) (names ++ ys) one follow)
    (opens-append rest
    (subst (λ (c : List ℕ → Option (List ℕ)). All IsNotLong (files_in c names))
    (sym (content_then first)) others)
    (modules_followed (files_in middle.content names)) h)

-- nothing is read
pub read_none : (kind : FileKind) (faults : ℕ) (told : Option FilesTold)
    → FilesRead kind [] faults told told
read_none kind faults None = refl
read_none kind faults (Some files) = none

module _ (kind : FileKind) (xs ys : List (List ℕ)) (files : List NamedFile) (faults : ℕ) where
  -- the same where the files may tell nothing
  pub read-append : (old between new : Option FilesTold) → AreFilesOf xs files old
      → All IsNotLong files → AreFollowed kind files
      → FilesRead kind xs faults old between → FilesRead AsModule ys faults between new
      → FilesRead kind (xs ++ ys) faults old new
  read-append None between new are short follow h k =
      subst (λ (o : Option FilesTold). FilesRead AsModule ys faults o new) h k
  read-append (Some told) None new are short follow h k = absurd h
  read-append (Some told) (Some middle) None are short follow h k = k
  read-append (Some told) (Some middle) (Some after) are short follow h k =
      opens-append h (subst (λ (fs : List NamedFile). All IsNotLong fs) are short)
      (subst (AreFollowed kind) are follow) k

  -- what was read is what those and these have
  pub are_files-append : (others : List NamedFile) (old between : Option FilesTold)
      → AreFilesOf xs files old → FilesRead kind xs faults old between
      → AreFilesOf ys others between
      → AreFilesOf (xs ++ ys) (files ++ others) old
  are_files-append others None between h read k =
      let names = λ (named : NamedFile). named.name in
      let same : map names others ≡ ys =
      subst (λ (o : Option FilesTold). AreFilesOf ys others o) read k in
      map-append names files others
      ∙ ap (λ t. t ++ map names others) h ∙ ap (λ t. xs ++ t) same
  are_files-append others (Some told) None h read k = absurd read
  are_files-append others (Some told) (Some after) h read k =
      let same : others ≡ files_in told.content ys =
      k ∙ ap (λ (c : List ℕ → Option (List ℕ)). files_in c ys) (same_content read) in
      ap (λ t. t ++ others) h ∙ ap (λ t. files_in told.content xs ++ t) same
      ∙ sym (map-append (λ name. record {
        name = name;
        file = take read_limit (unwrap_or (told.content name) []);
      }) xs ys)

-- the name that an opening asked for
asked_then : (asked : Asked) (name : List ℕ) (file : Option (List ℕ))
    → IsAskedName (asked_next asked name file) name file
asked_then Untold name file = tt
asked_then NoName name None = refl
asked_then NoName name (Some bytes) = refl
asked_then (Named other) name None = refl
asked_then (Named other) name (Some bytes) = refl

module _ (faults : ℕ) where
  asked_by_reading : {kind : FileKind} {name : List ℕ} {old new : FilesTold}
      → OpensAndReads kind name faults old new → IsNameAsked name faults new
  asked_by_reading {name = name} {old = old} h =
      subst (IsNameAsked name faults) (sym h.files)
      (asked_then old.asked name (old.content name), refl)

  asked_last : (before : List (List ℕ)) (name : List ℕ) {kind : FileKind} {old new : FilesTold}
      → OpensInOrder faults kind (before ++ name ∷ []) old new → IsNameAsked name faults new
  asked_last [] name (more first fits none) = asked_by_reading first
  asked_last (other ∷ before) name (more first fits rest) = asked_last before name rest

  -- the last name is the one last asked for
  pub name_asked : (kind : FileKind) (before : List (List ℕ)) (name : List ℕ)
      (old new : Option FilesTold)
      → FilesRead kind (before ++ name ∷ []) faults old new
      → IfSome new (IsNameAsked name faults)
  name_asked kind before name None new h =
      subst (λ (o : Option FilesTold). IfSome o (IsNameAsked name faults)) (sym h) tt
  name_asked kind before name (Some files) None h = tt
  name_asked kind before name (Some files) (Some after) h = asked_last before name h

  stray_not : {kind : FileKind} {name : List ℕ} {old new : FilesTold}
      → OpensAndReads kind name faults old new → IsSome (old.content name)
      → new.strays ≡ old.strays
  stray_not {name = name} {old = old} h some =
      let there : is_some (old.content name) ≡ true = some in
      ap (λ (files : FilesTold). files.strays) h.files
      ∙ ap (λ b. cond b old.strays (min (old.strays + 1) last_count)) there

  -- no file is opened that the content does not have, if it has all of these
  same_strays : {kind : FileKind} {names : List (List ℕ)} {old new : FilesTold}
      (left : List (List ℕ)) → OpensInOrder faults kind names old new
      → All (λ name. IsSome (old.content name)) (names ++ left) → new.strays ≡ old.strays
  same_strays left none there = refl
  same_strays {old = old} left (more {name = name} {names = names} first fits rest) there =
      let tail = All-tail (λ n. IsSome (old.content n)) name (names ++ left) there in
      same_strays left rest
      (subst (λ (c : List ℕ → Option (List ℕ)). All (λ n. IsSome (c n)) (names ++ left))
      (sym (content_then first)) tail)
      ∙ stray_not first (All-head (λ n. IsSome (old.content n)) name (names ++ left) there)

  pub no_stray : (kind : FileKind) (names left : List (List ℕ)) (old new : Option FilesTold)
      → FilesRead kind names faults old new
      → (before after : FilesTold) → old ≡ Some before → new ≡ Some after
      → All (λ name. IsSome (before.content name)) (names ++ left)
      → after.strays ≡ before.strays
  no_stray kind names left None new h before after p q there = absurd (cc)
  no_stray kind names left (Some files) None h before after p q there = absurd (cc)
  no_stray kind names left (Some files) (Some next) h before after p q there =
      let same : files ≡ before = cc in
      let last : next ≡ after = cc in
      subst (λ (f : FilesTold). f.strays ≡ before.strays) last
      (same_strays left
      (subst (λ (f : FilesTold). OpensInOrder faults kind names f next) same h) there)

-- the names of files that were read
names_in : (content : List ℕ → Option (List ℕ)) (names : List (List ℕ))
    → map (λ (named : NamedFile). named.name) (files_in content names) ≡ names
names_in content [] = refl
names_in content (name ∷ names) = ap (λ t. name ∷ t) (names_in content names)

pub names_of : (names : List (List ℕ)) (files : List NamedFile) (told : Option FilesTold)
    → AreFilesOf names files told → map (λ (named : NamedFile). named.name) files ≡ names
names_of names files None h = h
names_of names files (Some told) h =
    ap (map (λ (named : NamedFile). named.name)) h ∙ names_in told.content names

-- a search ends at the first element, or goes on
found_by : (b : Bool) (first : NamedFile) (rest : Option NamedFile) (found : NamedFile)
    → cond b (Some first) rest ≡ Some found
    → ((b ≡ true) × (first ≡ found)) ⊎ ((b ≡ false) × (rest ≡ Some found))
found_by true first rest found e = let same : first ≡ found = cc in inl (refl, same)
found_by false first rest found e = inr (refl, e)

pub found : (first : NamedFile) (rest : List NamedFile) (long : NamedFile)
    → first_too_long (first ∷ rest) ≡ Some long
    → ((nat_lt LONGEST_FILE (length first.file) ≡ true) × (first ≡ long))
    ⊎ ((nat_lt LONGEST_FILE (length first.file) ≡ false) × (first_too_long rest ≡ Some long))
found first rest long e =
    found_by (nat_lt LONGEST_FILE (length first.file)) first (first_too_long rest) long e

-- the name of the first that is too long is one of the names
pub is_named : (files : List NamedFile) (long : NamedFile) → first_too_long files ≡ Some long
    → Contains (map (λ (named : NamedFile). named.name) files) long.name
is_named [] long e = absurd (cc)
is_named (first ∷ rest) long e = elim (found first rest long e) [
  | inl h ↦
      let names = map (λ (named : NamedFile). named.name) rest in
      subst (λ (n : List ℕ). Contains (first.name ∷ names) n)
      (ap (λ (named : NamedFile). named.name) h.1)
      (Contains-append_left (first.name ∷ []) names first.name (Contains-push [] first.name))
  | inr h ↦
      Contains-append_right (first.name ∷ []) (map (λ (named : NamedFile). named.name) rest)
      long.name (is_named rest long h.1)
]

-- where the files tell, it is the last that was opened, and longer than a file may be
abbrev IsLongOf : List ℕ → ℕ → FilesTold → FilesTold → Type 0
IsLongOf name faults old new =
    IsNameAsked name faults new × (LONGEST_FILE < length (file_named old name))

long_alone : {kind : FileKind} {name : List ℕ} {faults : ℕ} {old new : FilesTold}
    (long : NamedFile) → OpensAndReads kind name faults old new
    → nat_lt LONGEST_FILE (length (take read_limit (file_named old name))) ≡ true
    → name ≡ long.name → IsLongOf long.name faults old new
long_alone {name = name} {faults = faults} {old = old} {new = new} long h is_long same =
    let file = file_named old name in
    let over = ltb-true LONGEST_FILE (length (take read_limit file)) is_long in
    subst (λ (n : List ℕ). IsLongOf n faults old new) same
    (asked_by_reading faults h, omega (arith, length-take read_limit file, over))

not_long : (file : List ℕ) → length file ≤ LONGEST_FILE
    → nat_lt LONGEST_FILE (length (take read_limit file)) ≡ true → ⊥
not_long file short e =
    let over = ltb-true LONGEST_FILE (length (take read_limit file)) e in
    omega (arith, length-take read_limit file, over, short)

long_last : {faults : ℕ} {kind : FileKind} {names : List (List ℕ)} {old new : FilesTold}
    (long : NamedFile) → OpensInOrder faults kind names old new
    → first_too_long (files_in old.content names) ≡ Some long → IsLongOf long.name faults old new
long_last long none e = absurd (cc)
long_last {old = old} long (more {name = name} first fits none) e =
    let front : NamedFile = record { name = name; file = take read_limit (file_named old name) } in
    elim (found front [] long e) [
      | inl h ↦ long_alone long first h.0 (ap (λ (named : NamedFile). named.name) h.1)
      | inr h ↦ let never = h.1 in absurd (cc)
    ]
long_last {faults = faults} {old = old} {new = new} long
    (more {name = name} {between = between} first fits
    (more {name = next} {names = names} second then rest)) e =
    let front : NamedFile = record { name = name; file = take read_limit (file_named old name) } in
    let content = content_then first in
    elim (found front (files_in old.content (next ∷ names)) long e) [
      | inl h ↦ absurd (not_long (file_named old name) fits.0 h.0)
      | inr h ↦
          subst (λ (c : List ℕ → Option (List ℕ)). IsNameAsked long.name faults new
          × (LONGEST_FILE < length (unwrap_or (c long.name) []))) content
          (long_last {kind = AsModule} {old = between} long (more second then rest)
          (subst (λ (c : List ℕ → Option (List ℕ)).
          first_too_long (files_in c (next ∷ names)) ≡ Some long) (sym content) h.1))
    ]

-- the same of files that may tell nothing
pub record IsLongIn (name : List ℕ) (faults : ℕ) (old new : Option FilesTold) : Type 0 where
  pub asked : IfSome new (IsNameAsked name faults)
  pub long : IfSome old (λ files. LONGEST_FILE < length (file_named files name))

pub long_read : (kind : FileKind) (names : List (List ℕ)) (files : List NamedFile) (faults : ℕ)
    (old new : Option FilesTold) (long : NamedFile) → AreFilesOf names files old
    → FilesRead kind names faults old new → first_too_long files ≡ Some long
    → IsLongIn long.name faults old new
long_read kind names files faults None new long are read e = record {
  asked = subst (λ (o : Option FilesTold). IfSome o (IsNameAsked long.name faults)) (sym read) tt;
  long = tt;
}
long_read kind names files faults (Some told) None long are read e = absurd read
long_read kind names files faults (Some told) (Some after) long are read e =
    let last = long_last long read
    (subst (λ (fs : List NamedFile). first_too_long fs ≡ Some long) are e) in
    record { asked = last.0; long = last.1 }
