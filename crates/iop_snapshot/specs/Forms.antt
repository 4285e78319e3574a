-- Forms: how the values of a type are spelled in bytes and read back, and how forms are made of
-- others. This project's own profile.
use Rattle.std.specs.Prelude.{ℕ, zero, suc, ◌≡◌, Bool, true, not, ◌==◌, ◌&&◌, if◌then◌else◌, Option, Some, None, option_map, option_and_then, All, List, [], ◌∷◌, ◌++◌, length, slice_index}
use Rattle.std.specs.List.{list_all, flat_map}
use Rattle.iop_base.specs.Numbers.{IsByte}
use Rattle.iop_snapshot.specs.Items.{spell_item, fits_item, read_item, read_bytes}
use Rattle.iop_snapshot.specs.declared.widths.TheConstants.{COUNT}

pub record Form (X : Type 0) : Type 0 where
  -- whether a value has a spelling
  pub fits : X → Bool
  -- the spelling of a value that has one
  pub spell : X → List ℕ
  -- the value whose spelling stands at the front of some bytes, and the bytes behind it
  pub read : List ℕ → Option (X × List ℕ)

-- bytes are the spelling of a value, and others behind it
pub record IsSpelled {X : Type 0} (form : Form X) (bytes : List ℕ) (x : X) (rest : List ℕ)
    : Type 0 where
  pub parts : bytes ≡ form.spell x ++ rest
  pub fits : form.fits x ≡ true

-- what was spelled is read, whatever follows, and what was read is what is spelled
pub record IsLawful {X : Type 0} (form : Form X) : Type 0 where
  pub reads_spelled : (x : X) (rest : List ℕ) → form.fits x ≡ true
      → form.read (form.spell x ++ rest) ≡ Some (x, rest)
  pub spells_read : (bytes : List ℕ) (x : X) (rest : List ℕ) → All IsByte bytes
      → form.read bytes ≡ Some (x, rest) → IsSpelled form bytes x rest

-- the numbers of an item
unfoldable pub item : (widths : List ℕ) → Form (List ℕ)
item widths =
    record { fits = fits_item widths; spell = spell_item widths; read = read_item widths }

-- so many bytes
unfoldable pub bytes : ℕ → Form (List ℕ)
bytes count =
    record { fits = λ xs. length xs == count; spell = λ xs. xs; read = read_bytes count }

-- how many items follow
abbrev pub spell_count : ℕ → List ℕ
spell_count n = spell_item COUNT (n ∷ [])

module _ {X Y : Type 0} where
  abbrev pub with_first : X → Y × List ℕ → (X × Y) × List ℕ
  with_first x second = ((x, second.0), second.1)

  -- a value, and behind it another, whose form may depend on the first
  abbrev pub both : Form X → (X → Form Y) → Form (X × Y)
  both form next = record {
    fits = λ pair. form.fits pair.0 && (next pair.0).fits pair.1;
    spell = λ pair. form.spell pair.0 ++ (next pair.0).spell pair.1;
    read = λ bytes.
        option_and_then (λ first. option_map (with_first first.0) ((next first.0).read first.1))
        (form.read bytes);
  }

  abbrev pub if_seen : (X → Option Y) → X × List ℕ → Option (Y × List ℕ)
  if_seen seen x = option_map (λ y. (y, x.1)) (seen x.0)

  -- values of one type for those of another: one that is not seen as any is not read
  abbrev pub seen_as : Form X → (seen : X → Option Y) → (back : Y → X) → Form Y
  seen_as form seen back = record {
    fits = λ y. form.fits (back y);
    spell = λ y. form.spell (back y);
    read = λ bytes. option_and_then (if_seen seen) (form.read bytes);
  }

module _ {X : Type 0} where
  abbrev pub if_passes : (X → Bool) → X × List ℕ → Option (X × List ℕ)
  if_passes test x = if test x.0 then Some x else None

  -- the values that pass a test
  abbrev pub tested : Form X → (X → Bool) → Form X
  tested form test = record {
    fits = λ x. form.fits x && test x;
    spell = form.spell;
    read = λ bytes. option_and_then (if_passes test) (form.read bytes);
  }

  abbrev pub fits_where : Bool → Form X → Option X → Bool
  fits_where there form None = not there
  fits_where there form (Some x) = there && form.fits x

  abbrev pub spell_where : Form X → Option X → List ℕ
  spell_where form None = []
  spell_where form (Some x) = form.spell x

  abbrev pub some_read : X × List ℕ → Option X × List ℕ
  some_read x = (Some x.0, x.1)

  -- a value that is there exactly where something else says so
  abbrev pub present : Bool → Form X → Form (Option X)
  present there form = record {
    fits = fits_where there form;
    spell = spell_where form;
    read = λ bytes. if there then option_map some_read (form.read bytes) else Some (None, bytes);
  }

  -- the items of a list, each of which is read by a form that may depend on those before it
  unfoldable pub fits_items : (List X → Form X) → (before items : List X) → Bool
  fits_items next before [] = true
  fits_items next before (x ∷ xs) = (next before).fits x && fits_items next (before ++ x ∷ []) xs

  abbrev pub in_front : X → List X × List ℕ → List X × List ℕ
  in_front x items = (x ∷ items.0, items.1)

  unfoldable pub read_items : (List X → Form X) → (before : List X) → ℕ → List ℕ
      → Option (List X × List ℕ)
  read_items next before zero bytes = Some ([], bytes)
  read_items next before (suc n) bytes =
      option_and_then
      (λ x. option_map (in_front x.0) (read_items next (before ++ x.0 ∷ []) n x.1))
      ((next before).read bytes)

  -- so many items of one form, one behind the other, without a count
  abbrev pub repeated : ℕ → Form X → Form (List X)
  repeated count form = record {
    fits = λ xs. length xs == count && list_all form.fits xs;
    spell = λ xs. flat_map form.spell xs;
    read = read_items (λ _. form) [] count;
  }

  -- a list: how many items it has, and the items
  unfoldable pub fits_list : (List X → Form X) → List X → Bool
  fits_list next xs = fits_item COUNT (length xs ∷ []) && fits_items next [] xs

  unfoldable pub spell_list : Form X → List X → List ℕ
  spell_list form xs = spell_count (length xs) ++ flat_map form.spell xs

  unfoldable pub read_list : (List X → Form X) → List ℕ → Option (List X × List ℕ)
  read_list next bytes =
      option_and_then (λ counted. read_items next [] (slice_index counted.0 0) counted.1)
      (read_item COUNT bytes)

  -- a list whose items one form spells; which of them fit, and what is read, may depend on the
  -- items before
  abbrev pub series : Form X → (List X → Form X) → Form (List X)
  series form next =
      record { fits = fits_list next; spell = spell_list form; read = read_list next }

  -- whatever stands before an item, it is spelled as the one form does
  pub record IsSeries (form : Form X) (next : List X → Form X) : Type 0 where
    pub lawful : (before : List X) → IsLawful (next before)
    pub same : (before : List X) (x : X) → (next before).spell x ≡ form.spell x

  -- items of one form, each of which passes a test beside those before it
  abbrev pub following : Form X → (List X → X → Bool) → List X → Form X
  following form may before = tested form (may before)

  -- whether each item passes
  abbrev pub all_follow : (List X → X → Bool) → (before items : List X) → Bool
  all_follow may before [] = true
  all_follow may before (x ∷ xs) = may before x && all_follow may (before ++ x ∷ []) xs

  abbrev pub if_last : X × List ℕ → Option X
  if_last x = if length x.1 == 0 then Some x.0 else None

  -- the value that bytes spell as a whole, with none behind it
  unfoldable pub read_whole : Form X → List ℕ → Option X
  read_whole form bytes = option_and_then if_last (form.read bytes)
