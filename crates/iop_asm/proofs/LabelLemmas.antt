-- What a change of the labels of a source leaves of their names, numbers and places.
use Rattle.std.proofs.Common.{◌≡◌, ◌≢◌, ◌⊎◌, ℕ, List, [], ◌∷◌, ◌++◌, Bool, true, false, cond, Option, Some, None, Bor, refl, sym, ap, subst, ◌∙◌, inl, inr, arith, rules, bytes_eq}
use Rattle.std.specs.BTreeMap.{UpdatesBy}
use Rattle.std.specs.Cmp.Lexicographic.{slice_cmp}
use Rattle.std.specs.List.{find}
use Rattle.std.specs.Option.{ForSome, option_map, option_and_then, option_or}
use Rattle.std.specs.Ordering.{nat_cmp}
use Rattle.std.proofs.lemmas.Bool.{cases_Bool, cases_eq}
use Rattle.std.proofs.lemmas.Grind.{common_steps}
use Rattle.std.proofs.lemmas.List.Folds.{find-append}
use Rattle.std.proofs.lemmas.Map.Text.{btree_map_updates_str}
use Rattle.std.proofs.lemmas.Option.{none-some}
use Rattle.std.proofs.lemmas.Slice.Eq.{bytes_eq-Decides}
use Rattle.slab.specs.Slab.{Slab, get, with_value, Updates}
use Rattle.slab.proofs.SlabLemmas.{Updates-with_value}
use Rattle.iop_asm.specs.declared.place.Place.{Place}
use Rattle.iop_asm.specs.declared.label.Label.{Label}
use Rattle.iop_asm.specs.Drafts.{place_named}
use Rattle.iop_asm.specs.LabelNumbers.{label, Numbers, number_in, name_in, place_at, place_in, IsNumbering}

-- two names are the same, or a test tells them apart
cases_name : (name other : List ℕ) → (name ≡ other) ⊎ (bytes_eq name other ≡ false)
cases_name name other =
    elim (cases_Bool (bytes_eq name other)) [
      | inl same ↦ inl ((bytes_eq-Decides name other).0 same)
      | inr differs ↦ inr differs
    ]

-- the name of what a number has
abbrev name_at : Option Label → Option (List ℕ)
name_at slot = option_map (λ l. l.0) (option_map label slot)

-- the place of what a number has
abbrev place_of : Option Label → Option Place
place_of slot = option_and_then (λ l. l.1) (option_map label slot)

-- what holds the same names and labels is a numbering too
pub IsNumbering-same : (numbers same : Numbers) (labels room : Slab Label) →
    same.entries ≡ numbers.entries → room.slots ≡ labels.slots →
    IsNumbering numbers labels → IsNumbering same room
IsNumbering-same numbers same labels room entries slots held = record {
  named = λ name number is. grind (arith, common_steps, held.named name number);
  found = λ number name is. grind (arith, common_steps, held.found number name);
}

-- a new name has a new number, under which its label has no place
pub record AddsLabel (numbers more : Numbers) (labels next : Slab Label) (name : Bor (List ℕ))
    (number : ℕ) : Type 0 where
  pub absent : number_in numbers name.now ≡ None
  pub vacant : get labels number ≡ None
  pub inserts : UpdatesBy (λ x y. slice_cmp nat_cmp x.now y.now)
      (λ key. slice_cmp nat_cmp name.now key.now) numbers more (Some number)
  pub adds : Updates labels next number (Some (record { name = name; place = None }))

-- the calls by which a name gets a number
pub AddsLabel-made : (numbers more : Numbers) {labels room next : Slab Label}
    (name : Bor (List ℕ)) {number key : ℕ} →
    number_in numbers name.now ≡ None →
    room ≡ record labels { capacity = room.capacity } →
    record { value : number ≡ room.vacant_key; vacant : get room number ≡ None } →
    UpdatesBy (λ x y. slice_cmp nat_cmp x.now y.now)
    (λ k. slice_cmp nat_cmp name.now k.now) numbers more (Some number) →
    key ≡ room.vacant_key →
    Updates room next key (Some (record { name = name; place = None })) →
    AddsLabel numbers more labels next name number
AddsLabel-made numbers more name {number = number} absent reserved vacant inserts is adds =
    let same = is ∙ sym vacant.value in
    let adds = rw same at adds in
    record {
      absent = absent;
      vacant = sym (ap (λ s. get s number) reserved) ∙ vacant.vacant;
      inserts = inserts;
      adds = record {
        changed = adds.changed;
        others = λ x apart. adds.others x apart ∙ ap (λ s. get s x) reserved;
      };
    }

module _ {numbers more : Numbers} {labels next : Slab Label} {name : Bor (List ℕ)} {number : ℕ}
    (added : AddsLabel numbers more labels next name number) where
  number_in-new : number_in more name.now ≡ Some number
  number_in-new = added.inserts.1

  number_in-other : (other : List ℕ) → bytes_eq name.now other ≡ false →
      number_in more other ≡ number_in numbers other
  number_in-other other differs =
      btree_map_updates_str name.now numbers more (Some number) added.inserts other
      ∙ ap (λ v. cond v (Some number) (number_in numbers other)) differs

  -- a number that has a name is another
  apart : (x : ℕ) (other : List ℕ) → name_in labels x ≡ Some other → x ≢ number
  apart x other is same = grind (arith, common_steps, added.vacant)

  -- a number that has a name keeps it
  pub name_in-added : (x : ℕ) (other : List ℕ) → name_in labels x ≡ Some other →
      name_in next x ≡ Some other
  name_in-added x other is = ap name_at (added.adds.others x (apart x other is)) ∙ is

  named : IsNumbering numbers labels → (other : List ℕ) →
      ForSome (number_in more other) (λ x. name_in next x ≡ Some other)
  named held other x is =
      elim (cases_name name.now other) [
        | inl same ↦ grind (arith, common_steps, added.adds.changed, number_in-new)
        | inr differs ↦
            name_in-added x other (held.named other x (sym (number_in-other other differs) ∙ is))
      ]

  found : IsNumbering numbers labels → (x : ℕ) →
      ForSome (name_in next x) (λ other. number_in more other ≡ Some x)
  found held x other is =
      elim (cases_eq x number) [
        | inl same ↦ grind (arith, common_steps, added.adds.changed, number_in-new)
        | inr differs ↦
            let was : number_in numbers other ≡ Some x =
            held.found x other (sym (ap name_at (added.adds.others x differs)) ∙ is) in
            elim (cases_name name.now other) [
              | inl same ↦ grind (arith, common_steps, added.absent)
              | inr differs ↦ number_in-other other differs ∙ was
            ]
      ]

  pub IsNumbering-added : IsNumbering numbers labels → IsNumbering more next
  IsNumbering-added held = record { named = named held; found = found held }

  same_place : (other : List ℕ) (o : Option ℕ) →
      ForSome o (λ x. name_in labels x ≡ Some other) →
      option_and_then (place_at next) o ≡ option_and_then (place_at labels) o
  same_place other None named = refl
  same_place other (Some x) named =
      ap place_of (added.adds.others x (apart x other (named x refl)))

  pub place_in-added : IsNumbering numbers labels → (other : List ℕ) →
      place_in more next other ≡ place_in numbers labels other
  place_in-added held other =
      elim (cases_name name.now other) [
        | inl same ↦ grind (arith, common_steps, added.absent, added.adds.changed, number_in-new)
        | inr differs ↦
            ap (option_and_then (place_at next)) (number_in-other other differs)
            ∙ same_place other (number_in numbers other) (held.named other)
      ]

-- the places with one more name
pub place_named-more : (labels : List (List ℕ × Place)) (name : List ℕ) (place : Place) →
    place_named labels name ≡ None → (other : List ℕ) →
    place_named (labels ++ (name, place) ∷ []) other
    ≡ cond (bytes_eq name other) (Some place) (place_named labels other)
place_named-more labels name place absent other =
    ap (option_map (λ label. label.1))
    (find-append (λ label. bytes_eq label.0 other) labels ((name, place) ∷ []))
    ∙ joined (find (λ label. bytes_eq label.0 other) labels) (bytes_eq name other)
    (λ same. subst (λ n. place_named labels n ≡ None) ((bytes_eq-Decides name other).0 same) absent)
  where
    joined : (found : Option (List ℕ × Place)) (here : Bool) →
        (here ≡ true → option_map (λ label. label.1) found ≡ None) →
        option_map (λ label. label.1) (option_or found (cond here (Some (name, place)) None))
        ≡ cond here (Some place) (option_map (λ label. label.1) found)
    joined None true none = refl
    joined None false none = refl
    joined (Some x) false none = refl
    joined (Some x) true none = absurd (none-some x.1 (sym (none refl)))

-- the label of a number has a place now
module _
    (numbers : Numbers) (labels : Slab Label) (number : ℕ) (l : Label) (place : Place)
    (was : get labels number ≡ Some l) where
  abbrev placed : Slab Label
  placed = with_value labels number (record l { place = Some place })

  updates : Updates labels placed number (Some (record l { place = Some place }))
  updates = Updates-with_value labels number _ (search rules)

  name_in-placed : (x : ℕ) → name_in placed x ≡ name_in labels x
  name_in-placed x =
      elim (cases_eq x number) [
        | inl same ↦ grind (arith, common_steps, updates.changed)
        | inr apart ↦ ap name_at (updates.others x apart)
      ]

  pub IsNumbering-placed : IsNumbering numbers labels → IsNumbering numbers placed
  IsNumbering-placed held = record {
    named = λ name x is. name_in-placed x ∙ held.named name x is;
    found = λ x name is. held.found x name (sym (name_in-placed x) ∙ is);
  }

  other_place : (other : List ℕ) → bytes_eq l.name.now other ≡ false → (o : Option ℕ) →
      ForSome o (λ x. name_in labels x ≡ Some other) →
      option_and_then (place_at placed) o ≡ option_and_then (place_at labels) o
  other_place other differs None named = refl
  other_place other differs (Some x) named =
      let is : name_in labels x ≡ Some other = named x refl in
      let apart : x ≢ number =
      λ same. grind (arith, common_steps, bytes_eq-Decides l.name.now other) in
      ap place_of (updates.others x apart)

  place_in-placed : IsNumbering numbers labels → (other : List ℕ) →
      place_in numbers placed other
      ≡ cond (bytes_eq l.name.now other) (Some place) (place_in numbers labels other)
  place_in-placed held other =
      let here : number_in numbers l.name.now ≡ Some number =
      held.found number l.name.now (ap name_at was) in
      elim (cases_name l.name.now other) [
        | inl same ↦
            grind (arith, common_steps, updates.changed, (bytes_eq-Decides l.name.now other).1 same)
        | inr differs ↦
            rw differs (other_place other differs (number_in numbers other) (held.named other))
      ]

  pub IsTableOf-placed : IsNumbering numbers labels → (table : List (List ℕ × Place)) →
      ((other : List ℕ) → place_in numbers labels other ≡ place_named table other) →
      (name : List ℕ) → name_in labels number ≡ Some name → place_named table name ≡ None →
      (other : List ℕ) →
      place_in numbers placed other ≡ place_named (table ++ (name, place) ∷ []) other
  IsTableOf-placed held table is name named absent other =
      let same : l.name.now ≡ name = grind (arith, common_steps) in
      place_in-placed held other
      ∙ rw (same, is other) (sym (place_named-more table name place absent other))

-- what keeps the numbering of labels
pub ruleset numberings = (IsNumbering-same, IsNumbering-placed)
