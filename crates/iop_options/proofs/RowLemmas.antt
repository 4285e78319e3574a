-- What rows of `clap` have at an id after values are added.
use Rattle.std.proofs.Common.{◌≡◌, ◌∙◌, Bool, true, false, cond, ◌||◌, Option, Some, None, option_map, unwrap_or, is_some, List, [], ◌∷◌, ◌++◌, find, refl, sym, ap, true≢false}
use Rattle.std.specs.Str.{bytes_eq}
use Rattle.clap.specs.Walk.{Row, Text, all_of, has_row, without, with_values, more_values, stronger}
use Rattle.clap.specs.declared.builder.value_parser.Reading.{Reading}
use Rattle.clap.specs.declared.parser.matches.ValueSource.{ValueSource}
use Rattle.iop_options.proofs.RuleLemmas.{same_name, name_is}

-- the values of an id, by whether the first row has it
abbrev pub values_by : Bool → List Text → Option (List Text) → Option (List Text)
values_by here values others = cond here (Some values) others

pub all_of-cons : (id : Text) (row : Row) (rows : List Row)
    → all_of id (row ∷ rows) ≡ values_by (bytes_eq row.id id) row.values (all_of id rows)
all_of-cons id row rows = go (bytes_eq row.id id)
  where
    go : (b : Bool)
        → option_map (λ (r : Row). r.values) (cond b (Some row) (find (λ r. bytes_eq r.id id) rows))
        ≡ values_by b row.values (all_of id rows)
    go true = refl
    go false = refl

pub has_row-all_of : (id : Text) (rows : List Row) → has_row id rows ≡ is_some (all_of id rows)
has_row-all_of id [] = refl
has_row-all_of id (row ∷ rows) =
    go (bytes_eq row.id id) (has_row-all_of id rows) ∙ ap is_some (sym (all_of-cons id row rows))
  where
    go : (b : Bool) → has_row id rows ≡ is_some (all_of id rows)
        → (b || has_row id rows) ≡ is_some (values_by b row.values (all_of id rows))
    go true e = refl
    go false e = e

pub without-absent : (id : Text) (rows : List Row) → has_row id rows ≡ false
    → without id rows ≡ rows
without-absent id [] e = refl
without-absent id (row ∷ rows) e = go (bytes_eq row.id id) e (without-absent id rows)
  where
    go : (b : Bool) → (b || has_row id rows) ≡ false
        → (has_row id rows ≡ false → without id rows ≡ rows)
        → cond b ([] ++ rows) (row ∷ without id rows) ≡ row ∷ rows
    go true f next = absurd (true≢false f)
    go false f next = ap (λ rs. row ∷ rs) (next f)

module _ (id : Text) (how : Reading) (source : ValueSource) (values : List Text) where
  abbrev added : List Row → List Row
  added = with_values id how source values

  abbrev grown : Row → Row
  grown row = record row {
    values = row.values ++ values;
    source = Some (stronger row.source source);
  }

  -- values join those of their id
  pub all_of-added : (rows : List Row)
      → all_of id (added rows) ≡ Some (unwrap_or (all_of id rows) [] ++ values)
  all_of-added [] = all_of-cons id (record {
    id = id;
    values = values;
    count = None;
    source = Some source;
    reading = how;
  }) [] ∙ ap (λ b. values_by b values None) (name_is id)
  all_of-added (row ∷ rows) =
      go (bytes_eq row.id id) refl (all_of-added rows)
      ∙ ap (λ o. Some (unwrap_or o [] ++ values)) (sym (all_of-cons id row rows))
    where
      go : (b : Bool) → bytes_eq row.id id ≡ b
          → all_of id (added rows) ≡ Some (unwrap_or (all_of id rows) [] ++ values)
          → all_of id (cond b (more_values source values row ++ rows) (row ∷ added rows))
          ≡ Some (unwrap_or (values_by b row.values (all_of id rows)) [] ++ values)
      go true e next = all_of-cons id (grown row) rows
          ∙ ap (λ b. values_by b (row.values ++ values) (all_of id rows)) e
      go false e next = all_of-cons id row (added rows)
          ∙ ap (λ b. values_by b row.values (all_of id (added rows))) e ∙ next

  -- and leave those of others
  pub all_of-others : (other : Text) (rows : List Row) → bytes_eq id other ≡ false
      → all_of other (added rows) ≡ all_of other rows
  all_of-others other [] differs = all_of-cons other (record {
    id = id;
    values = values;
    count = None;
    source = Some source;
    reading = how;
  }) [] ∙ ap (λ b. values_by b values None) differs
  all_of-others other (row ∷ rows) differs =
      go (bytes_eq row.id id) refl (all_of-others other rows differs)
      ∙ sym (all_of-cons other row rows)
    where
      go : (b : Bool) → bytes_eq row.id id ≡ b
          → all_of other (added rows) ≡ all_of other rows
          → all_of other (cond b (more_values source values row ++ rows) (row ∷ added rows))
          ≡ values_by (bytes_eq row.id other) row.values (all_of other rows)
      go true e next =
          let none : bytes_eq row.id other ≡ false =
          ap (λ n. bytes_eq n other) (same_name row.id id e) ∙ differs in
          all_of-cons other (grown row) rows
          ∙ ap (λ b. values_by b (row.values ++ values) (all_of other rows)) none
          ∙ ap (λ b. values_by b row.values (all_of other rows)) (sym none)
      go false e next = all_of-cons other row (added rows)
          ∙ ap (values_by (bytes_eq row.id other) row.values) next
