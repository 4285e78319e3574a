-- The script of a text can be run, and written.
use Rattle.std.proofs.Common.{◌≡◌, ◌≢◌, ℕ, zero, suc, ◌-◌, ◌^◌, ◌<◌, ◌≤◌, nat_le, ◌==◌, Bool, true, false, not, Option, None, Some, Ok, List, [], ◌∷◌, ◌++◌, length, get_or, take, refl, sym, ◌∙◌, ap, subst, arith}
use Rattle.std.specs.List.{list_any, AllPairs, join_with_byte}
use Rattle.std.specs.Option.{option_map, unwrap_or}
use Rattle.std.specs.Str.{bytes_eq}
use Rattle.std.proofs.Math.Nat.{le_trans}
use Rattle.std.proofs.lemmas.Bool.{or_parts, leb-true, eqb-false, cases_eq, not-true}
use Rattle.std.proofs.lemmas.List.Elements.{All-push}
use Rattle.std.proofs.lemmas.List.Quantifiers.{all_pairs_push}
use Rattle.std.proofs.lemmas.Option.{slice_get-get_or}
use Rattle.std.proofs.lemmas.Slice.Eq.{bytes_eq-Decides}
use mathlib.Core.Logic.{◌⊎◌, inl, inr}
use Rattle.iop_script.specs.Laws.{FitBlock, CanRun, ScriptsCanRun, IsOfVersion, VersionsBound, IsWord, FitLine, CanBeWritten, ScriptsCanBeWritten}
use Rattle.iop_script.specs.Reading.{empty_script, last_tick, with_event, with_args, with_named, next_number, read_lines, read_behind, read_all, script_of}
use Rattle.iop_script.specs.Scripts.{Args, Named, Script}
use Rattle.iop_script.specs.Texts.{line_feed, parts}
use Rattle.iop_script.specs.Versions.{version_of, allows_more}
use Rattle.iop_script.specs.Writing.{args_line, named_line}
use Rattle.iop_script.specs.declared.raise.Raise.{Raise}
use Rattle.iop_script.specs.declared.rule.Rule.TheVariants as rule
use Rattle.iop_script.specs.declared.statements.TheConstants.{MOST_MODULES}
use Rattle.iop_script.specs.declared.version.Version.{Version}
use Rattle.iop_script.specs.declared.version.Version.TheVariants.{One, Two}
use Rattle.iop_script.proofs.GoodLines.{IsGood, says_nothing, says_event, says_args, says_named, after_line-good, first_good}
use Rattle.iop_script.proofs.StatementLaws.{some_value, ok_value, demand_met, CanChange, IsEvent, AreArgs, AreNamed}

-- no event is behind the last one
last_is_last : (events : List Raise) → AllPairs (λ x y. x.at ≤ y.at) events →
    (k : ℕ) (d : Raise) → k < length events → (get_or events k d).at ≤ last_tick events
last_is_last events order k d inside = at (cases_eq k (length events - 1))
  where
    last : last_tick events ≡ (get_or events (length events - 1) d).at
    last =
        ap (λ (o : Option Raise). unwrap_or (option_map (λ (e : Raise). e.at) o) 0)
        (slice_get-get_or events (length events - 1) d (omega arith))

    at : (k ≡ length events - 1) ⊎ (k ≡ length events - 1 → ⊥) →
        (get_or events k d).at ≤ last_tick events
    at (inl same) =
        let here : (get_or events k d).at ≡ last_tick events =
        ap (λ (i : ℕ). (get_or events i d).at) same ∙ sym last in omega arith
    at (inr other) =
        let before = order k (length events - 1) d (omega arith) (omega arith) in
        omega (arith, last)

none_passes : {X : Type 0} (p : X → Bool) (xs : List X) (k : ℕ) (d : X) → list_any p xs ≡ false →
    k < length xs → p (get_or xs k d) ≡ false
none_passes p [] k d none inside = absurd (omega arith)
none_passes p (x ∷ xs) zero d none inside = (or_parts _ _ none).0
none_passes p (x ∷ xs) (suc k) d none inside =
    none_passes p xs k d (or_parts _ _ none).1 (omega arith)

other_name : (a b : List ℕ) → bytes_eq a b ≡ false → a ≢ b
other_name a b other same =
    let is : bytes_eq a b ≡ true = (bytes_eq-Decides a b).1 same in
    let never : false ≡ true = sym other ∙ is in cc

-- what a line leaves of the version's bound
event_bound : (version : Version) (script : Script) (e : Raise) → IsOfVersion version script
    → CanChange version e.up
    → IsOfVersion version (record script { events = script.events ++ e ∷ [] })
event_bound One script e h up = (All-push (λ (x : Raise). x.up ≡ true) script.events e h.0 up, h.1)
event_bound Two script e h up = tt

args_bound : (version : Version) (script : Script) (a : Args) → IsOfVersion version script
    → IsOfVersion version (record script { args = script.args ++ a ∷ [] })
args_bound One script a h = h
args_bound Two script a h = tt

named_bound : (version : Version) (script : Script) (n : Named) → allows_more version ≡ true
    → IsOfVersion version (record script { named = script.named ++ n ∷ [] })
named_bound One script n more = absurd (cc)
named_bound Two script n more = tt

module _ (version : Version) (script : Script) (can : CanBeWritten version script) where
  runs : CanRun script
  runs = can.runs

  with_event-can : (e : Raise) (next : Script) → IsEvent version e → with_event script e ≡ Ok next
      → CanBeWritten version next
  with_event-can e next read is =
      let found = demand_met rule.TickOrder (nat_le (last_tick script.events) e.at) _ next is in
      let behind = leb-true (last_tick script.events) e.at found.0 in
      subst (CanBeWritten version) (ok_value _ _ found.1) (record {
        runs = record {
          order = all_pairs_push (λ (x y : Raise). x.at ≤ y.at) script.events e runs.order
              (λ k d h. le_trans (last_is_last script.events runs.order k d h) behind);
          ticks = All-push (λ (x : Raise). x.at < 2 ^ 63) script.events e runs.ticks read.tick;
          lines = All-push (λ (x : Raise). x.line < 64) script.events e runs.lines read.line;
          modules = runs.modules;
          room = runs.room;
          names = runs.names;
          named_room = runs.named_room;
        };
        in_version = event_bound version script e can.in_version read.up;
        numbers = can.numbers;
        fit = can.fit;
        are_names = can.are_names;
        named_fit = can.named_fit;
      })

  with_args-can : (a : Args) (next : Script) → AreArgs a → with_args script a ≡ Ok next
      → CanBeWritten version next
  with_args-can a next read is =
      let is_same : Args → Bool = λ other. other.number == a.number in
      let found = demand_met rule.ModuleOnce (not (list_any is_same script.args)) _ next is in
      let none = not-true (list_any is_same script.args) found.0 in
      subst (CanBeWritten version) (ok_value _ _ found.1) (record {
        runs = record {
          order = runs.order;
          ticks = runs.ticks;
          lines = runs.lines;
          modules = all_pairs_push (λ (x y : Args). x.number ≢ y.number) script.args a runs.modules
              (λ k d h. eqb-false _ _ (none_passes is_same script.args k d none h));
          room = All-push (λ (x : Args). FitBlock x.words) script.args a runs.room read.room;
          names = runs.names;
          named_room = runs.named_room;
        };
        in_version = args_bound version script a can.in_version;
        numbers = All-push (λ (x : Args). (1 ≤ x.number) × (x.number ≤ MOST_MODULES)) script.args a
            can.numbers (read.least, read.most);
        fit = All-push (λ (x : Args). FitLine x.words (args_line x)) script.args a can.fit read.fit;
        are_names = can.are_names;
        named_fit = can.named_fit;
      })

  with_named-can : (n : Named) (next : Script) → allows_more version ≡ true → AreNamed n
      → with_named script n ≡ Ok next → CanBeWritten version next
  with_named-can n next more read is =
      let is_same : Named → Bool = λ other. bytes_eq other.name n.name in
      let found = demand_met rule.NameOnce (not (list_any is_same script.named)) _ next is in
      let none = not-true (list_any is_same script.named) found.0 in
      subst (CanBeWritten version) (ok_value _ _ found.1) (record {
        runs = record {
          order = runs.order;
          ticks = runs.ticks;
          lines = runs.lines;
          modules = runs.modules;
          room = runs.room;
          names = all_pairs_push (λ (x y : Named). x.name ≢ y.name) script.named n runs.names
              (λ k d h. other_name _ _ (none_passes is_same script.named k d none h));
          named_room = All-push (λ (x : Named). FitBlock x.words) script.named n runs.named_room
              read.room;
        };
        in_version = named_bound version script n more;
        numbers = can.numbers;
        fit = can.fit;
        are_names = All-push (λ (x : Named). IsWord x.name) script.named n can.are_names read.name;
        named_fit = All-push (λ (x : Named). FitLine x.words (named_line x)) script.named n
            can.named_fit read.fit;
      })

  line-can : (line : List ℕ) (next : Script) → IsGood version script line next
      → CanBeWritten version next
  line-can line next (says_nothing remark same) = subst (CanBeWritten version) same can
  line-can line next (says_event e read is taken) = with_event-can e next read taken
  line-can line next (says_args a read is taken) = with_args-can a next read taken
  line-can line next (says_named n read is more taken) = with_named-can n next more read taken

read_lines-can : (version : Version) (number : ℕ) (script : Script) (lines : List (List ℕ))
    (final : Script) → CanBeWritten version script
    → read_lines version number script lines ≡ Ok final → CanBeWritten version final
unfolding read_lines
read_lines-can version number script [] final can is =
    let same : script ≡ final = cc in subst (CanBeWritten version) same can
read_lines-can version number script (line ∷ rest) final can is =
    let good = first_good _ _ _ _ is in
    read_lines-can version (next_number number) good.0 rest final
    (line-can version script can line good.0 (after_line-good version script line good.0 good.1))
    good.2

empty_bound : (version : Version) → IsOfVersion version empty_script
empty_bound One = (λ k d h. absurd (omega arith), refl)
empty_bound Two = tt

empty-can : (version : Version) → CanBeWritten version empty_script
empty-can version = record {
  runs = record {
    order = λ i j d h g. absurd (omega arith);
    ticks = λ k d h. absurd (omega arith);
    lines = λ k d h. absurd (omega arith);
    modules = λ i j d h g. absurd (omega arith);
    room = λ k d h. absurd (omega arith);
    names = λ i j d h g. absurd (omega arith);
    named_room = λ k d h. absurd (omega arith);
  };
  in_version = empty_bound version;
  numbers = λ k d h. absurd (omega arith);
  fit = λ k d h. absurd (omega arith);
  are_names = λ k d h. absurd (omega arith);
  named_fit = λ k d h. absurd (omega arith);
}

-- a script, and the version of the first line, in which it can be written
abbrev CanBeIn : Option Version → Script → Type 0
CanBeIn told script = (version : Version) × (told ≡ Some version) × CanBeWritten version script

behind-can : (told : Option Version) (rest : List (List ℕ)) (final : Script)
    → read_behind told rest ≡ Ok final → CanBeIn told final
behind-can None rest final is = absurd (cc)
behind-can (Some version) rest final is =
    (version, refl, read_lines-can version 2 empty_script rest final (empty-can version) is)

abbrev first_of : List (List ℕ) → List ℕ
first_of lines = join_with_byte line_feed (take 1 lines)

all-can : (lines : List (List ℕ)) (final : Script) → read_all lines ≡ Ok final
    → CanBeIn (version_of (first_of lines)) final
all-can [] final is = absurd (cc)
all-can (first ∷ rest) final is = behind-can (version_of first) rest final is

pub script_of-can : ScriptsCanBeWritten
unfolding script_of
script_of-can bytes script is = all-can (parts line_feed bytes) script is

pub script_of-can_run : ScriptsCanRun
script_of-can_run bytes script is = (script_of-can bytes script is).2.runs

pub script_of-bound : VersionsBound
script_of-bound bytes script version is told =
    let can = script_of-can bytes script is in
    subst (λ (v : Version). IsOfVersion v script) (some_value _ _ (sym can.1 ∙ told))
    can.2.in_version
