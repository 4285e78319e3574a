-- The lines of events, written and read.
use Rattle.std.proofs.Common.{◌≡◌, ℕ, suc, ◌+◌, ◌-◌, ◌^◌, ◌<◌, ◌≤◌, nat_le, Bool, true, false, Option, Some, Ok, List, [], ◌∷◌, ◌++◌, length, map, codes, decimal, append_assoc, append-nil, unwrap_or, option_map, refl, ap, sym, ◌∙◌, subst, arith}
use Rattle.std.specs.List.{All, AllPairs, slice_get}
use Rattle.std.specs.Char.{is_ascii_digit}
use Rattle.std.proofs.lemmas.Bool.{and_parts, le-leb, leb-true, ne_eqb}
use Rattle.std.proofs.lemmas.List.{get_or_push, length-append}
use Rattle.std.proofs.lemmas.List.Elements.{All-nil, All-cons, All-head, All-tail}
use Rattle.std.proofs.lemmas.Option.{slice_get-get_or}
use Rattle.iop_script.specs.Reading.{last_tick, with_event, with_fields, after_line, next_number, unless_bad, read_lines}
use Rattle.iop_script.specs.Rules.{unless_broken}
use Rattle.iop_script.specs.Scripts.{Script}
use Rattle.iop_script.specs.Statements.{raises, event_of}
use Rattle.iop_script.specs.Texts.{line_feed, space, parts}
use Rattle.iop_script.specs.Writing.{change_word, event_line}
use Rattle.iop_script.specs.declared.raise.Raise.{Raise}
use Rattle.iop_script.specs.declared.statements.TheConstants.{LAST_TICK, LAST_LINE}
use Rattle.iop_script.specs.declared.version.Version.{Version}
use Rattle.iop_script.specs.declared.version.Version.TheVariants.{One, Two}
use Rattle.iop_script.proofs.Decimals.{decimal_read, decimal_digits}
use Rattle.iop_script.proofs.PartsJoined.{Differs, Lacks, lacks_by, lacks_tested, joined-lacks, parts-joined}
use Rattle.iop_script.proofs.StatementLaws.{CanChange, IsEvent, word_for, event_fields}

-- digits have no byte below them
digit_differs : (c : ℕ) → c < 48 → (b : ℕ) → is_ascii_digit b ≡ true → Differs c b
digit_differs c low b is =
    let least : 48 ≤ b = leb-true 48 b (and_parts (nat_le 48 b) (nat_le b 57) is).0 in
    ne_eqb b c (λ e. omega (arith, least, e))

pub decimal_lacks : (c n : ℕ) → c < 48 → n < 2 ^ 64 → Lacks c (decimal n)
decimal_lacks c n low small =
    lacks_by c is_ascii_digit (digit_differs c low) (decimal n) (decimal_digits n small)

feed_lacks : (up : Bool) → Lacks line_feed (word_for up)
feed_lacks true = lacks_tested line_feed (codes "line") refl
feed_lacks false = lacks_tested line_feed (codes "release") refl

space_lacks : (up : Bool) → Lacks space (word_for up)
space_lacks true = lacks_tested space (codes "line") refl
space_lacks false = lacks_tested space (codes "release") refl

change_read : (version : Version) (up : Bool) → CanChange version up
    → raises version (word_for up) ≡ Some up
change_read One true can = refl
change_read One false can = absurd (cc)
change_read Two true can = refl
change_read Two false can = refl

module _ (version : Version) (e : Raise) (h : IsEvent version e) where
  fields_lack : (c : ℕ) → c < 48 → Lacks c (change_word e) → All (Lacks c) (event_fields e)
  fields_lack c low word =
      All-cons (Lacks c) (decimal e.at) (change_word e ∷ decimal e.line ∷ [])
      (decimal_lacks c e.at low (omega (arith, h.tick)))
      (All-cons (Lacks c) (change_word e) (decimal e.line ∷ []) word
      (All-cons (Lacks c) (decimal e.line) [] (decimal_lacks c e.line low (omega (arith, h.line)))
      (All-nil (Lacks c))))

  -- its line is one line
  pub event_line-lacks : Lacks line_feed (event_line e)
  event_line-lacks =
      joined-lacks line_feed space refl (codes "at" ∷ event_fields e)
      (All-cons (Lacks line_feed) (codes "at") (event_fields e)
      (lacks_tested line_feed (codes "at") refl)
      (fields_lack line_feed (omega arith) (feed_lacks e.up)))

  event_parts : parts space (event_line e) ≡ codes "at" ∷ event_fields e
  event_parts =
      parts-joined space (codes "at") (event_fields e) (lacks_tested space (codes "at") refl)
      (fields_lack space (omega arith) (space_lacks e.up))

  -- and says it
  event_said : event_of version (event_fields e) ≡ Ok e
  unfolding event_of
  event_said =
      let at = decimal_read 0 LAST_TICK e.at (omega (arith, h.tick)) (omega arith)
      (omega (arith, h.tick)) in
      let up = change_read version e.up h.up in
      let line = decimal_read 0 LAST_LINE e.line (omega (arith, h.line)) (omega arith)
      (omega (arith, h.line)) in
      rw (at, up, line) refl

  pub event_taken : (script : Script) → last_tick script.events ≤ e.at
      → after_line version script (event_line e)
      ≡ Ok (record script { events = script.events ++ e ∷ [] })
  unfolding after_line
  event_taken script late =
      let behind = le-leb (last_tick script.events) e.at late in
      ap (with_fields version script (event_line e)) event_parts
      ∙ ap (λ r. unless_broken r (with_event script)) event_said ∙ (rw behind refl)

-- events none of which is before the one before it, the first not before a tick
abbrev IsFrom : ℕ → List Raise → Type 0
IsFrom tick [] = Unit {0}
IsFrom tick (e ∷ events) = (tick ≤ e.at) × IsFrom e.at events

from_event : (e : Raise) (events : List Raise) → AllPairs (λ x y. x.at ≤ y.at) (e ∷ events)
    → IsFrom e.at events
from_event e [] order = tt
from_event e (next ∷ events) order = (
  order 0 1 e (omega arith) (omega arith),
  from_event next events (λ i j d lt below. order (suc i) (suc j) d (omega arith) (omega arith)),
)

from_start : (events : List Raise) → AllPairs (λ x y. x.at ≤ y.at) events → IsFrom 0 events
from_start [] order = tt
from_start (e ∷ events) order = (omega arith, from_event e events order)

last_of : (events : List Raise) (e : Raise) → last_tick (events ++ e ∷ []) ≡ e.at
last_of events e =
    let len : length (events ++ e ∷ []) ≡ length events + 1 = length-append events (e ∷ []) in
    let place : length (events ++ e ∷ []) - 1 ≡ length events = omega (arith, len) in
    let found = slice_get-get_or (events ++ e ∷ []) (length events) e (omega (arith, len)) in
    ap (λ (n : ℕ).
    unwrap_or (option_map (λ (x : Raise). x.at) (slice_get (events ++ e ∷ []) n)) 0) place
    ∙ ap (λ (o : Option Raise). unwrap_or (option_map (λ (x : Raise). x.at) o) 0) found
    ∙ ap (λ (x : Raise). x.at) (get_or_push events e e (length events) refl)

abbrev pub with_events : List Raise → Script
with_events events = record { events = events; args = []; named = [] }

module _ (version : Version) where
  -- the lines of events, before others
  read_from : (number : ℕ) (before events : List Raise) (more : List (List ℕ)) (final : Script)
      → IsFrom (last_tick before) events → All (IsEvent version) events
      → ((n : ℕ) → read_lines version n (with_events (before ++ events)) more ≡ Ok final)
      → read_lines version number (with_events before) (map event_line events ++ more) ≡ Ok final
  unfolding read_lines
  read_from number before [] more final order all rest =
      ap (λ (es : List Raise). read_lines version number (with_events es) more)
      (sym (append-nil before))
      ∙ rest number
  read_from number before (e ∷ events) more final order all rest =
      let taken = event_taken version e (All-head (IsEvent version) e events all)
      (with_events before) order.0 in
      let lines = map event_line events ++ more in
      ap (unless_bad number
      (λ (next : Script). read_lines version (next_number number) next lines)) taken
      ∙ read_from (next_number number) (before ++ e ∷ []) events more final
      (subst (λ (tick : ℕ). IsFrom tick events) (sym (last_of before e)) order.1)
      (All-tail (IsEvent version) e events all)
      (λ n. ap (λ (es : List Raise). read_lines version n (with_events es) more)
      (append_assoc before (e ∷ []) events)
      ∙ rest n)

  pub events_read : (number : ℕ) (events : List Raise) (more : List (List ℕ)) (final : Script)
      → AllPairs (λ x y. x.at ≤ y.at) events → All (IsEvent version) events
      → ((n : ℕ) → read_lines version n (with_events events) more ≡ Ok final)
      → read_lines version number (with_events []) (map event_line events ++ more) ≡ Ok final
  events_read number events more final order all rest =
      read_from number [] events more final (from_start events order) all rest
