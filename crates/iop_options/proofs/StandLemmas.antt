-- Where a walk of `clap` over the words stands, in terms of the parts that the words give.
use Rattle.std.proofs.Common.{◌≡◌, true, false, Option, Some, None, List, [], ◌∷◌, fold, codes, refl, sym, ap}
use Rattle.std.specs.Prelude.{option_and_then}
use Rattle.std.specs.Option.{option_map_or}
use Rattle.clap.specs.Walk.{Rule, Row, Text, Held, Waiting, idle, option, positional, Walk, used, settled, settled_rows, used_by_id, walked}
use Rattle.clap.specs.Kinds.{Kinds, or_else}
use Rattle.clap.specs.Faults.{use_fault, settle_fault, turn_fault, walk_fault}
use Rattle.clap.specs.declared.error.kind.ErrorKind.TheVariants as kind
use Rattle.iop_options.specs.Words.{is_option}
use Rattle.iop_options.specs.Parts.{Part, value, file, part_before}
use Rattle.iop_options.proofs.RuleLemmas.{option_built, file_built, iop_rules, iop_shape, arg_by_id-option, arg_by_id-file}

-- what is left where a step fails by some kinds: nothing, unless it passes
abbrev pub unless_fails : {A : Type 0} → Kinds → Option A → Option A
unless_fails [] left = left
unless_fails (k ∷ ks) left = None

pub unless_fails-or_else : {A : Type 0} (a b : Kinds) (left : Option A)
    → unless_fails (or_else a b) left ≡ unless_fails a (unless_fails b left)
unless_fails-or_else [] b left = refl
unless_fails-or_else (k ∷ ks) b left = refl

pub unless_fails-None : {A : Type 0} (a : Kinds) → unless_fails {A = A} a None ≡ None
unless_fails-None [] = refl
unless_fails-None (k ∷ ks) = refl

-- ---- parts in the rows of `clap`

abbrev pub rule_for : Part → Rule
rule_for (value name text) = option_built name
rule_for (file word) = file_built

abbrev pub text_in : Part → Text
text_in (value name text) = text
text_in (file word) = word

abbrev pub part_fault : List Row → Part → Kinds
part_fault rows part = use_fault false (rule_for part) (text_in part ∷ []) rows

abbrev pub part_used : List Row → Part → List Row
part_used rows part = used (rule_for part) (text_in part ∷ []) rows

-- the rows after parts, if each may be added
abbrev pub parts_used : List Row → List Part → Option (List Row)
parts_used rows [] = Some rows
parts_used rows (part ∷ parts) =
    unless_fails (part_fault rows part) (parts_used (part_used rows part) parts)

abbrev pub given_used : List Row → Option (List Part) → Option (List Row)
given_used rows given = option_and_then (parts_used rows) given

pub given_used-before : (rows : List Row) (part : Part) (given : Option (List Part))
    → given_used rows (part_before part given)
    ≡ unless_fails (part_fault rows part) (given_used (part_used rows part) given)
given_used-before rows part None = sym (unless_fails-None (part_fault rows part))
given_used-before rows part (Some parts) = refl

-- ---- where a walk stands

pub data Stand : Type 0 where
  -- no option waits, and the last part may not be counted yet
  ready : Option Part → Stand
  -- an option waits for its value
  wanting : (name : Text) → Stand

-- the options that it speaks of are options of the command
abbrev pub IsKnown : Stand → Type 0
IsKnown (ready None) = Unit {0}
IsKnown (ready (Some (value name text))) = is_option name ≡ true
IsKnown (ready (Some (file word))) = Unit {0}
IsKnown (wanting name) = is_option name ≡ true

abbrev pub pending_at : Stand → Option (Text × List Text)
pending_at (ready None) = None
pending_at (ready (Some (value name text))) = Some (name, text ∷ [])
pending_at (ready (Some (file word))) = Some (codes "module", word ∷ [])
pending_at (wanting name) = Some (name, [])

abbrev pub waiting_at : Stand → Waiting
waiting_at (ready None) = idle
waiting_at (ready (Some (value name text))) = idle
waiting_at (ready (Some (file word))) = positional
waiting_at (wanting name) = option name

abbrev pub held_at : List Row → Stand → Held
held_at rows stand = record { rows = rows; pending = pending_at stand; skip = 0 }

-- what is wrong with what is not counted yet, and the rows once it is
abbrev pub fault_at : List Row → Stand → Kinds
fault_at rows (ready None) = []
fault_at rows (ready (Some part)) = part_fault rows part
fault_at rows (wanting name) = kind.InvalidValue ∷ []

abbrev pub rows_at : List Row → Stand → List Row
rows_at rows (ready None) = rows
rows_at rows (ready (Some part)) = part_used rows part
rows_at rows (wanting name) = used (option_built name) [] rows

pub settle_fault-at : (rows : List Row) (stand : Stand) → IsKnown stand
    → settle_fault iop_rules false (held_at rows stand) ≡ fault_at rows stand
settle_fault-at rows (ready None) known = refl
settle_fault-at rows (ready (Some (value name text))) known =
    ap (λ o. option_map_or (λ a. use_fault false a (text ∷ []) rows) o [])
    (arg_by_id-option name known)
settle_fault-at rows (ready (Some (file word))) known =
    ap (λ o. option_map_or (λ a. use_fault false a (word ∷ []) rows) o []) arg_by_id-file
settle_fault-at rows (wanting name) known =
    ap (λ o. option_map_or (λ a. use_fault false a [] rows) o []) (arg_by_id-option name known)

pub settled_rows-at : (rows : List Row) (stand : Stand) → IsKnown stand
    → settled_rows iop_rules (pending_at stand) rows ≡ rows_at rows stand
settled_rows-at rows (ready None) known = refl
settled_rows-at rows (ready (Some (value name text))) known =
    ap (λ o. used_by_id o (text ∷ []) rows) (arg_by_id-option name known)
settled_rows-at rows (ready (Some (file word))) known =
    ap (λ o. used_by_id o (word ∷ []) rows) arg_by_id-file
settled_rows-at rows (wanting name) known =
    ap (λ o. used_by_id o [] rows) (arg_by_id-option name known)

-- ---- walks

abbrev pub walk_at : Held → Waiting → Walk
walk_at held waiting = record {
  held = held;
  waiting = waiting;
  position = 1;
  is_trailing = false;
  stopped = None;
}

-- behind `--`
abbrev pub trail_at : Held → Waiting → Walk
trail_at held waiting = record {
  held = held;
  waiting = waiting;
  position = 1;
  is_trailing = true;
  stopped = None;
}

-- the rows at the end of a walk over these words, if it passes
abbrev pub ended_by : Held → Option (List Row)
ended_by end = unless_fails (settle_fault iop_rules false end) (Some (settled iop_rules end).rows)

abbrev pub ended : Walk → List Text → Option (List Row)
ended w words = unless_fails (walk_fault iop_shape [] w words)
    (ended_by (fold (walked iop_rules []) w words).held)

pub ended-none : (w : Walk) → ended w [] ≡ ended_by w.held
unfolding walk_fault
ended-none w = refl

pub ended-more : (w : Walk) (word : Text) (behind : List Text)
    → ended w (word ∷ behind) ≡ unless_fails (turn_fault iop_shape [] w word)
    (ended (walked iop_rules [] w word) behind)
unfolding walk_fault
ended-more w word behind = unless_fails-or_else (turn_fault iop_shape [] w word)
    (walk_fault iop_shape [] (walked iop_rules [] w word) behind)
    (ended_by (fold (walked iop_rules []) (walked iop_rules [] w word) behind).held)

-- the end of a walk that stands somewhere
pub ended_by-at : (rows : List Row) (stand : Stand) → IsKnown stand
    → ended_by (held_at rows stand)
    ≡ unless_fails (fault_at rows stand) (Some (rows_at rows stand))
ended_by-at rows stand known i =
    unless_fails (settle_fault-at rows stand known i) (Some (settled_rows-at rows stand known i))
