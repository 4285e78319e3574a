-- A library put behind all others leaves a registry. All of them put back in their order are the
-- registry that they were.
use Rattle.std.proofs.Common.{◌≡◌, ◌+◌, ◌==◌, ◌%◌, ◌^◌, ◌<◌, nat_lt, not, if◌then◌else◌, ℕ, Bool, true, false, Option, Some, None, is_some, List, [], ◌∷◌, ◌++◌, length, get_or, append-nil, sym, ap, ◌∙◌, subst, arith}
use Rattle.std.specs.Prelude.{find}
use Rattle.std.proofs.Math.Seq.{get_or-append_seam, append_snoc}
use Rattle.std.proofs.lemmas.Bool.{and_parts, and_from, ltb-true, lt-ltb, eq-eqb}
use Rattle.std.proofs.lemmas.List.{get_or_append_left, length-append}
use Rattle.iop_base.proofs.Lists.{find-none}
use Rattle.iop_registry.specs.Entries.{is_library, IsTable, IsRegistry}
use Rattle.iop_registry.specs.Laws.{RegistriesArePutBack}
use Rattle.iop_registry.specs.Restoring.{has_place, may_follow, with_last, with_all}
use Rattle.iop_registry.proofs.Keeping.{one_more}
use Rattle.iop_registry.proofs.KernelsOwn.{off, is_place}
use Rattle.iop_registry.specs.declared.registry.Entry.{Entry}
use Rattle.iop_registry.specs.declared.registry.TheConstants.{MOST_LIBRARIES}

-- what the test of a library says
pub record Follows (entries : List Entry) (entry : Entry) : Type 0 where
  pub place : has_place entry ≡ true
  pub room : length entries < MOST_LIBRARIES
  pub none : is_some (find (is_library entry.name entry.major) entries) ≡ false

pub follows : (entries : List Entry) (entry : Entry) → may_follow entries entry ≡ true
    → Follows entries entry
follows entries entry may =
    let none = and_parts _ (not (is_some (find (is_library entry.name entry.major) entries))) may in
    let room = and_parts (has_place entry) (nat_lt (length entries) MOST_LIBRARIES) none.0 in
    record {
      place = room.0;
      room = ltb-true _ _ room.1;
      none = off _ none.1;
    }

-- what the call answers, which sees the registry as a list
pub asked : {entries seen : List Entry} {answer : Bool} (entry : Entry) → entries ≡ seen
    → answer ≡ may_follow seen entry → answer ≡ true → may_follow entries entry ≡ true
asked entry same is may =
    ap (λ (entries : List Entry). may_follow entries entry) same ∙ sym is ∙ may

pub one_behind : (entries : List Entry) (entry : Entry) → IsRegistry entries
    → may_follow entries entry ≡ true → IsRegistry (with_last entries entry)
one_behind entries entry h may =
    let f = follows entries entry may in
    one_more entries entry h (is_place entry f.place) f.none f.room

-- a library of a registry, and those before it and behind it
module _ (before : List Entry) (entry : Entry) (later : List Entry)
    (h : IsRegistry (before ++ entry ∷ later)) where
  abbrev all : List Entry
  all = before ++ entry ∷ later

  longer : length before + 1 + length later ≡ length all
  longer = omega (arith, length-append before (entry ∷ later))

  table : IsTable entry.table
  table =
      subst (λ (e : Entry). IsTable e.table) (get_or-append_seam before entry later entry)
      (h.tables (length before) entry (omega (arith, longer)))

  place : has_place entry ≡ true
  place =
      and_from (nat_lt entry.table (2 ^ 29)) (entry.table % 4 == 0) (lt-ltb _ _ table.0)
      (eq-eqb _ _ table.1)

  differs : (k : ℕ) (d : Entry) → k < length before
      → is_library entry.name entry.major (get_or before k d) ≡ false
  differs k d below =
      subst (λ (e : Entry). is_library entry.name entry.major e ≡ false)
      (get_or_append_left before (entry ∷ later) d k below)
      (subst (λ (e : Entry). is_library e.name e.major (get_or all k d) ≡ false)
      (get_or-append_seam before entry later d)
      (h.distinct k (length before) d below (omega (arith, longer))))

  none : find (is_library entry.name entry.major) before ≡ None
  none = find-none (is_library entry.name entry.major) before differs

  room : nat_lt (length before) MOST_LIBRARIES ≡ true
  room = lt-ltb _ _ (omega (arith, longer, h.few))

  may : may_follow before entry ≡ true
  may =
      and_from _ _ (and_from _ _ place room) (ap (λ (o : Option Entry). not (is_some o)) none)

put_behind : (before later : List Entry) → IsRegistry (before ++ later)
    → with_all before later ≡ Some (before ++ later)
put_behind before [] h = ap Some (sym (append-nil before))
put_behind before (entry ∷ later) h =
    let moved = append_snoc before entry later in
    ap (λ (b : Bool). if b then with_all (with_last before entry) later else None)
    (may before entry later h)
    ∙ put_behind (with_last before entry) later (subst IsRegistry (sym moved) h) ∙ ap Some moved

pub put_back-all : RegistriesArePutBack
put_back-all entries h = put_behind [] entries h
