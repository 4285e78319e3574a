-- What is left is a registry where a library is registered, and where those of a range are dropped.
use Rattle.std.proofs.Common.{◌≡◌, ℕ, ◌<◌, Bool, true, false, cond, not, Option, Some, is_some, List, [], ◌∷◌, ◌++◌, length, get_or, zero, suc, refl, arith}
use Rattle.std.specs.List.{find}
use Rattle.std.proofs.lemmas.List.Elements.{All-push, All-filter}
use Rattle.std.proofs.lemmas.List.Kept.{AllPairs-filter}
use Rattle.std.proofs.lemmas.List.Quantifiers.{all_pairs_push}
use Rattle.std.proofs.lemmas.List.Sums.{length-filter, count_by-le-length}
use Rattle.std.proofs.lemmas.Grind.{length_at_push}
use Rattle.iop_registry.specs.Entries.{is_library, lies_in, drop_range, IsTable, IsRegistry}
use Rattle.iop_registry.specs.declared.registry.TheConstants.{MOST_LIBRARIES}
use Rattle.iop_registry.specs.declared.registry.Entry.{Entry}

-- where a search that begins with an element finds nothing
none_in : (passes : Bool) (entry : Entry) (later : Option Entry)
    → is_some (cond passes (Some entry) later) ≡ false → (passes ≡ false) × (is_some later ≡ false)
none_in true entry later none = cc
none_in false entry later none = (refl, none)

-- what is not found stands nowhere
not_found : (test : Entry → Bool) (entries : List Entry) → is_some (find test entries) ≡ false
    → (k : ℕ) (d : Entry) → k < length entries → test (get_or entries k d) ≡ false
not_found test [] none k d below = absurd (omega arith)
not_found test (entry ∷ entries) none zero d below =
    (none_in (test entry) entry (find test entries) none).0
not_found test (entry ∷ entries) none (suc k) d below =
    not_found test entries (none_in (test entry) entry (find test entries) none).1 k d (omega arith)

pub one_more : (entries : List Entry) (entry : Entry) → IsRegistry entries → IsTable entry.table
    → is_some (find (is_library entry.name entry.major) entries) ≡ false
    → length entries < MOST_LIBRARIES → IsRegistry (entries ++ entry ∷ [])
one_more entries entry h table none below = record {
  few = omega (arith, (length_at_push entries entry).1);
  tables = All-push (λ e. IsTable e.table) entries entry h.tables table;
  distinct = all_pairs_push
      (λ first second. is_library second.name second.major first ≡ false) entries entry h.distinct
      (not_found (is_library entry.name entry.major) entries none);
}

pub without_range : (entries : List Entry) (from len : ℕ) → IsRegistry entries
    → IsRegistry (drop_range entries from len)
without_range entries from len h =
    let is_outside : Entry → Bool = λ entry. not (lies_in from len entry) in
    record {
      few = omega (
        arith,
        length-filter is_outside entries,
        count_by-le-length is_outside entries,
        h.few,
      );
      tables = All-filter is_outside (λ e. IsTable e.table) entries h.tables;
      distinct = AllPairs-filter
          (λ first second. is_library second.name second.major first ≡ false) is_outside entries
          h.distinct;
    }
