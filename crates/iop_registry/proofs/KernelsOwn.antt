-- The kernel's own libraries are a registry.
use Rattle.std.proofs.Common.{◌≡◌, ◌&&◌, not, ◌==◌, ◌%◌, ◌^◌, nat_lt, Bool, true, false, List, [], ◌∷◌, refl, arith}
use Rattle.std.specs.Prelude.{All, AllPairs}
use Rattle.std.specs.List.{list_all}
use Rattle.std.proofs.lemmas.Bool.Decides.{nat_tests}
use Rattle.std.proofs.lemmas.List.Elements.{All-cons}
use Rattle.std.proofs.lemmas.List.Kept.{AllPairs-cons}
use Rattle.iop_registry.specs.Entries.{is_library, IsTable, IsRegistry}
use Rattle.iop_registry.specs.KernelLibraries.{kernel_libraries}
use Rattle.iop_registry.specs.Restoring.{has_place}
use Rattle.iop_registry.specs.declared.registry.Entry.{Entry}

both : (a b : Bool) → (a && b) ≡ true → (a ≡ true) × (b ≡ true)
both true b is = (refl, is)
both false b is = absurd (cc is)

pub off : (b : Bool) → not b ≡ true → b ≡ false
off false is = refl
off true is = absurd (cc is)

-- an entry is not that of another one's name and major version
abbrev differs : Entry → Entry → Bool
differs first second = not (is_library second.name second.major first)

abbrev all_differ : List Entry → Bool
all_differ [] = true
all_differ (entry ∷ entries) = list_all (differs entry) entries && all_differ entries

differs_from_all : (first : Entry) (entries : List Entry) → list_all (differs first) entries ≡ true
    → All (λ second. is_library second.name second.major first ≡ false) entries
differs_from_all first [] all = λ i d below. absurd (omega (arith, below))
differs_from_all first (entry ∷ entries) all =
    let is = both (differs first entry) (list_all (differs first) entries) all in
    All-cons (λ second. is_library second.name second.major first ≡ false) entry entries
    (off (is_library entry.name entry.major first) is.0) (differs_from_all first entries is.1)

distinct : (entries : List Entry) → all_differ entries ≡ true
    → AllPairs (λ first second. is_library second.name second.major first ≡ false) entries
distinct [] all = λ i j d less below. absurd (omega (arith, below))
distinct (entry ∷ entries) all =
    let is = both (list_all (differs entry) entries) (all_differ entries) all in
    AllPairs-cons (λ first second. is_library second.name second.major first ≡ false) entry entries
    (differs_from_all entry entries is.0) (distinct entries is.1)

pub is_place : (entry : Entry) → has_place entry ≡ true → IsTable entry.table
is_place entry is =
    let place = both (nat_lt entry.table (2 ^ 29)) (entry.table % 4 == 0) is in
    (grind (arith, nat_tests, place.0), grind (arith, nat_tests, place.1))

has_places : (entries : List Entry) → list_all has_place entries ≡ true
    → All (λ entry. IsTable entry.table) entries
has_places [] all = λ i d below. absurd (omega (arith, below))
has_places (entry ∷ entries) all =
    let is = both (has_place entry) (list_all has_place entries) all in
    All-cons (λ entry. IsTable entry.table) entry entries
    (is_place entry is.0) (has_places entries is.1)

pub kernels_own : IsRegistry kernel_libraries
kernels_own = record {
  few = omega arith;
  tables = has_places kernel_libraries refl;
  distinct = distinct kernel_libraries refl;
}
