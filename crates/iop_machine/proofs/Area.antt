-- What stands in the kernel's area.
use Rattle.std.proofs.Common.{◌≡◌, ℕ, zero, suc, ◌+◌, ◌*◌, ◌<◌, ◌≤◌, nat_eq, true, List, [], ◌++◌, length, take, drop, replicate, append-nil, append_assoc, refl, ap, sym, ◌∙◌, subst, arith}
use Rattle.std.specs.Prelude.{slice_index_or}
use Rattle.std.proofs.lemmas.Bool.Decides.{nat_tests}
use Rattle.std.proofs.lemmas.List.{length-append, length-drop, drop-append-le, take-append-le, length-replicate, take-take, drop-drop, drop-take}
use Rattle.std.proofs.lemmas.List.Elements.{All-get_or}
use Rattle.std.proofs.lemmas.List.Sums.{AllPass-from_list_all}
use Rattle.std.proofs.Math.Seq.{drop-append_seam, take-append_seam}
use borrow.Author.Count.{below_more}
use Rattle.iop_base.specs.Numbers.{with_bytes, bytes_of}
use Rattle.iop_base.specs.declared.libraries.TheConstants.{KERNEL_LIBRARIES}
use Rattle.iop_base.specs.declared.words.TheConstants.{EXPORT_MAGIC}
use Rattle.iop_base.proofs.Lists.{bytes_inside, bytes_before}
use Rattle.iop_base.proofs.Memory.{length-with_bytes}
use Rattle.iop_registry.specs.declared.registry.TheConstants.{KERNEL_TABLES_AT, KERNEL_TABLE_LEN, FIRST_LIBRARIES, LATER_TABLES_AT}
use Rattle.iop_services.specs.declared.codes.TheConstants.{SERVICES}
use Rattle.iop_stubs.specs.Stubs.{Memory}
use Rattle.iop_thread.specs.declared.thread.TheConstants.{THREAD_RETURN}
use Rattle.iop_machine.specs.declared.kernel_area.TheConstants.{AREA_LEN, VERSION, TABLE_REST, SERVICES_AT, SERVICES_LEN, SERVICE_LEN, LATER_LIBRARIES}
use Rattle.iop_machine.specs.KernelArea.{each, function_of, table_of, service_of, services_of, tables, first_tables, later_tables, returns, services, with_tables, kernel_area}
use Rattle.iop_machine.specs.World.{zeros}

pub length-zeros : (n : ℕ) → length (zeros n) ≡ n
unfolding zeros
length-zeros n = length-replicate n 0

-- these bytes stand at a place
pub record HasBytes (memory : List ℕ) (at : ℕ) (bytes : List ℕ) : Type 0 where
  pub part : take (length bytes) (drop at memory) ≡ bytes

-- and so does each part of them
module _ {memory : List ℕ} {at : ℕ} (a b : List ℕ) (h : HasBytes memory at (a ++ b)) where
  pub has_first : HasBytes memory at a
  has_first = record {
    part = sym (take-take (length a) (length (a ++ b)) (drop at memory)
        (omega (arith, length-append a b)))
        ∙ ap (take (length a)) h.part ∙ take-append_seam a b;
  }

  pub has_second : HasBytes memory (at + length a) b
  has_second = record {
    part = ap (take (length b)) (sym (drop-drop (length a) at memory))
        ∙ sym (drop-take (length a) (length b) (drop at memory))
        ∙ ap (λ n. drop (length a) (take n (drop at memory))) (sym (length-append a b))
        ∙ ap (drop (length a)) h.part ∙ drop-append_seam a b;
  }

-- a row of items that are equally long
module _ (item : ℕ → List ℕ) (width : ℕ) where
  abbrev AreLong : ℕ → Type 0
  AreLong n = (i : ℕ) → i < n → length (item i) ≡ width

  length-each : (n : ℕ) → AreLong n → length (each item n) ≡ n * width
  unfolding each
  length-each zero long = omega arith
  length-each (suc n) long =
      omega (
        arith,
        length-append (each item n) (item n),
        length-each n (λ i lt. long i (omega arith)),
        long n (omega arith),
      )

  pub has_item : {memory : List ℕ} {at : ℕ} (n i : ℕ) → AreLong n → i < n
      → HasBytes memory at (each item n) → HasBytes memory (at + i * width) (item i)
  unfolding each
  has_item zero i long lt h = absurd (omega arith)
  has_item {memory} {at} (suc n) i long lt h =
      let before : AreLong n = λ k few. long k (omega arith) in
      below_more (λ k. HasBytes memory (at + k * width) (item k)) n
      (λ k few. has_item n k before few (has_first (each item n) (item n) h))
      (subst (λ p. HasBytes memory (at + p) (item n)) (length-each n before)
      (has_second (each item n) (item n) h))
      i (omega arith)

-- none of them, and one more
pub each_zero : (item : ℕ → List ℕ) → each item 0 ≡ []
unfolding each
each_zero item = refl

pub each_suc : (item : ℕ → List ℕ) (n : ℕ) → each item (n + 1) ≡ each item n ++ item n
unfolding each
each_suc item n = let next : suc n ≡ n + 1 = omega arith in ap (each item) (sym next)

-- behind others
pub each_none : (item : ℕ → List ℕ) (old : List ℕ) → old ++ each item 0 ≡ old
unfolding each
each_none item old = append-nil old

pub each_more : (item : ℕ → List ℕ) (old : List ℕ) (n : ℕ)
    → old ++ each item (n + 1) ≡ old ++ each item n ++ item n
each_more item old n =
    ap (λ row. old ++ row) (each_suc item n) ∙ sym (append_assoc old (each item n) (item n))

pub ruleset rows = (each_zero, each_suc, each_none, each_more)

-- what is stored into the first bytes of memory is stored into these bytes
stored_in_front : (memory first bytes : List ℕ) (p : ℕ) → p + length bytes ≤ length first
    → with_bytes (with_bytes memory 0 first) p bytes
    ≡ with_bytes memory 0 (with_bytes first p bytes)
stored_in_front memory first bytes p inside =
    let rest = drop (0 + length first) memory in
    ap (λ l. l ++ bytes ++ drop (p + length bytes) (first ++ rest))
    (take-append-le p first rest (omega arith))
    ∙ ap (λ l. take p first ++ bytes ++ l) (drop-append-le (p + length bytes) first rest inside)
    ∙ sym (append_assoc (take p first ++ bytes) (drop (p + length bytes) first) rest)
    ∙ ap (λ n. with_bytes first p bytes ++ drop (0 + n) memory)
    (sym (length-with_bytes first p bytes inside))

-- a part of the first of two lists
pub part_of_first : (a b : List ℕ) (p n : ℕ) → p + n ≤ length a
    → take n (drop p (a ++ b)) ≡ take n (drop p a)
part_of_first a b p n fits =
    ap (take n) (drop-append-le p a b (omega arith))
    ∙ take-append-le n (drop p a) b (omega (arith, length-drop p a))

-- a name has eight bytes
pub length-name : (library : ℕ) → library < length KERNEL_LIBRARIES
    → length (slice_index_or KERNEL_LIBRARIES library []) ≡ 8
length-name library below =
    let is_eight = λ (name : List ℕ). nat_eq (length name) 8 in
    let eight = All-get_or (λ name. is_eight name ≡ true) KERNEL_LIBRARIES library [] below
    (AllPass-from_list_all is_eight KERNEL_LIBRARIES refl) in
    grind (arith, nat_tests, eight)

pub length-functions : (library : ℕ)
    → length (each (function_of library) SERVICES) ≡ SERVICES * 4
length-functions library = length-each (function_of library) 4 SERVICES (λ i lt. refl)

pub length-table : (library : ℕ) → library < length KERNEL_LIBRARIES
    → length (table_of library) ≡ KERNEL_TABLE_LEN
unfolding table_of
length-table library below =
    let name = slice_index_or KERNEL_LIBRARIES library [] in
    let start = bytes_of 4 EXPORT_MAGIC ++ bytes_of 4 0 ++ bytes_of 4 VERSION in
    let functions = each (function_of library) SERVICES in
    omega (
      arith,
      length-append start name,
      length-name library below,
      length-append (start ++ name) functions,
      length-functions library,
      length-append (start ++ name ++ functions) (bytes_of 4 0),
      length-append (start ++ name ++ functions ++ bytes_of 4 0) (zeros TABLE_REST),
      length-zeros TABLE_REST,
    )

-- a table that was appended part by part
pub table_is : (old : List ℕ) (library : ℕ)
    → old ++ bytes_of 4 EXPORT_MAGIC ++ bytes_of 4 0 ++ bytes_of 4 VERSION
    ++ slice_index_or KERNEL_LIBRARIES library [] ++ each (function_of library) SERVICES
    ++ bytes_of 4 0 ++ replicate TABLE_REST 0 ≡ old ++ table_of library
unfolding table_of zeros
table_is old library = simp append_assoc

pub length-services : (library : ℕ) → length (services_of library) ≡ SERVICES_LEN
length-services library = length-each (service_of library) SERVICE_LEN SERVICES (λ i lt. refl)

-- those of libraries that there are
abbrev pub AreThere : (first count : ℕ) → Type 0
AreThere first count = first + count ≤ length KERNEL_LIBRARIES

pub length-table_from : (first count i : ℕ) → AreThere first count → i < count
    → length (table_of (first + i)) ≡ KERNEL_TABLE_LEN
length-table_from first count i there below =
    length-table (first + i) (omega (arith, there, below))

pub length-tables : (first count : ℕ) → AreThere first count
    → length (tables first count) ≡ count * KERNEL_TABLE_LEN
length-tables first count there =
    length-each (λ i. table_of (first + i)) KERNEL_TABLE_LEN count
    (λ i below. length-table_from first count i there below)

pub length-first_tables : length first_tables ≡ FIRST_LIBRARIES * KERNEL_TABLE_LEN
length-first_tables = length-tables 0 FIRST_LIBRARIES (omega arith)

pub length-later_tables : length later_tables ≡ LATER_LIBRARIES * KERNEL_TABLE_LEN
length-later_tables = length-tables FIRST_LIBRARIES LATER_LIBRARIES (omega arith)

pub length-all_services : length services ≡ length KERNEL_LIBRARIES * SERVICES_LEN
length-all_services =
    length-each services_of SERVICES_LEN (length KERNEL_LIBRARIES) (λ i lt. length-services i)

-- the area as it is written, one region after the other
abbrev with_later : List ℕ
with_later = with_bytes (zeros AREA_LEN) LATER_TABLES_AT later_tables

abbrev with_returns : List ℕ
with_returns = with_bytes with_tables THREAD_RETURN returns

later_fit : LATER_TABLES_AT + length later_tables ≤ length (zeros AREA_LEN)
later_fit = omega (arith, length-later_tables, length-zeros AREA_LEN)

length-with_later : length with_later ≡ AREA_LEN
length-with_later =
    length-with_bytes (zeros AREA_LEN) LATER_TABLES_AT later_tables later_fit
    ∙ length-zeros AREA_LEN

first_fit : KERNEL_TABLES_AT + length first_tables ≤ length with_later
first_fit = omega (arith, length-first_tables, length-with_later)

length-with_tables : length with_tables ≡ AREA_LEN
length-with_tables =
    length-with_bytes with_later KERNEL_TABLES_AT first_tables first_fit ∙ length-with_later

returns_fit : THREAD_RETURN + length returns ≤ length with_tables
returns_fit = omega (arith, length-with_tables)

length-with_returns : length with_returns ≡ AREA_LEN
length-with_returns =
    length-with_bytes with_tables THREAD_RETURN returns returns_fit ∙ length-with_tables

services_fit : SERVICES_AT + length services ≤ length with_returns
services_fit = omega (arith, length-all_services, length-with_returns)

pub length-kernel_area : length kernel_area ≡ AREA_LEN
unfolding kernel_area
length-kernel_area =
    length-with_bytes with_returns SERVICES_AT services services_fit ∙ length-with_returns

area_written : (ram : List ℕ)
    → with_bytes (with_bytes (with_bytes
    (with_bytes (with_bytes ram 0 (zeros AREA_LEN)) LATER_TABLES_AT later_tables) KERNEL_TABLES_AT
    first_tables) THREAD_RETURN returns) SERVICES_AT services ≡ with_bytes ram 0 kernel_area
unfolding kernel_area
area_written ram =
    ap (λ m. with_bytes (with_bytes (with_bytes m KERNEL_TABLES_AT first_tables) THREAD_RETURN
    returns) SERVICES_AT services)
    (stored_in_front ram (zeros AREA_LEN) later_tables LATER_TABLES_AT later_fit)
    ∙ ap (λ m. with_bytes (with_bytes m THREAD_RETURN returns) SERVICES_AT services)
    (stored_in_front ram with_later first_tables KERNEL_TABLES_AT first_fit)
    ∙ ap (λ m. with_bytes m SERVICES_AT services)
    (stored_in_front ram with_tables returns THREAD_RETURN returns_fit)
    ∙ stored_in_front ram with_returns services SERVICES_AT services_fit

-- memory with bytes stored at a place
abbrev pub with_region : Memory → ℕ → List ℕ → Memory
with_region memory at bytes = record memory { ram = with_bytes memory.ram at bytes }

-- the area stored region by region is the area stored as one
pub area_stored : (old cleared later first second new : Memory) (d a b c : List ℕ)
    → cleared ≡ with_region old 0 (zeros AREA_LEN)
    → later ≡ with_region cleared LATER_TABLES_AT d → d ≡ later_tables
    → first ≡ with_region later KERNEL_TABLES_AT a → a ≡ first_tables
    → second ≡ with_region first THREAD_RETURN b → b ≡ returns
    → new ≡ with_region second SERVICES_AT c → c ≡ services → new ≡ with_region old 0 kernel_area
area_stored old cleared later first second new d a b c zeroed start d_is one a_is two b_is three
    c_is =
    let to_later = start ∙ ap (with_region cleared LATER_TABLES_AT) d_is
    ∙ ap (λ m. with_region m LATER_TABLES_AT later_tables) zeroed in
    let to_first = one ∙ ap (with_region later KERNEL_TABLES_AT) a_is
    ∙ ap (λ m. with_region m KERNEL_TABLES_AT first_tables) to_later in
    let to_second = two ∙ ap (with_region first THREAD_RETURN) b_is
    ∙ ap (λ m. with_region m THREAD_RETURN returns) to_first in
    three ∙ ap (with_region second SERVICES_AT) c_is
    ∙ ap (λ m. with_region m SERVICES_AT services) to_second
    ∙ ap (λ ram. record old { ram = ram }) (area_written old.ram)

-- the area has the tables
has_with_tables : (at : ℕ) (bytes : List ℕ) → at + length bytes ≤ THREAD_RETURN
    → HasBytes with_tables at bytes → HasBytes kernel_area at bytes
unfolding kernel_area
has_with_tables at bytes before there =
    let n = length bytes in
    record {
      part = bytes_before with_returns SERVICES_AT services services_fit at n
          (omega (arith, before))
          ∙ bytes_before with_tables THREAD_RETURN returns returns_fit at n before ∙ there.part;
    }

-- each region stands in the area
pub has_later_tables : HasBytes kernel_area LATER_TABLES_AT later_tables
has_later_tables =
    let n = length later_tables in
    has_with_tables LATER_TABLES_AT later_tables (omega (arith, length-later_tables)) (record {
      part = bytes_before with_later KERNEL_TABLES_AT first_tables first_fit LATER_TABLES_AT n
          (omega (arith, length-later_tables))
          ∙ bytes_inside (zeros AREA_LEN) LATER_TABLES_AT later_tables later_fit;
    })

pub has_first_tables : HasBytes kernel_area KERNEL_TABLES_AT first_tables
has_first_tables =
    has_with_tables KERNEL_TABLES_AT first_tables (omega (arith, length-first_tables)) (record {
      part = bytes_inside with_later KERNEL_TABLES_AT first_tables first_fit;
    })

pub has_returns : HasBytes kernel_area THREAD_RETURN returns
unfolding kernel_area
has_returns = record {
  part = bytes_before with_returns SERVICES_AT services services_fit THREAD_RETURN (length returns)
      (omega arith)
      ∙ bytes_inside with_tables THREAD_RETURN returns returns_fit;
}

pub has_services : HasBytes kernel_area SERVICES_AT services
unfolding kernel_area
has_services = record { part = bytes_inside with_returns SERVICES_AT services services_fit }
