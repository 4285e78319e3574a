-- The kernel's area as the linker and the processor read it.
use Rattle.std.proofs.Common.{◌≡◌, ℕ, ◌+◌, ◌-◌, ◌*◌, ◌^◌, ◌<◌, ◌≤◌, nat_lt, Some, None, List, [], ◌++◌, length, take, drop, get_or, refl, ap, sym, ◌∙◌, subst, arith, nat_eq, cond, inl, inr, replicate}
use Rattle.std.proofs.lemmas.Bool.{cond_both, eq-eqb}
use Rattle.std.proofs.lemmas.Bool.Decides.{nat_tests}
use Rattle.std.proofs.lemmas.List.{get_or-drop, get_or-map, get_or-take, length-append}
use Rattle.std.proofs.lemmas.List.FromFn.{get_or-enumerate_from}
use Rattle.std.proofs.lemmas.Option.{get_or_from_slice_get, slice_get_within}
use Rattle.std.specs.List.{enumerate_from, slice_get}
use Rattle.std.specs.Prelude.{slice_index_or}
use Rattle.iop_base.proofs.Lists.{number_at-word}
use Rattle.iop_base.specs.Numbers.{number_at, half_at, word_at, bytes_of}
use Rattle.iop_base.specs.declared.libraries.TheConstants.{KERNEL_LIBRARIES}
use Rattle.iop_base.specs.declared.words.TheConstants.{EXPORT_MAGIC, JUMP_BACK}
use Rattle.iop_isa.specs.Instructions.{inst_of}
use Rattle.iop_isa.specs.Table.{row_of}
use Rattle.iop_isa.specs.Words.{opcode_of, n_of, function_of as function_field}
use Rattle.iop_isa.specs.declared.instruction.Inst.TheVariants.{Jr, Syscall}
use Rattle.iop_kernel.specs.declared.call.TheConstants.{THREAD_RETURN_CALL, HANDLER_RETURN_CALL, MODULE_RETURN_CALL}
use Rattle.iop_registry.specs.KernelLibraries.{kernel_table, kernel_library, kernel_libraries}
use Rattle.iop_registry.specs.declared.registry.Entry.{Entry}
use Rattle.iop_registry.specs.declared.registry.TheConstants.{KERNEL_TABLES_AT, KERNEL_TABLE_LEN, FIRST_LIBRARIES, LATER_TABLES_AT}
use Rattle.iop_services.specs.Codes.{service_code}
use Rattle.iop_services.specs.declared.codes.TheConstants.{SERVICES}
use Rattle.iop_thread.specs.declared.thread.TheConstants.{THREAD_RETURN}
use Rattle.irx_tables.proofs.Exporting.{functions_are, function_is}
use Rattle.irx_tables.specs.Exports.{header_of, functions}
use Rattle.irx_tables.specs.Places.{name_at}
use Rattle.irx_tables.specs.declared.words.TheConstants.{HEADER_BYTES}
use Rattle.iop_machine.specs.AreaLaws.{HasCall, HasService, HasLibrary, HasKernel, KernelAreaIsRead}
use Rattle.iop_machine.specs.KernelArea.{syscall_word, service_at, each, function_of, table_of, service_of, services_of, return_of, tables, returns, services, kernel_area}
use Rattle.iop_machine.specs.World.{zeros}
use Rattle.iop_machine.specs.declared.arguments.TheConstants.{ARGUMENTS}
use Rattle.iop_machine.specs.declared.kernel_area.TheConstants.{VERSION, TABLE_REST, LATER_LIBRARIES, SERVICES_AT, SERVICES_LEN, SERVICE_LEN}
use Rattle.iop_machine.proofs.Area.{HasBytes, has_first, has_second, has_item, length-name, length-functions, AreThere, length-table_from, length-tables, length-services, length-all_services, has_first_tables, has_later_tables, has_returns, has_services}
use Rattle.iop_machine.proofs.AreaHolding.{HoldsArea, area_holds, holds_bytes}

calls_with : (word code : ℕ) → word ≡ syscall_word code → code < 2 ^ 20
    → inst_of word ≡ Some (Syscall code)
unfolding inst_of row_of
calls_with word code e below =
    let in_opcode : opcode_of word ≡ 0 = omega arith in
    let in_function : function_field word ≡ 0xC = omega arith in
    let in_code : n_of word ≡ code = omega arith in
    rw (in_opcode, in_function, in_code) refl

jumps_back : inst_of JUMP_BACK ≡ Some (Jr 31)
unfolding inst_of row_of
jumps_back = refl

header_by : (word : ℕ) (header : List ℕ × ℕ) → word ≡ EXPORT_MAGIC
    → cond (nat_eq word EXPORT_MAGIC) (Some header) None ≡ Some header
header_by word header e = rw e refl

module _ {memory : List ℕ} {at : ℕ} where
  -- a byte of those that are known
  byte_of : (bytes : List ℕ) (k : ℕ) → k < length bytes → HasBytes memory at bytes
      → get_or memory (at + k) 0 ≡ get_or bytes k 0
  byte_of bytes k below h =
      sym (get_or-take (length bytes) (drop at memory) k 0 below ∙ get_or-drop at memory k 0)
      ∙ ap (λ l. get_or l k 0) h.part

  word_of : (value : ℕ) → value < 2 ^ 32 → HasBytes memory at (bytes_of 4 value)
      → number_at memory at 4 ≡ value
  word_of value small h = number_at-word memory at value small h.part

  call_of : (code : ℕ) → code < 2 ^ 20 → HasBytes memory at (bytes_of 4 (syscall_word code))
      → HasCall memory at code
  call_of code few h =
      let word = word_of (syscall_word code) (omega arith) h in
      record { word = word; call = calls_with (number_at memory at 4) code word few }

  return_is : (code : ℕ) → code < 2 ^ 20 → HasBytes memory at (return_of code)
      → HasCall memory at code
  return_is code few h =
      call_of code few (has_first (bytes_of 4 (syscall_word code)) (replicate 12 0) h)

service_is : {memory : List ℕ} {at : ℕ} (library number : ℕ) → service_code library number < 2 ^ 20
    → HasBytes memory at (service_of library number)
    → HasService memory at (service_code library number)
service_is library number few h =
    let first = bytes_of 4 (syscall_word (service_code library number)) in
    let both = has_first (first ++ bytes_of 4 JUMP_BACK) (replicate 8 0) h in
    let none = has_second (first ++ bytes_of 4 JUMP_BACK) (replicate 8 0) h in
    let back = word_of JUMP_BACK (omega arith) (has_second first (bytes_of 4 JUMP_BACK) both) in
    record {
      calls = call_of (service_code library number) few
          (has_first first (bytes_of 4 JUMP_BACK) both);
      back = back;
      jump = ap inst_of back ∙ jumps_back;
      slot = word_of 0 (omega arith) (has_first (bytes_of 4 0) (replicate 4 0) none);
    }

-- an export table of the kernel at a place
module _ {memory : List ℕ} (table library : ℕ) (below : library < length KERNEL_LIBRARIES)
    (h : HasBytes memory table (table_of library)) where
  abbrev name : List ℕ
  name = slice_index_or KERNEL_LIBRARIES library []

  abbrev start : List ℕ
  start = bytes_of 4 EXPORT_MAGIC ++ bytes_of 4 0 ++ bytes_of 4 VERSION

  abbrev words : List ℕ
  words = each (function_of library) SERVICES

  length-header : length (start ++ name) ≡ HEADER_BYTES
  length-header = omega (arith, length-append start name, length-name library below)

  to_last : HasBytes memory table (start ++ name ++ words ++ bytes_of 4 0)
  unfolding table_of
  to_last = has_first (start ++ name ++ words ++ bytes_of 4 0) (zeros TABLE_REST) h

  to_words : HasBytes memory table (start ++ name ++ words)
  to_words = has_first (start ++ name ++ words) (bytes_of 4 0) to_last

  to_name : HasBytes memory table (start ++ name)
  to_name = has_first (start ++ name) words to_words

  to_version : HasBytes memory table start
  to_version = has_first start name to_name

  magic_is : word_at memory table ≡ EXPORT_MAGIC
  unfolding word_at
  magic_is =
      word_of EXPORT_MAGIC (omega arith)
      (has_first (bytes_of 4 EXPORT_MAGIC) (bytes_of 4 0 ++ bytes_of 4 VERSION) to_version)

  version_is : half_at memory (table + 8) ≡ VERSION
  unfolding half_at
  version_is =
      let there = has_second (bytes_of 4 EXPORT_MAGIC ++ bytes_of 4 0) (bytes_of 4 VERSION)
      to_version in
      let low_byte = byte_of (bytes_of 4 VERSION) 0 (omega arith) there in
      let high_byte = byte_of (bytes_of 4 VERSION) 1 (omega arith) there in
      let place : table + 8 + 0 ≡ table + 8 = omega arith in
      omega (arith, low_byte, high_byte, ap (λ q. get_or memory q 0) place)

  name_is : name_at memory (table + 12) ≡ name
  unfolding name_at
  name_is =
      subst (λ n. take n (drop (table + 12) memory) ≡ name) (length-name library below)
      (has_second start name to_name).part

  header_is : header_of memory table ≡ Some (name, VERSION)
  header_is =
      let there = name_at memory (table + 12) in
      let version = half_at memory (table + 8) in
      header_by (word_at memory table) (there, version) magic_is
      ∙ ap (λ n. Some (n, version)) name_is ∙ ap (λ v. Some (name, v)) version_is

  function_there : (number : ℕ) → number < SERVICES → service_at library number < 2 ^ 32
      → word_at memory (table + HEADER_BYTES + 4 * number) ≡ service_at library number
  unfolding word_at
  function_there number few small =
      let row = has_second (start ++ name) words to_words in
      let place : table + length (start ++ name) + number * 4 ≡ table + HEADER_BYTES + 4 * number
      = omega (arith, length-header) in
      word_of (service_at library number) small
      (subst (λ p. HasBytes memory p (function_of library number)) place
      (has_item (function_of library) 4 SERVICES number (λ i lt. refl) few row))

  end_there : word_at memory (table + HEADER_BYTES + 4 * SERVICES) ≡ 0
  unfolding word_at
  end_there =
      let place : table + length (start ++ name ++ words) ≡ table + HEADER_BYTES + 4 * SERVICES =
      omega (
        arith,
        length-append (start ++ name) words,
        length-header,
        length-functions library,
      ) in
      word_of 0 (omega arith)
      (subst (λ p. HasBytes memory p (bytes_of 4 0)) place
      (has_second (start ++ name ++ words) (bytes_of 4 0) to_last))

module _ {memory : List ℕ} (holds : HoldsArea memory) where
  all_returns : HasBytes memory THREAD_RETURN returns
  all_returns =
      holds_bytes THREAD_RETURN returns holds
      (record { below = omega arith; apart = inr (omega arith) }) has_returns

  first_returns : HasBytes memory THREAD_RETURN
      (return_of THREAD_RETURN_CALL ++ return_of HANDLER_RETURN_CALL)
  first_returns =
      has_first (return_of THREAD_RETURN_CALL ++ return_of HANDLER_RETURN_CALL)
      (return_of MODULE_RETURN_CALL) all_returns

  module _ (library : ℕ) (below : library < length KERNEL_LIBRARIES) where
    -- one of those that stand one behind the other
    table_among : (at first count i : ℕ) → AreThere first count
        → HasBytes kernel_area at (tables first count) → at + count * KERNEL_TABLE_LEN ≤ ARGUMENTS
        → i < count → HasBytes memory (at + i * KERNEL_TABLE_LEN) (table_of (first + i))
    table_among at first count i there has fits few =
        let long = length-tables first count there in
        has_item (λ i. table_of (first + i)) KERNEL_TABLE_LEN count i
        (λ i below. length-table_from first count i there below) few
        (holds_bytes at (tables first count) holds (record {
          below = omega (arith, long, fits);
          apart = inl (omega (arith, long, fits));
        }) has)

    table_there : HasBytes memory (kernel_table library) (table_of library)
    table_there =
        cond_both (nat_lt library FIRST_LIBRARIES) _ _
        (λ at. HasBytes memory at (table_of library))
        (λ first. let few : library < FIRST_LIBRARIES = grind (arith, nat_tests, first) in
        subst (λ n. HasBytes memory (KERNEL_TABLES_AT + library * KERNEL_TABLE_LEN) (table_of n))
        (omega arith)
        (table_among KERNEL_TABLES_AT 0 FIRST_LIBRARIES library (omega arith) has_first_tables
        (omega arith) few))
        (λ later. let least : FIRST_LIBRARIES ≤ library = grind (arith, nat_tests, later) in
        let i = library - FIRST_LIBRARIES in
        subst (λ n. HasBytes memory (LATER_TABLES_AT + i * KERNEL_TABLE_LEN) (table_of n))
        (omega (arith, least))
        (table_among LATER_TABLES_AT FIRST_LIBRARIES LATER_LIBRARIES i (omega arith)
        has_later_tables (omega arith) (omega (arith, least, below))))

    table_ends : kernel_table library + KERNEL_TABLE_LEN ≤ ARGUMENTS
    table_ends =
        cond_both (nat_lt library FIRST_LIBRARIES) _ _ (λ at. at + KERNEL_TABLE_LEN ≤ ARGUMENTS)
        (λ first. let few : library < FIRST_LIBRARIES = grind (arith, nat_tests, first) in
        omega (arith, few))
        (λ later. omega (arith, below))

    service_there : (number : ℕ) → number < SERVICES
        → HasBytes memory (service_at library number) (service_of library number)
    service_there number few =
        has_item (service_of library) SERVICE_LEN SERVICES number (λ i lt. refl) few
        (has_item services_of SERVICES_LEN (length KERNEL_LIBRARIES) library
        (λ i lt. length-services i) below
        (holds_bytes SERVICES_AT services holds (record {
          below = omega (arith, length-all_services);
          apart = inr (omega arith);
        }) has_services))

    function_in_table : (number : ℕ) → number < SERVICES
        → word_at memory (kernel_table library + HEADER_BYTES + 4 * number)
        ≡ service_at library number
    function_in_table number few =
        function_there (kernel_table library) library below table_there number few (omega arith)

    count_is : length (functions memory (kernel_table library)) ≡ SERVICES
    count_is =
        let long = holds.long in
        sym (functions_are memory (kernel_table library) SERVICES (omega (arith, table_ends, long))
        (λ j few. let word = function_in_table j few in grind (arith, nat_tests))
        (λ more. eq-eqb _ _ (end_there (kernel_table library) library below table_there)))

    library_is : HasLibrary memory library
        (kernel_library (library, slice_index_or KERNEL_LIBRARIES library []))
    library_is = record {
      header = header_is (kernel_table library) library below table_there;
      count = count_is;
      function = λ number few.
          function_is memory (kernel_table library) number (omega (arith, count_is))
          ∙ ap Some (function_in_table number few);
      service = λ number few.
          service_is library number (omega arith) (service_there number few);
    }

module _ (number : ℕ) (entry : Entry) (is : slice_get kernel_libraries number ≡ Some entry) where
  number_below : number < length KERNEL_LIBRARIES
  number_below = slice_get_within kernel_libraries number entry is

  entry_is : kernel_library (number, slice_index_or KERNEL_LIBRARIES number []) ≡ entry
  entry_is =
      let pairs = enumerate_from 0 KERNEL_LIBRARIES in
      let none : ℕ × List ℕ = (0, []) in
      let zero_more : 0 + number ≡ number = omega arith in
      ap (λ n. kernel_library (n, slice_index_or KERNEL_LIBRARIES number [])) (sym zero_more)
      ∙ sym (ap kernel_library (get_or-enumerate_from 0 KERNEL_LIBRARIES number none number_below))
      ∙ sym (get_or-map kernel_library pairs number none entry number_below)
      ∙ get_or_from_slice_get kernel_libraries number entry entry is

pub area_is_read : {memory : List ℕ} → HoldsArea memory → HasKernel memory
area_is_read {memory} holds =
    let first = first_returns holds in
    record {
      library = λ number entry is.
          subst (HasLibrary memory number) (entry_is number entry is)
          (library_is holds number (number_below number entry is));
      thread_return = return_is THREAD_RETURN_CALL (omega arith)
          (has_first (return_of THREAD_RETURN_CALL) (return_of HANDLER_RETURN_CALL) first);
      handler_return = return_is HANDLER_RETURN_CALL (omega arith)
          (has_second (return_of THREAD_RETURN_CALL) (return_of HANDLER_RETURN_CALL) first);
      module_return = return_is MODULE_RETURN_CALL (omega arith)
          (has_second (return_of THREAD_RETURN_CALL ++ return_of HANDLER_RETURN_CALL)
          (return_of MODULE_RETURN_CALL) (all_returns holds));
    }

pub kernel_area_is_read : KernelAreaIsRead
kernel_area_is_read = λ ram. area_is_read (area_holds ram)
