-- The lines of a dump, one after the other, and its range.
use Rattle.std.proofs.Common.{◌≡◌, ℕ, ◌+◌, ◌-◌, ◌*◌, ◌/◌, ◌%◌, ◌^◌, ◌<◌, ◌≤◌, nat_le, nat_lt, Bool, true, false, cond, ◌&&◌, Option, Some, None, option_map, option_and_then, is_some, List, [], ◌∷◌, ◌++◌, map, length, take, drop, refl, ap, sym, ◌∙◌, subst, leb-true, arith, inl, inr}
use Rattle.std.specs.List.{range_with_len}
use Rattle.std.proofs.lemmas.List.{length-drop, map-append, take-append-drop, drop-drop, length-take}
use Rattle.std.proofs.lemmas.List.FromFn.{take-map-range_with_len, map-range_with_len_more}
use Rattle.std.proofs.lemmas.Bool.{and_parts}
use Rattle.std.proofs.lemmas.Bool.Decides.{nat_tests}
use Rattle.iop_base.specs.Piece.{Traced}
use Rattle.iop_base.proofs.Giving.{adds_none, stops_before}
use Rattle.iop_base.specs.Places.{IsRamSize, is_mapped, range_at}
use Rattle.iop_options.specs.Values.{DumpRange}
use Rattle.iop_ports.specs.Sinks.{SinkTold, Sends}
use Rattle.iop_ram.specs.Windows.{window_of}
use Rattle.iop_trace.specs.Dumps.{dump_line, dump_lines, numbered_line}
use Rattle.iop_trace.specs.Outs.{Leaves, output_with}
use Rattle.iop_front.specs.Outcome.{TraceLeaves, dump_pieces}
use Rattle.iop_front.proofs.RunLemmas.{leaves_then}
use Rattle.iop_front.proofs.SendingLemmas.{sent_leaves}

module _ (from : ℕ) (bytes : List ℕ) where
  abbrev count : ℕ
  count = (length bytes + 15) / 16

  -- the first lines of the dump
  abbrev first_lines : ℕ → List (List ℕ)
  first_lines n = map (numbered_line from bytes) (range_with_len 0 n)

  all_lines : dump_lines from bytes ≡ first_lines count
  unfolding dump_lines
  all_lines = refl

  one_more : (n : ℕ) → first_lines (n + 1) ≡ first_lines n ++ numbered_line from bytes n ∷ []
  one_more n = map-range_with_len_more (numbered_line from bytes) 0 n n (omega arith)

  -- the first lines, one more, and those behind
  lines_split : (n : ℕ) → n + 1 ≤ count
      → dump_lines from bytes
      ≡ (first_lines n ++ numbered_line from bytes n ∷ []) ++ drop (n + 1) (first_lines count)
  lines_split n few =
      all_lines ∙ sym (take-append-drop (n + 1) (first_lines count))
      ∙ ap (λ t. t ++ drop (n + 1) (first_lines count))
      (take-map-range_with_len (numbered_line from bytes) 0 count (n + 1) few ∙ one_more n)

  -- the first lines were written, and these bytes are left
  pub record HasWritten (left : List ℕ) (old now : SinkTold) : Type 0 where
    pub number : ℕ
    pub is_left : left ≡ drop (16 * number) bytes
    pub few : 16 * number ≤ length bytes + 15
    pub leaves : TraceLeaves true old now (map Traced (first_lines number))

  -- at first none was
  pub none_written : (old : SinkTold) → HasWritten bytes old old
  none_written old = record {
    number = 0;
    is_left = refl;
    few = omega arith;
    leaves = λ console.
        (adds_none (output_with console old false []), record { console = refl; trace = refl });
  }

  module _ (left : List ℕ) (old now : SinkTold) (h : HasWritten left old now) where
    length_left : length left ≡ length bytes - 16 * h.number
    length_left = ap length h.is_left ∙ length-drop (16 * h.number) bytes

    -- where none is left, all were written
    pub all_written : length left ≡ 0
        → TraceLeaves true old now (map Traced (dump_lines from bytes))
    all_written none =
        let few = h.few in
        let all : h.number ≡ count = omega (arith, few, none, length_left) in
        subst (λ lines. TraceLeaves true old now (map Traced lines))
        (ap first_lines all ∙ sym all_lines) h.leaves

    module _ (new : SinkTold) (some : 1 ≤ length left) where
      abbrev next_line : List ℕ
      next_line = dump_line (from + (length bytes - length left)) (take 16 left)

      is_next : next_line ≡ numbered_line from bytes h.number
      is_next =
          ap (λ n. dump_line (from + n) (take 16 left)) (omega (arith, length_left, some))
          ∙ ap (λ bytes. dump_line (from + 16 * h.number) (take 16 bytes)) h.is_left

      -- one more was written
      pub more_written : Sends true next_line now new → HasWritten (drop 16 left) old new
      more_written sent = record {
        number = h.number + 1;
        is_left = ap (drop 16) h.is_left ∙ drop-drop 16 (16 * h.number) bytes
            ∙ ap (λ n. drop n bytes) (omega arith);
        few = omega (arith, length_left, some);
        leaves = λ console.
            let first = h.leaves console in
            let one = sent_leaves true next_line console now new sent in
            subst (λ ps. Leaves false (output_with console old false [])
            (output_with console new false []) ps)
            (ap (λ line. map Traced (first_lines h.number) ++ Traced line ∷ []) is_next
            ∙ sym (ap (map Traced) (one_more h.number)
            ∙ map-append Traced (first_lines h.number) (numbered_line from bytes h.number ∷ [])))
            (leaves_then false _ _ _ (map Traced (first_lines h.number)) (Traced next_line ∷ [])
            first.0 first.1 one);
      }

      -- or its write failed
      pub cut_written : Sends false next_line now new
          → TraceLeaves false old new (map Traced (dump_lines from bytes))
      cut_written sent = λ console.
          let first = h.leaves console in
          let one = sent_leaves false next_line console now new sent in
          let behind = drop (h.number + 1) (first_lines count) in
          let few : h.number + 1 ≤ count = omega (arith, length_left, some) in
          subst (λ ps. Leaves true (output_with console old false [])
          (output_with console new false []) ps)
          (ap (λ line. (map Traced (first_lines h.number) ++ Traced line ∷ []) ++ map Traced behind)
          is_next
          ∙ sym (ap (map Traced) (lines_split h.number few)
          ∙ map-append Traced (first_lines h.number ++ numbered_line from bytes h.number ∷ [])
          behind
          ∙ ap (λ t. t ++ map Traced behind)
          (map-append Traced (first_lines h.number) (numbered_line from bytes h.number ∷ []))))
          (stops_before (map Traced behind)
          (leaves_then true _ _ _ (map Traced (first_lines h.number)) (Traced next_line ∷ [])
          first.0 first.1 one))

-- the range of a dump: its bytes are no more than it has
short_by : (memory bytes : List ℕ) (len : ℕ) (place : Option ℕ)
    → option_map (λ p. take len (drop p memory)) place ≡ Some bytes → length bytes ≤ len
short_by memory bytes len None e = absurd (cc)
short_by memory bytes len (Some p) e =
    let is : take len (drop p memory) ≡ bytes = cc in
    subst (λ b. length b ≤ len) is (omega (arith, length-take len (drop p memory)))

-- and it has a place
placed_by : (memory bytes : List ℕ) (len : ℕ) (place : Option ℕ)
    → option_map (λ p. take len (drop p memory)) place ≡ Some bytes → is_some place ≡ true
placed_by memory bytes len None e = absurd (cc)
placed_by memory bytes len (Some p) e = refl

-- the tests of a range that is inside
record IsInside (size : ℕ) (test : Bool) (place len : ℕ) : Type 0 where
  mapped : test ≡ true
  inside : nat_le (place + len) size ≡ true

-- where an option is there only if a test passes, it has passed
inside_by : (b : Bool) (p : ℕ) → is_some (cond b (Some p) None) ≡ true → b ≡ true
inside_by true p e = refl
inside_by false p e = absurd (cc)

-- a range that has a place passes them
is_inside : (size : ℕ) (b : Bool) (p len : ℕ)
    → is_some (option_and_then (λ place. cond (nat_le (place + len) size) (Some place) None)
    (cond b (Some p) None)) ≡ true → IsInside size b p len
is_inside size true p len e =
    record { mapped = refl; inside = inside_by (nat_le (p + len) size) p e }
is_inside size false p len e = absurd (cc)

-- so its last address is below 2^32
range_low : (size at len : ℕ) → IsRamSize size → is_some (range_at size at len) ≡ true
    → at + len < 2 ^ 32
range_low size at len sized e =
    let segment = at / 0x20000000 in
    let place = at % 0x20000000 in
    let is = is_inside size (is_mapped segment && nat_lt place size) place len e in
    let mapped = (and_parts (is_mapped segment) (nat_lt place size) is.mapped).0 in
    let low : segment ≤ 5 = grind (arith, nat_tests, mapped) in
    let fits : place + len ≤ size = leb-true (place + len) size is.inside in
    let most : size ≤ 0x800000 =
    elim sized [ inl e ↦ omega (arith, e) | inr e ↦ omega (arith, e) ] in
    omega (arith, low, fits, most)

-- and so are those of the bytes of a range of RAM, which are no more than it says
pub window_low : (memory bytes : List ℕ) (at len : ℕ) → IsRamSize (length memory)
    → window_of memory at len ≡ Some bytes → at + length bytes < 2 ^ 32
window_low memory bytes at len sized e =
    let place = range_at (length memory) at len in
    let short = short_by memory bytes len place e in
    let low = range_low (length memory) at len sized (placed_by memory bytes len place e) in
    omega (arith, short, low)

-- a range that is not inside has no lines
pub nothing_dumped : (ram : List ℕ) (dump : Option DumpRange) (range : DumpRange)
    → dump ≡ Some range → None ≡ window_of ram range.from range.len → dump_pieces ram dump ≡ []
unfolding dump_lines
nothing_dumped ram dump range is none = rw (is, ← none) refl
