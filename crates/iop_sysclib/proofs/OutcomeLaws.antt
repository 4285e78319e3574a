-- The law of what the services answer and write, and where they fault.
use Rattle.std.proofs.Common.{◌≡◌, ℕ, ◌+◌, ◌%◌, ◌==◌, Bool, true, false, cond, Option, Some, None, List, [], ◌∷◌, length, take, drop, length-append, refl, ap, ◌∙◌, ne_eqb}
use Rattle.std.specs.Prelude.{is_some, option_map, option_and_then, unwrap_or, ◌&&◌, ◌||◌, ◌≢◌}
use Rattle.std.proofs.lemmas.List.{length-replicate}
use Rattle.iop_base.specs.Numbers.{bytes_of, wrapped}
use Rattle.iop_base.specs.Places.{range_at}
use Rattle.iop_base.proofs.Lists.{length-bytes_of}
use Rattle.iop_exec.specs.Row.{reg}
use Rattle.iop_printf.specs.Texts.{string_at}
use Rattle.iop_sysclib.specs.MemoryCalls.{memchr, memcmp, memcpy, memset, bzero, compared}
use Rattle.iop_sysclib.specs.Numerals.{reading_of, strtol}
use Rattle.iop_sysclib.specs.OutcomeLaws.{answer_and_range, OutcomesAreTold}
use Rattle.iop_sysclib.specs.Outcomes.{reads, writes, bytes_at, is_open}
use Rattle.iop_sysclib.specs.StringCalls.{ended, strlen, strcpy, strcat, strncpy, sprintf}
use Rattle.iop_sysclib.proofs.ReadStrings.{bytes_at-length, filled-length}

-- what is told where a test passes
abbrev told : Bool → ℕ → Option (ℕ × ℕ) → Option (ℕ × Option (ℕ × ℕ))
told passes word range = cond passes (Some (word, range)) None

-- a call that only reads
reads_told : (word : Option ℕ)
    → option_map answer_and_range (reads word) ≡ told (is_some word) (unwrap_or word 0) None
reads_told None = refl
reads_told (Some w) = refl

-- a call that writes
writes_by : (passes : Bool) (at word : ℕ) (bytes : List ℕ)
    → option_map answer_and_range (cond passes
    (Some (record { answer = word; write = Some (record { at = at; bytes = bytes }) })) None)
    ≡ told passes word (Some (at, length bytes))
writes_by true at word bytes = refl
writes_by false at word bytes = refl

writes_told : (ram : List ℕ) (at : ℕ) (bytes : List ℕ) (word len : ℕ) → length bytes ≡ len
    → option_map answer_and_range (writes ram at bytes word)
    ≡ told (is_open ram at len) word (Some (at, len))
writes_told ram at bytes word len long =
    writes_by (is_open ram at (length bytes)) at word bytes
    ∙ ap (λ n. told (is_open ram at n) word (Some (at, n))) long

-- an open range has bytes
held_by : (empty : Bool) (ram : List ℕ) (len : ℕ) (place : Option ℕ)
    → is_some (cond empty (Some []) (option_map (λ p. take len (drop p ram)) place))
    ≡ (empty || is_some place)
held_by true ram len place = refl
held_by false ram len None = refl
held_by false ram len (Some p) = refl

held_where_open : (ram : List ℕ) (at len : ℕ)
    → is_some (bytes_at ram at len) ≡ is_open ram at len
held_where_open ram at len = held_by (len == 0) ram len (range_at (length ram) at len)

some_mapped : (f : List ℕ → ℕ) (o : Option (List ℕ)) → is_some (option_map f o) ≡ is_some o
some_mapped f None = refl
some_mapped f (Some bytes) = refl

some_compared : (first second : Option (List ℕ))
    → is_some (option_and_then (λ bytes. option_map (compared bytes) second) first)
    ≡ (is_some first && is_some second)
some_compared None second = refl
some_compared (Some bytes) second = some_mapped (compared bytes) second

-- the bytes of a range are written
copy_by : (ram : List ℕ) (to len : ℕ) (held : Option (List ℕ))
    → ((bytes : List ℕ) → held ≡ Some bytes → length bytes ≡ len)
    → option_map answer_and_range (option_and_then (λ bytes. writes ram to bytes to) held)
    ≡ told (is_some held && is_open ram to len) to (Some (to, len))
copy_by ram to len None long = refl
copy_by ram to len (Some bytes) long = writes_told ram to bytes to len (long bytes refl)

module _ (ram : List ℕ) where
  found : (at wanted len : ℕ) → is_some (memchr ram at wanted len) ≡ is_open ram at len
  unfolding memchr
  found at wanted len = some_mapped _ (bytes_at ram at len) ∙ held_where_open ram at len

  memchr_told : (at wanted len : ℕ) → option_map answer_and_range (reads (memchr ram at wanted len))
      ≡ told (is_open ram at len) (unwrap_or (memchr ram at wanted len) 0) None
  memchr_told at wanted len =
      let word = memchr ram at wanted len in
      reads_told word ∙ ap (λ b. told b (unwrap_or word 0) None) (found at wanted len)

  both : (a b len : ℕ) → is_some (memcmp ram a b len) ≡ (is_open ram a len && is_open ram b len)
  unfolding memcmp
  both a b len =
      some_compared (bytes_at ram a len) (bytes_at ram b len)
      ∙ ap (λ t. t && is_some (bytes_at ram b len)) (held_where_open ram a len)
      ∙ ap (λ t. is_open ram a len && t) (held_where_open ram b len)

  memcmp_told : (a b len : ℕ) → option_map answer_and_range (reads (memcmp ram a b len))
      ≡ told (is_open ram a len && is_open ram b len) (unwrap_or (memcmp ram a b len) 0) None
  memcmp_told a b len =
      let word = memcmp ram a b len in
      reads_told word ∙ ap (λ t. told t (unwrap_or word 0) None) (both a b len)

  memcpy_told : (to from len : ℕ) → option_map answer_and_range (memcpy ram to from len)
      ≡ told (is_open ram from len && is_open ram to len) to (Some (to, len))
  unfolding memcpy
  memcpy_told to from len =
      copy_by ram to len (bytes_at ram from len) (bytes_at-length ram from len)
      ∙ ap (λ t. told (t && is_open ram to len) to (Some (to, len))) (held_where_open ram from len)

  -- the word that is written where `end` is not 0
  end_told : (end word left : ℕ) (aligned : Bool)
      → option_map answer_and_range (cond aligned (writes ram end (bytes_of 4 left) word) None)
      ≡ told (aligned && is_open ram end 4) word (Some (end, 4))
  end_told end word left true =
      writes_told ram end (bytes_of 4 left) word 4 (length-bytes_of 4 left)
  end_told end word left false = refl

  strtol_none : (at end base : ℕ) → end ≡ 0 → option_map answer_and_range (strtol ram at end base)
      ≡ Some ((reading_of base (string_at ram at)).word, None)
  unfolding strtol
  strtol_none at end base none = rw none refl

  strtol_some : (at end base : ℕ) → end ≢ 0 → option_map answer_and_range (strtol ram at end base)
      ≡ told (end % 4 == 0 && is_open ram end 4) (reading_of base (string_at ram at)).word
      (Some (end, 4))
  unfolding strtol
  strtol_some at end base some =
      let test : (end == 0) ≡ false = ne_eqb end 0 some in
      let reading = reading_of base (string_at ram at) in
      rw test (end_told end reading.word (wrapped (at + reading.len)) (end % 4 == 0))

ended-length : (string : List ℕ) → length (ended string) ≡ length string + 1
ended-length string = length-append string (0 ∷ [])

pub outcomes_are_told : OutcomesAreTold
unfolding memset bzero strcpy strcat strncpy sprintf strlen
outcomes_are_told ram cpu =
    let a0 = reg cpu 4 in
    let a1 = reg cpu 5 in
    let a2 = reg cpu 6 in
    record {
      memchr_does = memchr_told ram a0 a1 a2;
      memcmp_does = memcmp_told ram a0 a1 a2;
      strlen_does = refl;
      strcmp_does = refl;
      strncmp_does = refl;
      strchr_does = refl;
      strrchr_does = refl;
      memcpy_does = memcpy_told ram a0 a1 a2;
      memmove_does = memcpy_told ram a0 a1 a2;
      memset_does = writes_told ram a0 _ a0 a2 (length-replicate a2 (a1 % 256));
      bzero_does = writes_told ram a0 _ 0 a1 (length-replicate a1 0);
      strcpy_does = writes_told ram a0 _ a0 _ (ended-length (string_at ram a1));
      strcat_does = writes_told ram (a0 + strlen ram a0) _ a0 _ (ended-length (string_at ram a1));
      strncpy_does = writes_told ram a0 _ a0 a2 (filled-length a2 (string_at ram a1));
      sprintf_does = writes_told ram a0 _ _ _ (ended-length _);
      strtol_does = (strtol_none ram a0 a1 a2, strtol_some ram a0 a1 a2);
    }
