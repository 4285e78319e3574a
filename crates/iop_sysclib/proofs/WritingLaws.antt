-- The laws of what is read back.
use Rattle.std.proofs.Common.{◌≡◌, ℕ, ◌+◌, ◌-◌, ◌%◌, Option, Some, None, List, [], ◌∷◌, ◌++◌, length, replicate, length-append, refl, ap, sym, ◌∙◌}
use Rattle.std.specs.Prelude.{option_and_then}
use Rattle.std.proofs.lemmas.List.{get_or-replicate, length-replicate}
use Rattle.iop_exec.specs.Row.{reg}
use Rattle.iop_printf.specs.Formatting.{format_text}
use Rattle.iop_printf.specs.Texts.{string_at}
use Rattle.iop_stubs.specs.Stubs.{Memory}
use Rattle.iop_sysclib.specs.MemoryCalls.{memcpy, memset, bzero}
use Rattle.iop_sysclib.specs.Outcomes.{Outcome, writes, bytes_at}
use Rattle.iop_sysclib.specs.StringCalls.{ended, filled, strcpy, strncpy, sprintf}
use Rattle.iop_sysclib.specs.WritingLaws.{ram_after, HoldsOnly, RangesAreCopied, RangesAreFilled, RangesAreCleared, StringsAreCopied, ShortStringsAreCopied, FrontsAreCopied, TextsAreStored}
use Rattle.iop_sysclib.proofs.ReadStrings.{bytes_at-length, string_front, filled-length, filled_zeros, filled_short}
use Rattle.iop_sysclib.proofs.StringOrder.{string_has_no_zero}
use Rattle.iop_sysclib.proofs.Writings.{writes_is, written_is}

-- what is written reads back by its length
pub read_back : (memory : Memory) (at len : ℕ) (bytes : List ℕ) (word : ℕ) (outcome : Outcome)
    → length bytes ≡ len → writes memory.ram at bytes word ≡ Some outcome
    → bytes_at (ram_after memory outcome) at len ≡ Some bytes
read_back memory at len bytes word outcome long is =
    ap (bytes_at (ram_after memory outcome) at) (sym long)
    ∙ (written_is memory at bytes outcome (writes_is memory.ram at bytes word outcome is)).written

filled_only : (memory : Memory) (to len byte word : ℕ) (outcome : Outcome)
    → writes memory.ram to (replicate len byte) word ≡ Some outcome
    → HoldsOnly byte (ram_after memory outcome) to len
filled_only memory to len byte word outcome is = record {
  bytes = replicate len byte;
  stand = read_back memory to len (replicate len byte) word outcome (length-replicate len byte) is;
  whole = length-replicate len byte;
  only = λ k below. get_or-replicate len k byte 0 below;
}

pub ranges_are_filled : RangesAreFilled
unfolding memset
ranges_are_filled memory cpu outcome is =
    filled_only memory (reg cpu 4) (reg cpu 6) (reg cpu 5 % 256) (reg cpu 4) outcome is

pub ranges_are_cleared : RangesAreCleared
unfolding bzero
ranges_are_cleared memory to len outcome is = filled_only memory to len 0 0 outcome is

pub texts_are_stored : TextsAreStored
unfolding sprintf
texts_are_stored memory to format registers sp outcome is =
    let text = format_text memory.ram format registers sp in
    read_back memory to (length text + 1) (ended text) (length text) outcome
    (length-append text (0 ∷ [])) is

-- a copy writes the bytes that it reads
copied_by : (memory : Memory) (to from len : ℕ) (outcome : Outcome) (held : Option (List ℕ))
    → bytes_at memory.ram from len ≡ held
    → option_and_then (λ bytes. writes memory.ram to bytes to) held ≡ Some outcome
    → bytes_at (ram_after memory outcome) to len ≡ held
copied_by memory to from len outcome None held_is is = absurd (cc is)
copied_by memory to from len outcome (Some bytes) held_is is =
    read_back memory to len bytes to outcome (bytes_at-length memory.ram from len bytes held_is) is

pub ranges_are_copied : RangesAreCopied
unfolding memcpy
ranges_are_copied memory to from len outcome is =
    let held = bytes_at memory.ram from len in
    copied_by memory to from len outcome held refl is

-- a string and a zero at the front of what is written
string_back : (memory : Memory) (to from : ℕ) (rest : List ℕ) (word : ℕ) (outcome : Outcome)
    → writes memory.ram to (string_at memory.ram from ++ 0 ∷ rest) word ≡ Some outcome
    → string_at (ram_after memory outcome) to ≡ string_at memory.ram from
string_back memory to from rest word outcome is =
    let text = string_at memory.ram from in
    string_front (ram_after memory outcome) to (length (text ++ 0 ∷ rest)) text rest
    (string_has_no_zero memory.ram from)
    (read_back memory to (length (text ++ 0 ∷ rest)) (text ++ 0 ∷ rest) word outcome refl is)

pub strings_are_copied : StringsAreCopied
unfolding strcpy
strings_are_copied memory to from outcome is = string_back memory to from [] to outcome is

pub short_strings_are_copied : ShortStringsAreCopied
unfolding strncpy
short_strings_are_copied memory to from len outcome short is =
    let text = string_at memory.ram from in
    let zeros = filled_short len text short in
    string_back memory to from (replicate (len - length text - 1) 0) to outcome
    (ap (λ bytes. writes memory.ram to bytes to) (sym zeros) ∙ is)

pub fronts_are_copied : FrontsAreCopied
unfolding strncpy
fronts_are_copied memory to from len outcome is =
    let text = string_at memory.ram from in
    read_back memory to len (filled len text) to outcome (filled-length len text) is
    ∙ ap Some (filled_zeros len text)
