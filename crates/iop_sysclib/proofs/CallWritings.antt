-- What the calls write.
use Rattle.std.proofs.Common.{◌≡◌, ℕ, ◌+◌, ◌%◌, Bool, true, false, cond, Option, Some, None, List, length, subst}
use Rattle.std.specs.Prelude.{option_and_then, ◌==◌}
use Rattle.iop_base.specs.Numbers.{bytes_of, wrapped}
use Rattle.iop_exec.specs.declared.cpu.Cpu.{Cpu}
use Rattle.iop_printf.specs.Texts.{string_at}
use Rattle.iop_services.specs.declared.sysclib_service.SysclibService.{SysclibService}
use Rattle.iop_services.specs.declared.sysclib_service.SysclibService.TheVariants.{Memchr, Memcmp, Memcpy, Memmove, Memset, Bzero, Sprintf, Strcat, Strchr, Strcmp, Strcpy, Strlen, Strncmp, Strncpy, Strrchr, Strtol}
use Rattle.iop_sysclib.specs.Calls.{serves_sysclib, argument}
use Rattle.iop_sysclib.specs.MemoryCalls.{memchr, memcmp, memcpy, memset, bzero}
use Rattle.iop_sysclib.specs.Numerals.{strtol, reading_of}
use Rattle.iop_sysclib.specs.Outcomes.{Outcome, Write, answers, reads, writes, bytes_at}
use Rattle.iop_sysclib.specs.StringCalls.{ended, sprintf, strcat, strchr, strcmp, strcpy, strlen, strncmp, strncpy, strrchr}
use Rattle.iop_sysclib.specs.WritingLaws.{WritesAreRead}
use Rattle.iop_sysclib.proofs.Writings.{Writes, writes_is, written_is}

-- what an outcome writes, if it does, goes into an open range
abbrev IsOpen : List ℕ → Outcome → Type 0
IsOpen ram outcome = (write : Write) → outcome.write ≡ Some write
    → Writes ram write.at write.bytes outcome

open_reads : (ram : List ℕ) (word : Option ℕ) (outcome : Outcome) → reads word ≡ Some outcome
    → IsOpen ram outcome
open_reads ram None outcome is write writes = absurd (cc is)
open_reads ram (Some w) outcome is write writes = absurd (cc (is, writes))

open_answers : (ram : List ℕ) (word : ℕ) (outcome : Outcome) → answers word ≡ Some outcome
    → IsOpen ram outcome
open_answers ram word outcome is = open_reads ram (Some word) outcome is

open_writes : (ram : List ℕ) (at : ℕ) (bytes : List ℕ) (word : ℕ) (outcome : Outcome)
    → writes ram at bytes word ≡ Some outcome → IsOpen ram outcome
open_writes ram at bytes word outcome is write write_is =
    let wrote = writes_is ram at bytes word outcome is in
    let same : record { at = at; bytes = bytes } ≡ write = cc (wrote.write_is, write_is) in
    subst (λ (w : Write). Writes ram w.at w.bytes outcome) same wrote

open_copy : (ram : List ℕ) (to : ℕ) (held : Option (List ℕ)) (outcome : Outcome)
    → option_and_then (λ bytes. writes ram to bytes to) held ≡ Some outcome → IsOpen ram outcome
open_copy ram to None outcome is write write_is = absurd (cc is)
open_copy ram to (Some bytes) outcome is write write_is =
    open_writes ram to bytes to outcome is write write_is

open_end : (ram : List ℕ) (end word left : ℕ) (none aligned : Bool) (outcome : Outcome)
    → cond none (answers word) (cond aligned (writes ram end (bytes_of 4 left) word) None)
    ≡ Some outcome → IsOpen ram outcome
open_end ram end word left true aligned outcome is write write_is =
    open_answers ram word outcome is write write_is
open_end ram end word left false true outcome is write write_is =
    open_writes ram end (bytes_of 4 left) word outcome is write write_is
open_end ram end word left false false outcome is write write_is = absurd (cc is)

module _ (ram : List ℕ) (cpu : Cpu) (outcome : Outcome) where
  open_call : (service : SysclibService) → serves_sysclib ram cpu service ≡ Some outcome
      → IsOpen ram outcome
  unfolding memcpy memset bzero sprintf strcat strcpy strncpy strtol
  open_call Memchr is =
      open_reads ram (memchr ram (argument cpu 0) (argument cpu 1) (argument cpu 2)) outcome is
  open_call Memcmp is =
      open_reads ram (memcmp ram (argument cpu 0) (argument cpu 1) (argument cpu 2)) outcome is
  open_call Memcpy is =
      open_copy ram (argument cpu 0) (bytes_at ram (argument cpu 1) (argument cpu 2)) outcome is
  open_call Memmove is =
      open_copy ram (argument cpu 0) (bytes_at ram (argument cpu 1) (argument cpu 2)) outcome is
  open_call Memset is = open_writes ram (argument cpu 0) _ _ outcome is
  open_call Bzero is = open_writes ram (argument cpu 0) _ _ outcome is
  open_call Sprintf is = open_writes ram (argument cpu 0) _ _ outcome is
  open_call Strcat is =
      open_writes ram (argument cpu 0 + length (string_at ram (argument cpu 0)))
      (ended (string_at ram (argument cpu 1))) (argument cpu 0) outcome is
  open_call Strchr is =
      open_answers ram (strchr ram (argument cpu 0) (argument cpu 1)) outcome is
  open_call Strcmp is =
      open_answers ram (strcmp ram (argument cpu 0) (argument cpu 1)) outcome is
  open_call Strcpy is = open_writes ram (argument cpu 0) _ _ outcome is
  open_call Strlen is = open_answers ram (strlen ram (argument cpu 0)) outcome is
  open_call Strncmp is =
      open_answers ram (strncmp ram (argument cpu 0) (argument cpu 1) (argument cpu 2)) outcome is
  open_call Strncpy is = open_writes ram (argument cpu 0) _ _ outcome is
  open_call Strrchr is =
      open_answers ram (strrchr ram (argument cpu 0) (argument cpu 1)) outcome is
  open_call Strtol is =
      let reading = reading_of (argument cpu 2) (string_at ram (argument cpu 0)) in
      open_end ram (argument cpu 1) reading.word (wrapped (argument cpu 0 + reading.len))
      (argument cpu 1 == 0) (argument cpu 1 % 4 == 0) outcome is

pub writes_are_read : WritesAreRead
writes_are_read memory cpu service outcome write is write_is =
    written_is memory write.at write.bytes outcome
    (open_call memory.ram cpu outcome service is write write_is)
