-- The calls of sysclib, by their names in ps2sdk's sysclib.h. Their arguments stand in $a0 to $a3,
-- and those of a format go on in the words from 16($sp) on (MIPS o32).
use Rattle.std.specs.Prelude.{ℕ, ◌+◌, Option, List, [], ◌∷◌}
use Rattle.iop_exec.specs.declared.cpu.Cpu.{Cpu}
use Rattle.iop_exec.specs.Row.{reg}
use Rattle.iop_services.specs.declared.sysclib_service.SysclibService.{SysclibService}
use Rattle.iop_services.specs.declared.sysclib_service.SysclibService.TheVariants.{Memchr, Memcmp, Memcpy, Memmove, Memset, Bzero, Sprintf, Strcat, Strchr, Strcmp, Strcpy, Strlen, Strncmp, Strncpy, Strrchr, Strtol}
use Rattle.iop_sysclib.specs.Outcomes.{Outcome, answers, reads}
use Rattle.iop_sysclib.specs.MemoryCalls.{memchr, memcmp, memcpy, memset, bzero}
use Rattle.iop_sysclib.specs.StringCalls.{sprintf, strcat, strchr, strcmp, strcpy, strlen, strncmp, strncpy, strrchr}
use Rattle.iop_sysclib.specs.Numerals.{strtol}
use Rattle.iop_sysclib.specs.declared.serving.TheConstants.{STACK_POINTER}

-- the first arguments of a call, from 0 on
abbrev pub argument : Cpu → ℕ → ℕ
argument cpu k = reg cpu (4 + k)

module _ (ram : List ℕ) (cpu : Cpu) where
  -- what a call does: it faults where it has no outcome
  abbrev pub serves_sysclib : SysclibService → Option Outcome
  serves_sysclib Memchr =
      reads (memchr ram (argument cpu 0) (argument cpu 1) (argument cpu 2))
  serves_sysclib Memcmp =
      reads (memcmp ram (argument cpu 0) (argument cpu 1) (argument cpu 2))
  serves_sysclib Memcpy = memcpy ram (argument cpu 0) (argument cpu 1) (argument cpu 2)
  serves_sysclib Memmove = memcpy ram (argument cpu 0) (argument cpu 1) (argument cpu 2)
  serves_sysclib Memset = memset ram (argument cpu 0) (argument cpu 1) (argument cpu 2)
  serves_sysclib Bzero = bzero ram (argument cpu 0) (argument cpu 1)
  serves_sysclib Sprintf =
      sprintf ram (argument cpu 0) (argument cpu 1) (argument cpu 2 ∷ argument cpu 3 ∷ [])
      (reg cpu STACK_POINTER)
  serves_sysclib Strcat = strcat ram (argument cpu 0) (argument cpu 1)
  serves_sysclib Strchr = answers (strchr ram (argument cpu 0) (argument cpu 1))
  serves_sysclib Strcmp = answers (strcmp ram (argument cpu 0) (argument cpu 1))
  serves_sysclib Strcpy = strcpy ram (argument cpu 0) (argument cpu 1)
  serves_sysclib Strlen = answers (strlen ram (argument cpu 0))
  serves_sysclib Strncmp = answers (strncmp ram (argument cpu 0) (argument cpu 1) (argument cpu 2))
  serves_sysclib Strncpy = strncpy ram (argument cpu 0) (argument cpu 1) (argument cpu 2)
  serves_sysclib Strrchr = answers (strrchr ram (argument cpu 0) (argument cpu 1))
  serves_sysclib Strtol = strtol ram (argument cpu 0) (argument cpu 1) (argument cpu 2)
