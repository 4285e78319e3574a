-- What the law of sysclib's services says of their outcomes: exactly where each faults, which word
-- it answers, and which range it writes.
use Rattle.std.specs.Prelude.{◌≡◌, ◌≢◌, ℕ, ◌+◌, ◌%◌, ◌==◌, true, Bool, ◌&&◌, if◌then◌else◌, Option, Some, None, option_map, unwrap_or, List, [], ◌∷◌, length}
use Rattle.iop_exec.specs.declared.cpu.Cpu.{Cpu}
use Rattle.iop_exec.specs.Row.{reg}
use Rattle.iop_printf.specs.Formatting.{format_text}
use Rattle.iop_printf.specs.Texts.{string_at}
use Rattle.iop_services.specs.declared.sysclib_service.SysclibService.{SysclibService}
use Rattle.iop_services.specs.declared.sysclib_service.SysclibService.TheVariants.{Memchr, Memcmp, Memcpy, Memmove, Memset, Bzero, Sprintf, Strcat, Strchr, Strcmp, Strcpy, Strlen, Strncmp, Strncpy, Strrchr, Strtol}
use Rattle.iop_sysclib.specs.Calls.{serves_sysclib}
use Rattle.iop_sysclib.specs.MemoryCalls.{memchr, memcmp}
use Rattle.iop_sysclib.specs.Numerals.{reading_of}
use Rattle.iop_sysclib.specs.Outcomes.{Outcome, is_open}
use Rattle.iop_sysclib.specs.StringCalls.{strchr, strcmp, strlen, strncmp, strrchr}

-- what a call answers, and where it writes how many bytes, if it writes
abbrev pub answer_and_range : Outcome → ℕ × Option (ℕ × ℕ)
answer_and_range outcome =
    (outcome.answer, option_map (λ w. (w.at, length w.bytes)) outcome.write)

module _ (ram : List ℕ) (cpu : Cpu) where
  -- $a0 to $a3
  abbrev a0 : ℕ
  a0 = reg cpu 4

  abbrev a1 : ℕ
  a1 = reg cpu 5

  abbrev a2 : ℕ
  a2 = reg cpu 6

  abbrev a3 : ℕ
  a3 = reg cpu 7

  -- $sp
  abbrev sp : ℕ
  sp = reg cpu 29

  -- the text of a format at $a1
  abbrev text : List ℕ
  text = format_text ram a1 (a2 ∷ a3 ∷ []) sp

  -- where a test passes a service answers a word, and writes a range or nothing; it faults exactly
  -- where the test does not pass
  abbrev pub Does : SysclibService → (passes : Bool) → (word : ℕ) → (range : Option (ℕ × ℕ))
      → Type 0
  Does service passes word range =
      option_map answer_and_range (serves_sysclib ram cpu service)
      ≡ (if passes then Some (word, range) else None)

  pub record DoesEach : Type 0 where
    -- ranges of memory are looked at
    pub memchr_does : Does Memchr (is_open ram a0 a2) (unwrap_or (memchr ram a0 a1 a2) 0) None
    pub memcmp_does : Does Memcmp (is_open ram a0 a2 && is_open ram a1 a2)
        (unwrap_or (memcmp ram a0 a1 a2) 0) None
    -- strings are looked at, which never faults
    pub strlen_does : Does Strlen true (strlen ram a0) None
    pub strcmp_does : Does Strcmp true (strcmp ram a0 a1) None
    pub strncmp_does : Does Strncmp true (strncmp ram a0 a1 a2) None
    pub strchr_does : Does Strchr true (strchr ram a0 a1) None
    pub strrchr_does : Does Strrchr true (strrchr ram a0 a1) None
    -- ranges of memory are written
    pub memcpy_does : Does Memcpy (is_open ram a1 a2 && is_open ram a0 a2) a0 (Some (a0, a2))
    pub memmove_does : Does Memmove (is_open ram a1 a2 && is_open ram a0 a2) a0 (Some (a0, a2))
    pub memset_does : Does Memset (is_open ram a0 a2) a0 (Some (a0, a2))
    pub bzero_does : Does Bzero (is_open ram a0 a1) 0 (Some (a0, a1))
    -- strings are written
    pub strcpy_does : let len = strlen ram a1 + 1 in
        Does Strcpy (is_open ram a0 len) a0 (Some (a0, len))
    pub strcat_does : let end = a0 + strlen ram a0 in
        let len = strlen ram a1 + 1 in
        Does Strcat (is_open ram end len) a0 (Some (end, len))
    pub strncpy_does : Does Strncpy (is_open ram a0 a2) a0 (Some (a0, a2))
    pub sprintf_does : let len = length text + 1 in
        Does Sprintf (is_open ram a0 len) (length text) (Some (a0, len))
    -- a number is read, and a word is written where $a1 is not 0
    pub strtol_does : let word = (reading_of a2 (string_at ram a0)).word in
        (a1 ≡ 0 → Does Strtol true word None)
        × (a1 ≢ 0 → Does Strtol (a1 % 4 == 0 && is_open ram a1 4) word (Some (a1, 4)))

abbrev pub OutcomesAreTold : Type 0
OutcomesAreTold = (ram : List ℕ) (cpu : Cpu) → DoesEach ram cpu
