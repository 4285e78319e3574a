-- The interrupt lines, and the calls on them (ps2sdk: intrman.h). How many lines there are, that a
-- delivery disables its line, and that a handler's result disables or enables it, is this project's
-- own profile.
use Rattle.std.specs.Prelude.{◌≡◌, ℕ, ◌<◌, ◌==◌, nat_lt, Bool, true, false, ◌&&◌, if◌then◌else◌, Option, None, Some, is_some, List, set, position, slice_index_or}
use Rattle.iop_base.specs.declared.code.Code.{Code}
use Rattle.iop_base.specs.declared.code.TheConstants.Code.{OK, ILLEGAL_INTERRUPT, LINE_DISABLED, HANDLER_FOUND, HANDLER_NOT_FOUND}
use Rattle.iop_intr.specs.declared.handler.Handler.{Handler}
use Rattle.iop_intr.specs.declared.irq_line.IrqLine.{IrqLine}
use Rattle.iop_intr.specs.declared.irqs.TheConstants.{IRQ_LINES}

abbrev pub handler_of : (address arg gp : ℕ) → Handler
handler_of address arg gp = record { address = address; arg = arg; gp = gp }

-- lowered, disabled and without a handler, as each line is at first
abbrev pub idle : IrqLine
idle = record { raised = false; enabled = false; handler = None }

-- the line of a number
abbrev pub line_of : List IrqLine → ℕ → IrqLine
line_of lines n = slice_index_or lines n idle

-- the lines, that of a number changed
abbrev pub changed : (IrqLine → IrqLine) → List IrqLine → ℕ → List IrqLine
changed change lines n = set lines n (change (line_of lines n))

-- the calls of a module: what each answers, and the lines that it leaves

-- a call on one line, where there is such a line
abbrev pub on_line : (IrqLine → Code × IrqLine) → List IrqLine → ℕ → Code × List IrqLine
on_line call lines n =
    if nat_lt n IRQ_LINES then ((call (line_of lines n)).0, changed (λ l. (call l).1) lines n)
    else (ILLEGAL_INTERRUPT, lines)

abbrev pub register_line : Handler → IrqLine → Code × IrqLine
register_line handler l =
    if is_some l.handler then (HANDLER_FOUND, l) else (OK, record l { handler = Some handler })

abbrev pub release_line : IrqLine → Code × IrqLine
release_line l =
    if is_some l.handler then (OK, record l { enabled = false; handler = None })
    else (HANDLER_NOT_FOUND, l)

abbrev pub enable_line : IrqLine → Code × IrqLine
enable_line l = (OK, record l { enabled = true })

abbrev pub disable_line : IrqLine → Code × IrqLine
disable_line l = if l.enabled then (OK, record l { enabled = false }) else (LINE_DISABLED, l)

abbrev pub registering : List IrqLine → ℕ → Handler → Code × List IrqLine
registering lines n handler = on_line (register_line handler) lines n

abbrev pub releasing : List IrqLine → ℕ → Code × List IrqLine
releasing = on_line release_line

abbrev pub enabling : List IrqLine → ℕ → Code × List IrqLine
enabling = on_line enable_line

abbrev pub disabling : List IrqLine → ℕ → Code × List IrqLine
disabling = on_line disable_line

-- raising, lowering and delivery

abbrev pub raising : List IrqLine → ℕ → List IrqLine
raising = changed (λ l. record l { raised = true })

abbrev pub lowered : IrqLine → IrqLine
lowered l = record l { raised = false }

abbrev pub lowering : List IrqLine → ℕ → List IrqLine
lowering = changed lowered

abbrev pub is_deliverable : IrqLine → Bool
is_deliverable l = l.raised && l.enabled && is_some l.handler

-- the lowest line that is raised, enabled and has a handler
abbrev pub deliverable : List IrqLine → Option ℕ
deliverable lines = position is_deliverable lines

-- there is such a line, and it is raised, enabled and has a handler
pub record IsDeliverable (lines : List IrqLine) (n : ℕ) : Type 0 where
  pub below : n < IRQ_LINES
  pub is : is_deliverable (line_of lines n) ≡ true

-- a line is delivered
abbrev pub delivering : List IrqLine → ℕ → List IrqLine
delivering = changed (λ l. record (lowered l) { enabled = false })

-- a line whose handler gave this value: 0 disables it, another enables it where it has a handler
abbrev pub finished : ℕ → IrqLine → IrqLine
finished value l =
    if value == 0 then record l { enabled = false }
    else if is_some l.handler then record l { enabled = true } else l

abbrev pub finishing : List IrqLine → ℕ → ℕ → List IrqLine
finishing lines n value = changed (finished value) lines n
