-- What the law of switches says: none but a dispatch lets a thread run that did not, or tells that
-- one was taken to run.
use Rattle.std.specs.Prelude.{◌≡◌, ℕ, Bool, true, false, Some, List, [], ◌∷◌, All}
use Rattle.iop_base.specs.Piece.{Piece, Traced, Told}
use Rattle.iop_base.specs.Text.{line_bytes}
use Rattle.iop_base.specs.declared.line.Line.{Line}
use Rattle.iop_base.specs.declared.line.Line.TheVariants.{Run}
use Rattle.iop_kernel.specs.Deliveries.{Delivered, delivers}
use Rattle.iop_kernel.specs.Serving.{services}
use Rattle.iop_kernel.specs.System.{System, Core}
use Rattle.iop_thread.specs.Placing.{IsPlaced}
use Rattle.iop_thread.specs.ThreadTable.{ThreadTable}

-- whether a line tells that a thread was taken to run
abbrev pub is_run : Line → Bool
is_run (Run id) = true
is_run other = false

-- a piece that tells of no such thread: a text for the console, or another line
pub data IsNoRun : Piece → Type 0 where
  text : (bytes : List ℕ) → IsNoRun (Told bytes)
  line : (moment : ℕ) (line : Line) → is_run line ≡ false
      → IsNoRun (Traced (line_bytes moment line))

-- no thread runs that did not, and no piece tells of one
pub record SwitchesNone (old left : ThreadTable) (pieces : List Piece) : Type 0 where
  pub running : (id : ℕ) → left.running ≡ Some id → old.running ≡ Some id
  pub lines : All IsNoRun pieces

-- so it is after each service, whatever its code, and after each delivery
pub record DispatchesAloneSwitch : Type 0 where
  pub services : (s : System) (code : ℕ) → IsPlaced s.core.kernel.threads
      → let d = services s code in
      SwitchesNone s.core.kernel.threads d.left.state.core.kernel.threads d.pieces
  pub deliveries : (c : Core) (d : Delivered) → IsPlaced c.kernel.threads → delivers c ≡ Some d
      → SwitchesNone c.kernel.threads d.core.kernel.threads (d.line ∷ [])
