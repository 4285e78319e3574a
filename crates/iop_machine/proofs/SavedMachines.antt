-- What a machine writes of itself is its snapshot.
use Rattle.std.proofs.Common.{◌≡◌, ℕ, Result, Ok, Err, List, ap, sym, ◌∙◌, subst}
use Rattle.std.specs.Prelude.{is_ok, OnOk}
use Rattle.iop_base.specs.declared.write_fault.WriteFault.{WriteFault}
use Rattle.iop_kernel.specs.System.{Kernel}
use Rattle.iop_ports.specs.Sinks.{SinkTold, Sends}
use Rattle.iop_saved_machine.specs.Back.{MachineState, parts_of}
use Rattle.iop_saved_machine.specs.Parts.{written_machine}
use Rattle.iop_snapshot.specs.Writing.{Place, Writes, written}
use Rattle.iop_machine.specs.Iop.{Iop}
use Rattle.iop_machine.specs.Restoring.{snap, state_of}
use Rattle.iop_machine.specs.Standing.{iop_of, Stands}
use Rattle.iop_machine.specs.declared.iop.Iop.{Iop as Program}

-- what a call of an encoder has sent, and through which borrow
pub sent : {result : Result Unit WriteFault} {bytes : List ℕ} {old new : Place}
    → Writes result bytes old new → Sends (is_ok result) bytes old.told new.told
sent (written h) = h.sends

pub sent_by : {result : Result Unit WriteFault} {bytes : List ℕ} {old new : Place}
    → Writes result bytes old new → new.name ≡ old.name
sent_by (written h) = h.name

-- the same bytes, between what a sink tells before and behind
pub sends_as : (result : Result Unit WriteFault) {bytes wanted : List ℕ} {a b x y : SinkTold}
    → bytes ≡ wanted → a ≡ x → b ≡ y → Sends (is_ok result) bytes a b
    → Sends (is_ok result) wanted x y
sends_as result {bytes} {wanted} {a} {b} {x} {y} same before behind h =
    subst (λ (l : List ℕ). Sends (is_ok result) l x y) same
    (subst (λ (t : SinkTold). Sends (is_ok result) bytes t y) before
    (subst (λ (t : SinkTold). Sends (is_ok result) bytes a t) behind h))

-- what follows of what holds where nothing failed
pub on_ok : {X E : Type 0} {P Q : Type 0} (result : Result X E) → (P → Q) → OnOk result P
    → OnOk result Q
on_ok (Ok x) f h = f h
on_ok (Err e) f h = h

-- what was lent of the program's machine is what the machine that it stands for has
pub lent_state : (m : Program) (s : Iop) → Stands m s → (lent : Kernel → MachineState)
    → ((k : Kernel) → lent k ≡ state_of (iop_of m k)) → lent s.kernel ≡ state_of s
lent_state m s h lent is = is s.kernel ∙ ap state_of (sym h.rest)

pub lent_snap : (m : Program) (s : Iop) → Stands m s → (lent : Kernel → MachineState)
    → ((k : Kernel) → lent k ≡ state_of (iop_of m k))
    → written_machine.spell (parts_of (lent s.kernel)) ≡ snap s
lent_snap m s h lent is =
    ap (λ (x : MachineState). written_machine.spell (parts_of x)) (lent_state m s h lent is)
