-- The writing of what is pending leaves where the processor stands, and nothing pending.
use Rattle.std.proofs.Common.{◌≡◌, ◌==◌, Option, Some, None, refl, ap}
use Rattle.std.proofs.lemmas.Bool.{cond_both}
use Rattle.iop_exec.specs.declared.cpu.Cpu.{Cpu}
use Rattle.iop_exec.specs.declared.cpu.Pending.{Pending}
use Rattle.iop_exec.specs.Processors.{position_of}
use Rattle.iop_exec.specs.Row.{writes_back, after_write_back}

position_by : (o : Option Pending) (c : Cpu) → position_of (writes_back o c) ≡ position_of c
position_by None c = refl
position_by (Some load) c =
    cond_both (load.reg == 0) c _ (λ d. position_of (record d { pending = None }) ≡ position_of c)
    (λ zero. refl) (λ other. refl)

-- the processor stands where it stood
pub position-after_write_back : (c : Cpu) → position_of (after_write_back c) ≡ position_of c
position-after_write_back c = position_by c.pending c

clear_by : (o : Option Pending) (c : Cpu) → c.pending ≡ o → (writes_back o c).pending ≡ None
clear_by None c is = is
clear_by (Some load) c is = refl

-- nothing is pending
pub pending-after_write_back : (c : Cpu) → (after_write_back c).pending ≡ None
pending-after_write_back c = clear_by c.pending c refl

-- where nothing is, nothing changes
pub after_write_back-none : (c : Cpu) → c.pending ≡ None → after_write_back c ≡ c
after_write_back-none c none = ap (λ o. writes_back o c) none

regs_by : (o : Option Pending) (c : Cpu) → c.pending ≡ o
    → writes_back o c ≡ record c { regs = (writes_back o c).regs; pending = None }
regs_by None c is = ap (λ o. record c { pending = o }) is
regs_by (Some load) c is =
    cond_both (load.reg == 0) c _
    (λ (d : Cpu). record d { pending = None } ≡ record c { regs = d.regs; pending = None })
    (λ zero. refl) (λ other. refl)

-- but for that only registers change
pub after_write_back-regs : (c : Cpu)
    → after_write_back c ≡ record c { regs = (after_write_back c).regs; pending = None }
after_write_back-regs c = regs_by c.pending c refl
