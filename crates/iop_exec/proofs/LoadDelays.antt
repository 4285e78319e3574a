-- What is pending behind an instruction before which nothing was, and what becomes of what is.
use Rattle.std.proofs.Common.{◌≡◌, ℕ, ◌==◌, Bool, true, false, cond, Option, Some, None, List, refl, ap, sym, subst, ◌∙◌, arith}
use Rattle.std.specs.Prelude.{◌≢◌, slice_set}
use Rattle.std.proofs.lemmas.Bool.{cond_both}
use Rattle.std.proofs.lemmas.Bool.Decides.{nat_tests}
use Rattle.std.proofs.lemmas.List.{set_comm, set-set, get_or-set_other}
use Rattle.iop_exec.specs.declared.cpu.Cpu.{Cpu}
use Rattle.iop_exec.specs.declared.cpu.Pending.{Pending}
use Rattle.iop_exec.specs.Laws.{Leaves}
use Rattle.iop_exec.specs.LoadDelays.{Begins, LoadsBegin, with_loaded, with_arrived, arrives_behind, LoadsArrive, LoadsArriveBehindCalls}
use Rattle.iop_exec.specs.Row.{Goes, at_next, with_reg, writes_back, after_write_back}
use Rattle.iop_exec.proofs.WritingBack.{after_write_back-none}
use Rattle.iop_exec.proofs.RowPairs.{holding, gone_on, RowPairs, row_pair}

-- where nothing is pending, an instruction writes its register, or leaves pending what it brings
begins_writing : (c : Cpu) (to : Option ℕ) (n value : ℕ)
    → Begins None (Some n) c (gone_on to (with_reg (holding c.regs c) n value))
begins_writing c to n value =
    cond_both (n == 0) _ _ (λ (d : Cpu). Begins None (Some n) c (gone_on to d))
    (λ zero. record { pending = refl; registers = λ m other. refl })
    (λ above. record {
      pending = refl;
      registers = λ m other.
          get_or-set_other c.regs n m value 0 (λ same. other (ap Some (sym same)));
    })

begins_bringing : (zero : Bool) (c : Cpu) (load : Pending)
    → Begins (cond zero None (Some load)) None c
    (at_next (cond zero (holding c.regs c) (record c { pending = Some load })))
begins_bringing true c load = record { pending = refl; registers = λ m other. refl }
begins_bringing false c load = record { pending = refl; registers = λ m other. refl }

begin : (c : Cpu) → c.pending ≡ None
    → RowPairs c c.regs (λ written brought r s. Leaves (Begins brought written c) c r)
begin c none = record {
  moves = λ to storing. record { pending = refl; registers = λ m other. refl };
  pairs = λ hi lo. record { pending = refl; registers = λ m other. refl };
  writes = λ to n value. begins_writing c to n value;
  brings = λ n value other. begins_bringing (n == 0) c _;
  serves = λ code.
      rw (after_write_back-none c none) (record { pending = none; registers = λ m other. refl });
  faults = λ written brought fault. tt;
}

pub loads_begin : LoadsBegin
loads_begin memory c inst at none =
    row_pair (begin c none)
    (after_write_back-none c none ∙ ap (λ o. record c { pending = o }) none) memory inst at

-- what is pending is in its register
back_by : (c : Cpu) (load : Pending) → c.pending ≡ Some load → load.reg ≢ 0
    → after_write_back c ≡ holding (with_loaded load c.regs) c
back_by c load pending other =
    ap (λ o. writes_back o c) pending
    ∙ cond_both (load.reg == 0) c (record c { regs = with_loaded load c.regs })
    (λ (d : Cpu). record d { pending = None } ≡ holding (with_loaded load c.regs) c)
    (λ zero. absurd (other (grind (arith, nat_tests, zero)))) (λ above. refl)

-- two writes to registers, of a loaded value and of a result, in either order
writes_part : (load : Pending) (regs : List ℕ) (n value : ℕ)
    → slice_set (with_loaded load regs) n value
    ≡ with_arrived load (Some n) (slice_set regs n value)
writes_part load regs n value =
    cond_both (n == load.reg) _ _ (λ (l : List ℕ). slice_set (with_loaded load regs) n value ≡ l)
    (λ same. subst (λ k. slice_set (slice_set regs k load.value) n value ≡ slice_set regs n value)
    (grind (arith, nat_tests, same)) (set-set regs n load.value value))
    (λ apart. set_comm regs load.reg n load.value value
    (λ same. grind (arith, nat_tests, apart, same)))

arrives_writing : (zero : Bool) (c : Cpu) (load : Pending) (to : Option ℕ)
    (n value : ℕ) → load.reg ≢ 0 → (n == 0) ≡ zero
    → Goes (gone_on to (cond zero (holding (with_loaded load c.regs) c)
    (holding (slice_set (with_loaded load c.regs) n value) c))) None
    ≡ arrives_behind load (Some n) None (Goes (gone_on to (cond zero (holding c.regs c)
    (holding (slice_set c.regs n value) c))) None)
arrives_writing true c load to n value above zero =
    ap (λ regs. Goes (gone_on to (holding regs c)) None)
    (cond_both (n == load.reg) _ _ (λ (l : List ℕ). with_loaded load c.regs ≡ l)
    (λ same. absurd (above (grind (arith, nat_tests, zero, same)))) (λ apart. refl))
arrives_writing false c load to n value above zero =
    ap (λ regs. Goes (gone_on to (holding regs c)) None) (writes_part load c.regs n value)

arrives_bringing : (zero : Bool) (c : Cpu) (load brought other : Pending)
    → Goes (at_next (cond zero (holding (with_loaded load c.regs) c)
    (record c { regs = with_loaded load c.regs; pending = Some brought }))) None
    ≡ arrives_behind load None (cond zero None (Some brought)) (Goes (at_next
    (cond zero (holding c.regs c) (record c { pending = Some other }))) None)
arrives_bringing true c load brought other = refl
arrives_bringing false c load brought other = refl

arrive : (c : Cpu) (load : Pending) → load.reg ≢ 0
    → RowPairs c (with_loaded load c.regs)
    (λ written brought r s. r ≡ arrives_behind load written brought s)
arrive c load above = record {
  moves = λ to storing. refl;
  pairs = λ hi lo. refl;
  writes = λ to n value. arrives_writing (n == 0) c load to n value above refl;
  brings = λ n value other. arrives_bringing (n == 0) c load _ _;
  serves = λ code. refl;
  faults = λ written brought fault. refl;
}

pub loads_arrive : LoadsArrive
loads_arrive memory c load inst at pending above =
    row_pair (arrive c load above) (back_by c load pending above) memory inst at

pub loads_arrive_behind_calls : LoadsArriveBehindCalls
loads_arrive_behind_calls c load pending above = ap at_next (back_by c load pending above)
