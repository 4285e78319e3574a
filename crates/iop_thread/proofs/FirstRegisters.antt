-- With which registers a thread, a handler or a module begins: they are read back.
use Rattle.std.proofs.Common.{◌≡◌, ◌≢◌, ℕ, zero, suc, ◌+◌, ◌-◌, ◌≤◌, ◌^◌, ◌==◌, List, get_or, set, replicate, refl, ◌∙◌, arith}
use Rattle.std.specs.Prelude.{slice_index}
use Rattle.std.proofs.lemmas.Bool.{cond_both}
use Rattle.std.proofs.lemmas.List.{get_or-set_other}
use Rattle.iop_base.specs.Numbers.{wrapped}
use Rattle.iop_exec.specs.Row.{with_reg}
use Rattle.iop_thread.specs.FirstRegisters.{BeginsWith, stack_top, FirstRegistersAreRead}
use Rattle.iop_thread.specs.States.{zeroed_at, first_registers}
use Rattle.iop_thread.specs.declared.thread.Thread.{Thread}
use Rattle.iop_thread.specs.declared.thread.TheConstants.{THREAD_RETURN}

-- all of some zeros are zero
zero_in : (k n : ℕ) → slice_index (replicate k 0) n ≡ 0
zero_in zero n = refl
zero_in (suc k) zero = refl
zero_in (suc k) (suc n) = zero_in k n

-- a register that is not written is read as before
five_others : (regs : List ℕ) (a b c d e n : ℕ) → n ≢ 4 → n ≢ 5 → n ≢ 28 → n ≢ 29 → n ≢ 31
    → get_or (set (set (set (set (set regs 4 a) 5 b) 28 c) 29 d) 31 e) n 0 ≡ get_or regs n 0
five_others regs a b c d e n ne4 ne5 ne28 ne29 ne31 =
    get_or-set_other (set (set (set (set regs 4 a) 5 b) 28 c) 29 d) 31 n e 0 ne31
    ∙ get_or-set_other (set (set (set regs 4 a) 5 b) 28 c) 29 n d 0 ne29
    ∙ get_or-set_other (set (set regs 4 a) 5 b) 28 n c 0 ne28
    ∙ get_or-set_other (set regs 4 a) 5 n b 0 ne5
    ∙ get_or-set_other regs 4 n a 0 ne4

-- a processor of zeros in which the registers of calls are written
pub begins_with : (pc a0 a1 gp sp ra : ℕ)
    → BeginsWith (with_reg (with_reg (with_reg (with_reg (with_reg (zeroed_at pc) 4 a0) 5 a1) 28 gp)
    29 sp) 31 ra) pc a0 a1 gp sp ra
begins_with pc a0 a1 gp sp ra = record {
  pc = refl;
  next = refl;
  in_slot = refl;
  pending = refl;
  hi = refl;
  lo = refl;
  a0 = refl;
  a1 = refl;
  gp = refl;
  sp = refl;
  ra = refl;
  others = λ n ne4 ne5 ne28 ne29 ne31.
      cond_both (n == 0) 0 _ (λ value. value ≡ 0) (λ first. refl)
      (λ other. five_others (replicate 32 0) a0 a1 gp sp ra n ne4 ne5 ne28 ne29 ne31
      ∙ zero_in 32 n);
  count = refl;
}

-- a thread that is started
pub thread_begins : (t : Thread) (argument : ℕ)
    → BeginsWith (first_registers t argument) t.param.entry argument 0 t.gp (stack_top t)
    THREAD_RETURN
thread_begins t argument = begins_with t.param.entry argument 0 t.gp (stack_top t) THREAD_RETURN

-- 16 bytes below an end that is an address
below_end : (end : ℕ) → 16 ≤ end → end ≤ 2 ^ 32 → wrapped (end + (2 ^ 32 - 16)) + 16 ≡ end
below_end end least most = omega arith

pub first_registers_are_read : FirstRegistersAreRead
first_registers_are_read = record {
  started = thread_begins;
  below_end = λ t argument least most. below_end (t.stack + t.param.stack_size) least most;
}
