-- The threads that wait for a variable pool are met one after the other, and what refusals leave.
use Rattle.std.proofs.Common.{◌≡◌, ◌<◌, ℕ, zero, suc, Bool, true, false, ◌==◌, nat_lt, ◌||◌, if◌then◌else◌, Option, Some, None, List, length, refl, ap, sym, subst, ◌∙◌, arith}
use Rattle.std.specs.Prelude.{Err}
use Rattle.iop_base.specs.declared.code.Code.{Code}
use Rattle.iop_base.specs.declared.code.TheConstants.Code.{OK, NO_MEMORY, ILLEGAL_SIZE}
use Rattle.iop_exec.specs.declared.cpu.Cpu.{Cpu}
use Rattle.iop_objects.specs.Objects.{state_of, waiters_of}
use Rattle.iop_pools.specs.FixedPools as fixed
use Rattle.iop_pools.specs.FixedPools.{FixedPools}
use Rattle.iop_pools.specs.Pools.{Pool, place_for, with_ranges, takes_at, takes_of, takes_place, frees_it}
use Rattle.iop_pools.specs.Ranges.{is_out, without}
use Rattle.iop_pools.specs.VariablePools as variable
use Rattle.iop_pools.specs.VariablePools.{VariablePools, meets_next}
use Rattle.iop_pools.specs.declared.met.Met.{Met}
use Rattle.iop_pools.proofs.MetNext.{met_next, one_fewer, unmet}
use Rattle.iop_ready.specs.declared.entry.Entry.{Entry}
use Rattle.iop_kernel.specs.Standing.{Holds, core}
use Rattle.iop_kernel.specs.System.{Kernel, Core}
use Rattle.iop_kernel.specs.VariablePools.{meets_vpl, meets_by, meets_some, meets_all}
use Rattle.iop_kernel.specs.Waits.{is_code}
use Rattle.iop_kernel.specs.declared.kernel.Kernel.{Kernel as Program}
use Rattle.iop_kernel.proofs.Bodies.Standing.{holds_variable}

module _ (id : ℕ) (c : Core) where
  abbrev pools : VariablePools
  pools = c.kernel.variable_pools

  abbrev Outcome : Type 0
  Outcome = Option Met × VariablePools

  -- one is met, and then the others
  meets_more : (met : Met) (left : VariablePools) → meets_next pools id ≡ (Some met, left)
      → meets_all id c ≡ meets_all id (meets_vpl c left met)
  meets_more met left is =
      let n = length (waiters_of left id) in
      ap (λ n. meets_some n id c) (one_fewer pools id (met_next pools id met left is))
      ∙ ap (λ (t : Outcome). meets_by (meets_some n id) c t) is

  -- or none is
  meets_none : (meets_next pools id).0 ≡ None → meets_all id c ≡ c
  meets_none none = by (length (waiters_of pools id))
    where
      by_outcome : (n : ℕ) (t : Outcome) → t.0 ≡ None → meets_by (meets_some n id) c t ≡ c
      by_outcome n (None, left) none = refl
      by_outcome n (Some met, left) none = cc

      by : (n : ℕ) → meets_some n id c ≡ c
      by zero = refl
      by (suc n) = by_outcome n (meets_next pools id) none

module _ {R : Type 0} (stands_for : R → List Entry → Type 0) (id : ℕ) (cpu : Cpu) (k : Kernel) where
  -- some are met, and with the others it is the whole
  pub record IsMeeting (p : Program R) : Type 0 where
    pub kernel : Kernel
    pub holds : Holds stands_for p kernel
    pub whole : meets_all id (core kernel cpu) ≡ meets_all id (core k cpu)

  pub meeting_begins : (p : Program R) → Holds stands_for p k → IsMeeting p
  meeting_begins p h = record { kernel = k; holds = h; whole = refl }

module _ {R : Type 0} {stands_for : R → List Entry → Type 0} {id : ℕ} {cpu : Cpu} {k : Kernel}
    {p : Program R} (h : IsMeeting stands_for id cpu k p) (t : VariablePools) where
  -- what was answered and left of the pools is so of the kernel's
  told : (o : Option Met) → o ≡ (meets_next p.variable_pools id).0
      → t ≡ (meets_next p.variable_pools id).1
      → meets_next h.kernel.variable_pools id ≡ (o, t)
  told o answer left =
      ap (λ (s : VariablePools). meets_next s id) h.holds.variable_pools
      ∙ ap (λ (a : Option Met). (a, (meets_next p.variable_pools id).1)) (sym answer)
      ∙ ap (λ (s : VariablePools). (o, s)) (sym left)

  pub meeting_holds : Holds stands_for (record p { variable_pools = t })
      (record h.kernel { variable_pools = t })
  meeting_holds = holds_variable stands_for h.holds refl

  -- one more is met, and woken
  pub meeting_goes_on : (met : Met) → Some met ≡ (meets_next p.variable_pools id).0
      → t ≡ (meets_next p.variable_pools id).1 → (q : Program R)
      → Holds stands_for q (meets_vpl (core h.kernel cpu) t met).kernel
      → IsMeeting stands_for id cpu k q
  meeting_goes_on met answer left q holds = record {
    kernel = (meets_vpl (core h.kernel cpu) t met).kernel;
    holds = holds;
    whole = sym (meets_more id (core h.kernel cpu) met t (told (Some met) answer left)) ∙ h.whole;
  }

  pub meeting_fewer : (met : Met) → Some met ≡ (meets_next p.variable_pools id).0
      → t ≡ (meets_next p.variable_pools id).1
      → length (waiters_of t id) < length (waiters_of p.variable_pools id)
  meeting_fewer met answer left =
      let s = p.variable_pools in
      let is : meets_next s id ≡ (Some met, t) =
      ap (λ (a : Option Met). (a, (meets_next s id).1)) (sym answer)
      ∙ ap (λ (l : VariablePools). (Some met, l)) (sym left) in
      omega (arith, one_fewer s id (met_next s id met t is))

  -- none is
  pub meeting_ends : None ≡ (meets_next p.variable_pools id).0
      → t ≡ (meets_next p.variable_pools id).1
      → Holds stands_for (record p { variable_pools = t }) (meets_all id (core k cpu)).kernel
  meeting_ends answer left =
      let s = p.variable_pools in
      let stays : t ≡ s = left ∙ unmet s id (sym answer) in
      let none = ap (λ (o : Option Met × VariablePools). o.0) (told None answer left) in
      let all = sym h.whole ∙ meets_none id (core h.kernel cpu) none in
      subst (λ (d : Core). Holds stands_for (record p { variable_pools = t }) d.kernel) (sym all)
      (subst (λ (l : VariablePools). Holds stands_for (record p { variable_pools = l }) h.kernel)
      (sym stays) h.holds)

-- what is refused leaves all as it was
module _ (s : VariablePools) (id size : ℕ) where
  taken_none : (x : Pool) (o : Option ℕ) → (takes_at s id size x o).0 ≡ None
      → (takes_at s id size x o).1 ≡ s
  taken_none x None none = refl
  taken_none x (Some place) none = cc

  place_none : (o : Option Pool) → (takes_of s id size o).0 ≡ None → (takes_of s id size o).1 ≡ s
  place_none None none = refl
  place_none (Some x) none = taken_none x (place_for x size) none

  taken_so : (t : Option ℕ × VariablePools) → (t.0 ≡ None → t.1 ≡ s) → (code : Code)
      → Err code ≡ (variable.taken s t).0 → variable.taken s t ≡ (Err code, s)
  taken_so (None, left) stays code is =
      ap (λ (l : VariablePools). (Err NO_MEMORY, l)) (stays refl)
      ∙ ap (λ r. (r, s)) (sym is)
  taken_so (Some place, left) stays code is = absurd (cc is)

  take_by : (x : Pool) (bad : Bool) (code : Code)
      → Err code ≡ (if bad then (Err ILLEGAL_SIZE, s) else variable.taken s (takes_place s id size)).0
      → (if bad then (Err ILLEGAL_SIZE, s) else variable.taken s (takes_place s id size))
      ≡ (Err code, s)
  take_by x true code is = ap (λ r. (r, s)) (sym is)
  take_by x false code is =
      taken_so (takes_place s id size) (place_none (state_of s id)) code is

  take_it : (o : Option Pool) (code : Code) → Err code ≡ (variable.takes_it s id size o).0
      → variable.takes_it s id size o ≡ (Err code, s)
  take_it None code is = ap (λ r. (r, s)) (sym is)
  take_it (Some x) code is = take_by x (size == 0 || nat_lt x.size size) code is

  pub take_refused : (code : Code) → Err code ≡ (variable.takes s id size).0
      → variable.takes s id size ≡ (Err code, s)
  take_refused code is = take_it (state_of s id) code is

  -- so is what is not given back
  abbrev outcome : Pool → (block : ℕ) → Bool → Option Bool × VariablePools
  outcome x block there =
      if there then (Some true, with_ranges s id x (without block x.ranges)) else (Some false, s)

  gives_by : (x : Pool) (block : ℕ) (there : Bool)
      → is_code (variable.given s (outcome x block there)).0 OK ≡ false
      → (variable.given s (outcome x block there)).1 ≡ s
  gives_by x block true bad = absurd (cc bad)
  gives_by x block false bad = refl

  gives_it : (block : ℕ) (o : Option Pool)
      → is_code (variable.given s (frees_it s id block o)).0 OK ≡ false
      → (variable.given s (frees_it s id block o)).1 ≡ s
  gives_it block None bad = refl
  gives_it block (Some x) bad = gives_by x block (is_out block x.ranges) bad

  pub give_refused : (block : ℕ) → is_code (variable.gives s id block).0 OK ≡ false
      → (variable.gives s id block).1 ≡ s
  give_refused block bad = gives_it block (state_of s id) bad

module _ (s : FixedPools) (id : ℕ) where
  blocks_none : (x : Pool) (o : Option Pool) → (takes_of s id x.unit o).0 ≡ None
      → (takes_of s id x.unit o).1 ≡ s
  blocks_none x None none = refl
  blocks_none x (Some y) none = taken_any y (place_for y x.unit) none
    where
      taken_any : (y : Pool) (o : Option ℕ) → (takes_at s id x.unit y o).0 ≡ None
          → (takes_at s id x.unit y o).1 ≡ s
      taken_any y None none = refl
      taken_any y (Some place) none = cc

  block_so : (t : Option ℕ × FixedPools) → (t.0 ≡ None → t.1 ≡ s) → (code : Code)
      → Err code ≡ (fixed.taken s t).0 → fixed.taken s t ≡ (Err code, s)
  block_so (None, left) stays code is =
      ap (λ (l : FixedPools). (Err NO_MEMORY, l)) (stays refl) ∙ ap (λ r. (r, s)) (sym is)
  block_so (Some place, left) stays code is = absurd (cc is)

  block_it : (o : Option Pool) (code : Code) → Err code ≡ (fixed.takes_it s id o).0
      → fixed.takes_it s id o ≡ (Err code, s)
  block_it None code is = ap (λ r. (r, s)) (sym is)
  block_it (Some x) code is =
      block_so (takes_place s id x.unit) (blocks_none x (state_of s id)) code is

  pub block_refused : (code : Code) → Err code ≡ (fixed.takes s id).0
      → fixed.takes s id ≡ (Err code, s)
  block_refused code is = block_it (state_of s id) code is
