-- What CreateThread accepts of the words that ask for a thread.
use Rattle.std.proofs.Common.{◌≡◌, ℕ, ◌%◌, ◌==◌, ◌&&◌, ◌≤◌, not, nat_le, nat_lt, Bool, true, false, if◌then◌else◌, Option, Some, None, Result, Ok, Err, List, [], ◌∷◌, ◌++◌, refl, subst, arith}
use Rattle.std.specs.Prelude.{bit_and}
use Rattle.std.proofs.lemmas.Bool.{cond_both}
use Rattle.std.proofs.lemmas.Bool.Decides.{nat_tests}
use Rattle.iop_base.specs.BlockSizes.{block_len}
use Rattle.iop_base.specs.declared.code.Code.{Code}
use Rattle.iop_base.specs.declared.code.TheConstants.Code.{ILLEGAL_ATTRIBUTE, ILLEGAL_ENTRY, ILLEGAL_STACK_SIZE}
use Rattle.iop_exec.specs.Row.{reg}
use Rattle.iop_ready.specs.Priorities.{IsPriority, priority_of as priority_of_word}
use Rattle.iop_ready.specs.declared.priority.TheConstants.{LOWEST_PRIORITY}
use Rattle.iop_sysmem.specs.Allocating.{allocating}
use Rattle.iop_sysmem.specs.BlockMap.{BlockMap}
use Rattle.iop_thread.specs.Operations.{creates, dormant_thread}
use Rattle.iop_thread.specs.ThreadTable.{ThreadTable, has_room}
use Rattle.iop_thread.specs.declared.param.Param.{Param}
use Rattle.iop_thread.specs.declared.thread.Thread.{Thread}
use Rattle.iop_kernel.specs.Stacks.{with_priority, param_of}
use Rattle.iop_kernel.specs.System.{System}
use Rattle.iop_kernel.specs.declared.stacks.TheConstants.{ATTRIBUTES, LEAST_STACK, FROM_ABOVE}

pub record IsAsked (param : Param) : Type 0 where
  pub attribute : (bit_and param.attr ATTRIBUTES == param.attr) ≡ true
  pub entry : (param.entry % 4 == 0) ≡ true
  pub size : LEAST_STACK ≤ param.stack_size
  pub priority : IsPriority param.priority

-- what a word stands for is a priority
pub word_so : (word priority : ℕ) → priority_of_word word ≡ Some priority → IsPriority priority
word_so word priority =
    cond_both (nat_le 1 word && nat_le word LOWEST_PRIORITY) (Some word) None
    (λ (o : Option ℕ). o ≡ Some priority → IsPriority priority)
    (λ is made.
    let same : word ≡ priority = cc made in
    subst IsPriority same (grind (arith, nat_tests, is), grind (arith, nat_tests, is)))
    (λ other made. absurd (cc made))

module _ (attr option entry size word : ℕ) (param : Param) where
  sized_so : (bit_and attr ATTRIBUTES == attr) ≡ true → (entry % 4 == 0) ≡ true
      → (o : Option ℕ) → ((p : ℕ) → o ≡ Some p → IsPriority p)
      → with_priority attr option entry size o ≡ Ok param → IsAsked param
  sized_so mask whole None some is = absurd (cc is)
  sized_so mask whole (Some p) some is =
      let made : Param = record {
        attr = attr;
        option = option;
        entry = entry;
        stack_size = size;
        priority = p;
      } in
      cond_both (nat_lt size LEAST_STACK) (Err ILLEGAL_STACK_SIZE) (Ok made)
      (λ (r : Result Param Code). r ≡ Ok param → IsAsked param)
      (λ small none. absurd (cc none))
      (λ large so. let same : made ≡ param = cc so in subst IsAsked same (record {
        attribute = mask;
        entry = whole;
        size = grind (arith, nat_tests, large);
        priority = some p refl;
      })) is

  asked_by : (mask whole : Bool) → (bit_and attr ATTRIBUTES == attr) ≡ mask
      → (entry % 4 == 0) ≡ whole
      → (if not mask then Err ILLEGAL_ATTRIBUTE
      else if not whole then Err ILLEGAL_ENTRY
      else with_priority attr option entry size (priority_of_word word)) ≡ Ok param
      → IsAsked param
  asked_by false whole a b is = absurd (cc is)
  asked_by true false a b is = absurd (cc is)
  asked_by true true a b is = sized_so a b (priority_of_word word) (word_so word) is

  pub asked_so : param_of attr option entry size word ≡ Ok param → IsAsked param
  asked_so is = asked_by _ _ refl refl is

-- what holds of the live threads holds once one is made that was asked for so, on a block
abbrev pub CanMake : (List Thread → Type 0) → System → Type 0
CanMake Have s =
    (param : Param) (stack : ℕ) (blocks : BlockMap) → IsAsked param
    → allocating s.blocks FROM_ABOVE param.stack_size 0 ≡ (stack, blocks)
    → (stack == 0) ≡ false → has_room s.core.kernel.threads ≡ true
    → Have (s.core.kernel.threads.live
    ++ dormant_thread s.core.kernel.threads.next
    (record param { stack_size = block_len param.stack_size }) stack (reg s.core.cpu 28) ∷ [])

-- what holds of threads holds once one is created that was asked for so, on a block
abbrev pub CanCreate : (ThreadTable → Type 0) → System → Type 0
CanCreate Of s =
    (param : Param) (stack : ℕ) (blocks : BlockMap) → IsAsked param
    → allocating s.blocks FROM_ABOVE param.stack_size 0 ≡ (stack, blocks)
    → (stack == 0) ≡ false
    → Of (creates s.core.kernel.threads
    (record param { stack_size = block_len param.stack_size }) stack (reg s.core.cpu 28)).1
