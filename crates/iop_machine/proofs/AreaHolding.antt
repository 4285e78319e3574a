-- What stands in the kernel's area stays there.
use Rattle.std.proofs.Common.{◌≡◌, ℕ, ◌+◌, ◌≤◌, List, length, take, drop, ◌∙◌, arith, inl, inr}
use Rattle.std.specs.Prelude.{◌⊎◌}
use Rattle.std.proofs.lemmas.List.{length-append}
use Rattle.iop_base.specs.Numbers.{with_bytes}
use Rattle.iop_base.proofs.Lists.{bytes_before, bytes_behind}
use Rattle.iop_base.proofs.Memory.{length-with_bytes}
use Rattle.iop_machine.specs.declared.arguments.TheConstants.{ARGUMENTS, ARGUMENTS_LEN}
use Rattle.iop_machine.specs.declared.kernel_area.TheConstants.{AREA_LEN}
use Rattle.iop_machine.specs.KernelArea.{kernel_area}
use Rattle.iop_machine.proofs.Area.{HasBytes, length-kernel_area, part_of_first}

-- a part of the area that meets no byte of the argument block
pub record IsFixed (p n : ℕ) : Type 0 where
  pub below : p + n ≤ AREA_LEN
  pub apart : (p + n ≤ ARGUMENTS) ⊎ (ARGUMENTS + ARGUMENTS_LEN ≤ p)

-- memory has the area there
pub record HoldsArea (memory : List ℕ) : Type 0 where
  pub long : AREA_LEN ≤ length memory
  pub same : (p n : ℕ) → IsFixed p n → take n (drop p memory) ≡ take n (drop p kernel_area)

pub holds_bytes : {memory : List ℕ} (p : ℕ) (bytes : List ℕ) → HoldsArea memory
    → IsFixed p (length bytes) → HasBytes kernel_area p bytes → HasBytes memory p bytes
holds_bytes p bytes holds fixed there =
    record { part = holds.same p (length bytes) fixed ∙ there.part }

pub area_holds : (ram : List ℕ) → HoldsArea (with_bytes ram 0 kernel_area)
area_holds ram =
    let rest = drop (0 + length kernel_area) ram in
    record {
      long = omega (arith, length-kernel_area, length-append kernel_area rest);
      same = λ p n fixed.
          part_of_first kernel_area rest p n (omega (arith, fixed.below, length-kernel_area));
    }

-- bytes that were stored behind the area, or into the argument block
abbrev pub IsOutside : ℕ → ℕ → Type 0
IsOutside p len = (AREA_LEN ≤ p) ⊎ ((ARGUMENTS ≤ p) × (p + len ≤ ARGUMENTS + ARGUMENTS_LEN))

module _ (memory : List ℕ) (p : ℕ) (bytes : List ℕ) (inside : p + length bytes ≤ length memory)
  where
    stays_there : (q n : ℕ) → IsFixed q n → IsOutside p (length bytes)
        → take n (drop q (with_bytes memory p bytes)) ≡ take n (drop q memory)
    stays_there q n fixed (inl behind) =
        bytes_before memory p bytes inside q n (omega (arith, fixed.below))
    stays_there q n fixed (inr block) = by fixed.apart
      where
        by : (q + n ≤ ARGUMENTS) ⊎ (ARGUMENTS + ARGUMENTS_LEN ≤ q)
            → take n (drop q (with_bytes memory p bytes)) ≡ take n (drop q memory)
        by (inl before) = bytes_before memory p bytes inside q n (omega (arith, block.0))
        by (inr after) = bytes_behind memory p bytes inside q n (omega (arith, block.1))

    pub store_holds : HoldsArea memory → IsOutside p (length bytes)
        → HoldsArea (with_bytes memory p bytes)
    store_holds holds outside = record {
      long = omega (arith, holds.long, length-with_bytes memory p bytes inside);
      same = λ q n fixed. stays_there q n fixed outside ∙ holds.same q n fixed;
    }
