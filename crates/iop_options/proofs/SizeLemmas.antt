-- The value of `--ram` is a number of MiB.
use Rattle.std.proofs.Common.{◌≡◌, ℕ, ◌*◌, ◌^◌, Bool, true, false, cond, Option, Some, None, IfSome, List, refl, sym, subst}
use Rattle.std.specs.Prelude.{codes}
use Rattle.std.specs.Str.{bytes_eq}
use Rattle.std.proofs.lemmas.Slice.Eq.{bytes_eq-Decides}
use Rattle.iop_options.specs.Laws.{SizesAreMebibytes}
use Rattle.iop_options.specs.Numbers.{number_of}
use Rattle.iop_options.specs.Values.{ram_bytes, ram_of}
use Rattle.iop_options.specs.declared.ram_size.RamSize.{RamSize}
use Rattle.iop_options.specs.declared.ram_size.RamSize.TheVariants.{TwoMiB, EightMiB}

two : number_of 10 2 8 (codes "2") ≡ Some 2
unfolding number_of
two = refl

eight : number_of 10 2 8 (codes "8") ≡ Some 8
unfolding number_of
eight = refl

-- a size has so many MiB
abbrev HasMebibytes : ℕ → RamSize → Type 0
HasMebibytes mebibytes size = ram_bytes size ≡ mebibytes * 2 ^ 20

module _ (text : List ℕ) (size : RamSize) where
  -- the text is this number
  is_number : (known : List ℕ) (mebibytes : ℕ) → number_of 10 2 8 known ≡ Some mebibytes
      → bytes_eq text known ≡ true → number_of 10 2 8 text ≡ Some mebibytes
  is_number known mebibytes number same =
      subst (λ t. number_of 10 2 8 t ≡ Some mebibytes)
      (sym ((bytes_eq-Decides text known).0 same)) number

  -- by which of both texts it is
  written_by : (a b : Bool) → bytes_eq text (codes "2") ≡ a → bytes_eq text (codes "8") ≡ b
      → cond a (Some TwoMiB) (cond b (Some EightMiB) None) ≡ Some size
      → (mebibytes : ℕ) × (number_of 10 2 8 text ≡ Some mebibytes) × HasMebibytes mebibytes size
  written_by true b is other some = (
    2,
    is_number (codes "2") 2 two is,
    subst (λ (o : Option RamSize). IfSome o (HasMebibytes 2)) some refl,
  )
  written_by false true other is some = (
    8,
    is_number (codes "8") 8 eight is,
    subst (λ (o : Option RamSize). IfSome o (HasMebibytes 8)) some refl,
  )
  written_by false false other another some = absurd (cc some)

pub sizes_are_mebibytes : SizesAreMebibytes
sizes_are_mebibytes = record {
  written = λ text size some.
      written_by text size (bytes_eq text (codes "2")) (bytes_eq text (codes "8")) refl refl some;
  left_out = λ size some. subst (λ (o : Option RamSize). IfSome o (HasMebibytes 2)) some refl;
}
