-- What the laws of sysclib's calls say, each in other words than the definition that it is about.
use Rattle.std.specs.Prelude.{◌≡◌, ◌≢◌, ◌↔◌, ℕ, ◌+◌, ◌-◌, ◌%◌, ◌<◌, Some, None, List, ◌∷◌, ◌++◌, length, take, drop, slice_index}
use Rattle.iop_base.specs.Numbers.{wrapped}
use Rattle.iop_base.specs.Places.{phys}
use Rattle.iop_printf.specs.Texts.{string_at}
use Rattle.iop_sysclib.specs.MemoryCalls.{compared, memchr, memcmp}
use Rattle.iop_sysclib.specs.Outcomes.{bytes_at}
use Rattle.iop_sysclib.specs.StringCalls.{ended, strchr, strrchr, strcmp, strlen, strncmp}

-- the least index at which a byte stands
pub record IsFirst (byte : ℕ) (bytes : List ℕ) (index : ℕ) : Type 0 where
  pub inside : index < length bytes
  pub stands : slice_index bytes index ≡ byte
  pub before : (k : ℕ) → k < index → slice_index bytes k ≢ byte

abbrev pub FirstsAreFound : Type 0
FirstsAreFound =
    (ram : List ℕ) (at wanted len : ℕ) (bytes : List ℕ) (index : ℕ)
    → bytes_at ram at len ≡ Some bytes → IsFirst (wanted % 256) bytes index
    → memchr ram at wanted len ≡ Some (wrapped (at + index))

-- the string from a place on ends at the first zero byte
abbrev pub LengthsAreOfZeros : Type 0
LengthsAreOfZeros =
    (ram : List ℕ) (at place index : ℕ) → phys (length ram) at ≡ Some place
    → IsFirst 0 (drop place ram) index → strlen ram at ≡ index

-- bytes that are equal up to two of which one is less: -1, and 1 the other way round
pub record DecidesFirst (less more : List ℕ) : Type 0 where
  pub less_is : compared less more ≡ 0xFFFFFFFF
  pub more_is : compared more less ≡ 1

abbrev pub FirstsDecide : Type 0
FirstsDecide =
    (front : List ℕ) (a b : ℕ) (rest others : List ℕ) → a < b
    → DecidesFirst (front ++ a ∷ rest) (front ++ b ∷ others)

abbrev pub EqualStringsAreZero : Type 0
EqualStringsAreZero =
    (ram : List ℕ) (a b : ℕ) → (strcmp ram a b ≡ 0) ↔ (string_at ram a ≡ string_at ram b)

-- the greatest index at which a byte stands
pub record IsLast (byte : ℕ) (bytes : List ℕ) (index : ℕ) : Type 0 where
  pub inside : index < length bytes
  pub stands : slice_index bytes index ≡ byte
  pub behind : (k : ℕ) → index < k → k < length bytes → slice_index bytes k ≢ byte

-- a byte stands nowhere
pub record IsNowhere (byte : ℕ) (bytes : List ℕ) : Type 0 where
  pub nowhere : (k : ℕ) → k < length bytes → slice_index bytes k ≢ byte

-- the zero byte that ends a string counts as one of its bytes
abbrev pub FirstsOfStringsAreFound : Type 0
FirstsOfStringsAreFound =
    (ram : List ℕ) (at wanted index : ℕ)
    → IsFirst (wanted % 256) (ended (string_at ram at)) index
    → strchr ram at wanted ≡ wrapped (at + index)

abbrev pub LastsOfStringsAreFound : Type 0
LastsOfStringsAreFound =
    (ram : List ℕ) (at wanted index : ℕ)
    → IsLast (wanted % 256) (ended (string_at ram at)) index
    → strrchr ram at wanted ≡ wrapped (at + index)

-- what stands nowhere gives 0
abbrev pub NoneInRangesIsZero : Type 0
NoneInRangesIsZero =
    (ram : List ℕ) (at wanted len : ℕ) (bytes : List ℕ)
    → bytes_at ram at len ≡ Some bytes → IsNowhere (wanted % 256) bytes
    → memchr ram at wanted len ≡ Some 0

pub record FindsNone (ram : List ℕ) (at wanted : ℕ) : Type 0 where
  pub first : strchr ram at wanted ≡ 0
  pub last : strrchr ram at wanted ≡ 0

abbrev pub NoneInStringsIsZero : Type 0
NoneInStringsIsZero =
    (ram : List ℕ) (at wanted : ℕ) → IsNowhere (wanted % 256) (ended (string_at ram at))
    → FindsNone ram at wanted

-- a string without a zero byte ends with RAM
abbrev pub StringsEndWithRam : Type 0
StringsEndWithRam =
    (ram : List ℕ) (at place : ℕ) → phys (length ram) at ≡ Some place
    → IsNowhere 0 (drop place ram) → strlen ram at ≡ length ram - place

-- and one outside RAM is empty
abbrev pub StringsOutsideAreEmpty : Type 0
StringsOutsideAreEmpty =
    (ram : List ℕ) (at : ℕ) → phys (length ram) at ≡ None → strlen ram at ≡ 0

-- a call that compares answers -1, and 1 the other way round
pub record RangesDiffer (ram : List ℕ) (less more len : ℕ) : Type 0 where
  pub less_is : memcmp ram less more len ≡ Some 0xFFFFFFFF
  pub more_is : memcmp ram more less len ≡ Some 1

pub record StringsDiffer (ram : List ℕ) (less more : ℕ) : Type 0 where
  pub less_is : strcmp ram less more ≡ 0xFFFFFFFF
  pub more_is : strcmp ram more less ≡ 1

pub record FrontsDiffer (ram : List ℕ) (less more most : ℕ) : Type 0 where
  pub less_is : strncmp ram less more most ≡ 0xFFFFFFFF
  pub more_is : strncmp ram more less most ≡ 1

-- of bytes that are equal up to two the less one decides
abbrev pub FirstsOfRangesDecide : Type 0
FirstsOfRangesDecide =
    (ram : List ℕ) (a b len : ℕ) (front : List ℕ) (x y : ℕ) (rest others : List ℕ) → x < y
    → bytes_at ram a len ≡ Some (front ++ x ∷ rest)
    → bytes_at ram b len ≡ Some (front ++ y ∷ others) → RangesDiffer ram a b len

abbrev pub FirstsOfStringsDecide : Type 0
FirstsOfStringsDecide =
    (ram : List ℕ) (a b : ℕ) (front : List ℕ) (x y : ℕ) (rest others : List ℕ) → x < y
    → ended (string_at ram a) ≡ front ++ x ∷ rest
    → ended (string_at ram b) ≡ front ++ y ∷ others → StringsDiffer ram a b

abbrev pub FirstsOfFrontsDecide : Type 0
FirstsOfFrontsDecide =
    (ram : List ℕ) (a b most : ℕ) (front : List ℕ) (x y : ℕ) (rest others : List ℕ) → x < y
    → take most (ended (string_at ram a)) ≡ front ++ x ∷ rest
    → take most (ended (string_at ram b)) ≡ front ++ y ∷ others → FrontsDiffer ram a b most

abbrev pub EqualRangesAreZero : Type 0
EqualRangesAreZero =
    (ram : List ℕ) (a b len : ℕ) (bytes others : List ℕ) → bytes_at ram a len ≡ Some bytes
    → bytes_at ram b len ≡ Some others → (memcmp ram a b len ≡ Some 0) ↔ (bytes ≡ others)

abbrev pub EqualFrontsAreZero : Type 0
EqualFrontsAreZero =
    (ram : List ℕ) (a b most : ℕ) → (strncmp ram a b most ≡ 0)
    ↔ (take most (ended (string_at ram a)) ≡ take most (ended (string_at ram b)))
