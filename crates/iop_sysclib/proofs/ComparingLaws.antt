-- The laws of the calls that compare.
use Rattle.std.proofs.Common.{◌≡◌, ℕ, Some, List, ◌∷◌, ◌++◌, take, ap, sym, ◌∙◌}
use Rattle.std.specs.Prelude.{option_map, option_and_then}
use Rattle.iop_printf.specs.Texts.{string_at}
use Rattle.iop_sysclib.specs.Laws.{FirstsOfRangesDecide, FirstsOfStringsDecide, FirstsOfFrontsDecide, EqualRangesAreZero, EqualFrontsAreZero}
use Rattle.iop_sysclib.specs.MemoryCalls.{order_word, compared, memcmp}
use Rattle.iop_sysclib.specs.Outcomes.{bytes_at}
use Rattle.iop_sysclib.specs.StringCalls.{ended, strcmp, strncmp}
use Rattle.iop_sysclib.proofs.CallLaws.{firsts_decide, compared_zero, equal_cmp}

-- ranges are compared by their bytes
memcmp_of : (ram : List ℕ) (a b len : ℕ) (first second : List ℕ)
    → bytes_at ram a len ≡ Some first → bytes_at ram b len ≡ Some second
    → memcmp ram a b len ≡ Some (compared first second)
unfolding memcmp
memcmp_of ram a b len first second a_is b_is =
    ap (option_and_then (λ (bytes : List ℕ). option_map (compared bytes) (bytes_at ram b len))) a_is
    ∙ ap (option_map (compared first)) b_is

compared_of : (xs ys first second : List ℕ) → xs ≡ first → ys ≡ second
    → compared xs ys ≡ compared first second
compared_of xs ys first second a_is b_is =
    ap (λ (t : List ℕ). compared t ys) a_is ∙ ap (compared first) b_is

pub firsts_of_ranges_decide : FirstsOfRangesDecide
firsts_of_ranges_decide ram a b len front x y rest others less a_is b_is =
    let decides = firsts_decide front x y rest others less in
    record {
      less_is = memcmp_of ram a b len (front ++ x ∷ rest) (front ++ y ∷ others) a_is b_is
          ∙ ap Some decides.less_is;
      more_is = memcmp_of ram b a len (front ++ y ∷ others) (front ++ x ∷ rest) b_is a_is
          ∙ ap Some decides.more_is;
    }

pub firsts_of_strings_decide : FirstsOfStringsDecide
unfolding strcmp
firsts_of_strings_decide ram a b front x y rest others less a_is b_is =
    let decides = firsts_decide front x y rest others less in
    let first = ended (string_at ram a) in
    let second = ended (string_at ram b) in
    record {
      less_is = compared_of first second (front ++ x ∷ rest) (front ++ y ∷ others) a_is b_is
          ∙ decides.less_is;
      more_is = compared_of second first (front ++ y ∷ others) (front ++ x ∷ rest) b_is a_is
          ∙ decides.more_is;
    }

pub firsts_of_fronts_decide : FirstsOfFrontsDecide
unfolding strncmp
firsts_of_fronts_decide ram a b most front x y rest others less a_is b_is =
    let decides = firsts_decide front x y rest others less in
    let first = take most (ended (string_at ram a)) in
    let second = take most (ended (string_at ram b)) in
    record {
      less_is = compared_of first second (front ++ x ∷ rest) (front ++ y ∷ others) a_is b_is
          ∙ decides.less_is;
      more_is = compared_of second first (front ++ y ∷ others) (front ++ x ∷ rest) b_is a_is
          ∙ decides.more_is;
    }

equal_are_zero : (xs ys : List ℕ) → xs ≡ ys → compared xs ys ≡ 0
equal_are_zero xs ys same =
    ap (λ (t : List ℕ). compared t ys) same ∙ ap order_word (equal_cmp ys)

some_is : (m n : ℕ) → Some m ≡ Some n → m ≡ n
some_is m n same = cc

pub equal_ranges_are_zero : EqualRangesAreZero
equal_ranges_are_zero ram a b len bytes others a_is b_is =
    let is = memcmp_of ram a b len bytes others a_is b_is in (
      (λ zero. compared_zero bytes others (some_is (compared bytes others) 0 (sym is ∙ zero))),
      (λ same. is ∙ ap Some (equal_are_zero bytes others same)),
    )

pub equal_fronts_are_zero : EqualFrontsAreZero
unfolding strncmp
equal_fronts_are_zero ram a b most =
    let first = take most (ended (string_at ram a)) in
    let second = take most (ended (string_at ram b)) in
    ((λ zero. compared_zero first second zero), (λ same. equal_are_zero first second same))
