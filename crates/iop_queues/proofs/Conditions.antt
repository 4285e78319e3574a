-- Those items of a queue of which a condition holds and all others, once the first of those is
-- taken.
use Rattle.std.proofs.Common.{◌≡◌, ◌+◌, ◌<◌, Bool, true, false, not, is_some, Option, Some, None, List, [], ◌∷◌, ◌++◌, append_assoc, length, refl, ap, sym, ◌∙◌, arith}
use Rattle.std.proofs.lemmas.Bool.{false_from_ne_true}
use Rattle.std.proofs.lemmas.List.{length-append}
use Rattle.std.proofs.lemmas.List.Elements.{All-weaker, filter-append}
use Rattle.std.proofs.lemmas.List.Folds.{list_any_none}
use Rattle.iop_base.proofs.Lists.{filter-none_fails, filter-none_passes}
use Rattle.iop_queues.specs.Laws.{IsFirstWhere}
use Rattle.iop_queues.specs.Queue.{Choice, chooses_where, left_by}
use Rattle.iop_queues.specs.Queues.{those_where, others_where}
use Rattle.iop_queues.specs.declared.queued.Queued.{Queued}
use Rattle.iop_queues.proofs.Choosing.{NeverHolds, first_where, none_where}
use Rattle.iop_queues.proofs.Finding.{NoneMeets, chooses_where-first}

pub all_those : {T : Type 0} (xs : List (Queued T)) → those_where (λ item. true) xs ≡ xs
all_those [] = refl
all_those (x ∷ xs) = ap (λ ys. x ∷ ys) (all_those xs)

module _ {T : Type 0} (p : T → Bool) where
  none_meets : (xs : List (Queued T)) → NeverHolds p xs → NoneMeets p xs
  none_meets xs never =
      All-weaker (λ x. p x.item ≡ true → ⊥) (λ x. p x.item ≡ false)
      (λ x fails. false_from_ne_true (p x.item) fails) xs never

  -- where it holds of none, all are others
  others_where-all : (xs : List (Queued T)) → NeverHolds p xs → others_where p xs ≡ xs
  others_where-all xs never =
      filter-none_fails (λ x. p x.item) xs
      (list_any_none (λ x. p x.item) xs (none_meets xs never))

  those_where-none : (xs : List (Queued T)) → NeverHolds p xs → those_where p xs ≡ []
  those_where-none xs never =
      filter-none_passes (λ x. p x.item) xs
      (list_any_none (λ x. p x.item) xs (none_meets xs never))

  -- the first of those of which it holds
  module _ (xs : List (Queued T)) (c : Choice T) (h : IsFirstWhere p xs c) where
    abbrev before : List (Queued T)
    before = h.taken.before

    abbrev behind : List (Queued T)
    behind = h.taken.behind

    -- all others stay
    pub others_where-chosen : others_where p c.others ≡ others_where p xs
    others_where-chosen =
        let was : others_where p xs ≡ others_where p before ++ others_where p behind =
        ap (others_where p) h.taken.queue_is
        ∙ filter-append (λ x. not (p x.item)) before (c.one ∷ behind) ∙ rw h.holds refl in
        ap (others_where p) h.taken.others_are
        ∙ filter-append (λ x. not (p x.item)) before behind ∙ sym was

    -- it is the first of those
    pub those_where-chosen : those_where p xs ≡ c.one ∷ those_where p c.others
    those_where-chosen =
        let none = those_where-none before h.first in
        let was : those_where p xs ≡ c.one ∷ those_where p behind =
        ap (those_where p) h.taken.queue_is
        ∙ filter-append (λ x. p x.item) before (c.one ∷ behind) ∙ rw (none, h.holds) refl in
        let left : those_where p c.others ≡ those_where p behind =
        ap (those_where p) h.taken.others_are
        ∙ filter-append (λ x. p x.item) before behind ∙ rw none refl in
        was ∙ ap (λ ys. c.one ∷ ys) (sym left)

    -- one item less
    length-chosen : length c.others + 1 ≡ length xs
    length-chosen =
        omega (
          arith,
          ap length h.taken.queue_is,
          ap length h.taken.others_are,
          length-append before (c.one ∷ behind),
          length-append before behind,
        )

    -- it is chosen, too, where later ones follow
    pub chooses_where-append : (ys : List (Queued T))
        → chooses_where p (xs ++ ys)
        ≡ Some (record { one = c.one; others = c.others ++ ys })
    chooses_where-append ys =
        let with_others : List (Queued T) → Option (Choice T) =
        λ zs. Some (record { one = c.one; others = zs }) in
        ap (λ zs. chooses_where p (zs ++ ys)) h.taken.queue_is
        ∙ ap (chooses_where p) (append_assoc before (c.one ∷ behind) ys)
        ∙ chooses_where-first p before c.one (behind ++ ys) (none_meets before h.first) h.holds
        ∙ ap with_others
        (sym (ap (λ zs. zs ++ ys) h.taken.others_are ∙ append_assoc before behind ys))

  -- the others stay, whichever is taken
  pub others_where-left : (xs : List (Queued T))
      → others_where p (left_by xs (chooses_where p xs)) ≡ others_where p xs
  others_where-left xs = by (chooses_where p xs) refl
    where
      by : (o : Option (Choice T)) → chooses_where p xs ≡ o
          → others_where p (left_by xs o) ≡ others_where p xs
      by None e = refl
      by (Some c) e = others_where-chosen xs c (first_where p xs c e)

  pub others_where-none : (xs : List (Queued T)) → chooses_where p xs ≡ None
      → others_where p xs ≡ xs
  others_where-none xs none = others_where-all xs (none_where p xs none)

  pub shorter : (xs : List (Queued T)) → is_some (chooses_where p xs) ≡ true
      → length (left_by xs (chooses_where p xs)) < length xs
  shorter xs some = by (chooses_where p xs) refl some
    where
      by : (o : Option (Choice T)) → chooses_where p xs ≡ o → is_some o ≡ true
          → length (left_by xs o) < length xs
      by None e some = cc
      by (Some c) e some = omega (arith, length-chosen xs c (first_where p xs c e))

  -- where there is one of those, the first is chosen
  pub first_of_those : (xs : List (Queued T)) → 0 < length (those_where p xs)
      → (c : Choice T) × IsFirstWhere p xs c
  first_of_those xs some = by (chooses_where p xs) refl
    where
      by : (o : Option (Choice T)) → chooses_where p xs ≡ o
          → (c : Choice T) × IsFirstWhere p xs c
      by None e =
          absurd (omega (arith, some, ap length (those_where-none xs (none_where p xs e))))
      by (Some c) e = (c, first_where p xs c e)

  pub others_where-no_those : (xs : List (Queued T)) → those_where p xs ≡ []
      → others_where p xs ≡ xs
  others_where-no_those xs none = by (chooses_where p xs) refl
    where
      by : (o : Option (Choice T)) → chooses_where p xs ≡ o → others_where p xs ≡ xs
      by None e = others_where-none xs e
      by (Some c) e =
          let those = those_where-chosen xs c (first_where p xs c e) in cc
