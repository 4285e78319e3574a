-- The next one of which a condition holds is the one that is chosen among those of which it does.
use Rattle.std.proofs.Common.{◌≡◌, Bool, true, false, cond, nat_lt, Option, Some, None, option_map, List, [], ◌∷◌, refl, ap, sym, ◌∙◌}
use Rattle.std.specs.Prelude.{if◌then◌else◌}
use Rattle.iop_queues.specs.Queue.{Choice, chooses, chooses_behind, chooses_best, chooses_best_where, chooses_between, chooses_first, chooses_next_where, chooses_where}
use Rattle.iop_queues.specs.Queues.{those_where}
use Rattle.iop_queues.specs.declared.queued.Queued.{Queued}

module _ {T : Type 0} (p : T → Bool) where
  abbrev one : Option (Choice T) → Option (Queued T)
  one c = option_map (λ d. d.one) c

  behind : (x : Queued T) (later : Option (Choice T)) → one (chooses_behind x later) ≡ one later
  behind x None = refl
  behind x (Some d) = refl

  between : (x : Queued T) (xs ys : List (Queued T)) (a b : Option (Choice T)) → one a ≡ one b
      → one (Some (chooses_between x xs a)) ≡ one (Some (chooses_between x ys b))
  between x xs ys None None same = refl
  between x xs ys None (Some b) same = cc
  between x xs ys (Some a) None same = cc
  between x xs ys (Some a) (Some b) same =
      let is : a.one ≡ b.one = cc in
      by xs a (nat_lt a.one.priority x.priority)
      ∙ ap (λ (q : Queued T). Some (cond (nat_lt q.priority x.priority) q x)) is
      ∙ sym (by ys b (nat_lt b.one.priority x.priority))
    where
      by : (zs : List (Queued T)) (d : Choice T) (less : Bool)
          → one (Some (if less then record { one = d.one; others = x ∷ d.others }
          else record { one = x; others = zs })) ≡ Some (cond less d.one x)
      by zs d true = refl
      by zs d false = refl

  best : (queue : List (Queued T))
      → one (chooses_best_where p queue) ≡ one (chooses_best (those_where p queue))
  best [] = refl
  best (x ∷ xs) = by (p x.item) (best xs)
    where
      by : (b : Bool) → one (chooses_best_where p xs) ≡ one (chooses_best (those_where p xs))
          → one (if b then Some (chooses_between x xs (chooses_best_where p xs))
          else chooses_behind x (chooses_best_where p xs))
          ≡ one (chooses_best (cond b (x ∷ those_where p xs) (those_where p xs)))
      by true later =
          between x xs (those_where p xs) (chooses_best_where p xs)
          (chooses_best (those_where p xs)) later
      by false later = behind x (chooses_best_where p xs) ∙ later

  first : (queue : List (Queued T))
      → one (chooses_where p queue) ≡ one (chooses_first (those_where p queue))
  first [] = refl
  first (x ∷ xs) = by (p x.item) (first xs)
    where
      by : (b : Bool) → one (chooses_where p xs) ≡ one (chooses_first (those_where p xs))
          → one (if b then Some (record { one = x; others = xs })
          else chooses_behind x (chooses_where p xs))
          ≡ one (chooses_first (cond b (x ∷ those_where p xs) (those_where p xs)))
      by true later = refl
      by false later = behind x (chooses_where p xs) ∙ later

  pub next : (by_priority : Bool) (queue : List (Queued T))
      → one (chooses_next_where by_priority p queue)
      ≡ one (chooses by_priority (those_where p queue))
  next true queue = best queue
  next false queue = first queue
