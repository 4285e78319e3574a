-- Sums over objects, one of which changes.
use Rattle.std.proofs.Common.{◌≡◌, ℕ, ◌+◌, ◌<◌, ◌≤◌, ◌==◌, Bool, true, false, cond, if◌then◌else◌, Some, List, [], ◌∷◌, map, sum_by, AllPairs, refl, ap, arith}
use Rattle.std.proofs.lemmas.Bool.{eqb-true, ne_eqb}
use Rattle.std.proofs.lemmas.List.Elements.{All-weaker}
use Rattle.std.proofs.lemmas.List.Folds.{map_fixed}
use Rattle.std.proofs.lemmas.List.Sums.{sum_by-cons}
use Rattle.iop_base.proofs.Searching.{AllPairs-head, AllPairs-tail}
use Rattle.iop_objects.specs.Objects.{Object, object_of}
use Rattle.iop_objects.proofs.Apart.{Rise}

-- where the object of an id changes, a sum over all grows by no more than its part of it
module _ {A W : Type 0} (part : Object A W → ℕ) (id : ℕ) (change : Object A W → Object A W)
    (more : ℕ) where
  abbrev one : Object A W → Object A W
  one o = if o.id == id then change o else o

  pub sum_changed : (live : List (Object A W)) → AllPairs Rise live
      → ((o : Object A W) → object_of live id ≡ Some o → part (change o) ≤ part o + more)
      → sum_by part (map one live) ≤ sum_by part live + more
  sum_changed [] ids grows = omega arith
  sum_changed (o ∷ live) ids grows =
      by (o.id == id) refl (sum_changed live (AllPairs-tail Rise o live ids)) grows
    where
      others_stay : o.id ≡ id → map one live ≡ live
      others_stay same =
          map_fixed one live
          (All-weaker (λ p. o.id < p.id) (λ p. one p ≡ p)
          (λ p less. ap (λ b. if b then change p else p)
          (ne_eqb p.id id (λ e. omega (arith, less, same, e))))
          live (AllPairs-head Rise o live ids))

      by : (b : Bool) → (o.id == id) ≡ b
          → (((p : Object A W) → object_of live id ≡ Some p → part (change p) ≤ part p + more)
          → sum_by part (map one live) ≤ sum_by part live + more)
          → ((p : Object A W) → cond b (Some o) (object_of live id) ≡ Some p
          → part (change p) ≤ part p + more)
          → sum_by part ((if b then change o else o) ∷ map one live)
          ≤ sum_by part (o ∷ live) + more
      by true is rest grows =
          omega (
            arith,
            grows o refl,
            sum_by-cons part (change o) (map one live),
            sum_by-cons part o live,
            ap (sum_by part) (others_stay (eqb-true o.id id is)),
          )
      by false is rest grows =
          omega (
            arith,
            rest grows,
            sum_by-cons part o (map one live),
            sum_by-cons part o live,
          )
