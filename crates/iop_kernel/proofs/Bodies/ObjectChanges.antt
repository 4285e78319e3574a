-- The object of an id changes, once or twice.
use Rattle.std.proofs.Common.{◌≡◌, ℕ, ◌<◌, true, Some, List, [], ◌∷◌, map, All, refl, ap, arith}
use Rattle.std.specs.Prelude.{◌==◌, if◌then◌else◌}
use Rattle.std.proofs.lemmas.Bool.Decides.{nat_tests}
use Rattle.std.proofs.lemmas.List.Elements.{All-head, All-tail}
use Rattle.iop_objects.specs.Objects.{Object, Objects, object_of, changes}
use Rattle.iop_objects.proofs.Others.{HaveRisingIds}
use Rattle.iop_base.proofs.Searching.{AllPairs-head, AllPairs-tail}

module _ {A W : Type 0} (id : ℕ) where
  -- the objects after a change
  abbrev changed : (Object A W → Object A W) → List (Object A W) → List (Object A W)
  changed f live = map (λ o. if o.id == id then f o else o) live

  module _ (f g : Object A W → Object A W) (keeps : (o : Object A W) → (f o).id ≡ o.id) where
    twice_in : (live : List (Object A W))
        → changed g (changed f live) ≡ changed (λ p. g (f p)) live
    twice_in [] = refl
    twice_in (o ∷ live) = grind (arith, nat_tests, twice_in live, keeps o)

    -- two changes, one after the other, are one
    pub changes_twice : (s : Objects A W)
        → changes (changes s id f) id g ≡ changes s id (λ o. g (f o))
    changes_twice s =
        ap (λ (live : List (Object A W)). record s { live = live }) (twice_in s.live)

  -- the objects beside the one that changes stay
  beside : (f : Object A W → Object A W) (p : Object A W) (live : List (Object A W))
      → All (λ q. p.id < q.id) live → (p.id == id) ≡ true → changed f live ≡ live
  beside f p [] apart own = refl
  beside f p (q ∷ live) apart own =
      let two = All-head (λ q. p.id < q.id) q live apart in
      let later = beside f p live (All-tail (λ q. p.id < q.id) q live apart) own in
      grind (arith, nat_tests, own, two, later)

  module _ (f g : Object A W → Object A W) (o : Object A W) (same : f o ≡ g o) where
    alike_in : (live : List (Object A W)) → HaveRisingIds live
        → object_of live id ≡ Some o → changed f live ≡ changed g live
    alike_in [] ids e = refl
    alike_in (p ∷ live) ids e =
        let apart = AllPairs-head (λ a b. a.id < b.id) p live ids in
        let later = alike_in live (AllPairs-tail (λ a b. a.id < b.id) p live ids) in
        grind (arith, nat_tests, same, e, later, beside f p live apart, beside g p live apart)

    -- where ids are apart the change of the object of an id alone counts
    pub changes_alike : (s : Objects A W) → HaveRisingIds s.live
        → object_of s.live id ≡ Some o → changes s id f ≡ changes s id g
    changes_alike s ids found =
        ap (λ (live : List (Object A W)). record s { live = live }) (alike_in s.live ids found)
