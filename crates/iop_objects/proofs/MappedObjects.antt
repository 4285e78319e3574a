-- Tables whose objects are seen otherwise, each with the same id.
use Rattle.std.proofs.Common.{◌≡◌, ℕ, ◌<◌, ◌≤◌, List, [], ◌∷◌, length, map, get_or, All, AllPairs, ap, sym, ◌∙◌, arith}
use Rattle.std.proofs.lemmas.List.{length-map, get_or-map}
use Rattle.std.proofs.lemmas.List.Elements.{All-map}
use Rattle.iop_objects.specs.Objects.{Object, AreObjects}
use Rattle.iop_objects.specs.declared.objects.TheConstants.{FIRST_ID}
use Rattle.iop_objects.proofs.Tables.{table_of}

module _ {A B W V : Type 0} (seen : Object A W → Object B V)
    (same : (o : Object A W) → (seen o).id ≡ o.id) where
  ids_rise : (live : List (Object A W)) → AllPairs (λ a b. a.id < b.id) live
      → AllPairs (λ a b. a.id < b.id) (map seen live)
  ids_rise [] pairs i j d less below = absurd (omega (arith, below))
  ids_rise (o ∷ live) pairs i j d less below =
      let all = o ∷ live in
      let inside : j < length all = omega (arith, length-map all seen, below) in
      let before : i < length all = omega (arith, less, inside) in
      let first = ap (λ p. p.id) (get_or-map seen all i o d before) in
      let second = ap (λ p. p.id) (get_or-map seen all j o d inside) in
      omega (
        arith,
        pairs i j o less inside,
        same (get_or all i o),
        same (get_or all j o),
        first,
        second,
      )

  pub AreObjects-map : (live : List (Object A W)) (next : ℕ) → AreObjects (table_of live next)
      → AreObjects (table_of (map seen live) next)
  AreObjects-map live next are = record {
    ids = ids_rise live are.ids;
    first = All-map (λ (p : Object B V). FIRST_ID ≤ p.id) seen live
        (λ k d below. omega (arith, are.first k d below, same (get_or live k d)));
    given = All-map (λ (p : Object B V). p.id < next) seen live
        (λ k d below. omega (arith, are.given k d below, same (get_or live k d)));
    few = omega (arith, length-map live seen, are.few);
    next_first = are.next_first;
    next_last = are.next_last;
  }
