-- The links of empty lists.
use Rattle.std.proofs.Common.{◌≡◌, ◌∙◌, ℕ, ◌+◌, ◌-◌, ◌<◌, Option, Some, None, List, [], ◌∷◌, ◌++◌, length, map, get_or, replicate, refl, sym, ap, arith}
use Rattle.std.specs.List.{range_with_len}
use Rattle.std.proofs.lemmas.List.{append_assoc, length-append, length-replicate, get_or-replicate, get_or_append_left, get_or-append_right}
use Rattle.std.proofs.lemmas.List.FromFn.{length-range_with_len, get_or-range_with_len, length-map-range_with_len, get_or-map-range_with_len, map-range_with_len_more}
use Rattle.iop_cblock.specs.Lists.{no_lists}
use Rattle.iop_cblock.specs.Links.{Links, links_of, owner_at, IsRing, first_owners}
use Rattle.iop_cblock.proofs.Standing.{StandFor}

-- one more list
pub first_owners-more : (nodes lists : ℕ)
    → first_owners nodes (lists + 1) ≡ first_owners nodes lists ++ Some lists ∷ []
first_owners-more nodes lists =
    ap (λ owners. replicate nodes None ++ owners)
    (map-range_with_len_more (λ k. Some k) 0 lists lists (omega arith))
    ∙ sym (append_assoc (replicate nodes None) (map (λ k. Some k) (range_with_len 0 lists))
    (Some lists ∷ []))

module _ (nodes lists : ℕ) where
  abbrev fresh : Links
  fresh =
      links_of nodes (range_with_len 0 (nodes + lists)) (range_with_len 0 (nodes + lists))
      (first_owners nodes lists)

  node_free : (node : ℕ) → node < nodes → owner_at fresh node ≡ None
  node_free node h =
      get_or_append_left (replicate nodes None) (map (λ k. Some k) (range_with_len 0 lists)) None
      node (omega (arith, h, length-replicate {A = Option ℕ} nodes None))
      ∙ get_or-replicate nodes node None None h

  end_owner : (list : ℕ) → list < lists → owner_at fresh (nodes + list) ≡ Some list
  end_owner list h =
      get_or-append_right (replicate nodes None) (map (λ k. Some k) (range_with_len 0 lists)) nodes
      (nodes + list) None (length-replicate nodes None) (omega arith)
      ∙ get_or-map-range_with_len (λ k. Some k) 0 lists (nodes + list - nodes) list None
      (omega arith) (omega arith)

  itself : (list : ℕ) → list < lists
      → get_or (range_with_len 0 (nodes + lists)) (nodes + list) 0 ≡ nodes + list
  itself list h =
      get_or-range_with_len 0 (nodes + lists) (nodes + list) 0 (omega arith) ∙ omega arith

  empty_ring : (list : ℕ) → list < lists → IsRing fresh list []
  empty_ring list h =
      record {
        end = end_owner list h;
        linked = (itself list h, itself list h);
        owned = tt;
        apart = tt;
      }

  -- they stand for the empty lists
  pub fresh-stands : StandFor fresh (no_lists nodes lists)
  fresh-stands =
      let count : length (replicate {A = List ℕ} lists []) ≡ lists = length-replicate lists [] in
      let places = length-range_with_len 0 (nodes + lists) in
      let owners : length (first_owners nodes lists) ≡ nodes + lists =
      omega (
        arith,
        length-append (replicate {A = Option ℕ} nodes None)
            (map (λ k. Some k) (range_with_len 0 lists)),
        length-replicate {A = Option ℕ} nodes None,
        length-map-range_with_len {X = Option ℕ} (λ k. Some k) 0 lists,
      ) in
      record {
        nodes = refl;
        linked =
            record {
              next_length = omega (arith, places, count);
              previous_length = omega (arith, places, count);
              owner_length = omega (arith, owners, count);
              rings = λ list h.
                  let below : list < lists = omega (arith, h, count) in
                  rw (get_or-replicate {A = List ℕ} lists list [] [] below) (empty_ring list below);
              held = λ node list h e. let free = node_free node h in cc;
            };
      }
