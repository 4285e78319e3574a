-- The links once a node is put in front of a place.
use Rattle.std.proofs.Common.{◌≡◌, ◌≢◌, ◌∙◌, ℕ, ◌+◌, ◌<◌, true, eqb, ⊎_elim, Option, Some, None, List, length, get_or, set, refl, sym, ap, arith}
use Rattle.std.proofs.lemmas.Bool.{cases_eq, eq-eqb, or_right, or_left}
use Rattle.std.proofs.lemmas.List.{length-set, get_or-set_same, get_or-set_other, get_or_read}
use Rattle.iop_cblock.specs.Lists.{Lists, holds, list_at, with_list}
use Rattle.iop_cblock.specs.Links.{Links, links_of, next_at, previous_at, owner_at, IsRing, CanPut, put_at}
use Rattle.iop_cblock.proofs.Rings.{IsIn, Misses}
use Rattle.iop_cblock.proofs.Changes.{Inserts, put-chain}
use Rattle.iop_cblock.proofs.Owners.{misses_other}
use Rattle.iop_cblock.proofs.Ownership.{holds-put_at, apart-put_at, owned-kept, owned-put_at}
use Rattle.iop_cblock.proofs.Families.{ChangesOne, linked-changed}
use Rattle.iop_cblock.proofs.Standing.{StandFor, ring-owner, previous-owner, ring-open, owner-list_of, in_next, in_previous}

module _ (nodes : ℕ) (next previous : List ℕ) (owner : List (Option ℕ)) (list node place : ℕ) where
  abbrev old : Links
  old = links_of nodes next previous owner

  abbrev before : ℕ
  before = get_or previous place 0

  abbrev new : Links
  new =
      links_of nodes (set (set next before node) node place)
      (set (set previous place node) node before) (set owner node (Some list))

  module _ (s : Lists) (own : StandFor old s) (can : CanPut s list node place) where
    ring : IsRing old list (list_at list s)
    ring = own.linked.rings list can.list_below

    in_ring : IsIn place (list_at list s) (nodes + list)
    in_ring = rw own.nodes can.in_ring

    free : owner_at old node ≡ None
    free = owner-list_of old s own node can.node_below ∙ can.free

    place_owner : owner_at old place ≡ Some list
    place_owner = ring-owner old list (list_at list s) ring place in_ring

    before_owner : owner_at old before ≡ Some list
    before_owner = previous-owner old list (list_at list s) ring place in_ring

    apart : (p : ℕ) → owner_at old p ≡ Some list → p ≢ node
    apart p e q = let none : owner_at old p ≡ None = ap (owner_at old) q ∙ free in cc

    inserts : Inserts (next_at old) (previous_at old) (next_at new) (previous_at new) node place
    inserts =
        let node_below : node < nodes = omega (arith, can.node_below, own.nodes) in
        record {
          agree =
              record {
                next = λ y p w.
                    get_or-set_other (set next before node) node y place 0 w
                    ∙ get_or-set_other next before y node 0 p;
                previous = λ y p w.
                    get_or-set_other (set previous place node) node y before 0 w
                    ∙ get_or-set_other previous place y node 0 p;
              };
          next_before =
              get_or-set_other (set next before node) node before place 0
              (apart before before_owner)
              ∙ get_or-set_same next before node 0 (in_next old s own before list before_owner);
          next_node =
              get_or-set_same (set next before node) node place 0
              (omega (arith, node_below, length-set next before node, own.linked.next_length));
          previous_place =
              get_or-set_other (set previous place node) node place before 0
              (apart place place_owner)
              ∙ get_or-set_same previous place node 0
              (in_previous old s own place list place_owner);
          previous_node =
              get_or-set_same (set previous place node) node before 0
              (omega (
                arith,
                node_below,
                length-set previous place node,
                own.linked.previous_length,
              ));
        }

    new_owner : owner_at new node ≡ Some list
    new_owner =
        get_or-set_same owner node (Some list) None
        (omega (arith, can.node_below, own.nodes, own.linked.owner_length))

    change : ChangesOne old new list node before place
    change =
        record {
          nodes = refl;
          next_length = length-set (set next before node) node place ∙ length-set next before node;
          previous_length =
              length-set (set previous place node) node before ∙ length-set previous place node;
          owner_length = length-set owner node (Some list);
          agree = inserts.agree;
          owners = λ y ne. get_or-set_other owner node y (Some list) None ne;
          before_owner = before_owner;
          behind_owner = place_owner;
          was_in_no_other = λ j ne e. let q = free in cc;
          is_in_no_other = λ j ne e. let q = new_owner in ne (let same : j ≡ list = cc in same);
        }

    misses : Misses node (nodes + list) (list_at list s)
    misses = misses_other old list node (list_at list s) ring (λ e. let q = free in cc)

    new_ring : IsRing new list (put_at node place (list_at list s))
    new_ring =
        let ys = list_at list s in
        let node_below : node < nodes = omega (arith, can.node_below, own.nodes) in
        record {
          end = change.owners (nodes + list) (λ e. misses.first (sym e)) ∙ ring.end;
          linked =
              put-chain (next_at old) (previous_at old) (next_at new) (previous_at new) node place
              inserts (nodes + list) ys (nodes + list) in_ring
              (ring-open old list ys ring) misses.first misses;
          owned =
              owned-put_at new list node place node_below new_owner ys
              (owned-kept old new refl node change.owners list ys misses.others ring.owned);
          apart = apart-put_at node place ys ring.apart misses.others;
        }

    held : (y : ℕ) → y < nodes → owner_at new y ≡ Some list
        → holds y (put_at node place (list_at list s)) ≡ true
    held y h e =
        rw (holds-put_at y node place (list_at list s))
        (⊎_elim
        (λ same. or_left (eqb y node) (holds y (list_at list s)) (eq-eqb y node same))
        (λ ne. or_right (eqb y node) (holds y (list_at list s))
        (own.linked.held y list h (sym (change.owners y ne) ∙ e)).1)
        (cases_eq y node))

    -- the links stand for the lists with the node put in
    put-links : StandFor new (with_list list (put_at node place (list_at list s)) s)
    put-links =
        record {
          nodes = own.nodes;
          linked =
              linked-changed old new list node before place change s.lists own.linked can.list_below
              (put_at node place (list_at list s)) new_ring held;
        }

    pub place_below : place < length next × place < length previous
    place_below = (
      in_next old s own place list place_owner,
      in_previous old s own place list place_owner,
    )

    pub before_below : (p : ℕ) → p ≡ get_or previous place p → p < length next
    before_below p e =
        rw (get_or_read previous place p place_below.1 e 0)
        (in_next old s own before list before_owner)

    -- the same, with what was read of the place in front
    pub put-stands : (p : ℕ) → p ≡ get_or previous place p
        → StandFor (links_of nodes (set (set next p node) node place)
        (set (set previous place node) node p) (set owner node (Some list)))
        (with_list list (put_at node place (list_at list s)) s)
    put-stands p e = rw (get_or_read previous place p place_below.1 e 0) put-links
