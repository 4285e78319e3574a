-- The links once a node is taken out of its list.
use Rattle.std.proofs.Common.{◌≡◌, ◌≢◌, ◌∙◌, ℕ, ◌+◌, ◌<◌, true, inl, ⊎_elim, Option, Some, None, List, [], length, map, get_or, set, refl, sym, ap, arith}
use Rattle.std.proofs.lemmas.Bool.{cases_eq}
use Rattle.std.proofs.lemmas.List.{length-set, get_or-set_same, get_or-set_other, get_or_read}
use Rattle.iop_cblock.specs.Lists.{Lists, holds, list_at, without, unlinked}
use Rattle.iop_cblock.specs.Links.{Links, links_of, next_at, previous_at, owner_at, IsRing}
use Rattle.iop_cblock.proofs.Changes.{Removes, take-chain, without-lacks}
use Rattle.iop_cblock.proofs.Owners.{lacks_other}
use Rattle.iop_cblock.proofs.Ownership.{holds-without, apart-without, owned-without}
use Rattle.iop_cblock.proofs.Families.{ChangesOne, linked-changed}
use Rattle.iop_cblock.proofs.Mapping.{map-one, map-none}
use Rattle.iop_cblock.proofs.Standing.{StandFor, owner-below, previous-owner, next-owner, ring-open, in_next, in_previous}

module _ (nodes : ℕ) (next previous : List ℕ) (owner : List (Option ℕ)) (node : ℕ) where
  abbrev old : Links
  old = links_of nodes next previous owner

  abbrev before : ℕ
  before = get_or previous node 0

  abbrev behind : ℕ
  behind = get_or next node 0

  abbrev new : Links
  new =
      links_of nodes (set next before behind) (set previous behind before) (set owner node None)

  module _ (s : Lists) (own : StandFor old s) (node_below : node < s.nodes) where
    below : node < nodes
    below = omega (arith, node_below, own.nodes)

    -- what lists the node leaves as they are
    stays : (list : ℕ) → list < length s.lists → owner_at old node ≢ Some list
        → without node (get_or s.lists list []) ≡ get_or s.lists list []
    stays list h ne =
        without-lacks node (get_or s.lists list [])
        (lacks_other old list node (get_or s.lists list []) (own.linked.rings list h).owned ne)

    -- a node in no list
    pub unlinked-free : owner_at old node ≡ None → s ≡ unlinked node s
    unlinked-free e =
        let same = map-none (without node) s.lists [] (λ j h. stays j h (λ q. cc)) in
        rw same refl

    module _ (list : ℕ) (listed : owner_at old node ≡ Some list) where
      list_below : list < length s.lists
      list_below = (own.linked.held node list below listed).0

      found : holds node (list_at list s) ≡ true
      found = (own.linked.held node list below listed).1

      ring : IsRing old list (list_at list s)
      ring = own.linked.rings list list_below

      before_owner : owner_at old before ≡ Some list
      before_owner = previous-owner old list (list_at list s) ring node (inl found)

      behind_owner : owner_at old behind ≡ Some list
      behind_owner = next-owner old list (list_at list s) ring node found

      removes : Removes (next_at old) (previous_at old) (next_at new) (previous_at new) node
      removes =
          record {
            agree =
                record {
                  next = λ y p w. get_or-set_other next before y behind 0 p;
                  previous = λ y p w. get_or-set_other previous behind y before 0 p;
                };
            next_before =
                get_or-set_same next before behind 0 (in_next old s own before list before_owner);
            previous_behind =
                get_or-set_same previous behind before 0
                (in_previous old s own behind list behind_owner);
          }

      new_owner : owner_at new node ≡ None
      new_owner = get_or-set_same owner node None None (owner-below old node list listed)

      change : ChangesOne old new list node before behind
      change =
          record {
            nodes = refl;
            next_length = length-set next before behind;
            previous_length = length-set previous behind before;
            owner_length = length-set owner node None;
            agree = removes.agree;
            owners = λ y ne. get_or-set_other owner node y None None ne;
            before_owner = before_owner;
            behind_owner = behind_owner;
            was_in_no_other = λ j ne e. ne (let same : j ≡ list = cc in same);
            is_in_no_other = λ j ne e. let q = new_owner in cc;
          }

      new_ring : IsRing new list (without node (list_at list s))
      new_ring =
          let ys = list_at list s in
          let low : node < nodes = below in
          record {
            end = change.owners (nodes + list) (λ e. absurd (omega arith)) ∙ ring.end;
            linked =
                take-chain (next_at old) (previous_at old) (next_at new) (previous_at new) node
                removes (nodes + list) ys (nodes + list) found (ring-open old list ys ring);
            owned = owned-without old new refl node change.owners list ys ring.owned;
            apart = apart-without node ys ring.apart;
          }

      held : (y : ℕ) → y < nodes → owner_at new y ≡ Some list
          → holds y (without node (list_at list s)) ≡ true
      held y h e =
          ⊎_elim
          (λ same. let none : owner_at new y ≡ None = ap (owner_at new) same ∙ new_owner in cc)
          (λ ne. holds-without y node (list_at list s) ne
          ∙ (own.linked.held y list h (sym (change.owners y ne) ∙ e)).1)
          (cases_eq y node)

      unlinked-is : map (without node) s.lists
          ≡ set s.lists list (without node (get_or s.lists list []))
      unlinked-is =
          map-one (without node) s.lists [] list list_below
          (λ j h ne. stays j h (λ e. ne (let same : j ≡ list = cc in same)))

      -- the links stand for the lists with the node taken out
      take-links : StandFor new (unlinked node s)
      take-links =
          record {
            nodes = own.nodes;
            linked =
                rw unlinked-is
                (linked-changed old new list node before behind change s.lists own.linked list_below
                (without node (list_at list s)) new_ring held);
          }

      pub before-read : (p : ℕ) → p ≡ get_or previous node p → p ≡ before
      before-read p e =
          let inside : node < length owner = owner-below old node list listed in
          get_or_read previous node p (omega (
            arith,
            inside,
            own.linked.previous_length,
            own.linked.owner_length,
          )) e 0

      pub behind-read : (n : ℕ) → n ≡ get_or next node n → n ≡ behind
      behind-read n e =
          let inside : node < length owner = owner-below old node list listed in
          get_or_read next node n (omega (
            arith,
            inside,
            own.linked.next_length,
            own.linked.owner_length,
          )) e 0

      pub before_below : (p : ℕ) → p ≡ get_or previous node p → p < length next
      before_below p e = rw (before-read p e) (in_next old s own before list before_owner)

      pub behind_below : (n : ℕ) → n ≡ get_or next node n → n < length previous
      behind_below n e = rw (behind-read n e) (in_previous old s own behind list behind_owner)

      -- the same, with what was read of the two places
      pub take-stands : (p n : ℕ) → p ≡ get_or previous node p → n ≡ get_or next node n
          → StandFor (links_of nodes (set next p n) (set previous n p) (set owner node None))
          (unlinked node s)
      take-stands p n ep en = rw (before-read p ep, behind-read n en) take-links
