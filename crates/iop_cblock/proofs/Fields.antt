-- What the fields of an arena say of its lists.
use Rattle.std.proofs.Common.{IfSome, sym, ◌≡◌, ◌≢◌, ◌∙◌, ℕ, ◌+◌, ◌<◌, ◌≤◌, Bool, true, false, cond, eqb, inl, inr, Option, Some, None, List, [], ◌∷◌, length, get_or, set, refl, ap, arith}
use Rattle.std.proofs.lemmas.Bool.{eqb-true, lt-ltb, le-ltb}
use Rattle.std.proofs.lemmas.List.{get_or_read}
use Rattle.std.specs.Option.{is_some}
use Rattle.iop_cblock.specs.declared.arena.Arena.TheInside.{Inside}
use Rattle.iop_cblock.specs.Lists.{Lists, holds, head, behind, list_at, list_of, next_of, with_list, pushed_back, pushed_front, inserted_before, in_front, unlinked}
use Rattle.iop_cblock.specs.Links.{Links, links_of, next_at, previous_at, owner_at, Chain, AreOwned, IsRing, AreSound, linked_lists, node_at, put_at, IsInRing}
use Rattle.iop_cblock.proofs.Rings.{IsIn, head-in, holds-tail}
use Rattle.iop_cblock.proofs.Owners.{lacks_end, lacks_other}
use Rattle.iop_cblock.proofs.Mapping.{map-one, in_front-lacks, in_front-put_at, put_at-lacks, put_at-first}
use Rattle.iop_cblock.proofs.Standing.{StandFor, stand_for, owner-list_of}
use Rattle.iop_cblock.proofs.Takes.{take-stands, before_below, behind_below}

abbrev pub links : Inside → Links
links a = links_of a.nodes a.next.items a.previous.items a.owner.items

pub own : (a : Inside) (s : Lists) → AreSound (links a) → linked_lists (links a) ≡ s
    → StandFor (links a) s
own a s sound e = stand_for (links a) s sound e

head-chain : (t : Links) (list a : ℕ) (xs : List ℕ) (b : ℕ)
    → Chain (next_at t) (previous_at t) a xs b → AreOwned t list xs → t.nodes ≤ b
    → node_at t.nodes (next_at t a) ≡ head xs
head-chain t list a [] b c o h = rw (c.0, le-ltb b t.nodes h) refl
head-chain t list a (y ∷ ys) b c o h = rw (c.0, lt-ltb y t.nodes o.0) refl

behind_by : (t : Links) (list y : ℕ) (ys : List ℕ) (b node : ℕ) (q : Bool) → eqb node y ≡ q
    → (holds node ys ≡ true → node_at t.nodes (next_at t node) ≡ behind node ys)
    → Chain (next_at t) (previous_at t) y ys b → AreOwned t list ys → t.nodes ≤ b
    → holds node (y ∷ ys) ≡ true
    → node_at t.nodes (next_at t node) ≡ cond q (head ys) (behind node ys)
behind_by t list y ys b node true e ih c o h held =
    rw (eqb-true node y e) (head-chain t list y ys b c o h)
behind_by t list y ys b node false e ih c o h held = ih (holds-tail node y ys e held)

behind-chain : (t : Links) (list a : ℕ) (xs : List ℕ) (b node : ℕ)
    → Chain (next_at t) (previous_at t) a xs b → AreOwned t list xs → t.nodes ≤ b
    → holds node xs ≡ true → node_at t.nodes (next_at t node) ≡ behind node xs
behind-chain t list a [] b node c o h held = cc
behind-chain t list a (y ∷ ys) b node c o h held =
    behind_by t list y ys b node (eqb node y) refl
    (λ later. behind-chain t list y ys b node c.2 o.2 h later) c.2 o.2 h held

listed_by : (p o : Option ℕ) → o ≡ p → is_some o ≡ true → (list : ℕ) × (p ≡ Some list)
listed_by None o e some = let none : is_some o ≡ false = ap is_some e in cc
listed_by (Some list) o e some = (list, refl)

free_by : (p o : Option ℕ) → o ≡ p → is_some o ≡ false → p ≡ None
free_by None o e none = refl
free_by (Some list) o e none = let some : is_some o ≡ true = ap is_some e in cc

module _ (t : Links) (s : Lists) (f : StandFor t s) where
  -- a node has a place in the tables
  pub in_tables : (node : ℕ) → node < s.nodes
      → (node < length t.next) × (node < length t.previous) × (node < length t.owner)
  in_tables node h = (
    omega (arith, h, f.nodes, f.linked.next_length),
    omega (arith, h, f.nodes, f.linked.previous_length),
    omega (arith, h, f.nodes, f.linked.owner_length),
  )

  -- what is read of a node's list is the list in which it stands
  pub list_of-read : (node : ℕ) → node < s.nodes → (o : Option ℕ) → o ≡ get_or t.owner node o
      → o ≡ list_of node s
  list_of-read node h o e =
      get_or_read t.owner node o (in_tables node h).2 e None ∙ owner-list_of t s f node h

  owner-read : (node : ℕ) → node < s.nodes → (o : Option ℕ) → o ≡ get_or t.owner node o
      → o ≡ owner_at t node
  owner-read node h o e = get_or_read t.owner node o (in_tables node h).2 e None

  -- what is read of a node that is in a list, and of one that is in none
  pub listed-read : (node : ℕ) → node < s.nodes → (o : Option ℕ) → o ≡ get_or t.owner node o
      → is_some o ≡ true → (list : ℕ) × (owner_at t node ≡ Some list)
  listed-read node h o e some = listed_by (owner_at t node) o (owner-read node h o e) some

  -- a node that stands in a list is in one
  pub listed_in : (node : ℕ) → node < s.nodes → (list : ℕ) → owner_at t node ≡ Some list
      → list_of node s ≡ None → ⊥
  listed_in node h list e none =
      let same : owner_at t node ≡ list_of node s = owner-list_of t s f node h in
      cc (same, e, none)

  pub free-read : (node : ℕ) → node < s.nodes → (o : Option ℕ) → o ≡ get_or t.owner node o
      → is_some o ≡ false → owner_at t node ≡ None
  free-read node h o e none = free_by (owner_at t node) o (owner-read node h o e) none

  module _ (node : ℕ) (node_below : node < s.nodes) (list : ℕ)
      (stands : list_of node s ≡ Some list) where
    owner-is : owner_at t node ≡ Some list
    owner-is = owner-list_of t s f node node_below ∙ stands

    held-is : (list < length s.lists) × (holds node (list_at list s) ≡ true)
    held-is = f.linked.held node list (omega (arith, node_below, f.nodes)) owner-is

    pub stands_below : list < length s.lists
    stands_below = held-is.0

    pub stands_in : IsInRing node list s
    stands_in = inl held-is.1

    -- the node behind one that stands in a list
    pub next_of-read : (p : ℕ) → p ≡ get_or t.next node p → node_at t.nodes p ≡ next_of node s
    next_of-read p e =
        let ring = f.linked.rings list stands_below in
        rw (get_or_read t.next node p (in_tables node node_below).0 e 0, stands)
        (behind-chain t list (t.nodes + list) (list_at list s) (t.nodes + list) node ring.linked
        ring.owned (omega arith) held-is.1)

    other-lists : (new j : ℕ) → j < length s.lists → j ≢ list
        → in_front new node (get_or s.lists j []) ≡ get_or s.lists j []
    other-lists new j h ne =
        in_front-lacks new node (get_or s.lists j [])
        (lacks_other t j node (get_or s.lists j []) (f.linked.rings j h).owned
        (λ e. let own = owner-is in ne (let same : j ≡ list = cc in same)))

    -- a node put in front of one that stands in a list
    pub inserted_before-is : (new : ℕ)
        → with_list list (put_at new node (list_at list s)) s ≡ inserted_before new node s
    inserted_before-is new =
        rw (
          map-one (in_front new node) s.lists [] list stands_below (other-lists new),
          in_front-put_at new node (list_at list s) held-is.1,
        ) refl

  -- the list in which a node stands is one of the lists
  pub list-below : (node : ℕ) → node < s.nodes → (o : Option ℕ) → o ≡ list_of node s
      → IfSome o (λ list. list < length s.lists)
  list-below node h None e = tt
  list-below node h (Some list) e = stands_below node h list (sym e)

  -- a node in no list has none behind it
  pub next_of-none : (node : ℕ) → list_of node s ≡ None → None ≡ next_of node s
  next_of-none node e = rw e refl

  module _ (list : ℕ) (list_below : list < length s.lists) where
    ring : IsRing t list (list_at list s)
    ring = f.linked.rings list list_below

    -- the end of a list has a place in the table
    pub end_below : t.nodes + list < length t.next
    end_below = omega (arith, list_below, f.linked.next_length)

    -- a node put at the end of a list
    pub pushed_back-is : (node : ℕ)
        → with_list list (put_at node (t.nodes + list) (list_at list s)) s
        ≡ pushed_back list node s
    pushed_back-is node =
        rw (put_at-lacks node (t.nodes + list) (list_at list s)
        (lacks_end t list (t.nodes + list) (list_at list s) ring.owned (omega arith))) refl

    first-read : (p : ℕ) → p ≡ get_or t.next (t.nodes + list) p → p ≡ next_at t (t.nodes + list)
    first-read p e = get_or_read t.next (t.nodes + list) p end_below e 0

    to_ring : (p : ℕ) → IsIn p (list_at list s) (t.nodes + list) → IsInRing p list s
    to_ring p (inl h) = inl h
    to_ring p (inr e) = inr (omega (arith, e, f.nodes))

    -- the place behind the end of a list is one of its ring
    pub first_in : (p : ℕ) → p ≡ get_or t.next (t.nodes + list) p → IsInRing p list s
    first_in p e =
        to_ring p (rw (first-read p e)
        (head-in (next_at t) (previous_at t) (t.nodes + list) (list_at list s) (t.nodes + list)
        ring.linked))

    -- a node put in front of the first of a list
    pub pushed_front-is : (node p : ℕ) → p ≡ get_or t.next (t.nodes + list) p
        → with_list list (put_at node p (list_at list s)) s ≡ pushed_front list node s
    pushed_front-is node p e =
        rw (
          first-read p e,
          put_at-first (next_at t) (previous_at t) node (t.nodes + list) (list_at list s)
              (t.nodes + list) ring.linked,
        ) refl

-- what `unlink` reads of a node that is in a list, and what it leaves
pub record IsTaken (a : Inside) (s : Lists) (node before behind : ℕ) : Type 0 where
  pub before_below : before < length a.next.items
  pub behind_below : behind < length a.previous.items
  pub not_free : list_of node s ≡ None → ⊥
  pub left : StandFor
      (links_of a.nodes (set a.next.items before behind) (set a.previous.items behind before)
      (set a.owner.items node None))
      (unlinked node s)

pub is_taken : (a : Inside) {s : Lists} {o : Option ℕ} {node before behind : ℕ}
    → AreSound (links a) → linked_lists (links a) ≡ s → node < s.nodes
    → o ≡ get_or a.owner.items node o → is_some o ≡ true
    → before ≡ get_or a.previous.items node before → behind ≡ get_or a.next.items node behind
    → IsTaken a s node before behind
is_taken a {s} {o} {node} {before} {behind} sound view below owner some in_front in_back =
    let t = links a in
    let f = own a s sound view in
    let listed = listed-read t s f node below o owner some in
    record {
      before_below =
          before_below t.nodes t.next t.previous t.owner node s f below listed.0 listed.1 before
          in_front;
      behind_below =
          behind_below t.nodes t.next t.previous t.owner node s f below listed.0 listed.1 behind
          in_back;
      not_free = listed_in t s f node below listed.0 listed.1;
      left =
          take-stands t.nodes t.next t.previous t.owner node s f below listed.0 listed.1 before
          behind in_front in_back;
    }
