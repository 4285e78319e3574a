-- The nodes of a list once one is put into it or taken out of it.
use Rattle.std.proofs.Common.{◌≡◌, ◌≢◌, ◌∙◌, ℕ, ◌<◌, Bool, true, false, cond, not, eqb, ◌||◌, Some, List, [], ◌∷◌, refl, sym, arith}
use Rattle.std.proofs.lemmas.Bool.{eqb-false, ne_eqb}
use Rattle.std.proofs.lemmas.Bool.Decides.{nat_tests}
use Rattle.iop_cblock.specs.Lists.{holds, without}
use Rattle.iop_cblock.specs.Links.{Links, owner_at, AreOwned, AreApart, put_at}
use Rattle.iop_cblock.proofs.Rings.{lacks-head, lacks-tail}

-- what is in a list once a node is put into it
pub holds-put_at : (x node place : ℕ) (xs : List ℕ)
    → holds x (put_at node place xs) ≡ (eqb x node || holds x xs)
holds-put_at x node place [] = refl
holds-put_at x node place (y ∷ ys) = grind (arith, nat_tests, holds-put_at x node place ys)

apart_by : (t : Bool) (node place y : ℕ) (ys : List ℕ) → AreApart (y ∷ ys)
    → holds node (y ∷ ys) ≡ false → AreApart (put_at node place ys)
    → AreApart (cond t (node ∷ y ∷ ys) (y ∷ put_at node place ys))
apart_by true node place y ys a h ih = (h, a)
apart_by false node place y ys a h ih =
    let other : y ≢ node = λ e. lacks-head node y ys h (sym e) in
    (rw (holds-put_at y node place ys, ne_eqb y node other) a.0, ih)

pub apart-put_at : (node place : ℕ) (xs : List ℕ) → AreApart xs → holds node xs ≡ false
    → AreApart (put_at node place xs)
apart-put_at node place [] a h = (refl, tt)
apart-put_at node place (y ∷ ys) a h =
    apart_by (eqb place y) node place y ys a h
    (apart-put_at node place ys a.1 (lacks-tail node y ys h))

-- what is in a list once a node is taken out of it
pub holds-without : (x node : ℕ) (xs : List ℕ) → x ≢ node
    → holds x (without node xs) ≡ holds x xs
holds-without x node [] ne = refl
holds-without x node (y ∷ ys) ne = grind (arith, nat_tests, holds-without x node ys ne)

lacks-without : (x node : ℕ) (xs : List ℕ) → holds x xs ≡ false
    → holds x (without node xs) ≡ false
lacks-without x node [] h = refl
lacks-without x node (y ∷ ys) h =
    grind (arith, nat_tests, h, lacks-without x node ys (lacks-tail x y ys h))

apart_without_by : (t : Bool) (node y : ℕ) (ys : List ℕ) → holds y ys ≡ false
    → AreApart (without node ys) → AreApart (cond t (y ∷ without node ys) (without node ys))
apart_without_by true node y ys h ih = (lacks-without y node ys h, ih)
apart_without_by false node y ys h ih = ih

pub apart-without : (node : ℕ) (xs : List ℕ) → AreApart xs → AreApart (without node xs)
apart-without node [] a = tt
apart-without node (y ∷ ys) a =
    apart_without_by (not (eqb node y)) node y ys a.0 (apart-without node ys a.1)

-- each place but one has the same owner
abbrev pub KeepsOwners : Links → Links → ℕ → Type 0
KeepsOwners t t' node = (y : ℕ) → y ≢ node → owner_at t' y ≡ owner_at t y

module _ (t t' : Links) (same : t'.nodes ≡ t.nodes) (node : ℕ) (kept : KeepsOwners t t' node)
    (list : ℕ) where
  pub owned-kept : (xs : List ℕ) → holds node xs ≡ false → AreOwned t list xs → AreOwned t' list xs
  owned-kept [] h o = tt
  owned-kept (y ∷ ys) h o = (
    rw same o.0,
    kept y (λ e. lacks-head node y ys h (sym e)) ∙ o.1,
    owned-kept ys (lacks-tail node y ys h) o.2,
  )

  owned_without_by : (b : Bool) (y : ℕ) (ys : List ℕ) → eqb node y ≡ b
      → AreOwned t list (y ∷ ys) → AreOwned t' list (without node ys)
      → AreOwned t' list (cond (not b) (y ∷ without node ys) (without node ys))
  owned_without_by true y ys e o ih = ih
  owned_without_by false y ys e o ih =
      (rw same o.0, kept y (λ q. eqb-false node y e (sym q)) ∙ o.1, ih)

  pub owned-without : (xs : List ℕ) → AreOwned t list xs → AreOwned t' list (without node xs)
  owned-without [] o = tt
  owned-without (y ∷ ys) o =
      owned_without_by (eqb node y) y ys refl o (owned-without ys o.2)

module _ (t : Links) (list node place : ℕ) (below : node < t.nodes)
    (owner : owner_at t node ≡ Some list) where
  owned_put_by : (b : Bool) (y : ℕ) (ys : List ℕ) → AreOwned t list (y ∷ ys)
      → AreOwned t list (put_at node place ys)
      → AreOwned t list (cond b (node ∷ y ∷ ys) (y ∷ put_at node place ys))
  owned_put_by true y ys o ih = (below, owner, o)
  owned_put_by false y ys o ih = (o.0, o.1, ih)

  pub owned-put_at : (xs : List ℕ) → AreOwned t list xs → AreOwned t list (put_at node place xs)
  owned-put_at [] o = (below, owner, tt)
  owned-put_at (y ∷ ys) o = owned_put_by (eqb place y) y ys o (owned-put_at ys o.2)
