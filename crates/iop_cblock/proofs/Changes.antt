-- What a node put into a chain, or taken out of one, leaves of it.
use Rattle.std.proofs.Common.{◌≡◌, ◌≢◌, ◌∙◌, ℕ, Bool, true, false, cond, not, eqb, inl, inr, List, [], ◌∷◌, refl, sym, ap, arith}
use Rattle.std.proofs.lemmas.Bool.{eqb-true, eqb-false}
use Rattle.std.proofs.lemmas.Bool.Decides.{nat_tests}
use Rattle.iop_cblock.specs.Lists.{holds, without}
use Rattle.iop_cblock.specs.Links.{Chain, AreApart, put_at}
use Rattle.iop_cblock.proofs.Rings.{lacks-head, lacks-tail, holds-tail, Agree, Misses, IsIn, in-tail, in-more, previous-in, next-in, frame}

-- what is in a list is not what the list lacks
pub not_lacked : (x y : ℕ) (xs : List ℕ) → holds x xs ≡ true → holds y xs ≡ false → x ≢ y
not_lacked x y xs h l e = let same : holds y xs ≡ true = rw (← e) h in cc

pub without-lacks : (x : ℕ) (xs : List ℕ) → holds x xs ≡ false → without x xs ≡ xs
without-lacks x [] h = refl
without-lacks x (y ∷ ys) h =
    grind (arith, nat_tests, lacks-head x y ys h, without-lacks x ys (lacks-tail x y ys h))

-- a chain that can be changed
pub record IsOpen (nx pv : ℕ → ℕ) (a : ℕ) (xs : List ℕ) (b : ℕ) : Type 0 where
  pub chain : Chain nx pv a xs b
  pub start : holds a xs ≡ false
  pub end : holds b xs ≡ false
  pub apart : AreApart xs

open_tail : (nx pv : ℕ → ℕ) (a x : ℕ) (xs : List ℕ) (b : ℕ) → IsOpen nx pv a (x ∷ xs) b
    → IsOpen nx pv x xs b
open_tail nx pv a x xs b o =
    record {
      chain = o.chain.2;
      start = o.apart.0;
      end = lacks-tail b x xs o.end;
      apart = o.apart.1;
    }

-- the links once a node stands in front of a place
pub record Inserts (nx pv nx' pv' : ℕ → ℕ) (node place : ℕ) : Type 0 where
  pub agree : Agree nx pv nx' pv' (pv place) place node
  pub next_before : nx' (pv place) ≡ node
  pub next_node : nx' node ≡ place
  pub previous_place : pv' place ≡ node
  pub previous_node : pv' node ≡ pv place

-- the links once a node is taken out
pub record Removes (nx pv nx' pv' : ℕ → ℕ) (node : ℕ) : Type 0 where
  pub agree : Agree nx pv nx' pv' (pv node) (nx node) node
  pub next_before : nx' (pv node) ≡ nx node
  pub previous_behind : pv' (nx node) ≡ pv node

module _ (nx pv nx' pv' : ℕ → ℕ) where
  module _ (node place : ℕ) (ins : Inserts nx pv nx' pv' node place) where
    put_here : (a y : ℕ) (ys : List ℕ) (b : ℕ) → place ≡ y → IsOpen nx pv a (y ∷ ys) b
        → Misses node b (y ∷ ys) → Chain nx' pv' a (node ∷ y ∷ ys) b
    put_here a y ys b e o m =
        let before : pv place ≡ a = ap pv e ∙ o.chain.1 in
        let kept : Chain nx' pv' y ys b =
        frame nx pv nx' pv' (pv place) place node ins.agree y ys b
        (rw before (record {
          first = lacks-head a y ys o.start;
          others = lacks-tail a y ys o.start;
        }))
        (record { first = lacks-head node y ys m.others; others = lacks-tail node y ys m.others })
        (rw e (record { first = λ q. lacks-head b y ys o.end (sym q); others = o.apart.0 }))
        m.first o.chain.2 in (
          ap nx' (sym before) ∙ ins.next_before,
          ins.previous_node ∙ before,
          (ins.next_node ∙ e, ap pv' (sym e) ∙ ins.previous_place, kept),
        )

    put_by : (t : Bool) (a y : ℕ) (ys : List ℕ) (b : ℕ) → eqb place y ≡ t
        → (IsIn place ys b → Chain nx' pv' y (put_at node place ys) b)
        → IsIn place (y ∷ ys) b → IsOpen nx pv a (y ∷ ys) b
        → node ≢ a → Misses node b (y ∷ ys)
        → Chain nx' pv' a (cond t (node ∷ y ∷ ys) (y ∷ put_at node place ys)) b
    put_by true a y ys b e ih i o na m = put_here a y ys b (eqb-true place y e) o m
    put_by false a y ys b e ih i o na m =
        let later = in-tail place y ys b e i in
        let found : holds (pv place) (y ∷ ys) ≡ true =
        in-more nx pv (pv place) y ys (previous-in nx pv y ys b place later o.chain.2) in (
          ins.agree.next a (λ q. not_lacked (pv place) a (y ∷ ys) found o.start (sym q))
              (λ q. na (sym q)) ∙ o.chain.0,
          ins.agree.previous y (λ q. eqb-false place y e (sym q))
              (λ q. lacks-head node y ys m.others (sym q)) ∙ o.chain.1,
          ih later,
        )

    -- a chain with a node put in front of a place
    pub put-chain : (a : ℕ) (xs : List ℕ) (b : ℕ) → IsIn place xs b → IsOpen nx pv a xs b
        → node ≢ a → Misses node b xs → Chain nx' pv' a (put_at node place xs) b
    put-chain a [] b (inl h) o na m = cc
    put-chain a [] b (inr e) o na m =
        let before : pv place ≡ a = ap pv e ∙ o.chain.1 in (
          ap nx' (sym before) ∙ ins.next_before,
          ins.previous_node ∙ before,
          (ins.next_node ∙ e, ap pv' (sym e) ∙ ins.previous_place),
        )
    put-chain a (y ∷ ys) b i o na m =
        put_by (eqb place y) a y ys b refl
        (λ later. put-chain y ys b later (open_tail nx pv a y ys b o)
        (lacks-head node y ys m.others)
        (record { first = m.first; others = lacks-tail node y ys m.others })) i o na m

  module _ (node : ℕ) (rem : Removes nx pv nx' pv' node) where
    take_here : (a : ℕ) (ys : List ℕ) (b : ℕ) → IsOpen nx pv a (node ∷ ys) b
        → Chain nx' pv' a ys b
    take_here a [] b o =
        let behind : nx node ≡ b = o.chain.2.0 in (
          ap nx' (sym o.chain.1) ∙ rem.next_before ∙ behind,
          ap pv' (sym behind) ∙ rem.previous_behind ∙ o.chain.1,
        )
    take_here a (z ∷ zs) b o =
        let behind : nx node ≡ z = o.chain.2.0 in
        let kept : Chain nx' pv' z zs b =
        frame nx pv nx' pv' (pv node) (nx node) node rem.agree z zs b
        (rw o.chain.1 (record {
          first = lacks-head a z zs (lacks-tail a node (z ∷ zs) o.start);
          others = lacks-tail a z zs (lacks-tail a node (z ∷ zs) o.start);
        }))
        (record { first = lacks-head node z zs o.apart.0; others = lacks-tail node z zs o.apart.0 })
        (rw behind (record {
          first = λ q. lacks-head b z zs (lacks-tail b node (z ∷ zs) o.end) (sym q);
          others = o.apart.1.0;
        }))
        (λ q. lacks-head b node (z ∷ zs) o.end (sym q)) o.chain.2.2 in (
          ap nx' (sym o.chain.1) ∙ rem.next_before ∙ behind,
          ap pv' (sym behind) ∙ rem.previous_behind ∙ o.chain.1,
          kept,
        )

    take_by : (t : Bool) (a y : ℕ) (ys : List ℕ) (b : ℕ) → eqb node y ≡ t
        → (holds node ys ≡ true → Chain nx' pv' y (without node ys) b)
        → holds node (y ∷ ys) ≡ true → IsOpen nx pv a (y ∷ ys) b
        → Chain nx' pv' a (cond (not t) (y ∷ without node ys) (without node ys)) b
    take_by true a y ys b e ih h o =
        let same = eqb-true node y e in
        let o' : IsOpen nx pv a (node ∷ ys) b = rw same o in
        rw (without-lacks node ys o'.apart.0) (take_here a ys b o')
    take_by false a y ys b e ih h o =
        let later = holds-tail node y ys e h in
        let found : holds (pv node) (y ∷ ys) ≡ true =
        in-more nx pv (pv node) y ys (previous-in nx pv y ys b node (inl later) o.chain.2) in (
          rem.agree.next a (λ q. not_lacked (pv node) a (y ∷ ys) found o.start (sym q))
              (λ q. not_lacked node a (y ∷ ys) h o.start (sym q)) ∙ o.chain.0,
          rem.agree.previous y (elim (next-in nx pv y ys b node h o.chain.2) as (λ _. y ≢ nx node) [
            | inl i ↦ λ q. not_lacked (nx node) y ys i o.apart.0 (sym q)
            | inr i ↦ λ q. lacks-head b y ys o.end (sym (q ∙ i))
          ])
              (λ q. eqb-false node y e (sym q)) ∙ o.chain.1,
          ih later,
        )

    -- a chain with a node taken out
    pub take-chain : (a : ℕ) (xs : List ℕ) (b : ℕ) → holds node xs ≡ true → IsOpen nx pv a xs b
        → Chain nx' pv' a (without node xs) b
    take-chain a [] b h o = cc
    take-chain a (y ∷ ys) b h o =
        take_by (eqb node y) a y ys b refl
        (λ later. take-chain y ys b later (open_tail nx pv a y ys b o)) h o
