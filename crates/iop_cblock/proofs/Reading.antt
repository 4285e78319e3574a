-- The lists as a caller reads them after a change.
use Rattle.std.proofs.Common.{◌≡◌, ◌≢◌, ℕ, ◌<◌, Bool, true, false, ⊎_elim, zero, suc, Some, None, is_some, List, [], ◌∷◌, ◌++◌, length, map, refl, ap, sym, ◌∙◌, arith}
use Rattle.std.specs.List.{position, position_or_len}
use Rattle.std.proofs.lemmas.Bool.{cases_lt, eq-eqb, lt-ltb, false_from_ne_true}
use Rattle.std.proofs.lemmas.Bool.Decides.{nat_tests}
use Rattle.std.proofs.lemmas.List.{length-map, length-set, get_or_past, get_or-map, get_or-set_same, get_or-set_other}
use Rattle.std.proofs.lemmas.List.Quantifiers.{position-Some}
use Rattle.std.proofs.lemmas.List.Sums.{fails_before_first}
use Rattle.iop_base.proofs.Searching.{position-at, position-none}
use Rattle.iop_cblock.specs.Lists.{Lists, AreDisjoint, no_lists, holds, head, behind, list_at, list_of, next_of, with_list, unlinked, without}
use Rattle.iop_cblock.proofs.Changes.{without-lacks}

-- the lists once one of them changes
module _ (list : ℕ) (ys : List ℕ) (s : Lists) where
  pub list_at-same : list < length s.lists → list_at list (with_list list ys s) ≡ ys
  list_at-same below = get_or-set_same s.lists list ys [] below

  pub list_at-other : (k : ℕ) → k ≢ list → list_at k (with_list list ys s) ≡ list_at k s
  list_at-other k other = get_or-set_other s.lists list k ys [] other

-- the lists once a node is taken out of them
pub list_at-unlinked : (node k : ℕ) (s : Lists)
    → list_at k (unlinked node s) ≡ without node (list_at k s)
list_at-unlinked node k s =
    ⊎_elim
    (λ below. get_or-map (without node) s.lists k [] [] below)
    (λ past. get_or_past (map (without node) s.lists) k []
    (omega (arith, past, length-map s.lists (without node)))
    ∙ ap (without node) (sym (get_or_past s.lists k [] past)))
    (cases_lt k (length s.lists))

pub lacks-unlinked : (node : ℕ) (xs : List ℕ) → holds node (without node xs) ≡ false
lacks-unlinked node [] = refl
lacks-unlinked node (x ∷ xs) = grind (arith, nat_tests, lacks-unlinked node xs)

pub free-unlinked : (node : ℕ) (s : Lists) → list_of node (unlinked node s) ≡ None
free-unlinked node s =
    position-none (holds node) (map (without node) s.lists) []
    (λ k below. ap (holds node) (list_at-unlinked node k s) ∙ lacks-unlinked node (list_at k s))

-- a node in a list stands in that one alone
module _ (node list : ℕ) (s : Lists) (apart : AreDisjoint s) where
  lacks-others : holds node (list_at list s) ≡ true → (k : ℕ) → k ≢ list
      → holds node (list_at k s) ≡ false
  lacks-others here k other =
      false_from_ne_true (holds node (list_at k s)) (λ h. other (apart.in_one node k list h here))

  pub unlinked-others : holds node (list_at list s) ≡ true → (k : ℕ) → k ≢ list
      → list_at k (unlinked node s) ≡ list_at k s
  unlinked-others here k other =
      list_at-unlinked node k s ∙ without-lacks node (list_at k s) (lacks-others here k other)

pub holds-own : (node list : ℕ) (s : Lists) → list_of node s ≡ Some list
    → holds node (list_at list s) ≡ true
holds-own node list s found = (position-Some (holds node) s.lists list [] found).1

-- where no list has a node, each lacks it
position-some : {X : Type 0} (p : X → Bool) (xs : List X) → position_or_len p xs < length xs
    → position p xs ≡ Some (position_or_len p xs)
position-some p xs h = rw (lt-ltb (position_or_len p xs) (length xs) h) refl

pub lacks-free : (node : ℕ) (s : Lists) → list_of node s ≡ None → (list : ℕ)
    → holds node (list_at list s) ≡ false
lacks-free node s free list =
    ⊎_elim
    (λ h. ⊎_elim
    (λ q. let some = position-some (holds node) s.lists q in cc)
    (λ q. fails_before_first (holds node) s.lists list [] (omega (arith, q, h)))
    (cases_lt (position_or_len (holds node) s.lists) (length s.lists)))
    (λ h. rw (get_or_past s.lists list [] h) refl)
    (cases_lt list (length s.lists))

-- a node that no list has stands in the list that gets it
pub list_of-with_list : (node : ℕ) (s : Lists) → list_of node s ≡ None → (list : ℕ)
    → list < length s.lists → (ys : List ℕ) → holds node ys ≡ true
    → list_of node (with_list list ys s) ≡ Some list
list_of-with_list node s free list below ys held =
    position-at (holds node) (with_list list ys s).lists [] list
    (omega (arith, below, length-set s.lists list ys))
    (ap (holds node) (list_at-same list ys s below) ∙ held)
    (λ j before. ap (holds node) (list_at-other list ys s j (omega arith))
    ∙ lacks-free node s free j)

-- what is behind a node, where its list is known
pub next_of-at : (node k : ℕ) (s : Lists) → list_of node s ≡ Some k
    → next_of node s ≡ behind node (list_at k s)
next_of-at node k s e = rw e refl

pub head-push : (xs : List ℕ) (x : ℕ) → is_some (head (xs ++ x ∷ [])) ≡ true
head-push [] x = refl
head-push (y ∷ ys) x = refl

pub head-held : (node : ℕ) (xs : List ℕ) → holds node xs ≡ true → is_some (head xs) ≡ true
head-held node [] h = cc
head-held node (x ∷ xs) h = refl

pub held-head : (node : ℕ) (xs : List ℕ) → head xs ≡ Some node → holds node xs ≡ true
held-head node [] h = cc
held-head node (x ∷ xs) h = let same : node ≡ x = cc in rw (eq-eqb node x same) refl

-- at first each list is empty
pub empty_at : (n k : ℕ) → list_at k (no_lists 0 n) ≡ []
empty_at zero k = refl
empty_at (suc n) zero = refl
empty_at (suc n) (suc k) = empty_at n k
