-- The bits of the queues that have a thread, and what always holds of the queues.
use Rattle.std.proofs.Common.{◌≡◌, ◌≢◌, ℕ, ◌+◌, ◌<◌, Bool, true, false, ◌⊎◌, inl, inr, is_some, List, [], ◌∷◌, ◌++◌, length, refl, ap, sym, ◌∙◌, arith}
use Rattle.std.proofs.lemmas.Bool.{cases_eq}
use Rattle.std.proofs.lemmas.List.{length-set, length-map, length-replicate}
use Rattle.iop_base.specs.Bits.{has, ChangesOnly}
use Rattle.iop_cblock.specs.Lists.{Lists, AreDisjoint, no_lists, holds, head, list_at, pushed_back, pushed_front, unlinked, first_node, without as without_node}
use Rattle.iop_ready.specs.declared.priority.TheConstants.{LOWEST_PRIORITY}
use Rattle.iop_ready.specs.declared.slot.TheConstants.{MOST_THREADS}
use Rattle.iop_ready.specs.Queues.{Queues, queues_of, AreFilled, AreSound}
use Rattle.iop_cblock.proofs.Reading.{list_at-same, list_at-other, unlinked-others, head-push, head-held, empty_at}

-- the bits, once one queue changes
module _ (bits : ℕ) (s s' : Lists) (filled : AreFilled bits s) (list : ℕ)
    (others : (k : ℕ) → k ≢ list → list_at k s' ≡ list_at k s) where
  filled_at : (bits' : ℕ) (b : Bool) → ChangesOnly bits bits' (list + 1) b
      → is_some (first_node list s') ≡ b → (k : ℕ) → k < LOWEST_PRIORITY
      → (k ≡ list) ⊎ (k ≢ list) → has bits' (k + 1) ≡ is_some (first_node k s')
  filled_at bits' b change here k below (inl same) = rw same (change.changed ∙ sym here)
  filled_at bits' b change here k below (inr other) =
      change.others (k + 1) (λ e. other (omega (arith, e)))
      ∙ filled k below ∙ ap (λ ys. is_some (head ys)) (sym (others k other))

  pub filled-changed : (bits' : ℕ) (b : Bool) → ChangesOnly bits bits' (list + 1) b
      → is_some (first_node list s') ≡ b → AreFilled bits' s'
  filled-changed bits' b change here k below =
      filled_at bits' b change here k below (cases_eq k list)

  filled_kept_at : is_some (first_node list s') ≡ is_some (first_node list s)
      → (k : ℕ) → k < LOWEST_PRIORITY
      → (k ≡ list) ⊎ (k ≢ list) → has bits (k + 1) ≡ is_some (first_node k s')
  filled_kept_at here k below (inl same) =
      filled k below ∙ rw same (sym here)
  filled_kept_at here k below (inr other) =
      filled k below ∙ ap (λ ys. is_some (head ys)) (sym (others k other))

  pub filled-kept : is_some (first_node list s') ≡ is_some (first_node list s)
      → AreFilled bits s'
  filled-kept here k below = filled_kept_at here k below (cases_eq k list)

-- what always holds of the queues holds after each change
module _ (q : Queues) (sound : AreSound q) (slot list : ℕ) (below : list < LOWEST_PRIORITY) where
  inside : list < length q.arena.lists
  inside = omega (arith, below, sound.lists)

  pub sound-back : (arena : Lists) → arena ≡ pushed_back list slot q.arena → AreDisjoint arena
      → (bits : ℕ) → ChangesOnly q.bits bits (list + 1) true
      → AreSound (queues_of arena bits)
  sound-back arena is disjoint bits change =
      let ys = list_at list q.arena ++ slot ∷ [] in
      record {
        nodes = rw is sound.nodes;
        lists = rw is (length-set q.arena.lists list ys ∙ sound.lists);
        disjoint = disjoint;
        filled =
            filled-changed q.bits q.arena arena sound.filled list
            (λ k other. rw is (list_at-other list ys q.arena k other)) bits true change
            (ap (λ a. is_some (first_node list a)) is
            ∙ ap (λ zs. is_some (head zs)) (list_at-same list ys q.arena inside)
            ∙ head-push (list_at list q.arena) slot);
      }

  pub sound-front : (arena : Lists) → arena ≡ pushed_front list slot q.arena → AreDisjoint arena
      → (bits : ℕ) → ChangesOnly q.bits bits (list + 1) true
      → AreSound (queues_of arena bits)
  sound-front arena is disjoint bits change =
      let ys = slot ∷ list_at list q.arena in
      record {
        nodes = rw is sound.nodes;
        lists = rw is (length-set q.arena.lists list ys ∙ sound.lists);
        disjoint = disjoint;
        filled =
            filled-changed q.bits q.arena arena sound.filled list
            (λ k other. rw is (list_at-other list ys q.arena k other)) bits true change
            (ap (λ a. is_some (first_node list a)) is
            ∙ ap (λ zs. is_some (head zs)) (list_at-same list ys q.arena inside));
      }

  module _ (here : holds slot (list_at list q.arena) ≡ true) where
    others : (k : ℕ) → k ≢ list → list_at k (unlinked slot q.arena) ≡ list_at k q.arena
    others = unlinked-others slot list q.arena sound.disjoint here

    was_filled : is_some (first_node list q.arena) ≡ true
    was_filled = head-held slot (list_at list q.arena) here

    count : length (unlinked slot q.arena).lists ≡ LOWEST_PRIORITY
    count = length-map q.arena.lists (without_node slot) ∙ sound.lists

    module _ (arena : Lists) (is : arena ≡ unlinked slot q.arena)
        (disjoint : AreDisjoint arena) where
      taken : (k : ℕ) → k ≢ list → list_at k arena ≡ list_at k q.arena
      taken k other = rw is (others k other)

      pub sound-emptied : (bits : ℕ) → ChangesOnly q.bits bits (list + 1) false
          → is_some (first_node list arena) ≡ false
          → AreSound (queues_of arena bits)
      sound-emptied bits change empty = record {
        nodes = rw is sound.nodes;
        lists = rw is count;
        disjoint = disjoint;
        filled =
            filled-changed q.bits q.arena arena sound.filled list taken bits false change empty;
      }

      pub sound-left : is_some (first_node list arena) ≡ true
          → AreSound (queues_of arena q.bits)
      sound-left some = record {
        nodes = rw is sound.nodes;
        lists = rw is count;
        disjoint = disjoint;
        filled = filled-kept q.bits q.arena arena sound.filled list taken (some ∙ sym was_filled);
      }

    pub sound-rotated : (arena : Lists)
        → arena ≡ pushed_back list slot (unlinked slot q.arena) → AreDisjoint arena
        → AreSound (queues_of arena q.bits)
    sound-rotated arena is disjoint =
        let s = unlinked slot q.arena in
        let ys = list_at list s ++ slot ∷ [] in
        let in_lists : list < length s.lists = omega (arith, below, count) in
        record {
          nodes = rw is sound.nodes;
          lists = rw is (length-set s.lists list ys ∙ count);
          disjoint = disjoint;
          filled =
              filled-kept q.bits q.arena arena sound.filled list
              (λ k other. rw is (list_at-other list ys s k other ∙ others k other))
              (ap (λ a. is_some (first_node list a)) is
              ∙ ap (λ zs. is_some (head zs)) (list_at-same list ys s in_lists)
              ∙ head-push (list_at list s) slot ∙ sym was_filled);
        }

-- where the queues are new
pub sound-new : (arena : Lists) → arena ≡ no_lists MOST_THREADS LOWEST_PRIORITY
    → AreDisjoint arena → (bits : ℕ) → ((n : ℕ) → has bits n ≡ false)
    → AreSound (queues_of arena bits)
sound-new arena is disjoint bits none = record {
  nodes = rw is refl;
  lists = rw is (length-replicate {A = List ℕ} LOWEST_PRIORITY []);
  disjoint = disjoint;
  filled = λ list below. none (list + 1)
      ∙ rw is (ap (λ ys. is_some (head ys)) (sym (empty_at LOWEST_PRIORITY list)));
}
