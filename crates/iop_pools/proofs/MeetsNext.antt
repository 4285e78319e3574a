-- Who is met next, what is taken for it, and who waits on.
use Rattle.std.proofs.Common.{◌≡◌, ℕ, ◌==◌, ◌<◌, Bool, true, false, Option, Some, None, option_map, List, [], ◌∷◌, ◌++◌, if◌then◌else◌, refl, ap, sym, ◌∙◌, subst, arith, All}
use Rattle.std.proofs.lemmas.Bool.Decides.{nat_tests}
use Rattle.std.proofs.lemmas.List.Elements.{All-head, All-tail}
use Rattle.std.proofs.lemmas.Option.{same_Some}
use Rattle.iop_objects.specs.Objects.{state_of, waiters_of, with_waiters}
use Rattle.iop_objects.proofs.Changes.{state_of-with_waiters}
use Rattle.iop_pools.specs.Laws.{IsTakenOf}
use Rattle.iop_pools.specs.MeetingLaws.{MeetsOne, MeetsNext, NextIsMet}
use Rattle.iop_pools.specs.Pools.{Pool, by_priority, place_for}
use Rattle.iop_pools.specs.VariablePools.{VariablePools, fits, place_of, meets_it, meets_next}
use Rattle.iop_pools.specs.declared.met.Met.{Met}
use Rattle.iop_pools.proofs.MemoryOut.{taken_at}
use Rattle.iop_pools.proofs.MetNext.{IsMet, met_next, none_fits, others_wait, unmet}
use Rattle.iop_pools.proofs.NextMet.{next}

-- what holds of all holds of one among them
middle : {X : Type 0} (P : X → Type 0) (before : List X) (one : X) (behind : List X)
    → All P (before ++ one ∷ behind) → P one
middle P [] one behind all = All-head P one behind all
middle P (x ∷ before) one behind all =
    middle P before one behind (All-tail P x (before ++ one ∷ behind) all)

-- a size that is not 0 and has a place for it has one
placed : (x : Pool) (size place : ℕ) (none : Bool) → (size == 0) ≡ none → 0 < size
    → (if none then None else place_for x size) ≡ None → place_for x size ≡ Some place → ⊥
placed x size place true is some unplaced at = grind (arith, nat_tests, is, some)
placed x size place false is some unplaced at = cc

module _ (s : VariablePools) (id : ℕ) where
  by_met : {met : Met} (m : IsMet s id met (meets_next s id).1) → MeetsOne s id m.x met
  by_met {met} m =
      let rest = with_waiters s id m.one.others in
      let size = m.one.one.item.wants in
      let known : state_of rest id ≡ Some m.x =
      state_of-with_waiters s id m.x m.known m.one.others in
      record {
        one = m.one.one;
        is_next =
            sym (next (fits m.x) (by_priority m.x) (waiters_of s id))
            ∙ ap (option_map (λ c. c.one)) m.chosen;
        thread = sym m.thread;
        some = grind (arith, nat_tests, m.some);
        place = m.place;
        taken =
            subst (λ (l : VariablePools). IsTakenOf m.x size met.block (state_of l id))
            (sym m.leaves) (taken_at rest id m.x known size met.block);
        others = record {
          before = m.taken.before;
          behind = m.taken.behind;
          queue_is = m.taken.queue_is;
          others_are = others_wait s id m ∙ m.taken.others_are;
        };
      }

  module _ (x : Pool) (known : state_of s id ≡ Some x) where
    meets_one : (met : Met) → (meets_next s id).0 ≡ Some met → MeetsOne s id x met
    meets_one met e =
        let m = met_next s id met (meets_next s id).1 (ap (λ o. (o, (meets_next s id).1)) e) in
        let same : m.x ≡ x = same_Some m.x x (sym m.known ∙ known) in
        subst (λ (y : Pool). MeetsOne s id y met) same (by_met m)

    abbrev Unplaced : Type 0
    Unplaced = All (λ w. place_of x w.item.wants ≡ None) (waiters_of s id)

    unmet_where : (o : Option Met) → (meets_next s id).0 ≡ o → Unplaced
        → (meets_next s id).0 ≡ None
    unmet_where None e all = e
    unmet_where (Some met) e all =
        let m = meets_one met e in
        let here =
        middle (λ w. place_of x w.item.wants ≡ None) m.others.before m.one m.others.behind
        (subst (All (λ w. place_of x w.item.wants ≡ None)) m.others.queue_is all) in
        let size = m.one.item.wants in
        absurd (placed x size met.block (size == 0) refl m.some here m.place)

    meets : MeetsNext s id x
    meets = record {
      met = meets_one;
      unmet = (none_fits s id x known, unmet_where (meets_next s id).0 refl);
      same = unmet s id;
    }

pub next_met : NextIsMet
next_met = record {
  next = λ x by_priority queue. next (fits x) by_priority queue;
  live = meets;
  unknown = λ s id none. ap (meets_it s id) none;
}
