-- What becomes of the objects of a kind where a call tells of them: each change, once for all kinds
-- and for all that calls can tell.
use Rattle.std.proofs.Common.{◌≡◌, ℕ, ◌<◌, ◌≤◌, ◌==◌, Bool, true, false, if◌then◌else◌, Option, Some, None, Result, Err, option_to_list, List, [], ◌∷◌, ◌++◌, map, refl, ap, sym, subst, arith}
use Rattle.std.specs.Option.{option_or}
use Rattle.std.specs.Prelude.{⊤}
use Rattle.std.proofs.lemmas.Bool.{cond_both}
use Rattle.std.proofs.lemmas.Bool.Decides.{nat_tests}
use Rattle.std.proofs.lemmas.List.Elements.{All-weaker}
use Rattle.std.proofs.lemmas.List.Folds.{find-append}
use Rattle.iop_base.specs.declared.code.Code.{Code}
use Rattle.iop_base.proofs.Lists.{find-none}
use Rattle.iop_objects.specs.Objects.{Object, Objects, object_of, state_of, has_room, creates, deletes, with_state}
use Rattle.iop_objects.proofs.Changes.{state_of-with_state}
use Rattle.iop_objects.proofs.Others.{HaveIdsBelow, known, object_of_without}
use Rattle.iop_services.specs.declared.service.Service.{Service}
use Rattle.iop_kernel_laws.specs.Histories.{Called, succeeds}

-- a history with a call more, if there is one
abbrev pub longer : List Called → Option Called → List Called
longer history call = history ++ option_to_list call

-- what a call tells, if there is one, of the object of an id
pub record Tells (A : Type 0) : Type 1 where
  -- that it became another, where it stays
  pub Keeps : (id : ℕ) → Option Called → (x y : A) → Type 0
  -- nothing
  pub Nothing : (id : ℕ) → Option Called → Type 0
  -- what is known of it at first
  pub First : A → Type 0
  -- the services that never tell anything
  pub Silent : Service → Type 0
  -- where nothing is told it may stay as it was
  pub alone : (id : ℕ) (call : Option Called) → Nothing id call → (x : A) → Keeps id call x x
  -- nothing is told by no call, by one of a silent service, and by one that does not succeed
  pub none : (id : ℕ) → Nothing id None
  pub silent : (id : ℕ) (c : Called) → Silent c.service → Nothing id (Some c)
  pub fails : (id : ℕ) (c : Called) → succeeds c ≡ false → Nothing id (Some c)

-- what a call tells by what was known of the object of an id, and by what is known now; one that
-- is made has an id that none had before
abbrev pub Becomes : {A : Type 0} → Tells A → (next id : ℕ) → Option Called → (was is : Option A)
    → Type 0
Becomes t next id call None None = t.Nothing id call
Becomes t next id call None (Some y) = t.Nothing id call × (next ≤ id) × t.First y
Becomes t next id call (Some x) None = ⊤
Becomes t next id call (Some x) (Some y) = t.Keeps id call x y

module _ {A W : Type 0} (t : Tells A) where
  -- the objects became what the call tells
  pub record TellsBy (old new : Objects A W) (call : Option Called) : Type 0 where
    pub each : (id : ℕ) → Becomes t old.next id call (state_of old id) (state_of new id)
    -- ids rise
    pub rises : old.next ≤ new.next

module _ {A W : Type 0} (t : Tells A) (s : Objects A W) (call : Option Called) where
  -- what the call tells of an object, by what is known of it now
  abbrev Told : (id : ℕ) → Option A → Type 0
  Told id now = Becomes t s.next id call (state_of s id) now

  -- nothing, where it stays as it was
  stays : (id : ℕ) → t.Nothing id call → (o : Option A) → Becomes t s.next id call o o
  stays id nothing None = nothing
  stays id nothing (Some x) = t.alone id call nothing x

  -- no object changes
  pub none_changes : (left : Objects A W) → ((id : ℕ) → t.Nothing id call)
      → ((id : ℕ) → state_of left id ≡ state_of s id) → s.next ≤ left.next → TellsBy t s left call
  none_changes left nothing same rises = record {
    each = λ id. subst (Told id) (sym (same id)) (stays id (nothing id) (state_of s id));
    rises = rises;
  }

  -- one becomes another as the call tells, and it alone
  module _ (at : ℕ) (x z : A) (was : state_of s at ≡ Some x) (keeps : t.Keeps at call x z)
      (elsewhere : (id : ℕ) → (at == id) ≡ false → t.Nothing id call) where
    pub one_becomes : (left : Objects A W) → state_of left at ≡ Some z
        → ((id : ℕ) → (at == id) ≡ false → state_of left id ≡ state_of s id)
        → s.next ≤ left.next → TellsBy t s left call
    one_becomes left is others rises =
        record { each = λ id. by id (at == id) refl; rises = rises }
      where
        by : (id : ℕ) (here : Bool) → (at == id) ≡ here → Told id (state_of left id)
        by id true here =
            let same : at ≡ id = grind (arith, nat_tests, here) in
            subst (λ n. Told n (state_of left n)) same (rw (was, is) keeps)
        by id false apart =
            subst (Told id) (sym (others id apart)) (stays id (elsewhere id apart) (state_of s id))

    abbrev to_z : Object A W → Object A W
    to_z o = if o.id == at then record o { state = z } else o

    others_stay : (id : ℕ) → (at == id) ≡ false → (live : List (Object A W))
        → known (object_of (map to_z live) id) ≡ known (object_of live id)
    others_stay id apart [] = refl
    others_stay id apart (o ∷ live) = grind (arith, nat_tests, others_stay id apart live, apart)

    -- so where what is known of it changes
    pub one_changes : TellsBy t s (with_state s at z) call
    one_changes =
        one_becomes (with_state s at z) (state_of-with_state s at x was z)
        (λ id apart. others_stay id apart s.live) (omega arith)

  -- an object goes or comes, of which nothing else is told
  module _ (nothing : (id : ℕ) → t.Nothing id call) where
    pub deletes_told : (at : ℕ) → TellsBy t s (deletes s at) call
    deletes_told at = record {
      each = λ id. subst (Told id) (ap known (sym (object_of_without s.live at id)))
          (by id (id == at) (object_of s.live id));
      rises = omega arith;
    }
      where
        by : (id : ℕ) (gone : Bool) (o : Option (Object A W))
            → Becomes t s.next id call (known o) (known (if gone then None else o))
        by id true None = nothing id
        by id true (Some o) = tt
        by id false o = stays id (nothing id) (known o)

    abbrev Made : Result ℕ Code × Objects A W → Type 0
    Made r = TellsBy t s r.1 call

    unmade : TellsBy t s s call
    unmade = none_changes s nothing (λ id. refl) (omega arith)

    -- if there is room
    pub creates_told : (x : A) → t.First x → Made (creates s x)
    creates_told x first =
        cond_both (has_room s) _ _ Made (λ room. record {
          each = λ id. subst (Told id)
              (ap known (sym (find-append (λ (o : Object A W). o.id == id) s.live (made ∷ []))))
              (by id (object_of s.live id) (s.next == id) refl);
          rises = omega arith;
        }) (λ full. unmade)
      where
        made : Object A W
        made = record { id = s.next; state = x; waiters = [] }

        by : (id : ℕ) (o : Option (Object A W)) (here : Bool) → (s.next == id) ≡ here
            → Becomes t s.next id call (known o)
            (known (option_or o (if here then Some made else None)))
        by id None true here = (nothing id, grind (arith, nat_tests, here), first)
        by id None false apart = nothing id
        by id (Some o) here is = t.alone id call (nothing id) o.state

    -- and it is not refused
    pub unless : (refuses : Bool) (code : Code) (r : Result ℕ Code × Objects A W)
        → (refuses ≡ false → Made r) → Made (if refuses then (Err code, s) else r)
    unless refuses code r made = cond_both refuses _ _ Made (λ is. unmade) made

  -- of an object that is still to be made nothing is told
  pub nothing_yet : (left : Objects A W) → HaveIdsBelow s.next s.live → TellsBy t s left call
      → (id : ℕ) → s.next ≤ id → t.Nothing id call
  nothing_yet left given told id above =
      by (state_of left id)
      (subst (λ (was : Option A). Becomes t s.next id call was (state_of left id)) none
      (told.each id))
    where
      none : state_of s id ≡ None
      none =
          ap known (find-none (λ (o : Object A W). o.id == id) s.live
          (All-weaker (λ (o : Object A W). o.id < s.next) (λ o. (o.id == id) ≡ false)
          (λ o below. grind (arith, nat_tests, below, above)) s.live given))

      by : (now : Option A) → Becomes t s.next id call None now → t.Nothing id call
      by None nothing = nothing
      by (Some y) made = made.0
