-- A semaphore that is made.
use Rattle.std.proofs.Common.{◌≡◌, ℕ, ◌+◌, Bool, true, false, not, nat_lt, cond, Some, None, option_map, Result, Ok, Err, List, [], ◌∷◌, ◌++◌, refl, ap, sym, ◌∙◌, arith}
use Rattle.std.specs.Prelude.{⊤, ◌==◌, if◌then◌else◌}
use Rattle.std.proofs.lemmas.Bool.Decides.{nat_tests}
use Rattle.iop_base.specs.declared.code.Code.{Code}
use Rattle.iop_base.specs.declared.code.TheConstants.Code.{NO_MEMORY, ILLEGAL_ATTRIBUTE, SEMAPHORE_OVERFLOW}
use Rattle.iop_objects.specs.Objects.{Object, has_room, object_of, state_of, waiters_in}
use Rattle.iop_sema.specs.Laws.{IsMade}
use Rattle.iop_sema.specs.Semaphores.{Semaphores, is_attribute, creates}
use Rattle.iop_sema.specs.declared.semaphore.Semaphore.{Semaphore}

-- an object behind others of which none has its id is found
object_of-last : (live : List (Object Semaphore ⊤)) (o : Object Semaphore ⊤)
    → option_map (λ (p : Object Semaphore ⊤). p.state) (object_of live o.id) ≡ None
    → object_of (live ++ o ∷ []) o.id ≡ Some o
object_of-last [] o none =
    let same : (o.id == o.id) ≡ true = grind (arith, nat_tests) in rw same refl
object_of-last (p ∷ live) o none = either (p.id == o.id) (object_of-last live o) none
  where
    either : (b : Bool)
        → (option_map (λ (q : Object Semaphore ⊤). q.state) (object_of live o.id) ≡ None
        → object_of (live ++ o ∷ []) o.id ≡ Some o)
        → option_map (λ (q : Object Semaphore ⊤). q.state) (cond b (Some p) (object_of live o.id))
        ≡ None
        → cond b (Some p) (object_of (live ++ o ∷ []) o.id) ≡ Some o
    either true later none = cc
    either false later none = later none

module _ (s : Semaphores) (attr option initial max : ℕ) where
  abbrev made : Semaphore
  made = record {
    attr = attr;
    option = option;
    initial = initial;
    max = max;
    count = initial;
  }

  abbrev last : Object Semaphore ⊤
  last = record { id = s.next; state = made; waiters = [] }

  abbrev into : Bool → Result ℕ Code × Semaphores
  into room =
      if room then (Ok s.next, record { live = s.live ++ last ∷ []; next = s.next + 1 })
      else (Err NO_MEMORY, s)

  abbrev by : Bool → Bool → Bool → Result ℕ Code × Semaphores
  by known over room =
      if not known then (Err ILLEGAL_ATTRIBUTE, s)
      else if over then (Err SEMAPHORE_OVERFLOW, s)
      else into room

  made_by : (known over room : Bool) → nat_lt max initial ≡ over
      → creates s attr option initial max ≡ by known over room → (id : ℕ)
      → (creates s attr option initial max).0 ≡ Ok id → state_of s id ≡ None
      → IsMade s attr option initial max id
  made_by false over room is e id created fresh = let answer = ap (λ r. r.0) e in cc
  made_by true true room is e id created fresh = let answer = ap (λ r. r.0) e in cc
  made_by true false false is e id created fresh = let answer = ap (λ r. r.0) e in cc
  made_by true false true is e id created fresh =
      let answer = ap (λ r. r.0) e in
      let id_is : id ≡ s.next = cc in
      let found : object_of (creates s attr option initial max).1.live id ≡ Some last =
      ap (λ r. object_of r.1.live id) e
      ∙ ap (object_of (s.live ++ last ∷ [])) id_is
      ∙ object_of-last s.live last (sym (ap (state_of s) id_is) ∙ fresh) in
      record {
        made = made;
        made_is = ap (option_map (λ (o : Object Semaphore ⊤). o.state)) found;
        count = refl;
        most = refl;
        within = grind (arith, nat_tests, is);
        none = ap waiters_in found;
      }

pub semaphore_made : (s : Semaphores) (attr option initial max id : ℕ)
    → (creates s attr option initial max).0 ≡ Ok id → state_of s id ≡ None
    → IsMade s attr option initial max id
semaphore_made s attr option initial max id =
    made_by s attr option initial max (is_attribute attr) (nat_lt max initial) (has_room s) refl refl
    id
