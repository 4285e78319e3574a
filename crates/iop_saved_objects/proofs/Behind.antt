-- A value is read and put back, and then the items of the list behind it.
use Rattle.std.proofs.Common.{◌≡◌, ℕ, Bool, true, false, cond, Option, Some, None, is_some, Result, Ok, Err, List, [], ◌++◌, ◌∷◌, refl, sym, ap, subst, ◌∙◌}
use Rattle.std.specs.Prelude.{MatchResult, OnOk, option_and_then, option_map}
use Rattle.std.proofs.lemmas.Option.{cond_some}
use Rattle.iop_snapshot.specs.declared.fault.SnapFault.{SnapFault}
use Rattle.iop_snapshot.specs.declared.fault.SnapFault.TheVariants.{Bad, Memory}
use Rattle.iop_snapshot.specs.Forms.{Form, with_first, if_passes, tested, read_list}
use Rattle.iop_snapshot.specs.Putting.{put_all, may_put, next_form, PutsOne}
use Rattle.iop_snapshot.specs.Reading.{GivesNone}
use Rattle.iop_snapshot.proofs.Combining.{then_some}
use Rattle.iop_snapshot.proofs.Putting.{puts_more}
use Rattle.iop_saved_objects.specs.Lists.{list_of, with_list, put_with_list}
use Rattle.iop_saved_objects.specs.Restored.{IsPut, HasPut, PartIsPut, PutsPart}
use Rattle.iop_saved_objects.specs.declared.putting.Restored.{Restored}
use Rattle.iop_saved_objects.proofs.OneByOne.{may_put_all, list_one_by_one}

-- a list was read and put, or none can be that the table takes
abbrev pub PutsList : {T P X : Type 0} (put : T → X → Option T) → Form X
    → (old new : Restored T P) → Result Unit SnapFault → (before rest : List ℕ) → Type 0
PutsList {T} {P} {X} put form old new result before rest =
    let read = read_list (next_form put form old.table) before in
    MatchResult result (λ _. (xs : List X) × HasPut put old new xs × (read ≡ Some (xs, rest)))
    (GivesNone read)

module _ {T H X : Type 0} (put : T → H → Option T) (put_item : H → T → X → Option T)
    (form : Form H) (item : Form X) where
  abbrev both_put : T → H × List X → Option T
  both_put = put_with_list put put_item

  abbrev both_form : Form (H × List X)
  both_form = with_list form item

  -- where the first is not, nothing is
  pub fails : (old : T) (before : List ℕ) → (tested form (may_put put old)).read before ≡ None
      → (tested both_form (may_put both_put old)).read before ≡ None
  fails old before none = by (form.read before) none
    where
      late : (value : H) (rest : List ℕ) (left : Option T) → put old value ≡ left
          → cond {A = Option (H × List ℕ)} (is_some left) (Some (value, rest)) None ≡ None
          → (read : Option (List X × List ℕ))
          → option_and_then (if_passes (may_put both_put old)) (option_map (with_first value) read)
          ≡ None
      late value rest (Some t) is e read = absurd cc
      late value rest None is e None = refl
      late value rest None is e (Some xs) = rw is refl

      by : (read : Option (H × List ℕ))
          → option_and_then (if_passes (may_put put old)) read ≡ None
          → option_and_then (if_passes (may_put both_put old))
          (option_and_then (λ (first : H × List ℕ).
          option_map (with_first first.0) ((list_of item).read first.1)) read)
          ≡ None
      by None e = refl
      by (Some first) e =
          late first.0 first.1 (put old first.0) refl e ((list_of item).read first.1)

  pub fails_by : (old : T) (before : List ℕ) (fault : SnapFault)
      → GivesNone ((tested form (may_put put old)).read before) fault
      → GivesNone ((tested both_form (may_put both_put old)).read before) fault
  fails_by old before Bad none = fails old before none
  fails_by old before Memory u = tt

  module _ (old middle : T) (value : H) (before between : List ℕ)
      (first : IsPut put form old middle value before between) where
    -- the list behind it is, too
    pub behind : (new : T) (xs : List X) (rest : List ℕ)
        → put_all (put_item value) middle xs ≡ Some new
        → read_list (next_form (put_item value) item middle) between ≡ Some (xs, rest)
        → IsPut both_put both_form old new (value, xs) before rest
    behind new xs rest there read =
        let one = then_some ((list_of item).read between)
        (if_passes (may_put_all (put_item value) item middle)) (xs, rest)
        (sym (list_one_by_one (put_item value) item middle between) ∙ read) in
        let two = cond_some (may_put_all (put_item value) item middle one.0.0) one.0 (xs, rest)
        one.2 in
        let listed : (list_of item).read between ≡ Some (xs, rest) = one.1 ∙ ap Some two.1 in
        record { is_put = rw first.is_put there; is_read = rw (first.is_read, listed) refl }

    -- where none is, nothing is
    pub none_behind : read_list (next_form (put_item value) item middle) between ≡ None
        → (tested both_form (may_put both_put old)).read before ≡ None
    none_behind none =
        rw first.is_read
        (by ((list_of item).read between)
        (sym (list_one_by_one (put_item value) item middle between) ∙ none))
      where
        late : (xs : List X × List ℕ) (b : Bool)
            → cond {A = Option (List X × List ℕ)} b (Some xs) None ≡ None
            → cond {A = Option ((H × List X) × List ℕ)} b (Some ((value, xs.0), xs.1)) None ≡ None
        late xs true e = absurd cc
        late xs false e = refl

        by : (read : Option (List X × List ℕ))
            → option_and_then (if_passes (may_put_all (put_item value) item middle)) read ≡ None
            → option_and_then (if_passes (may_put both_put old))
            (option_map (with_first value) read)
            ≡ None
        by None e = refl
        by (Some xs) e =
            rw first.is_put (late xs (may_put_all (put_item value) item middle xs.0) e)

-- what was read and put is what one form reads that the table takes
pub puts_one : {T X : Type 0} (put : T → X → Option T) (form : Form X) (old new : T) (x : X)
    (before rest : List ℕ) → IsPut put form old new x before rest
    → (tested form (may_put put old)).read before ≡ Some (x, rest)
puts_one put form old new x before rest h = rw (h.is_read, h.is_put) refl

-- a list that was put with the id and the priorities that a table has, which are these
pub list_moved : {T X P : Type 0} (of : P → ℕ → Option ℕ)
    (put : (ℕ → Option ℕ) → ℕ → T → X → Option T) (form : Form X) (old base now : Restored T P)
    (id : ℕ) (before rest : List ℕ) (result : Result Unit SnapFault) → base.id ≡ id
    → base.priorities ≡ old.priorities
    → PutsList (put (of base.priorities.now) base.id) form base now result before rest
    → PutsList (put (of old.priorities.now) id) form base now result before rest
list_moved of put form old base now id before rest result same_id same h =
    subst (λ p. PutsList (put (of p.now) id) form base now result before rest) same
    (subst (λ n. PutsList (put (of base.priorities.now) n) form base now result before rest)
    same_id h)

-- what was put of an object
module _ {T P X : Type 0} (put : T → X → Option T) (form : Form X) (id : X → ℕ)
    (old new : Restored T P) (before rest : List ℕ) where
  -- it is what one form reads that the table takes
  pub part_one : (result : Result Unit SnapFault)
      → PutsPart put form id old new result before rest
      → PutsOne put form old.table new.table result before rest
  part_one (Ok u) h = (
    h.part,
    h.put_so.is_put,
    puts_one put form old.table new.table h.part before rest h.put_so,
  )
  part_one (Err fault) none = none

  -- and the priorities stay
  pub part_priorities : (result : Result Unit SnapFault)
      → PutsPart put form id old new result before rest
      → OnOk result (new.priorities ≡ old.priorities)
  part_priorities (Ok u) h = h.priorities
  part_priorities (Err fault) none = tt

  -- where a fault returns, which said that none can be
  pub part_exits : (result : Result Unit SnapFault) (given fault : SnapFault) → given ≡ fault
      → result ≡ Err given → GivesNone ((tested form (may_put put old.table)).read before) fault
      → PutsPart put form id old new result before rest
  part_exits result given fault same is none =
      rw is
      (subst (GivesNone ((tested form (may_put put old.table)).read before)) (sym same) none)

-- a part with a list behind it, from what was put of each
pub with_list_put : {T H X P : Type 0} (of : P → ℕ → Option ℕ) (put : T → H → Option T)
    (put_item : (ℕ → Option ℕ) → ℕ → T → X → Option T) (form : Form H) (item : Form X)
    (id : H → ℕ) (old middle new : Restored T P) (before between rest : List ℕ)
    (result : Result Unit SnapFault) → PartIsPut put form id old middle before between
    → PutsList (put_item (of middle.priorities.now) middle.id) item middle new result between rest
    → PutsPart (put_with_list put (λ head. put_item (of old.priorities.now) (id head)))
    (with_list form item) (λ value. id value.0) old new result before rest
with_list_put {T} {H} {X} of put put_item form item id old middle new before between rest result
    first list =
    by result
    (list_moved of put_item item old middle new (id first.part) between rest result first.id_so
    first.priorities list)
  where
    own : H → T → X → Option T
    own head = put_item (of old.priorities.now) (id head)

    by : (r : Result Unit SnapFault) → PutsList (own first.part) item middle new r between rest
        → PutsPart (put_with_list put own) (with_list form item) (λ value. id value.0) old new r
        before rest
    by (Ok u) xs = record {
      part = (first.part, xs.0);
      put_so = behind put own form item old.table middle.table first.part before between
          first.put_so new.table xs.0 rest xs.1.all xs.2;
      id_so = xs.1.id ∙ first.id_so;
      priorities = xs.1.priorities ∙ first.priorities;
    }
    by (Err Bad) none =
        none_behind put own form item old.table middle.table first.part before between first.put_so
        none
    by (Err Memory) u = tt

module _ {T X P : Type 0} (of : P → ℕ → Option ℕ) (form : Form X) (base old new : Restored T P)
    (xs : List X) (before rest : List ℕ) where
  -- a record more stands with the object
  pub item_more : (put : (ℕ → Option ℕ) → ℕ → T → X → Option T) (result : Result Unit SnapFault)
      → HasPut (put (of base.priorities.now) base.id) base old xs
      → PutsOne (put (of old.priorities.now) old.id) form old.table new.table result before rest
      → new.id ≡ old.id → new.priorities ≡ old.priorities
      → (let read = (next_form (put (of base.priorities.now) base.id) form base.table xs).read before in
      MatchResult result
      (λ _. (x : X) × HasPut (put (of base.priorities.now) base.id) base new (xs ++ x ∷ [])
      × (read ≡ Some (x, rest)))
      (GivesNone read))
  item_more put result there one same_id same = by result one
    where
      own : T → X → Option T
      own = put (of base.priorities.now) base.id

      here : (r : Result Unit SnapFault)
          → PutsOne (put (of old.priorities.now) old.id) form old.table new.table r before rest
          → PutsOne own form old.table new.table r before rest
      here r h =
          subst (λ p. PutsOne (put (of p.now) base.id) form old.table new.table r before rest)
          there.priorities
          (subst (λ id. PutsOne (put (of old.priorities.now) id) form old.table new.table r before rest)
          there.id h)

      by : (r : Result Unit SnapFault)
          → PutsOne (put (of old.priorities.now) old.id) form old.table new.table r before rest
          → (let read = (next_form own form base.table xs).read before in
          MatchResult r
          (λ _. (x : X) × HasPut own base new (xs ++ x ∷ []) × (read ≡ Some (x, rest)))
          (GivesNone read))
      by (Ok u) h =
          let more = puts_more own form base.table old.table new.table xs (Ok u) before rest
          there.all (here (Ok u) h) in (
            more.0,
            record {
              all = more.1;
              id = same_id ∙ there.id;
              priorities = same ∙ there.priorities;
            },
            more.2,
          )
      by (Err fault) h =
          puts_more own form base.table old.table new.table xs (Err fault) before rest there.all
          (here (Err fault) h)

  -- an object more is put back
  pub object_more : (put : (ℕ → Option ℕ) → T → X → Option T) (result : Result Unit SnapFault)
      → (put_all (put (of base.priorities.now)) base.table xs ≡ Some old.table)
      × (old.priorities ≡ base.priorities)
      → PutsOne (put (of old.priorities.now)) form old.table new.table result before rest
      → OnOk result (new.priorities ≡ old.priorities)
      → (let read = (next_form (put (of base.priorities.now)) form base.table xs).read before in
      MatchResult result
      (λ _. (x : X)
      × ((put_all (put (of base.priorities.now)) base.table (xs ++ x ∷ []) ≡ Some new.table)
      × (new.priorities ≡ base.priorities))
      × (read ≡ Some (x, rest)))
      (GivesNone read))
  object_more put result there one same =
      by result
      (subst (λ p. PutsOne (put (of p.now)) form old.table new.table result before rest) there.1 one)
      same
    where
      own : T → X → Option T
      own = put (of base.priorities.now)

      by : (r : Result Unit SnapFault) → PutsOne own form old.table new.table r before rest
          → OnOk r (new.priorities ≡ old.priorities)
          → (let read = (next_form own form base.table xs).read before in
          MatchResult r
          (λ _. (x : X) × ((put_all own base.table (xs ++ x ∷ []) ≡ Some new.table)
          × (new.priorities ≡ base.priorities)) × (read ≡ Some (x, rest)))
          (GivesNone read))
      by (Ok u) h same =
          let more = puts_more own form base.table old.table new.table xs (Ok u) before rest there.0 h
          in (more.0, (more.1, same ∙ there.1), more.2)
      by (Err fault) h same =
          puts_more own form base.table old.table new.table xs (Err fault) before rest there.0 h
