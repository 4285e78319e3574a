-- Values that are read one behind the other and put back one after the other: where one of them
-- cannot be, all cannot.
use Rattle.std.proofs.Common.{◌≡◌, ℕ, Bool, true, false, cond, Option, Some, None, is_some, List, refl, sym, ap, subst, ◌∙◌}
use Rattle.std.specs.Prelude.{option_and_then, option_map}
use Rattle.iop_snapshot.specs.Forms.{Form, both, seen_as, tested, if_passes, with_first, read_list}
use Rattle.iop_snapshot.specs.Putting.{put_all, next_form}
use Rattle.iop_snapshot.specs.Reading.{GivesNone}
use Rattle.iop_snapshot.specs.declared.fault.SnapFault.{SnapFault}
use Rattle.iop_snapshot.specs.declared.fault.SnapFault.TheVariants.{Bad, Memory}
use Rattle.iop_saved_objects.specs.Lists.{list_of}
use Rattle.iop_saved_objects.proofs.OneByOne.{list_one_by_one}
use Rattle.iop_saved_kernel.specs.Restoring.{that_go_back, IsBack}

-- a fault that says that nothing is read says so of whatever is not read then
pub gives_none : {X Y : Type 0} (fault : SnapFault) (one : Option X) (other : Option Y)
    → (one ≡ None → other ≡ None) → GivesNone one fault → GivesNone other fault
gives_none Bad one other none h = none h
gives_none Memory one other none h = tt

module _ {X S T : Type 0} (form : Form X) (back : X → Option S) (whole : X → Option T)
    (only : (x : X) → back x ≡ None → whole x ≡ None) where
  -- what cannot be put back cannot be in any way that begins so
  pub none_whole : (bytes : List ℕ) → (that_go_back form back).read bytes ≡ None
      → (that_go_back form whole).read bytes ≡ None
  none_whole bytes = by (form.read bytes)
    where
      late : (x : X × List ℕ) (left : Option S) → back x.0 ≡ left
          → cond {A = Option (X × List ℕ)} (is_some left) (Some x) None ≡ None
          → if_passes (λ y. is_some (whole y)) x ≡ None
      late x (Some s) is e = absurd cc
      late x None is e = rw (only x.0 is) refl

      by : (read : Option (X × List ℕ))
          → option_and_then (if_passes (λ y. is_some (back y))) read ≡ None
          → option_and_then (if_passes (λ y. is_some (whole y))) read ≡ None
      by None e = refl
      by (Some x) e = late x (back x.0) refl e

module _ {X S : Type 0} (form : Form X) (back : X → Option S) where
  -- where nothing is read, nothing that can be put back is
  pub unread : (bytes : List ℕ) (fault : SnapFault) → GivesNone (form.read bytes) fault
      → GivesNone ((that_go_back form back).read bytes) fault
  unread bytes fault =
      gives_none fault (form.read bytes) ((that_go_back form back).read bytes)
      (λ none. rw none refl)

  -- nor where what is read cannot be
  pub refused : (x : X) (bytes rest : List ℕ) → form.read bytes ≡ Some (x, rest)
      → back x ≡ None → (that_go_back form back).read bytes ≡ None
  refused x bytes rest read none = rw (read, none) refl

-- what is read and passes is read
pub passed : {X : Type 0} (form : Form X) (test : X → Bool) (bytes : List ℕ)
    (x : X × List ℕ) → (tested form test).read bytes ≡ Some x → form.read bytes ≡ Some x
passed {X} form test bytes x = by (form.read bytes)
  where
    late : (y : X × List ℕ) (b : Bool) → cond {A = Option (X × List ℕ)} b (Some y) None ≡ Some x
        → Some y ≡ Some x
    late y true e = e
    late y false e = absurd cc

    by : (read : Option (X × List ℕ)) → option_and_then (if_passes test) read ≡ Some x
        → read ≡ Some x
    by None e = e
    by (Some y) e = late y (test y.0) e

-- a value, and behind it one more, which is put back behind it
module _ {X Y S T : Type 0} (form : Form X) (next : Form Y) (back : X → Option S)
    (more : X → S → Y → Option T) where
  abbrev pub back_both : X × Y → Option T
  back_both p = option_and_then (λ s. more p.0 s p.1) (back p.0)

  abbrev pub form_both : Form (X × Y)
  form_both = both form (λ _. next)

  -- where the first cannot be put back, both cannot
  pub first_fails : (bytes : List ℕ) (fault : SnapFault)
      → GivesNone ((that_go_back form back).read bytes) fault
      → GivesNone ((that_go_back form_both back_both).read bytes) fault
  first_fails bytes fault =
      gives_none fault ((that_go_back form back).read bytes)
      ((that_go_back form_both back_both).read bytes) (by (form.read bytes))
    where
      late : (x : X × List ℕ) (left : Option S) → back x.0 ≡ left
          → cond {A = Option (X × List ℕ)} (is_some left) (Some x) None ≡ None
          → (read : Option (Y × List ℕ))
          → option_and_then (if_passes (λ p. is_some (back_both p)))
          (option_map (with_first x.0) read) ≡ None
      late x (Some s) is e read = absurd cc
      late x None is e None = refl
      late x None is e (Some y) = rw is refl

      by : (read : Option (X × List ℕ))
          → option_and_then (if_passes (λ y. is_some (back y))) read ≡ None
          → option_and_then (if_passes (λ p. is_some (back_both p)))
          (option_and_then (λ (x : X × List ℕ). option_map (with_first x.0) (next.read x.1)) read)
          ≡ None
      by None e = refl
      by (Some x) e = late x (back x.0) refl e (next.read x.1)

  module _ (x : X) (s : S) (bytes middle : List ℕ) (h : IsBack form back x s bytes middle) where
    -- where the second cannot be behind the first, both cannot
    pub second_fails : (fault : SnapFault)
        → GivesNone ((that_go_back next (more x s)).read middle) fault
        → GivesNone ((that_go_back form_both back_both).read bytes) fault
    second_fails fault =
        gives_none fault ((that_go_back next (more x s)).read middle)
        ((that_go_back form_both back_both).read bytes)
        (λ none. rw h.is_read (by (next.read middle) none))
      where
        by : (read : Option (Y × List ℕ))
            → option_and_then (if_passes (λ y. is_some (more x s y))) read ≡ None
            → option_and_then (if_passes (λ p. is_some (back_both p)))
            (option_map (with_first x) read) ≡ None
        by None e = refl
        by (Some y) e = rw h.is_back (late (is_some (more x s y.0)) e)
          where
            late : (b : Bool) → cond {A = Option (Y × List ℕ)} b (Some y) None ≡ None
                → cond {A = Option ((X × Y) × List ℕ)} b (Some ((x, y.0), y.1)) None ≡ None
            late true e = absurd cc
            late false e = refl

    -- what is read and put back of each is so of both
    pub both_back : (y : Y) (t : T) (rest : List ℕ) → IsBack next (more x s) y t middle rest
        → IsBack form_both back_both (x, y) t bytes rest
    both_back y t rest k = record {
      is_read = rw (h.is_read, k.is_read) refl;
      is_back = rw h.is_back k.is_back;
    }

-- values that are seen as one of another type
module _ {X Y T : Type 0} (form : Form X) (with_parts : X → Y) (parts : Y → X)
    (back : Y → Option T) where
  abbrev pub seen_whole : Form Y
  seen_whole = seen_as form (λ x. Some (with_parts x)) parts

  pub seen_fails : (bytes : List ℕ) (fault : SnapFault)
      → GivesNone ((that_go_back form (λ x. back (with_parts x))).read bytes) fault
      → GivesNone ((that_go_back seen_whole back).read bytes) fault
  seen_fails bytes fault =
      gives_none fault ((that_go_back form (λ x. back (with_parts x))).read bytes)
      ((that_go_back seen_whole back).read bytes) (by (form.read bytes))
    where
      late : (x : X × List ℕ) (b : Bool)
          → cond {A = Option (X × List ℕ)} b (Some x) None ≡ None
          → cond {A = Option (Y × List ℕ)} b (Some (with_parts x.0, x.1)) None ≡ None
      late x true e = absurd cc
      late x false e = refl

      by : (read : Option (X × List ℕ))
          → option_and_then (if_passes (λ x. is_some (back (with_parts x)))) read ≡ None
          → option_and_then (if_passes (λ y. is_some (back y)))
          (option_and_then (λ (x : X × List ℕ). option_map (λ y. (y, x.1)) (Some (with_parts x.0)))
          read) ≡ None
      by None e = refl
      by (Some x) e = late x (is_some (back (with_parts x.0))) e

  pub seen_back : (x : X) (t : T) (bytes rest : List ℕ)
      → IsBack form (λ x. back (with_parts x)) x t bytes rest
      → IsBack seen_whole back (with_parts x) t bytes rest
  seen_back x t bytes rest h = record { is_read = rw h.is_read refl; is_back = h.is_back }

-- a list of which a table takes each behind those before, from a table that is this one
module _ {T X : Type 0} (put : T → X → Option T) (form : Form X) (table old : T)
    (same : old ≡ table) where
  pub list_fails : (bytes : List ℕ) (fault : SnapFault)
      → GivesNone (read_list (next_form put form old) bytes) fault
      → GivesNone ((that_go_back (list_of form) (put_all put table)).read bytes) fault
  list_fails bytes fault =
      gives_none fault (read_list (next_form put form old) bytes)
      ((that_go_back (list_of form) (put_all put table)).read bytes)
      (λ none. sym (list_one_by_one put form table bytes)
      ∙ subst (λ (t : T). read_list (next_form put form t) bytes ≡ None) same none)

  pub list_back : (xs : List X) (now : T) (bytes rest : List ℕ)
      → put_all put old xs ≡ Some now
      → read_list (next_form put form old) bytes ≡ Some (xs, rest)
      → IsBack (list_of form) (put_all put table) xs now bytes rest
  list_back xs now bytes rest is read = record {
    is_read =
        passed (list_of form) (λ ys. is_some (put_all put table ys)) bytes (xs, rest)
        (sym (list_one_by_one put form table bytes)
        ∙ subst (λ (t : T). read_list (next_form put form t) bytes ≡ Some (xs, rest)) same read);
    is_back = subst (λ (t : T). put_all put t xs ≡ Some now) same is;
  }
