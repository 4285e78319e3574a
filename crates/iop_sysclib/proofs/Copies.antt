-- That a copy was served.
use Rattle.std.proofs.Common.{◌≡◌, ℕ, Bool, true, false, Option, Some, None, Ok, Err, List, [], length, take, drop, refl, ap, sym, ◌∙◌, subst, arith}
use Rattle.std.specs.Prelude.{is_some, ◌==◌, ◌||◌}
use Rattle.std.proofs.lemmas.List.{length-take-le, length-drop}
use Rattle.iop_base.specs.Output.{Output, Gives}
use Rattle.iop_base.specs.declared.guest_fault.GuestFault.TheVariants.{Address}
use Rattle.iop_stubs.specs.Stubs.{Memory, after_store, store_lines, range_place}
use Rattle.iop_stubs.specs.Copying.{copy_place, copied_bytes}
use Rattle.iop_sysclib.specs.MemoryCalls.{memcpy}
use Rattle.iop_sysclib.specs.Outcomes.{writes, is_open, IsServed}
use Rattle.iop_sysclib.proofs.RangePlaces.{has_place}
use Rattle.iop_sysclib.proofs.ServedCalls.{served_store, served_nothing, served_fault, served_as, writes_shut}

module _ (old : Memory) (to from len : ℕ) where
  -- the bytes of a range that has a place
  module _ (source : ℕ) (some : (len == 0) ≡ false) (is : range_place old from len ≡ Some source)
    where
      abbrev pub bytes : List ℕ
      bytes = take len (drop source old.ram)

      pub bytes_length : length bytes ≡ len
      bytes_length =
          let inside = (has_place (length old.ram) from len source is).inside in
          length-take-le len (drop source old.ram)
          (omega (arith, inside, length-drop source old.ram))

      memcpy_writes : memcpy old.ram to from len ≡ writes old.ram to bytes to
      unfolding memcpy
      memcpy_writes = rw (some, is) refl

      pub place_is : copy_place old to from len ≡ range_place old to len
      place_is = rw (some, is) refl

      pub bytes_are : copied_bytes old from len ≡ bytes
      bytes_are = rw is refl

      open_is : (b : Bool) → is_some (range_place old to len) ≡ b → is_open old.ram to len ≡ b
      open_is b test = rw (some, test) refl

  memcpy_nothing : (len == 0) ≡ true → memcpy old.ram to from len ≡ writes old.ram to [] to
  unfolding memcpy
  memcpy_nothing none = rw none refl

  memcpy_no_source : (len == 0) ≡ false → range_place old from len ≡ None
      → memcpy old.ram to from len ≡ None
  unfolding memcpy
  memcpy_no_source some is = rw (some, is) refl

  pub no_place : (len == 0) ≡ true → copy_place old to from len ≡ None
  no_place none = rw none refl

  no_source : (len == 0) ≡ false → range_place old from len ≡ None
      → copy_place old to from len ≡ None
  no_source some is = rw (some, is) refl

  -- what a copy left, and told of
  module _ (t : ℕ) (new : Memory) (before after : Output)
      (stored : new ≡ after_store old (copy_place old to from len) (copied_bytes old from len))
      (lines : Gives before after (store_lines t old (copy_place old to from len) len)) where
    same : copy_place old to from len ≡ None → new ≡ old
    same none = stored ∙ ap (λ p. after_store old p (copied_bytes old from len)) none

    silent : copy_place old to from len ≡ None → Gives before after []
    silent none =
        subst (λ (p : Option ℕ). Gives before after (store_lines t old p len)) none lines

    copied_by : (empty : Bool) (source : Option ℕ) → (len == 0) ≡ empty
        → range_place old from len ≡ source
        → true ≡ (empty || is_some (copy_place old to from len))
        → IsServed (memcpy old.ram to from len) t (Ok to) old new before after
    copied_by true source none is accepted =
        served_as (memcpy_nothing none)
        (served_nothing old new to [] to t before after refl (same (no_place none))
        (silent (no_place none)))
    copied_by false None some is accepted =
        let none = accepted ∙ ap (λ (p : Option ℕ). is_some p) (no_source some is) in
        absurd (cc none)
    copied_by false (Some source) some is accepted =
        let place = place_is source some is in
        let found = sym (accepted ∙ ap (λ (p : Option ℕ). is_some p) place) in
        served_as (memcpy_writes source some is)
        (served_store old to len (bytes source some is) to t (bytes_length source some is) new
        before after (open_is source some is true found)
        (stored ∙ ap (λ p. after_store old p (copied_bytes old from len)) place
        ∙ ap (after_store old (range_place old to len)) (bytes_are source some is))
        (subst (λ (p : Option ℕ). Gives before after (store_lines t old p len)) place lines))

    pub served_copy : true ≡ (len == 0 || is_some (copy_place old to from len))
        → IsServed (memcpy old.ram to from len) t (Ok to) old new before after
    served_copy accepted = copied_by (len == 0) (range_place old from len) refl refl accepted

    refused_by : (empty : Bool) (source place : Option ℕ) → (len == 0) ≡ empty
        → range_place old from len ≡ source → range_place old to len ≡ place
        → false ≡ (empty || is_some (copy_place old to from len))
        → IsServed (memcpy old.ram to from len) t (Err Address) old new before after
    refused_by true source place none is to_is accepted = absurd (cc accepted)
    refused_by false None place some is to_is accepted =
        served_as (memcpy_no_source some is)
        (served_fault t old new before after (same (no_source some is))
        (silent (no_source some is)))
    refused_by false (Some source) None some is to_is accepted =
        let place = place_is source some is ∙ to_is in
        let shut = open_is source some is false (ap (λ (p : Option ℕ). is_some p) to_is) in
        served_as
        (memcpy_writes source some is
        ∙ writes_shut old to len (bytes source some is) to t (bytes_length source some is) shut)
        (served_fault t old new before after (same place) (silent place))
    refused_by false (Some source) (Some place) some is to_is accepted =
        let found = accepted ∙ ap (λ (p : Option ℕ). is_some p) (place_is source some is ∙ to_is) in
        absurd (cc found)

    pub refused_copy : false ≡ (len == 0 || is_some (copy_place old to from len))
        → IsServed (memcpy old.ram to from len) t (Err Address) old new before after
    refused_copy accepted =
        refused_by (len == 0) (range_place old from len) (range_place old to len) refl refl refl
        accepted
