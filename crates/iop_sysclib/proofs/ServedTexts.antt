-- That formatted text was stored.
use Rattle.std.proofs.Common.{◌≡◌, ℕ, ◌+◌, true, false, Ok, Err, List, [], ◌∷◌, length, replicate, refl, ap, sym, ◌∙◌, subst, arith, ne_eqb}
use Rattle.std.specs.Prelude.{is_some}
use Rattle.std.proofs.lemmas.List.{length-append}
use Rattle.iop_base.specs.Numbers.{wrapped}
use Rattle.iop_base.specs.Output.{Output, Gives}
use Rattle.iop_base.specs.declared.guest_fault.GuestFault.TheVariants.{Address}
use Rattle.iop_base.proofs.Giving.{gives_none}
use Rattle.iop_printf.specs.Formatting.{format_text}
use Rattle.iop_stubs.specs.Stubs.{Memory, after_store, store_lines, range_place}
use Rattle.iop_stubs.specs.Binding.{IsSound}
use Rattle.iop_sysclib.proofs.PaddedStores.{served_text}
use Rattle.iop_sysclib.specs.Outcomes.{writes, is_open, IsServed}
use Rattle.iop_sysclib.specs.StringCalls.{ended, sprintf}
use Rattle.iop_sysclib.proofs.ServedCalls.{served_fault, served_as, writes_shut}

module _ (old : Memory) (to format sp : ℕ) (registers text : List ℕ)
    (is : text ≡ format_text old.ram format registers sp) where
  pub sprintf_is : sprintf old.ram to format registers sp
      ≡ writes old.ram to (ended text) (length text)
  unfolding sprintf
  sprintf_is = ap (λ (s : List ℕ). writes old.ram to (ended s) (length s)) (sym is)

  pub sprintf_outside : (t : ℕ) (seen : Output)
      → is_some (range_place old to (length text + 1)) ≡ false
      → IsServed (sprintf old.ram to format registers sp) t (Err Address) old old seen seen
  sprintf_outside t seen outside =
      let test = ne_eqb (length text + 1) 0 (omega arith) in
      let shut : is_open old.ram to (length text + 1) ≡ false = rw (test, outside) refl in
      served_as
      (sprintf_is ∙ writes_shut old to (length text + 1) (ended text) (length text) t
      (length-append text (0 ∷ [])) shut)
      (served_fault t old old seen seen refl (gives_none seen))

  -- the text was stored, and then a zero
  module _ (sound : IsSound old) (len : ℕ) (long : len ≡ length text) (bytes : List ℕ)
      (bytes_are : bytes ≡ text) (t : ℕ) (before middle after : Output) (first last : Memory)
      (first_is : first ≡ after_store old (range_place old to (length bytes)) bytes)
      (first_lines : Gives before middle
      (store_lines t old (range_place old to (length bytes)) (length bytes)))
      (last_is : last
      ≡ after_store first (range_place first (wrapped (to + len)) 1) (replicate 1 0))
      (last_lines : Gives middle after
      (store_lines t first (range_place first (wrapped (to + len)) 1) 1))
      (inside : is_some (range_place old to (len + 1)) ≡ true) where
    pub sprintf_inside : IsServed (sprintf old.ram to format registers sp) t (Ok len) old last
        before after
    sprintf_inside =
        let place = range_place old to in
        let behind = λ (n : ℕ). range_place first (wrapped (to + n)) 1 in
        let served = served_text old sound to text t before middle after first last
        (first_is ∙ ap (λ (b : List ℕ). after_store old (place (length b)) b) bytes_are)
        (subst (λ (b : List ℕ). Gives before middle (store_lines t old (place (length b)) (length b)))
        bytes_are first_lines)
        (subst (λ n. last ≡ after_store first (behind n) (replicate 1 0)) long last_is)
        (subst (λ n. Gives middle after (store_lines t first (behind n) 1)) long last_lines)
        (ap (λ n. is_some (place (n + 1))) (sym long) ∙ inside) in
        subst
        (λ n. IsServed (sprintf old.ram to format registers sp) t (Ok n) old last before after)
        (sym long) (served_as sprintf_is served)
