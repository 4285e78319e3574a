-- What is read of a list, one item after another, until one cannot be read.
use Rattle.std.proofs.Common.{◌≡◌, Bool, true, false, cond, Option, Some, None, List, [], ◌∷◌, ◌++◌, refl, ap, sym}
use Rattle.std.specs.Bool.{then_some}
use Rattle.std.specs.Option.{option_map}
use Rattle.iop_asm.specs.Texts.{and_rest}
use Rattle.std.proofs.lemmas.List.{append_assoc}

module _ {A : Type 0} where
  -- what is read, with the items that were read before
  abbrev pub read_on : List A → Option (List A) → Option (List A)
  read_on front rest = option_map (λ items. front ++ items) rest

  pub read_on-nil : (rest : Option (List A)) → read_on [] rest ≡ rest
  read_on-nil None = refl
  read_on-nil (Some items) = refl

  pub read_on-and_rest : (front : List A) (x : A) (rest : Option (List A)) →
      read_on front (and_rest (Some x) rest) ≡ read_on (front ++ x ∷ []) rest
  read_on-and_rest front x None = refl
  read_on-and_rest front x (Some items) = ap Some (sym (append_assoc front (x ∷ []) items))

pub option_map-then_some : {X Y : Type 0} (f : X → Y) (v : Bool) (x : X) →
    option_map f (then_some v x) ≡ cond v (Some (f x)) None
option_map-then_some f true x = refl
option_map-then_some f false x = refl
