-- Values with a list behind each: how they are spelled, and how they are put back. This project's
-- own profile.
use Rattle.std.specs.Prelude.{Option, option_and_then, option_map, unwrap_or, List, []}
use Rattle.iop_snapshot.specs.Forms.{Form, both, series}
use Rattle.iop_snapshot.specs.Putting.{put_all}

-- a list of items of one form
abbrev pub list_of : {X : Type 0} → Form X → Form (List X)
list_of form = series form (λ _. form)

module _ {H X : Type 0} where
  -- a value, and a list behind it
  abbrev pub with_list : Form H → Form X → Form (H × List X)
  with_list form item = both form (λ _. list_of item)

  -- the value is put back, and then the items, one behind the other
  abbrev pub put_with_list : {T : Type 0} → (T → H → Option T) → (H → T → X → Option T)
      → T → H × List X → Option T
  put_with_list put put_item table value =
      option_and_then (λ left. put_all (put_item value.0) left value.1) (put table value.0)

-- what is ahead of a walk, if there is one
abbrev pub ahead_in : {I X : Type 0} → (I → List X) → Option I → List X
ahead_in ahead items = unwrap_or (option_map ahead items) []
