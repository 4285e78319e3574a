-- The line of each module that comes to be loaded.
use Rattle.std.proofs.Common.{◌≡◌, Option, Result, List, [], ◌∷◌, ◌++◌, Contains, ap, sym, subst, arith}
use Rattle.std.proofs.lemmas.List.Elements.{Contains-append_right, Contains-get_or}
use Rattle.iop_base.specs.Piece.{Piece, Traced}
use Rattle.iop_base.specs.Text.{line_bytes}
use Rattle.iop_base.specs.declared.code.Code.{Code}
use Rattle.iop_base.specs.declared.line.Line.TheVariants.{Load, Refused}
use Rattle.iop_exec.specs.Row.{Serves}
use Rattle.iop_kernel.specs.declared.after.After.{After}
use Rattle.iop_machine.specs.Iop.{Iop, Transition}
use Rattle.iop_machine.specs.Loading.{boots, enters_or, loading_of, loads_first, passes, places}
use Rattle.iop_machine.specs.Looking.{takes_events}
use Rattle.iop_machine.specs.Modules.{Module, argument_block, modules_of}
use Rattle.iop_machine.specs.Services.{calls, calls_by, ends_module, returns_by, serves}
use Rattle.iop_machine.specs.Stepping.{Turn, Boots, Executes, step, takes_turn, turn_of}
use Rattle.iop_machine.specs.World.{World}
use Rattle.iop_saved_machine.specs.declared.begun_module.BegunModule.{BegunModule}
use Rattle.iop_modload.specs.Finishing.{finishes}
use Rattle.iop_modload.specs.declared.loaded.Loaded.{Loaded}
use Rattle.iop_front.specs.Loadings.{TellLoading, ComesToLoad, LoadsIn, first, behind, booting, returning, behind_end, served_by}

here : (x : Piece) (xs : List Piece) → Contains (x ∷ xs) x
here x xs = Contains-get_or (x ∷ xs) 0 x (omega arith)

-- other pieces may stand before
tell_behind : (front pieces : List Piece) (s : Iop) (m : Module) → TellLoading pieces s m
    → TellLoading (front ++ pieces) s m
tell_behind front pieces s m h = record {
  loaded = λ l e.
      Contains-append_right front pieces
      (Traced (line_bytes s.kernel.clock (Load m.number l.place.base l.place.len))) (h.loaded l e);
  refused = λ code e.
      Contains-append_right front pieces
      (Traced (line_bytes s.kernel.clock (Refused m.number code))) (h.refused code e);
}

-- the first module is told
first_tells : (m : Module) (rest : List Module) (s : Iop)
    → TellLoading (loads_first (m ∷ rest) s).pieces s m
unfolding loads_first
first_tells m rest s =
    let loading = loading_of s m in
    let placed = (places s loading).state in
    let entering = λ (r : Result Loaded Code). (enters_or (loads_first rest) placed m r).pieces in
    tell_behind loading.pieces (entering loading.answer) s m (record {
      loaded = λ l e.
          let line = Traced (line_bytes s.kernel.clock (Load m.number l.place.base l.place.len)) in
          subst (λ (r : Result Loaded Code). Contains (entering r) line) (sym e)
          (here line (passes placed (argument_block m.words)).pieces);
      refused = λ code e.
          let line = Traced (line_bytes s.kernel.clock (Refused m.number code)) in
          subst (λ (r : Result Loaded Code). Contains (entering r) line) (sym e)
          (here line (loads_first rest placed).pieces);
    })

-- and so is each one behind it that comes to be loaded
come_to_tell : {modules : List Module} {s t : Iop} {m : Module} → ComesToLoad modules s m t
    → TellLoading (loads_first modules s).pieces t m
unfolding loads_first
come_to_tell (first {m = m} {rest = rest} {s = s}) = first_tells m rest s
come_to_tell (behind {m = m} {other = other} {rest = rest} {s = s} {t = t} code e h) =
    let loading = loading_of s m in
    let placed = (places s loading).state in
    let line = Traced (line_bytes s.kernel.clock (Refused m.number code)) in
    tell_behind loading.pieces (enters_or (loads_first rest) placed m loading.answer).pieces t other
    (subst (λ (r : Result Loaded Code).
    TellLoading (enters_or (loads_first rest) placed m r).pieces t other) (sym e)
    (tell_behind (line ∷ []) (loads_first rest placed).pieces t other (come_to_tell h)))

-- a step takes a turn
pub step_as : (w : World) (t : Turn) → turn_of w ≡ t → step w ≡ takes_turn w t
unfolding step
step_as w t e = ap (takes_turn w) e

-- in each step
pub loads_in_tell : (w : World) {m : Module} {t : Iop} → LoadsIn w m t
    → TellLoading (step w).pieces t m
unfolding boots calls ends_module
loads_in_tell w (booting {m = m} {t = t} turn h) =
    subst (λ (x : Transition World). TellLoading x.pieces t m) (sym (step_as w Boots turn))
    (come_to_tell h)
loads_in_tell w (returning {m = m} {t = t} code value ended turn after begun h) =
    let s = takes_events w.iop in
    let d = served_by s code in
    let v = (serves s d).state in
    let left =
    finishes v.kernel.clock v.memory v.blocks v.libraries ended.number ended.place value in
    let u = behind_end s code ended value in
    subst (λ (x : Transition World). TellLoading x.pieces t m)
    (sym (step_as w (Executes (Serves code)) turn))
    (subst (λ (a : After). TellLoading (calls_by s d a).pieces t m) (sym after)
    (tell_behind d.pieces (returns_by v v.begun value).pieces t m
    (subst (λ (o : Option BegunModule). TellLoading (returns_by v o value).pieces t m) (sym begun)
    (tell_behind left.pieces (loads_first (modules_of u.modules) u).pieces t m (come_to_tell h)))))
