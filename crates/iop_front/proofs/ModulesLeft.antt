-- What a step leaves of the modules that are not loaded yet.
use Rattle.std.proofs.Common.{◌≡◌, ℕ, true, Option, Some, None, Result, Ok, Err, is_err, List, [], ◌∷◌, ◌++◌, drop, refl, ap, sym, ◌∙◌}
use Rattle.iop_base.specs.declared.code.Code.{Code}
use Rattle.iop_exec.specs.Row.{Row, Goes, Serves, Faults}
use Rattle.iop_kernel.specs.System.{Served}
use Rattle.iop_kernel.specs.declared.after.After.{After}
use Rattle.iop_kernel.specs.declared.after.After.TheVariants.{Resume, Switch, ModuleReturned, Fault}
use Rattle.iop_machine.specs.Iop.{Iop, Transition}
use Rattle.iop_machine.specs.Loading.{boots, enters_or, loading_of, loads_first, places, starts_by, with_kernel}
use Rattle.iop_machine.specs.Looking.{takes_events}
use Rattle.iop_machine.specs.Modules.{Module, ModulesLeft, modules_of, without_first}
use Rattle.iop_machine.specs.Services.{calls, calls_by, ends_module, goes_on_by, returns_by, serves}
use Rattle.iop_machine.specs.Stepping.{Turn, Stays, Boots, Delivers, Dispatches, Executes, Waits, performs, step, takes_turn, turn_of}
use Rattle.iop_machine.specs.World.{World}
use Rattle.iop_saved_machine.specs.declared.begun_module.BegunModule.{BegunModule}
use Rattle.iop_machine.proofs.ModulesTaken.{rest_is}
use Rattle.iop_modload.specs.declared.loaded.Loaded.{Loaded}
use Rattle.iop_front.specs.Loadings.{ComesToLoad, LoadsIn, LeavesModules, first, behind, booting, returning, answer_to, behind_end, served_by}
use Rattle.iop_front.proofs.LoadingLines.{step_as}

-- those behind the first of the modules that are left
rest_of : (m : Module) (rest : List Module) (left : ModulesLeft) → m ∷ rest ≡ modules_of left
    → rest ≡ modules_of (without_first left)
rest_of m rest left e = ap (drop 1) e ∙ sym (rest_is left)

-- those that the loading of these leaves
abbrev left_by : List Module → Iop → List Module
left_by modules s = modules_of (loads_first modules s).state.modules

-- of modules that are loaded until one is not refused: those behind the one that is loaded
come_to_leave : {modules : List Module} {s t : Iop} {m : Module} (l : Loaded)
    → ComesToLoad modules s m t → answer_to t m ≡ Ok l → modules ≡ modules_of s.modules
    → (before : List Module) × (modules ≡ before ++ m ∷ left_by modules s)
unfolding loads_first
come_to_leave l (first {m = m} {rest = rest} {s = s}) ok are =
    let placed = (places s (loading_of s m)).state in (
      [],
      ap (λ xs. m ∷ xs) (rest_of m rest s.modules are)
          ∙ sym (ap (λ (r : Result Loaded Code).
          m ∷ modules_of (enters_or (loads_first rest) placed m r).state.modules) ok),
    )
come_to_leave l (behind {m = m} {other = other} {rest = rest} {s = s} {t = t} code e h) ok are =
    let placed = (places s (loading_of s m)).state in
    let r = come_to_leave l h ok (rest_of m rest s.modules are) in (
      m ∷ r.0,
      ap (λ xs. m ∷ xs) r.1
          ∙ sym (ap (λ (a : Result Loaded Code). (m ∷ r.0)
          ++ other ∷ modules_of (enters_or (loads_first rest) placed m a).state.modules) e),
    )

-- none where all are refused
abbrev AllRefused : List Module → Iop → Type 0
AllRefused modules s =
    (m : Module) (t : Iop) → ComesToLoad modules s m t → is_err (answer_to t m) ≡ true

refused_by : (m : Module) (rest : List Module) (s : Iop) → AllRefused (m ∷ rest) s
    → rest ≡ modules_of (without_first s.modules)
    → ((t : Iop) → AllRefused rest t → rest ≡ modules_of t.modules → left_by rest t ≡ [])
    → (r : Result Loaded Code) → answer_to s m ≡ r
    → modules_of (enters_or (loads_first rest) (places s (loading_of s m)).state m r).state.modules
    ≡ []
refused_by m rest s h are later (Ok l) e = let no = h m s first in absurd (cc)
refused_by m rest s h are later (Err code) e =
    later (places s (loading_of s m)).state (λ other t c. h other t (behind code e c)) are

all_refused : (modules : List Module) (s : Iop) → AllRefused modules s
    → modules ≡ modules_of s.modules → left_by modules s ≡ []
unfolding loads_first
all_refused [] s h are = sym are
all_refused (m ∷ rest) s h are =
    refused_by m rest s h (rest_of m rest s.modules are) (all_refused rest) (answer_to s m) refl

-- and all where none comes to be loaded, since there is none
none_come : (modules : List Module) (s : Iop)
    → ((m : Module) (t : Iop) → ¬ ComesToLoad modules s m t)
    → (loads_first modules s).state.modules ≡ s.modules
unfolding loads_first
none_come [] s h = refl
none_come (m ∷ rest) s h = absurd (h m s first)

-- what becomes of the loader's thread leaves them
started : (s : Iop) (o : Option BegunModule) → (starts_by s o).modules ≡ s.modules
started s None = refl
started s (Some begun) = refl

gone_on : (s : Iop) (o : Option BegunModule) → (goes_on_by s o).modules ≡ s.modules
gone_on s None = refl
gone_on s (Some begun) = refl

-- so a step leaves them
module _ (w : World) where
  abbrev left : ModulesLeft
  left = (step w).state.iop.modules

  abbrev loaded_from : Iop → ModulesLeft
  loaded_from s = (loads_first (modules_of w.iop.modules) s).state.modules

  booted_left : turn_of w ≡ Boots → left ≡ loaded_from (with_kernel w.iop)
  unfolding boots
  booted_left turn =
      let v = (loads_first (modules_of w.iop.modules) (with_kernel w.iop)).state in
      ap (λ (x : Transition World). x.state.iop.modules) (step_as w Boots turn)
      ∙ started v v.begun

  returned_left : (code value : ℕ) (ended : BegunModule) → turn_of w ≡ Executes (Serves code)
      → (served_by (takes_events w.iop) code).left.after ≡ ModuleReturned value
      → w.iop.begun ≡ Some ended
      → left ≡ loaded_from (behind_end (takes_events w.iop) code ended value)
  unfolding calls ends_module
  returned_left code value ended turn after begun =
      let s = takes_events w.iop in
      let d = served_by s code in
      let v = (serves s d).state in
      let loaded = behind_end s code ended value in
      let u = (loads_first (modules_of w.iop.modules) loaded).state in
      ap (λ (x : Transition World). x.state.iop.modules) (step_as w (Executes (Serves code)) turn)
      ∙ ap (λ (a : After). (calls_by s d a).state.modules) after
      ∙ ap (λ (o : Option BegunModule). (returns_by v o value).state.modules) begun
      ∙ gone_on u u.begun

  -- the state in which the modules that are left are loaded
  record From (m : Module) (t : Iop) : Type 0 where
    s : Iop
    comes : ComesToLoad (modules_of w.iop.modules) s m t
    are : w.iop.modules ≡ s.modules
    leaves : left ≡ loaded_from s
    others : (other : Module) (u : Iop)
        → ComesToLoad (modules_of w.iop.modules) s other u → LoadsIn w other u

  from : {m : Module} {t : Iop} → LoadsIn w m t → From m t
  from (booting turn h) = record {
    s = with_kernel w.iop;
    comes = h;
    are = refl;
    leaves = booted_left turn;
    others = λ other u c. booting turn c;
  }
  from (returning code value ended turn after begun h) = record {
    s = behind_end (takes_events w.iop) code ended value;
    comes = h;
    are = refl;
    leaves = returned_left code value ended turn after begun;
    others = λ other u c. returning code value ended turn after begun c;
  }

  module _ (no : (m : Module) (s : Iop) → ¬ LoadsIn w m s) where
    abbrev served : ℕ → Served
    served code = served_by (takes_events w.iop) code

    module _ (code : ℕ) (turn : turn_of w ≡ Executes (Serves code)) where
      ended_by : (value : ℕ) (o : Option BegunModule) → w.iop.begun ≡ o
          → (served code).left.after ≡ ModuleReturned value
          → (returns_by (serves (takes_events w.iop) (served code)).state o value).state.modules
          ≡ w.iop.modules
      unfolding ends_module
      ended_by value None e after = refl
      ended_by value (Some ended) e after =
          let v = behind_end (takes_events w.iop) code ended value in
          let u = (loads_first (modules_of w.iop.modules) v).state in
          gone_on u u.begun
          ∙ none_come (modules_of w.iop.modules) v
          (λ m t c. no m t (returning code value ended turn after e c))

      called_by : (a : After) → (served code).left.after ≡ a
          → (calls_by (takes_events w.iop) (served code) a).state.modules ≡ w.iop.modules
      called_by Resume e = refl
      called_by Switch e = refl
      called_by (ModuleReturned value) e = ended_by value w.iop.begun refl e
      called_by (Fault kind) e = refl

    performed_by : (r : Row) → turn_of w ≡ Executes r
        → (performs (takes_events w.iop) r).state.modules ≡ w.iop.modules
    unfolding calls
    performed_by (Goes after None) turn = refl
    performed_by (Goes after (Some storing)) turn = refl
    performed_by (Serves code) turn = called_by code turn (served code).left.after refl
    performed_by (Faults kind) turn = refl

    stay_by : (turn : Turn) → turn_of w ≡ turn
        → (takes_turn w turn).state.iop.modules ≡ w.iop.modules
    unfolding boots
    stay_by Stays e = refl
    stay_by Boots e =
        let v = (loads_first (modules_of w.iop.modules) (with_kernel w.iop)).state in
        started v v.begun
        ∙ none_come (modules_of w.iop.modules) (with_kernel w.iop)
        (λ m t c. no m t (booting e c))
    stay_by (Delivers d) e = refl
    stay_by (Dispatches d) e = refl
    stay_by (Executes r) e = performed_by r e
    stay_by (Waits None) e = refl
    stay_by (Waits (Some moment)) e = refl

    stays : left ≡ w.iop.modules
    unfolding step
    stays = stay_by (turn_of w) refl

  leaves_one : (m : Module) (s : Iop) (l : Loaded) → LoadsIn w m s → answer_to s m ≡ Ok l
      → (before : List Module) × (modules_of w.iop.modules ≡ before ++ m ∷ modules_of left)
  leaves_one m s l h ok =
      let f = from h in
      let r = come_to_leave l f.comes ok (ap modules_of f.are) in
      (r.0, r.1 ∙ sym (ap (λ xs. r.0 ++ m ∷ modules_of xs) f.leaves))

  leaves_none : (m : Module) (s : Iop) → LoadsIn w m s
      → ((other : Module) (t : Iop) → LoadsIn w other t → is_err (answer_to t other) ≡ true)
      → modules_of left ≡ []
  leaves_none m s h refused =
      let f = from h in
      ap modules_of f.leaves
      ∙ all_refused (modules_of w.iop.modules) f.s
      (λ other t c. refused other t (f.others other t c)) (ap modules_of f.are)

  pub leaves_modules : LeavesModules w
  leaves_modules = record { stay = stays; left = leaves_one; none = leaves_none }
