-- Each good line that says something is one of those that the script is written with.
use mathlib.Core.Logic.{◌⊎◌, inl, inr}
use Rattle.std.proofs.Common.{◌≡◌, ℕ, true, Option, None, Some, Ok, List, [], ◌∷◌, ◌++◌, map, drop, refl, ap, sym, subst}
use Rattle.std.specs.List.{All, Contains}
use Rattle.std.proofs.lemmas.Bool.{eqb-true}
use Rattle.std.proofs.lemmas.List.{map-append}
use Rattle.std.proofs.lemmas.List.Elements.{All-nil, All-cons, Contains-append_cases, Contains-append_left, Contains-append_right, Contains-push}
use Rattle.iop_script.specs.Laws.{SaysNothing, IsLineOf, GoodLinesAreWritten}
use Rattle.iop_script.specs.Reading.{empty_script, with_event, with_args, with_named, next_number, read_lines, read_behind, read_all, script_of}
use Rattle.iop_script.specs.Scripts.{Args, Named, Script}
use Rattle.iop_script.specs.Statements.{is_remark}
use Rattle.iop_script.specs.Texts.{line_feed, parts}
use Rattle.iop_script.specs.Versions.{version_of}
use Rattle.iop_script.specs.Writing.{event_line, args_line, named_line, word_lines}
use Rattle.iop_script.specs.declared.raise.Raise.{Raise}
use Rattle.iop_script.specs.declared.version.Version.{Version}
use Rattle.iop_script.proofs.GoodLines.{IsGood, says_nothing, says_event, says_args, says_named, after_line-good, first_good}
use Rattle.iop_script.proofs.StatementLaws.{ok_value, demand_met}

remark_says_nothing : (line : List ℕ) → is_remark line ≡ true → SaysNothing line
remark_says_nothing [] is = inl refl
remark_says_nothing (first ∷ rest) is = inr (ap (λ (b : ℕ). b ∷ []) (eqb-true first 0x23 is))

module _ {X : Type 0} where
  -- what one has, the other has too
  abbrev Within : List X → List X → Type 0
  Within xs ys = (x : X) → Contains xs x → Contains ys x

  within_left : (xs ys zs : List X) → Within xs ys → Within (xs ++ zs) (ys ++ zs)
  within_left xs ys zs h x has =
      elim (Contains-append_cases xs zs x has) [
        | inl here ↦ Contains-append_left ys zs x (h x here)
        | inr there ↦ Contains-append_right ys zs x there
      ]

  within_right : (xs ys zs : List X) → Within xs ys → Within (zs ++ xs) (zs ++ ys)
  within_right xs ys zs h x has =
      elim (Contains-append_cases zs xs x has) [
        | inl here ↦ Contains-append_left zs ys x here
        | inr there ↦ Contains-append_right zs ys x (h x there)
      ]

  -- images, with one more behind them
  module _ {S : Type 0} (f : S → X) (xs : List S) (more : S) where
    pushed : map f (xs ++ more ∷ []) ≡ map f xs ++ f more ∷ []
    pushed = map-append f xs (more ∷ [])

    within_pushed : Within (map f xs) (map f (xs ++ more ∷ []))
    within_pushed x has =
        subst (λ (ys : List X). Contains ys x) (sym pushed)
        (Contains-append_left (map f xs) (f more ∷ []) x has)

    has_pushed : Contains (map f (xs ++ more ∷ [])) (f more)
    has_pushed =
        subst (λ (ys : List X). Contains ys (f more)) (sym pushed)
        (Contains-push (map f xs) (f more))

abbrev lines_of : Script → List (List ℕ)
lines_of script = map event_line script.events ++ word_lines script

abbrev IsSaid : Script → List ℕ → Type 0
IsSaid script line = SaysNothing line ⊎ IsLineOf script line

-- lines that were written still are, and this one is
record Takes (script : Script) (line : List ℕ) (next : Script) : Type 0 where
  kept : Within (lines_of script) (lines_of next)
  said : IsSaid next line

module _ (script : Script) where
  took : (line written : List ℕ) (made next : Script) → made ≡ next → written ≡ line
      → Within (lines_of script) (lines_of made) → Contains (lines_of made) written
      → Takes script line next
  took line written made next same is kept has = record {
    kept = subst (λ (s : Script). Within (lines_of script) (lines_of s)) same kept;
    said = inr (subst (IsLineOf next) is (subst (λ (s : Script). IsLineOf s written) same has));
  }

  took_event : (e : Raise) (line : List ℕ) (next : Script) → event_line e ≡ line
      → with_event script e ≡ Ok next → Takes script line next
  took_event e line next is taken =
      let words = word_lines script in
      let events = script.events ++ e ∷ [] in
      took line (event_line e) (record script { events = events }) next
      (ok_value _ _ (demand_met _ _ _ next taken).1) is
      (within_left (map event_line script.events) (map event_line events) words
      (within_pushed event_line script.events e))
      (Contains-append_left (map event_line events) words (event_line e)
      (has_pushed event_line script.events e))

  took_args : (a : Args) (line : List ℕ) (next : Script) → args_line a ≡ line
      → with_args script a ≡ Ok next → Takes script line next
  took_args a line next is taken =
      let events = map event_line script.events in
      let named = map named_line script.named in
      let args = script.args ++ a ∷ [] in
      took line (args_line a) (record script { args = args }) next
      (ok_value _ _ (demand_met _ _ _ next taken).1) is
      (within_right (map args_line script.args ++ named) (map args_line args ++ named) events
      (within_left (map args_line script.args) (map args_line args) named
      (within_pushed args_line script.args a)))
      (Contains-append_right events (map args_line args ++ named) (args_line a)
      (Contains-append_left (map args_line args) named (args_line a)
      (has_pushed args_line script.args a)))

  took_named : (n : Named) (line : List ℕ) (next : Script) → named_line n ≡ line
      → with_named script n ≡ Ok next → Takes script line next
  took_named n line next is taken =
      let events = map event_line script.events in
      let args = map args_line script.args in
      let named = script.named ++ n ∷ [] in
      took line (named_line n) (record script { named = named }) next
      (ok_value _ _ (demand_met _ _ _ next taken).1) is
      (within_right (args ++ map named_line script.named) (args ++ map named_line named) events
      (within_right (map named_line script.named) (map named_line named) args
      (within_pushed named_line script.named n)))
      (Contains-append_right events (args ++ map named_line named) (named_line n)
      (Contains-append_right args (map named_line named) (named_line n)
      (has_pushed named_line script.named n)))

module _ (version : Version) where
  takes : (script : Script) (line : List ℕ) (next : Script) → IsGood version script line next
      → Takes script line next
  takes script line next (says_nothing remark same) = record {
    kept = subst (λ (s : Script). Within (lines_of script) (lines_of s)) same (λ l has. has);
    said = inl (remark_says_nothing line remark);
  }
  takes script line next (says_event e can is taken) = took_event script e line next is taken
  takes script line next (says_args a can is taken) = took_args script a line next is taken
  takes script line next (says_named n can is more taken) =
      took_named script n line next is taken

  -- so of all lines
  record TakesAll (script : Script) (lines : List (List ℕ)) (final : Script) : Type 0 where
    kept : Within (lines_of script) (lines_of final)
    said : All (IsSaid final) lines

  still_said : (next final : Script) (line : List ℕ) → Within (lines_of next) (lines_of final)
      → IsSaid next line → IsSaid final line
  still_said next final line kept (inl nothing) = inl nothing
  still_said next final line kept (inr has) = inr (kept line has)

  takes_all : (number : ℕ) (script : Script) (lines : List (List ℕ)) (final : Script)
      → read_lines version number script lines ≡ Ok final → TakesAll script lines final
  unfolding read_lines
  takes_all number script [] final is =
      let same : script ≡ final = cc in
      record {
        kept = subst (λ (s : Script). Within (lines_of script) (lines_of s)) same (λ l has. has);
        said = All-nil (IsSaid final);
      }
  takes_all number script (line ∷ rest) final is =
      let good = first_good _ _ _ _ is in
      let here = takes script line good.0 (after_line-good version script line good.0 good.1) in
      let later = takes_all (next_number number) good.0 rest final good.2 in
      record {
        kept = λ l has. later.kept l (here.kept l has);
        said = All-cons (IsSaid final) line rest
            (still_said good.0 final line later.kept here.said) later.said;
      }

behind_said : (told : Option Version) (rest : List (List ℕ)) (final : Script)
    → read_behind told rest ≡ Ok final → All (IsSaid final) rest
behind_said None rest final is = absurd (cc)
behind_said (Some version) rest final is = (takes_all version 2 empty_script rest final is).said

all_said : (lines : List (List ℕ)) (final : Script) → read_all lines ≡ Ok final
    → All (IsSaid final) (drop 1 lines)
all_said [] final is = absurd (cc)
all_said (first ∷ rest) final is = behind_said (version_of first) rest final is

pub good_are_written : GoodLinesAreWritten
unfolding script_of
good_are_written text script is = all_said (parts line_feed text) script is
