-- What is read of a script, line by line.
use Rattle.std.proofs.Common.{◌≡◌, ℕ, Option, None, Some, Result, Ok, Err, List, [], ◌∷◌, refl, ap, ◌∙◌}
use Rattle.iop_script.specs.Answers.{Gives, Takes, fault_in}
use Rattle.iop_script.specs.Reading.{bad_line, empty_script, after_line, next_number, unless_bad, read_lines, read_behind, read_all, script_of}
use Rattle.iop_script.specs.Scripts.{Script}
use Rattle.iop_script.specs.Texts.{line_feed, parts}
use Rattle.iop_script.specs.Versions.{version_of}
use Rattle.iop_script.specs.declared.line_fault.LineFault.{LineFault}
use Rattle.iop_script.specs.declared.line_fault.LineFault.TheVariants.{Broken, Memory}
use Rattle.iop_script.specs.declared.rule.Rule.{Rule}
use Rattle.iop_script.specs.declared.rule.Rule.TheVariants as rule
use Rattle.iop_script.specs.declared.version.Version.{Version}

module _ (bytes first : List ℕ) (rest : List (List ℕ))
    (cut : parts line_feed bytes ≡ first ∷ rest) where
  by_version : (told : Option Version) → version_of first ≡ told
      → script_of bytes ≡ read_behind told rest
  unfolding script_of
  by_version told is =
      ap read_all cut ∙ ap (λ (v : Option Version). read_behind v rest) is

  pub other_first : version_of first ≡ None → script_of bytes ≡ Err (bad_line 1 rule.FirstLine)
  other_first other = by_version None other

  pub first_line : (version : Version) → version_of first ≡ Some version
      → script_of bytes ≡ read_lines version 2 empty_script rest
  first_line version is = by_version (Some version) is

pub no_lines : (version : Version) (number : ℕ) (script : Script)
    → read_lines version number script [] ≡ Ok script
unfolding read_lines
no_lines version number script = refl

-- the text of some lines, the first of this number
module _ (version : Version) (number : ℕ) (script : Script) (text line : List ℕ)
    (rest : List (List ℕ)) (cut : parts line_feed text ≡ line ∷ rest) where
  one_line : (after : Result Script Rule) → after_line version script line ≡ after
      → read_lines version number script (parts line_feed text)
      ≡ unless_bad number (λ next. read_lines version (next_number number) next rest) after
  unfolding read_lines
  one_line after is =
      ap (read_lines version number script) cut
      ∙ ap (unless_bad number (λ next. read_lines version (next_number number) next rest)) is

  pub good_line : (next : Script) → after_line version script line ≡ Ok next
      → read_lines version number script (parts line_feed text)
      ≡ read_lines version (next_number number) next rest
  good_line next is = one_line (Ok next) is

  pub broken_line : (new : Script) (fault : LineFault) (bytes : List ℕ)
      → Takes (Err fault) (after_line version script line) new
      → script_of bytes ≡ read_lines version number script (parts line_feed text)
      → Gives (Err (fault_in number fault)) (script_of bytes)
  broken_line new (Broken broken) bytes taken reads = reads ∙ one_line (Err broken) taken
  broken_line new Memory bytes taken reads = tt

pub ruleset lines = (other_first, first_line, no_lines, good_line, broken_line)
