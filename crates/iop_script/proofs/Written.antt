-- The text written of a script says this script.
use Rattle.std.proofs.Common.{◌≡◌, ℕ, Some, Ok, List, [], ◌∷◌, ◌++◌, map, refl, ap, sym, ◌∙◌}
use Rattle.std.specs.List.{All}
use Rattle.std.proofs.lemmas.List.Elements.{All-append, All-map, All-weaker}
use Rattle.iop_script.specs.Laws.{IsOfVersion, CanBeWritten, WrittenScriptsAreRead}
use Rattle.iop_script.specs.Reading.{empty_script, read_lines, read_behind, read_all, script_of}
use Rattle.iop_script.specs.Scripts.{Args, Named, Script}
use Rattle.iop_script.specs.Texts.{line_feed, parts}
use Rattle.iop_script.specs.Versions.{first_line, version_of}
use Rattle.iop_script.specs.Writing.{event_line, args_line, named_line, word_lines, written}
use Rattle.iop_script.specs.declared.raise.Raise.{Raise}
use Rattle.iop_script.specs.declared.version.Version.{Version}
use Rattle.iop_script.specs.declared.version.Version.TheVariants.{One, Two}
use Rattle.iop_script.proofs.ArgsWriting.{args_line-lacks, args_read}
use Rattle.iop_script.proofs.EventWriting.{event_line-lacks, events_read}
use Rattle.iop_script.proofs.NamedWriting.{named_line-lacks, script_of_all, named_read}
use Rattle.iop_script.proofs.PartsJoined.{Lacks, lacks_tested, parts-joined}
use Rattle.iop_script.proofs.StatementLaws.{CanChange, IsEvent, AreArgs, AreNamed}

first_lacks : (version : Version) → Lacks line_feed (first_line version)
first_lacks One = lacks_tested line_feed (first_line One) refl
first_lacks Two = lacks_tested line_feed (first_line Two) refl

first_told : (version : Version) → version_of (first_line version) ≡ Some version
first_told One = refl
first_told Two = refl

can_change : (version : Version) (script : Script) → IsOfVersion version script
    → All (λ e. CanChange version e.up) script.events
can_change One script h = h.0
can_change Two script h = λ k d below. tt

-- the lines of names stand in version 2 alone
names_read : (version : Version) (number : ℕ) (script : Script) → CanBeWritten version script
    → All AreNamed script.named
    → read_lines version number (script_of_all script.events script.args [])
    (map named_line script.named)
    ≡ Ok script
unfolding read_lines
names_read One number script can all =
    ap (λ (ns : List Named).
    read_lines One number (script_of_all script.events script.args []) (map named_line ns))
    can.in_version.1
    ∙ ap (λ (ns : List Named). Ok (script_of_all script.events script.args ns))
    (sym can.in_version.1)
names_read Two number script can all =
    named_read number script.events script.args [] script.named can.runs.names all

module _ (version : Version) (script : Script) (can : CanBeWritten version script) where
  are_events : All (IsEvent version) script.events
  are_events = λ k d below. record {
    tick = can.runs.ticks k d below;
    line = can.runs.lines k d below;
    up = can_change version script can.in_version k d below;
  }

  are_args : All AreArgs script.args
  are_args = λ k d below. record {
    least = (can.numbers k d below).0;
    most = (can.numbers k d below).1;
    room = can.runs.room k d below;
    fit = can.fit k d below;
  }

  are_named : All AreNamed script.named
  are_named = λ k d below. record {
    name = can.are_names k d below;
    room = can.runs.named_room k d below;
    fit = can.named_fit k d below;
  }

  abbrev lines : List (List ℕ)
  lines = map event_line script.events ++ word_lines script

  lines_lack : All (Lacks line_feed) lines
  lines_lack =
      All-append (Lacks line_feed) (map event_line script.events) (word_lines script)
      (All-map (Lacks line_feed) event_line script.events
      (All-weaker (IsEvent version) (λ (e : Raise). Lacks line_feed (event_line e))
      (event_line-lacks version) script.events are_events))
      (All-append (Lacks line_feed) (map args_line script.args) (map named_line script.named)
      (All-map (Lacks line_feed) args_line script.args
      (All-weaker AreArgs (λ (a : Args). Lacks line_feed (args_line a)) args_line-lacks script.args
      are_args))
      (All-map (Lacks line_feed) named_line script.named
      (All-weaker AreNamed (λ (n : Named). Lacks line_feed (named_line n)) named_line-lacks
      script.named are_named)))

  written_parts : parts line_feed (written version script) ≡ first_line version ∷ lines
  unfolding written
  written_parts =
      parts-joined line_feed (first_line version) lines (first_lacks version) lines_lack

  lines_read : read_lines version 2 empty_script lines ≡ Ok script
  lines_read =
      events_read version 2 script.events (word_lines script) script can.runs.order are_events
      (λ n. args_read version n script.events [] script.args (map named_line script.named) script
      can.runs.modules are_args (λ m. names_read version m script can are_named))

  written_read : script_of (written version script) ≡ Ok script
  unfolding script_of
  written_read =
      ap read_all written_parts
      ∙ ap (λ told. read_behind told lines) (first_told version) ∙ lines_read

pub written_are_read : WrittenScriptsAreRead
written_are_read = λ version script can. written_read version script can
