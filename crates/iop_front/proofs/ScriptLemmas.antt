-- From the reading of a script and of modules to that of a command's files.
use Rattle.std.proofs.Common.{◌≡◌, ℕ, ◌≤◌, Option, Some, None, is_some, option_to_list, Ok, Err, is_ok, List, [], ◌∷◌, ◌++◌, All, length, append-nil, refl, ap, sym}
use Rattle.std.proofs.lemmas.List.Elements.{All-nil, All-cons}
use Rattle.iop_machine.specs.Modules.{NamedFile}
use Rattle.iop_modload.specs.declared.limits.TheConstants.{LONGEST_FILE}
use Rattle.iop_options.specs.Commands.{Command}
use Rattle.iop_script.specs.Answers.{Gives}
use Rattle.iop_script.specs.Reading.{empty_script, bad_line, script_of}
use Rattle.iop_script.specs.Scripts.{Script}
use Rattle.iop_script.specs.declared.fault.ScriptFault.{ScriptFault}
use Rattle.iop_script.specs.declared.fault.ScriptFault.TheVariants.{Line, Memory}
use Rattle.iop_front.specs.Inputs.{Seen, HasTaken, HasStopped, HasScript, HasInputs, IsScriptOf, unread_of}
use Rattle.iop_front.specs.Outcome.{IsGoodFile}
use Rattle.iop_front.specs.Named.{FileKind, AsScript, AsModule, AsSnapshot, kind_by, inputs_of}
use Rattle.iop_front.specs.declared.unread.Unread.{Unread}
use Rattle.iop_front.proofs.OpeningLemmas.{IsNotLong, AreFollowed}
use Rattle.iop_front.proofs.TakingLemmas.{takes_none, takes-append, stops_short, stops_bad, stops_behind}

module _ (name file : List ℕ) (old new : Seen) (short : length file ≤ LONGEST_FILE)
    (taken : HasTaken AsScript (name ∷ []) (record { name = name; file = file } ∷ []) old new) where
  -- a file was read that is no script, or there was no memory for it
  pub stops_by_fault : (fault : ScriptFault) → Gives (Err fault) (script_of file)
      → HasStopped AsScript (name ∷ []) (unread_of fault) old new
  stops_by_fault (Line number rule) bad =
      stops_bad name file (bad_line number rule) old new short bad taken
  stops_by_fault Memory h =
      stops_short AsScript (name ∷ []) (name ∷ []) [] (record { name = name; file = file } ∷ []) old
      new refl taken

  -- a script was read
  pub script_read : (script : Script) → script_of file ≡ Ok script
      → HasScript (Some name) script old new
  script_read script is = record {
    file = Some (record { name = name; file = file });
    has_file = refl;
    taken = taken;
    says = (short, is);
  }

-- where there is no file, nothing is said
pub no_script : (script : Script) (seen : Seen) → script ≡ empty_script
    → HasScript None script seen seen
no_script script seen e =
    record { file = None; has_file = refl; taken = takes_none AsModule seen; says = e }

-- the file of a script is not too long
script_short : (file : Option NamedFile) (script : Script) → IsScriptOf file script
    → All IsNotLong (option_to_list file)
script_short None script h = All-nil IsNotLong
script_short (Some file) script h = All-cons IsNotLong file [] h.0 (All-nil IsNotLong)

-- the file of a script is good
script_good : (kind : FileKind) (file : List ℕ) (script : Script) → script_of file ≡ Ok script
    → IsGoodFile kind file
script_good AsScript file script e = ap is_ok e
script_good AsModule file script e = tt
script_good AsSnapshot file script e = tt

-- so the modules' may be read behind it
script_followed : (name : Option (List ℕ)) (file : Option NamedFile) (script : Script)
    → is_some file ≡ is_some name → IsScriptOf file script
    → AreFollowed (kind_by name) (option_to_list file)
script_followed None None script e h = refl
script_followed (Some name) None script e h = absurd (cc)
script_followed name (Some file) script e h = script_good (kind_by name) file.file script h.1

-- behind the script of a command
module _ (command : Command) (script : Script) (old between new : Seen)
    (h : HasScript command.script script old between) where
  -- its modules were read
  pub inputs_read : (modules : List NamedFile)
      → HasTaken AsModule command.modules modules between new
      → HasInputs command script modules old new
  inputs_read modules k = record {
    file = h.file;
    has_file = h.has_file;
    taken = takes-append (kind_by command.script) (option_to_list command.script) command.modules
        (option_to_list h.file) modules old between new (script_short h.file script h.says)
        (script_followed command.script h.file script h.has_file h.says) h.taken k;
    says = h.says;
  }

  -- or one was not
  pub stops_behind_script : (unread : Unread)
      → HasStopped AsModule command.modules unread between new
      → HasStopped (kind_by command.script) (inputs_of command) unread old new
  stops_behind_script unread k =
      let script_names = option_to_list command.script in
      stops_behind (kind_by command.script) (inputs_of command) script_names command.modules []
      (option_to_list h.file) old between new
      (ap (λ t. script_names ++ t) (sym (append-nil command.modules))) h.taken
      (script_short h.file script h.says)
      (script_followed command.script h.file script h.has_file h.says) unread k
