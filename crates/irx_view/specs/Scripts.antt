-- What does not hold of a script's line that breaks a rule, in words, and which line that is. The
-- rules are this project's profile.
use Rattle.std.specs.Prelude.{ℕ, ◌-◌, unwrap_or, List, [], codes, slice_get}
use Rattle.iop_script.specs.Texts.{line_feed, parts}
use Rattle.iop_script.specs.declared.rule.Rule.{Rule}
use Rattle.iop_script.specs.declared.rule.Rule.TheVariants.{FirstLine, Keyword, FieldCount, Tick, Change, InterruptLine, TickOrder, LineLength, Module, Name, WordCount, WordBytes, ModuleOnce, NameOnce}
use Rattle.iop_script.specs.declared.version.Version.{Version}
use Rattle.iop_script.specs.declared.version.Version.TheVariants.{One, Two}

abbrev pub line_rule_text : Rule → List ℕ
line_rule_text FirstLine = codes "it is neither script 1 nor script 2"
line_rule_text Keyword = codes "its first field is not at, args, or in version 2 for"
line_rule_text FieldCount = codes "it has not four fields"
line_rule_text Tick =
    codes "its second field is no tick, 0 to 9223372036854775807 without a leading zero"
line_rule_text Change = codes "its third field is not line, or in version 2 release"
line_rule_text InterruptLine =
    codes "its fourth field is no interrupt line, 0 to 63 without a leading zero"
line_rule_text TickOrder = codes "its tick is less than that of the at line before"
line_rule_text LineLength = codes "it has more than 2048 bytes"
line_rule_text Module = codes "its second field is no module, 1 to 64 without a leading zero"
line_rule_text Name = codes "its second field is no name, bytes from 0x21 to 0x7e"
line_rule_text WordCount = codes "it has more than 15 words"
line_rule_text WordBytes = codes "a word of it is empty, or has a byte below 0x21 or above 0x7e"
line_rule_text ModuleOnce = codes "an args line before has the same module"
line_rule_text NameOnce = codes "a for line before has the same name"

-- the line of a number, from 1 on, without its line feed; empty where the text has fewer
abbrev pub line_of : List ℕ → ℕ → List ℕ
line_of text number = unwrap_or (slice_get (parts line_feed text) (number - 1)) []

abbrev pub version_number : Version → ℕ
version_number One = 1
version_number Two = 2
