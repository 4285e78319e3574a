-- What a line begins with and asks for, as the program holds it.
use Rattle.iop_isa.specs.Writing.{opcode_and_operands}
use Rattle.iop_asm.specs.declared.keyword.Keyword.{Keyword as HeldKeyword}
use Rattle.iop_asm.specs.declared.keyword.Keyword.TheVariants as word
use Rattle.iop_asm.specs.declared.statement.Statement.{Statement as Held}
use Rattle.iop_asm.specs.declared.statement.Statement.TheVariants as held
use Rattle.iop_asm.specs.Statements.{Keyword, LabelOf, Directed, Mnemonic, Nop, Statement, Labels, Names, Versions, Enters, Reserves, BeginsText, BeginsData, BeginsImport, BeginsExport, Stubs, EndsImport, EndsExport, Fills}
use Rattle.iop_asm.specs.CellFields.{cells}

abbrev pub keyword : HeldKeyword → Keyword
keyword (word.Label name) = LabelOf name.now
keyword (word.Directive d) = Directed d
keyword (word.Mnemonic m) = Mnemonic (opcode_and_operands m)
keyword word.Nop = Nop

abbrev pub statement : Held → Statement
statement (held.Labels name) = Labels name.now
statement (held.Names name) = Names name.now
statement (held.Versions version) = Versions version
statement (held.Enters label) = Enters label.now
statement (held.Reserves bytes) = Reserves bytes
statement held.BeginsText = BeginsText
statement held.BeginsData = BeginsData
statement (held.BeginsImport name version) = BeginsImport name version
statement (held.BeginsExport name version) = BeginsExport name version
statement (held.Stubs label index) = Stubs label.now index
statement held.EndsImport = EndsImport
statement held.EndsExport = EndsExport
statement (held.Fills words) = Fills (cells words.items)
