-- How a command ended, as a number, and the line that tells why it stopped.
use Rattle.std.specs.Prelude.{ℕ, List, [], ◌∷◌, ◌++◌, codes, decimal, Result, Ok, Err}
use Rattle.prefs_tool.specs.declared.status.Status.{Status}
use Rattle.prefs_tool.specs.declared.status.Status.TheVariants.{Done, Words, Script, Storage, Corrupt, Refused, ReadFault, WriteFault, NoMemory, NoKey}
use Rattle.prefs_tool.specs.declared.tool_error.ToolError.{ToolError}
use Rattle.prefs_tool.specs.declared.tool_error.ToolError.TheVariants as error
use Rattle.script_lang.specs.declared.parsing.script_error.ScriptFault.{ScriptFault}
use Rattle.script_lang.specs.declared.parsing.script_error.ScriptFault.TheVariants as fault

-- the exit status of the program
abbrev pub code_of : Status → ℕ
code_of Done = 0
code_of Words = 1
code_of Script = 2
code_of Storage = 3
code_of Corrupt = 4
code_of Refused = 5
code_of ReadFault = 6
code_of WriteFault = 7
code_of NoMemory = 8
code_of NoKey = 9

abbrev pub status_of : ToolError → Status
status_of error.Words = Words
status_of (error.Script number fault) = Script
status_of error.ScriptTooLong = Script
status_of error.Storage = Storage
status_of error.Corrupt = Corrupt
status_of (error.TooLong len) = Corrupt
status_of error.EditTooLong = Refused
status_of (error.ValueTooLong len) = Refused
status_of error.ReadFault = ReadFault
status_of error.WriteFault = WriteFault
status_of error.NoMemory = NoMemory
status_of error.NoKey = NoKey

abbrev pub status_after : {T : Type 0} → Result T ToolError → Status
status_after (Ok done) = Done
status_after (Err e) = status_of e

abbrev pub line : List ℕ → List ℕ
line text = text ++ 10 ∷ []

-- the word for a fault of a script; the last one is never told
abbrev pub fault_name : ScriptFault → List ℕ
fault_name fault.NotUtf8 = codes "notutf8"
fault_name fault.LineTooLong = codes "linetoolong"
fault_name fault.TooManyLines = codes "toomanylines"
fault_name fault.UnknownWord = codes "unknownword"
fault_name fault.BadValue = codes "badvalue"
fault_name fault.UnknownName = codes "unknownname"
fault_name fault.NameTaken = codes "nametaken"
fault_name fault.TooManyNames = codes "toomanynames"
fault_name fault.WrongPlace = codes "wrongplace"
fault_name fault.NoMemory = codes "nomemory"

-- the line that the error is told by; the last two are told by the status alone
abbrev pub line_of : ToolError → List ℕ
line_of error.Words = line (codes "error: words")
line_of (error.Script number fault) = line (codes "error: line " ++ decimal number ++ codes " " ++ fault_name fault)
line_of error.ScriptTooLong = line (codes "error: script too long")
line_of error.Storage = line (codes "error: storage")
line_of error.Corrupt = line (codes "error: corrupt")
line_of (error.TooLong len) = line (codes "error: too long " ++ decimal len)
line_of error.EditTooLong = line (codes "error: refused 4")
line_of (error.ValueTooLong len) = line (codes "error: value too long " ++ decimal len)
line_of error.NoKey = line (codes "error: no key")
line_of error.ReadFault = line (codes "error: read")
line_of error.WriteFault = []
line_of error.NoMemory = []

-- what there is to write of an answer of which nothing is printed
abbrev pub text_after : {T : Type 0} → Result T ToolError → List ℕ
text_after (Ok done) = []
text_after (Err e) = line_of e
