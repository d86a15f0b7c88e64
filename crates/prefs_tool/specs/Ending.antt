-- How the body of a command ends: what there is to tell, and what of it the sink has.
use Rattle.std.specs.Prelude.{ℕ, Bool, IsTrue, List, [], Option, Result, Ok, Err, String, string_bytes}
use Rattle.std.specs.declared.alloc.Global.{Global}
use Rattle.byte_io.specs.Seen.{SinkSeen}
use Rattle.folder_disk.specs.Seen.{FolderSeen}
use Rattle.prefs_tool.specs.Reading.{StopsReading}
use Rattle.prefs_tool.specs.Status.{line_of}
use Rattle.prefs_tool.specs.Writing.{BreaksOff, Gains}
use Rattle.prefs_tool.specs.Outcome.{Answers, Lacks, Prints}
use Rattle.command_words.specs.declared.command.Command.{Command}
use Rattle.command_words.specs.declared.command.Command.TheVariants.{Get}
use Rattle.prefs_tool.specs.declared.tool_error.ToolError.{ToolError}
use Rattle.prefs_tool.specs.declared.tool_error.ToolError.TheVariants.{WriteFault, NoMemory, NoKey}

-- The line of an error is not written yet. Where a write failed, all else had gone well.
abbrev pub EndsWith : {T : Type 0} → (Result (Unit {0}) ToolError → List ℕ → Type 0) → SinkSeen → Result T ToolError → SinkSeen → Type 0
EndsWith answers old (Ok done) new = (text : List ℕ) × answers (Ok tt) text × Gains text old new
EndsWith answers old (Err NoMemory) new = (text : List ℕ) × answers (Err NoMemory) text × Gains text old new
EndsWith answers old (Err WriteFault) new = (text : List ℕ) × answers (Ok tt) text × BreaksOff text old new
EndsWith answers old (Err e) new = answers (Err e) (line_of e) × Gains [] old new

-- how the body of every command but `replay` ends
abbrev pub Ends : {T : Type 0} → Command → FolderSeen → SinkSeen → Result T ToolError → FolderSeen → SinkSeen → Type 0
Ends command folder sink result folder_after sink_after = EndsWith (λ answer text. Answers command folder answer text folder_after) sink result sink_after

-- the line that `get` prints, or why there is none
abbrev pub FindsLine : Bool → List ℕ → Option (List ℕ) → Result (String Global) ToolError → Type 0
FindsLine told key main (Ok line) = IsTrue told → Prints (Get key) main (string_bytes line)
FindsLine told key main (Err NoKey) = IsTrue told → Lacks key main
FindsLine told key main (Err e) = StopsReading told main e
