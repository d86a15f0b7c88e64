-- What is written to the sink.
use Rattle.std.specs.Prelude.{ℕ, ◌≡◌, ◌++◌, IsTrue, List, Result, Ok, Err}
use Rattle.store_traits.specs.Faults.{Rose}
use Rattle.byte_io.specs.Seen.{SinkSeen}
use Rattle.byte_io.specs.Sink.{GainsPrefix}
use Rattle.prefs_tool.specs.declared.tool_error.ToolError.{ToolError}
use Rattle.prefs_tool.specs.declared.tool_error.ToolError.TheVariants.{WriteFault, NoMemory}

-- Where a sink is not told, of what it holds nothing is said.

-- no write failed, and the sink gained this text
pub record Gains (text : List ℕ) (old new : SinkSeen) : Type 0 where
  pub sound : new.count ≡ old.count
  pub gained : IsTrue old.told → new.held ≡ old.held ++ text

-- no write failed, and the sink gained a prefix of this text
pub record GainsSome (text : List ℕ) (old new : SinkSeen) : Type 0 where
  pub sound : new.count ≡ old.count
  pub gained : IsTrue old.told → GainsPrefix text old.held new.held

-- a write failed, and the sink gained a prefix of this text
pub record BreaksOff (text : List ℕ) (old new : SinkSeen) : Type 0 where
  pub rose : Rose old.count new.count
  pub gained : IsTrue old.told → GainsPrefix text old.held new.held

-- the text was written, or a write failed
abbrev pub WritesPiece : {T : Type 0} → List ℕ → SinkSeen → Result T ToolError → SinkSeen → Type 0
WritesPiece text old (Ok done) new = Gains text old new
WritesPiece text old (Err WriteFault) new = BreaksOff text old new
WritesPiece text old (Err _) new = ⊥

-- the same of a text that is made while it is written, for which memory may be wanting
abbrev pub WritesText : {T : Type 0} → List ℕ → SinkSeen → Result T ToolError → SinkSeen → Type 0
WritesText text old (Err NoMemory) new = GainsSome text old new
WritesText text old result new = WritesPiece text old result new
