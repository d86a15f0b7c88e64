-- Pieces that are written one after the other.
use Rattle.std.proofs.Common.{◌∙◌, ◌++◌, ℕ, Result, Ok, Err, List, ap, subst, append_assoc}
use Rattle.store_traits.specs.Faults.{Rose}
use Rattle.byte_io.specs.declared.sink.Sink as sink_trait
use Rattle.byte_io.specs.Seen.{SinkSeen, sink_seen}
use Rattle.byte_io.proofs.WriteLemmas.{prefix_of_first, prefix_of_second}
use Rattle.prefs_tool.specs.Writing.{BreaksOff, Gains, WritesPiece, WritesText}
use Rattle.prefs_tool.specs.declared.tool_error.ToolError.{ToolError}
use Rattle.prefs_tool.specs.declared.tool_error.ToolError.TheVariants.{WriteFault}

-- what is written at once needs no memory
pub as_text : {T : Type 0} (text : List ℕ) (old new : SinkSeen) (result : Result T ToolError) → WritesPiece text old result new → WritesText text old result new
as_text text old new (Ok done) writes = writes
as_text text old new (Err WriteFault) writes = writes
as_text text old new (Err e) writes = absurd writes

module _ {K : Type 0} (k : sink_trait.Ghosts K) where
  abbrev seen : K → SinkSeen
  seen sink = sink_seen k sink

  -- a second text behind one that was written
  pub gains_both : (first second : List ℕ) (old middle new : K) → Gains first (seen old) (seen middle) → Gains second (seen middle) (seen new)
      → Gains (first ++ second) (seen old) (seen new)
  gains_both first second old middle new one two = record {
    sound = two.sound ∙ one.sound;
    gained = λ told. two.gained told ∙ ap (λ (m : List ℕ). m ++ second) (one.gained told) ∙ append_assoc (k.held old) first second;
  }

  -- and one that broke off
  pub breaks_behind : (first second : List ℕ) (old middle new : K) → Gains first (seen old) (seen middle) → BreaksOff second (seen middle) (seen new)
      → BreaksOff (first ++ second) (seen old) (seen new)
  breaks_behind first second old middle new one two = record {
    rose = subst (λ (count : ℕ). Rose count (k.count new)) one.sound two.rose;
    gained = λ told. prefix_of_second first second (k.held old) (k.held middle) (k.held new) (one.gained told) (two.gained told);
  }

  pub piece_behind : {T : Type 0} (first second : List ℕ) (old middle new : K) (result : Result T ToolError)
      → Gains first (seen old) (seen middle) → WritesPiece second (seen middle) result (seen new) → WritesPiece (first ++ second) (seen old) result (seen new)
  piece_behind first second old middle new (Ok done) one two = gains_both first second old middle new one two
  piece_behind first second old middle new (Err WriteFault) one two = breaks_behind first second old middle new one two
  piece_behind first second old middle new (Err e) one two = absurd two

  -- a first piece that broke off stops both
  pub piece_stops : (T : Type 0) (first second : List ℕ) (old new : K) (e : ToolError)
      → WritesPiece {T = T} first (seen old) (Err e) (seen new) → WritesPiece {T = T} (first ++ second) (seen old) (Err e) (seen new)
  piece_stops T first second old new WriteFault writes =
      record { rose = writes.rose; gained = λ told. prefix_of_first first second (k.held old) (k.held new) (writes.gained told) }
  piece_stops T first second old new e writes = absurd writes
