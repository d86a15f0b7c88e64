-- Lines that are gathered and written piece by piece.
use Rattle.std.proofs.Common.{◌≡◌, ◌∙◌, ◌<◌, ◌++◌, ◌∷◌, ◌+◌, ℕ, IsTrue, Result, Ok, Err, List, [], take, drop, length, get_or, sym, ap, subst, append_assoc, append-nil}
use Rattle.std.proofs.lemmas.List.{take-append-drop, take_more}
use Rattle.std.proofs.lemmas.List.Concat.{flat_map-append}
use Rattle.store_traits.specs.Faults.{Rose}
use Rattle.byte_io.specs.declared.sink.Sink as sink_trait
use Rattle.byte_io.specs.Seen.{SinkSeen, sink_seen}
use Rattle.byte_io.specs.Sink.{GainsPrefix}
use Rattle.byte_io.proofs.WriteLemmas.{prefix_of_first, prefix_of_second}
use Rattle.prefs_model.specs.declared.pref_pair.PrefPair.{PrefPair}
use Rattle.prefs_text.specs.MapText.{pair_text}
use Rattle.prefs_tool.specs.Outcome.{shown}
use Rattle.prefs_tool.specs.Status.{line}
use Rattle.prefs_tool.specs.Writing.{WritesPiece, WritesText}
use Rattle.prefs_tool.specs.declared.tool_error.ToolError.{ToolError}
use Rattle.prefs_tool.specs.declared.tool_error.ToolError.TheVariants.{WriteFault, NoMemory}

-- of the lines so far all are written but the piece
pub record AreWritten (lines piece held gained : List ℕ) : Type 0 where
  pub written : List ℕ
  pub parts : lines ≡ written ++ piece
  pub gained_is : gained ≡ held ++ written

-- one line more is gathered
line_more : (lines piece new line held gained : List ℕ) → new ≡ piece ++ line → AreWritten lines piece held gained → AreWritten (lines ++ line) new held gained
line_more lines piece new line held gained is so_far = record {
  written = so_far.written;
  parts = ap (λ (l : List ℕ). l ++ line) so_far.parts ∙ append_assoc so_far.written piece line ∙ ap (λ (p : List ℕ). so_far.written ++ p) (sym is);
  gained_is = so_far.gained_is;
}

-- the piece is written
pub piece_written : (lines piece new held gained more : List ℕ) → new ≡ [] → more ≡ gained ++ piece → AreWritten lines piece held gained → AreWritten lines new held more
piece_written lines piece new held gained more empty is so_far = record {
  written = so_far.written ++ piece;
  parts = so_far.parts ∙ sym (append-nil (so_far.written ++ piece)) ∙ ap (λ (p : List ℕ). (so_far.written ++ piece) ++ p) (sym empty);
  gained_is = is ∙ ap (λ (g : List ℕ). g ++ piece) so_far.gained_is ∙ append_assoc held so_far.written piece;
}

-- what is written so far is a prefix of all lines
pub prefix_so_far : (lines piece held gained : List ℕ) → AreWritten lines piece held gained → GainsPrefix lines held gained
prefix_so_far lines piece held gained so_far = record { prefix = so_far.written; rest = piece; parts = so_far.parts; gained = so_far.gained_is }

-- and so it is with a prefix of the piece
prefix_of_piece : (lines piece held gained more : List ℕ) → AreWritten lines piece held gained → GainsPrefix piece gained more → GainsPrefix lines held more
prefix_of_piece lines piece held gained more so_far gains =
    subst (λ (l : List ℕ). GainsPrefix l held more) (sym so_far.parts) (prefix_of_second so_far.written piece held gained more so_far.gained_is gains)

abbrev pair_line : PrefPair → List ℕ
pair_line pair = line (pair_text pair)

-- the lines of one pair more
shown_more : (pairs : List PrefPair) (i : ℕ) (pair : PrefPair) → pair ≡ get_or pairs i pair → i < length pairs → shown (take (i + 1) pairs) ≡ shown (take i pairs) ++ line (pair_text pair)
shown_more pairs i pair is within =
    ap shown (take_more pairs i pair within) ∙ flat_map-append pair_line (take i pairs) (get_or pairs i pair ∷ [])
    ∙ ap (λ (l : List ℕ). shown (take i pairs) ++ l) (append-nil (pair_line (get_or pairs i pair)) ∙ ap pair_line (sym is))

-- the line of one pair more is gathered
pub line_gathered : (pairs : List PrefPair) (i : ℕ) (pair : PrefPair) (piece new held gained : List ℕ) → pair ≡ get_or pairs i pair → i < length pairs
    → new ≡ piece ++ line (pair_text pair) → AreWritten (shown (take i pairs)) piece held gained → AreWritten (shown (take (i + 1) pairs)) new held gained
line_gathered pairs i pair piece new held gained is within pushed so_far =
    subst (λ (l : List ℕ). AreWritten l new held gained) (sym (shown_more pairs i pair is within))
    (line_more (shown (take i pairs)) piece new (line (pair_text pair)) held gained pushed so_far)

-- the lines of the first pairs, and those of the others
shown_parts : (pairs : List PrefPair) (i : ℕ) → shown pairs ≡ shown (take i pairs) ++ shown (drop i pairs)
shown_parts pairs i = ap shown (sym (take-append-drop i pairs)) ∙ flat_map-append pair_line (take i pairs) (drop i pairs)

pub prefix_of_all : (pairs : List PrefPair) (i : ℕ) (held gained : List ℕ) → GainsPrefix (shown (take i pairs)) held gained → GainsPrefix (shown pairs) held gained
prefix_of_all pairs i held gained gains =
    subst (λ (l : List ℕ). GainsPrefix l held gained) (sym (shown_parts pairs i)) (prefix_of_first (shown (take i pairs)) (shown (drop i pairs)) held gained gains)

module _ {K : Type 0} (k : sink_trait.Ghosts K) where
  abbrev seen : K → SinkSeen
  seen sink = sink_seen k sink

  -- the piece that is left is written last
  pub last_piece : {T : Type 0} (lines piece : List ℕ) (old middle new : K) (result : Result T ToolError) → k.count middle ≡ k.count old
      → (IsTrue k.told → AreWritten lines piece (k.held old) (k.held middle)) → WritesPiece piece (seen middle) result (seen new) → WritesText lines (seen old) result (seen new)
  last_piece lines piece old middle new (Ok done) sound so_far writes = record {
    sound = writes.sound ∙ sound;
    gained = λ told.
        let w = so_far told in
        writes.gained told ∙ ap (λ (g : List ℕ). g ++ piece) w.gained_is ∙ append_assoc (k.held old) w.written piece ∙ ap (λ (l : List ℕ). k.held old ++ l) (sym w.parts);
  }
  last_piece lines piece old middle new (Err WriteFault) sound so_far writes = record {
    rose = subst (λ (count : ℕ). Rose count (k.count new)) sound writes.rose;
    gained = λ told. prefix_of_piece lines piece (k.held old) (k.held middle) (k.held new) (so_far told) (writes.gained told);
  }
  last_piece lines piece old middle new (Err e) sound so_far writes = absurd writes

  -- lines of some pairs that stopped are lines of all pairs that stopped
  pub stopped_inside : (T : Type 0) (pairs : List PrefPair) (i : ℕ) (old new : K) (e : ToolError)
      → WritesText {T = T} (shown (take i pairs)) (seen old) (Err e) (seen new) → WritesText {T = T} (shown pairs) (seen old) (Err e) (seen new)
  stopped_inside T pairs i old new WriteFault writes =
      record { rose = writes.rose; gained = λ told. prefix_of_all pairs i (k.held old) (k.held new) (writes.gained told) }
  stopped_inside T pairs i old new NoMemory writes =
      record { sound = writes.sound; gained = λ told. prefix_of_all pairs i (k.held old) (k.held new) (writes.gained told) }
  stopped_inside T pairs i old new e writes = absurd writes
