-- From the body of a command to its status and what was told.
use Rattle.std.proofs.Common.{◌≡◌, ◌≢◌, ◌++◌, inl, inr, ℕ, Result, Ok, Err, List, [], refl, subst, append-nil}
use Rattle.store_traits.specs.Faults.{Counts}
use Rattle.store_traits.proofs.FaultLemmas.{counts_none}
use Rattle.byte_io.specs.declared.sink.Sink as sink_trait
use Rattle.byte_io.specs.Seen.{SinkSeen, sink_seen}
use Rattle.folder_disk.specs.Seen.{FolderSeen}
use Rattle.prefs_edit.specs.declared.edit_step.EditStep.{EditStep}
use Rattle.prefs_tool.specs.Changing.{ChangesMain}
use Rattle.prefs_tool.specs.Folder.{is_storage}
use Rattle.prefs_tool.specs.Status.{line_of, text_after}
use Rattle.prefs_tool.specs.Outcome.{Answers, Does, ReadsNoScript, Reports, Tells}
use Rattle.prefs_tool.specs.Ending.{Ends, EndsWith}
use Rattle.prefs_tool.specs.Writing.{Gains}
use Rattle.command_words.specs.declared.command.Command.{Command}
use Rattle.command_words.specs.declared.command.Command.TheVariants.{Set, Get, Remove, Show, Replay}
use Rattle.prefs_tool.specs.declared.status.Status.{Status}
use Rattle.prefs_tool.specs.declared.status.Status.TheVariants as status
use Rattle.prefs_tool.specs.declared.tool_error.ToolError.{ToolError}
use Rattle.prefs_tool.specs.declared.tool_error.ToolError.TheVariants.{WriteFault, NoMemory}
use Rattle.prefs_tool.proofs.EndLemmas.{none_gained}
use Rattle.prefs_tool.proofs.FolderLemmas.{untouched}
use Rattle.prefs_tool.proofs.WriteLemmas.{breaks_behind, gains_both}

-- want of memory before anything was done
pub no_memory : (command : Command) (folder : FolderSeen) → ReadsNoScript command → Answers command folder (Err NoMemory) [] folder
no_memory (Set key value) folder other = record { does = (λ told. inl (untouched folder), refl); faults = counts_none folder.tally.count }
no_memory (Get key) folder other = record { does = (λ told. inl refl, λ told. inr (refl, untouched folder)); faults = counts_none folder.tally.count }
no_memory (Remove key) folder other = record { does = (λ told. inl (untouched folder), refl); faults = counts_none folder.tally.count }
no_memory Show folder other = record { does = (λ told. inl refl, λ told. inr (refl, untouched folder)); faults = counts_none folder.tally.count }
no_memory Replay folder other = absurd other

-- a change of the settings, of which nothing is written but the line of an error
module _ (command : Command) (change : EditStep) (folder folder_after : FolderSeen)
    (does : (answer : Result (Unit {0}) ToolError) (text : List ℕ) → ChangesMain change folder answer folder_after × (text ≡ text_after answer) → Does command folder answer text folder_after) where
  pub change_ends : {T : Type 0} (sink : SinkSeen) (result : Result T ToolError) → ChangesMain change folder result folder_after
      → Counts (is_storage result) folder.tally.count folder_after.tally.count → Ends command folder sink result folder_after sink
  change_ends sink (Ok done) changes faults = ([], record { does = does (Ok tt) [] (changes, refl); faults = faults }, none_gained sink)
  change_ends sink (Err NoMemory) changes faults = ([], record { does = does (Err NoMemory) [] (changes, refl); faults = faults }, none_gained sink)
  change_ends sink (Err WriteFault) changes faults = absurd changes
  change_ends sink (Err e) changes faults = (record { does = does (Err e) (line_of e) (changes, refl); faults = faults }, none_gained sink)

module _ {K : Type 0} (k : sink_trait.Ghosts K) where
  abbrev seen : K → SinkSeen
  seen sink = sink_seen k sink

  -- what is told behind a text that the sink has
  told_behind : (e : ToolError) (text more : List ℕ) (old middle new : K) (s : Status) → Gains text (seen old) (seen middle)
      → Reports (Err e) more s (seen middle) (seen new) → Reports (Err e) (text ++ more) s (seen old) (seen new)
  told_behind e text more old middle new s so_far (inl all) = inl (all.0, gains_both k text more old middle new so_far all.1)
  told_behind e text more old middle new s so_far (inr failed) = inr (failed.0, breaks_behind k text more old middle new so_far failed.1)

module _ (answers : Result (Unit {0}) ToolError → List ℕ → Type 0) where
  -- ---- a body that went well

  pub well_done : (old new : SinkSeen) → EndsWith {T = Unit {0}} answers old (Ok tt) new → Tells answers status.Done old new
  well_done old new ends = record { answer = Ok tt; text = ends.0; answered = ends.1; reports = inl (refl, ends.2) }

  -- ---- one that did not, once its line is written

  module _ {K : Type 0} (k : sink_trait.Ghosts K) (old middle new : K) (s : Status) where
    -- the answer and its line, of which nothing was written before
    line_told : (e : ToolError) (text : List ℕ) → answers (Err e) text → Gains [] (sink_seen k old) (sink_seen k middle)
        → Reports (Err e) text s (sink_seen k middle) (sink_seen k new) → Tells answers s (sink_seen k old) (sink_seen k new)
    line_told e text answered so_far reports =
        record { answer = Err e; text = text; answered = answered; reports = told_behind k e [] text old middle new s so_far reports }

    -- what was told before memory was wanting
    memory_told : EndsWith {T = Unit {0}} answers (sink_seen k old) (Err NoMemory) (sink_seen k middle)
        → Reports (Err NoMemory) [] s (sink_seen k middle) (sink_seen k new) → Tells answers s (sink_seen k old) (sink_seen k new)
    memory_told ends reports =
        let both = told_behind k NoMemory ends.0 [] old middle new s ends.2 reports in
        record {
          answer = Err NoMemory;
          text = ends.0;
          answered = ends.1;
          reports = subst (λ (t : List ℕ). Reports (Err NoMemory) t s (sink_seen k old) (sink_seen k new)) (append-nil ends.0) both;
        }

    pub told_after : (e : ToolError) → e ≢ WriteFault → EndsWith {T = Unit {0}} answers (sink_seen k old) (Err e) (sink_seen k middle)
        → Reports (Err e) (line_of e) s (sink_seen k middle) (sink_seen k new) → Tells answers s (sink_seen k old) (sink_seen k new)
    told_after WriteFault other ends reports = absurd (other refl)
    told_after NoMemory other ends reports = memory_told ends reports
    told_after e other ends reports = line_told e (line_of e) ends.0 ends.1 reports

  -- a write of the body failed, and nothing more is written
  pub write_failed : (old new : SinkSeen) → EndsWith {T = Unit {0}} answers old (Err WriteFault) new → Tells answers status.WriteFault old new
  write_failed old new ends = record { answer = Ok tt; text = ends.0; answered = ends.1; reports = inr (refl, ends.2) }

  -- memory was wanting before the command was known
  pub none_done : (sink : SinkSeen) → answers (Err NoMemory) [] → Tells answers status.NoMemory sink sink
  none_done sink answered = record { answer = Err NoMemory; text = []; answered = answered; reports = inl (refl, none_gained sink) }
