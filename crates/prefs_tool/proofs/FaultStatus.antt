-- A device's fault has a status of its own.
use Rattle.std.proofs.Common.{◌≡◌, ◌≢◌, ◌∙◌, inl, inr, ℕ, Bool, true, false, Result, Ok, Err, List, refl, sym, subst}
use Rattle.std.specs.Bool.{OnFalse, OnTrue}
use Rattle.store_traits.specs.Faults.{Counts, Rose}
use Rattle.byte_io.specs.Seen.{SinkSeen, SourceSeen}
use Rattle.folder_disk.specs.Seen.{FolderSeen}
use Rattle.command_words.specs.declared.command.Command.{Command}
use Rattle.command_words.specs.declared.command.Command.TheVariants.{Set, Get, Remove, Show, Replay}
use Rattle.prefs_tool.specs.Complete.{IsToldBy}
use Rattle.prefs_tool.specs.Folder.{is_storage}
use Rattle.prefs_tool.specs.Outcome.{Does, Outcome, RefusesWords, Reports}
use Rattle.prefs_tool.specs.Replaying.{DoesScript, Replayed, is_read_fault}
use Rattle.prefs_tool.specs.Status.{line_of, status_after}
use Rattle.prefs_tool.specs.declared.status.Status.{Status}
use Rattle.prefs_tool.specs.declared.status.Status.TheVariants as ended
use Rattle.prefs_tool.specs.declared.tool_error.ToolError.{ToolError}
use Rattle.prefs_tool.specs.declared.tool_error.ToolError.TheVariants.{Words, Storage, ReadFault, WriteFault}

abbrev Answer : Type 0
Answer = Result (Unit {0}) ToolError

-- ---- which answer has which status

write_fault_of : (answer : Answer) → status_after answer ≡ ended.WriteFault → answer ≡ Err WriteFault
write_fault_of (Err WriteFault) same = refl
write_fault_of (Err e) same = absurd cc
write_fault_of (Ok done) same = absurd cc

storage_of : (answer : Answer) → status_after answer ≡ ended.Storage → is_storage answer ≡ true
storage_of (Err Storage) same = refl
storage_of (Err e) same = absurd cc
storage_of (Ok done) same = absurd cc

no_storage_of : (answer : Answer) → status_after answer ≢ ended.Storage → is_storage answer ≡ false
no_storage_of (Err Storage) other = absurd (other refl)
no_storage_of (Err e) other = refl
no_storage_of (Ok done) other = refl

read_fault_of : (answer : Answer) → status_after answer ≡ ended.ReadFault → is_read_fault answer ≡ true
read_fault_of (Err ReadFault) same = refl
read_fault_of (Err e) same = absurd cc
read_fault_of (Ok done) same = absurd cc

no_read_fault_of : (answer : Answer) → status_after answer ≢ ended.ReadFault → is_read_fault answer ≡ false
no_read_fault_of (Err ReadFault) other = absurd (other refl)
no_read_fault_of (Err e) other = refl
no_read_fault_of (Ok done) other = refl

-- ---- what is reported of an answer

sink_told_by : (answer : Answer) (text : List ℕ) (status : Status) (sink sink_after : SinkSeen) → answer ≢ Err WriteFault → Reports answer text status sink sink_after
    → IsToldBy ended.WriteFault status sink.count sink_after.count
sink_told_by answer text status sink sink_after other (inl all) =
    record { rose = λ is. absurd (other (write_fault_of answer (sym all.0 ∙ is))); kept = λ _ _. all.1.sound }
sink_told_by answer text status sink sink_after other (inr failed) = record { rose = λ _. failed.1.rose; kept = λ differs _. absurd (differs failed.0) }

device_told_by : (own : Status) (answer : Answer) (text : List ℕ) (status : Status) (sink sink_after : SinkSeen) (has_failed : Bool) (before now : ℕ)
    → own ≢ ended.WriteFault → (status_after answer ≡ own → has_failed ≡ true) → (status_after answer ≢ own → has_failed ≡ false) → Counts has_failed before now
    → Reports answer text status sink sink_after → IsToldBy own status before now
device_told_by own answer text status sink sink_after has_failed before now differs failed sound counts (inl all) = record {
  rose = λ is. subst (λ b. OnTrue b (Rose before now)) (failed (sym all.0 ∙ is)) counts.cause;
  kept = λ other _. subst (λ b. OnFalse b (now ≡ before)) (sound (λ is. other (all.0 ∙ is))) counts.kept;
}
device_told_by own answer text status sink sink_after has_failed before now differs failed sound counts (inr broken) =
    record { rose = λ is. absurd (differs (sym is ∙ broken.0)); kept = λ _ other. absurd (other broken.0) }

-- ---- no answer is a fault of the sink

does_not_break : (command : Command) (old new : FolderSeen) (text : List ℕ) (answer : Answer) → Does command old answer text new → answer ≢ Err WriteFault
does_not_break (Set key value) old new text (Err WriteFault) does same = does.0
does_not_break (Get key) old new text (Err WriteFault) does same = does.0.1
does_not_break (Remove key) old new text (Err WriteFault) does same = does.0
does_not_break Show old new text (Err WriteFault) does same = does.0.1
does_not_break Replay old new text answer does same = does
does_not_break command old new text answer does same = cc

script_does_not_break : (old new : SourceSeen) (text : List ℕ) (answer : Answer) → DoesScript old answer text new → answer ≢ Err WriteFault
script_does_not_break old new text (Err WriteFault) does same = does.1
script_does_not_break old new text answer does same = cc

-- ---- every command, and words that are none

pub sink_of_command : (command : Command) (status : Status) (folder folder_after : FolderSeen) (sink sink_after : SinkSeen)
    → Outcome command folder sink status folder_after sink_after → IsToldBy ended.WriteFault status sink.count sink_after.count
sink_of_command command status folder folder_after sink sink_after outcome =
    sink_told_by outcome.answer outcome.text status sink sink_after
    (does_not_break command folder folder_after outcome.text outcome.answer outcome.answered.does) outcome.reports

pub folder_of_command : (command : Command) (status : Status) (folder folder_after : FolderSeen) (sink sink_after : SinkSeen)
    → Outcome command folder sink status folder_after sink_after → IsToldBy ended.Storage status folder.tally.count folder_after.tally.count
folder_of_command command status folder folder_after sink sink_after outcome =
    device_told_by ended.Storage outcome.answer outcome.text status sink sink_after (is_storage outcome.answer) folder.tally.count folder_after.tally.count
    (λ same. cc) (storage_of outcome.answer) (no_storage_of outcome.answer) outcome.answered.faults outcome.reports

abbrev refusal : Answer
refusal = Err Words

refusal_is_no_fault : refusal ≢ Err WriteFault
refusal_is_no_fault same = cc

pub sink_of_words : (status : Status) (sink sink_after : SinkSeen) → RefusesWords status sink sink_after → IsToldBy ended.WriteFault status sink.count sink_after.count
sink_of_words status sink sink_after (inl reports) = sink_told_by refusal (line_of Words) status sink sink_after refusal_is_no_fault reports
sink_of_words status sink sink_after (inr memory) = record { rose = λ is. absurd (wanting (sym memory.0 ∙ is)); kept = λ _ _. rw memory.1 refl }
  where
    wanting : ended.NoMemory ≢ ended.WriteFault
    wanting same = cc

pub sink_of_replay : (status : Status) (source source_after : SourceSeen) (sink sink_after : SinkSeen)
    → Replayed source sink status source_after sink_after → IsToldBy ended.WriteFault status sink.count sink_after.count
sink_of_replay status source source_after sink sink_after replayed =
    sink_told_by replayed.answer replayed.text status sink sink_after
    (script_does_not_break source source_after replayed.text replayed.answer replayed.answered.does) replayed.reports

pub source_of_replay : (status : Status) (source source_after : SourceSeen) (sink sink_after : SinkSeen)
    → Replayed source sink status source_after sink_after → IsToldBy ended.ReadFault status source.count source_after.count
source_of_replay status source source_after sink sink_after replayed =
    device_told_by ended.ReadFault replayed.answer replayed.text status sink sink_after (is_read_fault replayed.answer) source.count source_after.count
    (λ same. cc) (read_fault_of replayed.answer) (no_read_fault_of replayed.answer) replayed.answered.faults replayed.reports
