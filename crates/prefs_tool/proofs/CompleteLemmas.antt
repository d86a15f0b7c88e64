-- A command against which nothing stands is done, or memory was wanting.
use Rattle.std.proofs.Common.{◌≡◌, inl, inr, Bool, IsTrue, Result, Ok, Err, Option, Some, None, List, ℕ, refl, sym, subst, arith}
use Rattle.byte_io.specs.Seen.{SinkSeen}
use Rattle.folder_disk.specs.Seen.{FolderSeen}
use Rattle.prefs_model.specs.declared.pref_pair.PrefPair.{PrefPair}
use Rattle.prefs_edit.specs.declared.edit_step.EditStep.{EditStep}
use Rattle.command_words.specs.declared.command.Command.{Command}
use Rattle.command_words.specs.declared.command.Command.TheVariants.{Set, Get, Remove, Show, Replay}
use Rattle.prefs_tool.specs.Reading.{ReadsAs, IsCorrupt, IsTooLong, StopsReading}
use Rattle.prefs_tool.specs.Changing.{ChangesMain}
use Rattle.prefs_tool.specs.Complete.{Fits, FitsMain, IsDone, NothingAgainst}
use Rattle.prefs_tool.specs.Outcome.{Answers, Does, Looks, Outcome, Reports}
use Rattle.prefs_tool.specs.Status.{status_after}
use Rattle.prefs_tool.specs.declared.status.Status.{Status}
use Rattle.prefs_tool.specs.declared.tool_error.ToolError.{ToolError}
use Rattle.prefs_tool.specs.declared.tool_error.ToolError.TheVariants.{Storage, Corrupt, TooLong, EditTooLong, ValueTooLong, NoMemory, NoKey}

-- a main that reads as a map is neither corrupt nor too long
not_corrupt : (main : Option (List ℕ)) (pairs : List PrefPair) → ReadsAs main pairs → IsCorrupt main → ⊥
not_corrupt None pairs reads corrupt = corrupt
not_corrupt (Some bytes) pairs reads corrupt = corrupt.1 pairs reads.1

not_too_long : (main : Option (List ℕ)) (len : ℕ) (pairs : List PrefPair) → ReadsAs main pairs → IsTooLong main len → ⊥
not_too_long None len pairs reads long = long
not_too_long (Some bytes) len pairs reads long = let same = long.0 in omega (arith, reads.0, long.1, same)

module _ (told : Bool) (main : Option (List ℕ)) (is_told : IsTrue told) (pairs : List PrefPair) (reads : ReadsAs main pairs) where
  -- a main that is read has no such cause, but for the folder's
  not_stopped : (e : ToolError) → (e ≡ Storage → ⊥) → (e ≡ NoMemory → ⊥) → StopsReading told main e → ⊥
  not_stopped Storage sound other stops = sound refl
  not_stopped Corrupt sound other stops = not_corrupt main pairs reads (stops is_told)
  not_stopped (TooLong len) sound other stops = not_too_long main len pairs reads (stops is_told)
  not_stopped NoMemory sound other stops = other refl
  not_stopped e sound other stops = stops

  get_done : (key text : List ℕ) (answer : Result (Unit {0}) ToolError) → (answer ≡ Err Storage → ⊥) → Looks told (Get key) main answer text → IsDone (Get key) (status_after answer)
  get_done key text (Ok done) sound looks = tt
  get_done key text (Err NoMemory) sound looks = tt
  get_done key text (Err NoKey) sound looks = tt
  get_done key text (Err e) sound looks = absurd (not_stopped e (λ is. sound (rw is refl)) (λ is. cc) looks.1)

  show_done : (text : List ℕ) (answer : Result (Unit {0}) ToolError) → (answer ≡ Err Storage → ⊥) → Looks told Show main answer text → IsDone Show (status_after answer)
  show_done text (Ok done) sound looks = tt
  show_done text (Err NoMemory) sound looks = tt
  show_done text (Err e) sound looks = absurd (not_stopped e (λ is. sound (rw is refl)) (λ is. cc) looks.1)

-- `set` and `remove`
change_done : (command : Command) (step : EditStep) (old new : FolderSeen) (pairs : List PrefPair) (answer : Result (Unit {0}) ToolError) → IsTrue old.told
    → ReadsAs old.contents.main pairs → Fits step old.contents.main → (answer ≡ Err Storage → ⊥) → ChangesMain step old answer new → IsDone command (status_after answer)
change_done command step old new pairs (Ok done) told reads fits sound changes = tt
change_done command step old new pairs (Err Storage) told reads fits sound changes = absurd (sound refl)
change_done command step old new pairs (Err Corrupt) told reads fits sound changes = absurd (not_corrupt old.contents.main pairs reads (changes.1 told).0)
change_done command step old new pairs (Err (TooLong len)) told reads fits sound changes = absurd (not_too_long old.contents.main len pairs reads (changes.1 told).0)
change_done command step old new pairs (Err EditTooLong) told reads fits sound changes = let light = fits.light in absurd (omega (arith, light, changes.0))
change_done command step old new pairs (Err (ValueTooLong len)) told reads fits sound changes =
    let made = changes.1 told in
    let short = fits.short made.0 made.1 made.2 in
    absurd (omega (arith, short, made.3.length_is, made.3.past))
change_done command step old new pairs (Err NoMemory) told reads fits sound changes = tt
change_done command step old new pairs (Err e) told reads fits sound changes = absurd changes

does_done : (command : Command) (old new : FolderSeen) (pairs : List PrefPair) (text : List ℕ) (answer : Result (Unit {0}) ToolError) → IsTrue old.told
    → ReadsAs old.contents.main pairs → FitsMain command old.contents.main → (answer ≡ Err Storage → ⊥) → Does command old answer text new → IsDone command (status_after answer)
does_done (Set key value) old new pairs text answer told reads fits sound does = change_done (Set key value) _ old new pairs answer told reads fits sound does.0
does_done (Get key) old new pairs text answer told reads fits sound does = get_done old.told old.contents.main told pairs reads key text answer sound does.0
does_done (Remove key) old new pairs text answer told reads fits sound does = change_done (Remove key) _ old new pairs answer told reads fits sound does.0
does_done Show old new pairs text answer told reads fits sound does = show_done old.told old.contents.main told pairs reads text answer sound does.0
does_done Replay old new pairs text answer told reads fits sound does = absurd does

answer_done : (command : Command) (old new : FolderSeen) (sink sink_after : SinkSeen) (text : List ℕ) (answer : Result (Unit {0}) ToolError)
    → NothingAgainst command old new sink sink_after → Answers command old answer text new → IsDone command (status_after answer)
answer_done command old new sink sink_after text (Err Storage) none answers = absurd (none.folder_sound answers.faults.cause)
answer_done command old new sink sink_after text answer none answers =
    does_done command old new none.pairs text answer none.told none.reads none.fits (λ is. cc) answers.does

report_done : (command : Command) (answer : Result (Unit {0}) ToolError) (text : List ℕ) (status : Status) (folder folder_after : FolderSeen) (sink sink_after : SinkSeen)
    → NothingAgainst command folder folder_after sink sink_after → Reports answer text status sink sink_after → IsDone command (status_after answer) → IsDone command status
report_done command answer text status folder folder_after sink sink_after none (inl all) done = subst (IsDone command) (sym all.0) done
report_done command answer text status folder folder_after sink sink_after none (inr failed) done = absurd (none.sink_sound failed.1.rose)

pub is_done : (command : Command) (status : Status) (folder folder_after : FolderSeen) (sink sink_after : SinkSeen) → Outcome command folder sink status folder_after sink_after
    → NothingAgainst command folder folder_after sink sink_after → IsDone command status
is_done command status folder folder_after sink sink_after outcome none =
    report_done command outcome.answer outcome.text status folder folder_after sink sink_after none outcome.reports
    (answer_done command folder folder_after sink sink_after outcome.text outcome.answer none outcome.answered)
