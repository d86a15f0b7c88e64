-- Which answers a call may have, by what it asks for; and which of them are errors.
use Rattle.std.specs.Prelude.{Bool, true, false, ◌||◌, Option, Some, None, is_some}
use Rattle.store_traits.specs.declared.read_error.ReadError.{ReadError}
use Rattle.store_traits.specs.declared.read_error.ReadError.TheVariants as read
use Rattle.store_traits.specs.declared.update_error.UpdateError.{UpdateError}
use Rattle.store_traits.specs.declared.update_error.UpdateError.TheVariants as update
use Rattle.prefs_text.specs.declared.seen.AnswerSeen.{AnswerSeen}
use Rattle.prefs_text.specs.declared.seen.AnswerSeen.TheVariants.{Updated, Read, Flow, Unchanged, Refused, Corrupt, FileTooLong, ValueTooLong, HistoryFull, StorageFault, NotDurable, LegacyFault, Died, Posted, Full, Restarted, NotDead, Cut}
use Rattle.script_lang.specs.declared.plan.run_line.Act.{Act}
use Rattle.script_lang.specs.declared.plan.run_line.Act.TheVariants as act

-- the error that a read is answered by
abbrev pub read_error : AnswerSeen → Option ReadError
read_error Corrupt = Some read.Corrupt
read_error (FileTooLong len) = Some (read.FileTooLong len)
read_error (ValueTooLong len) = Some (read.ValueTooLong len)
read_error (HistoryFull entries weight) = Some (read.HistoryFull entries weight)
read_error (StorageFault at) = Some (read.StorageFault at)
read_error (NotDurable at) = Some (read.NotDurable at)
read_error (LegacyFault at) = Some (read.LegacyFault at)
read_error (Died at) = Some (read.Died at)
read_error other = None

-- the error that an update is answered by
abbrev pub update_error : AnswerSeen → Option UpdateError
update_error (Refused code edition) = Some (update.Refused code edition)
update_error Corrupt = Some update.Corrupt
update_error (FileTooLong len) = Some (update.FileTooLong len)
update_error (ValueTooLong len) = Some (update.ValueTooLong len)
update_error (HistoryFull entries weight) = Some (update.HistoryFull entries weight)
update_error (StorageFault at) = Some (update.StorageFault at)
update_error (NotDurable at) = Some (update.NotDurable at)
update_error (LegacyFault at) = Some (update.LegacyFault at)
update_error (Died at) = Some (update.Died at)
update_error other = None

abbrev pub is_cut : AnswerSeen → Bool
is_cut Cut = true
is_cut other = false

abbrev pub answers_update : AnswerSeen → Bool
answers_update (Updated edition) = true
answers_update other = is_some (update_error other) || is_cut other

abbrev pub answers_read : AnswerSeen → Bool
answers_read (Read edition map) = true
answers_read other = is_some (read_error other) || is_cut other

abbrev pub answers_flow : AnswerSeen → Bool
answers_flow (Flow edition map) = true
answers_flow (Unchanged edition) = true
answers_flow other = is_some (read_error other) || is_cut other

abbrev pub answers_post : AnswerSeen → Bool
answers_post Posted = true
answers_post Full = true
answers_post other = is_cut other

abbrev pub answers_restart : AnswerSeen → Bool
answers_restart (Restarted at) = true
answers_restart NotDead = true
answers_restart (Died at) = true
answers_restart other = is_cut other

abbrev pub answers : Act → AnswerSeen → Bool
answers (act.Update edit) = answers_update
answers act.Read = answers_read
answers act.Flow = answers_flow
answers (act.Post edit) = answers_post
answers (act.Restart node) = answers_restart
answers (act.Go steps) = λ answer. false
