-- How the reply to a call is told in a transcript, and what it leaves of the client.
use Rattle.std.specs.Prelude.{[], ◌∷◌, ◌++◌, Option, Some, None, option_map}
use Rattle.store_traits.specs.declared.ids.CallId.{CallId}
use Rattle.store_traits.specs.declared.update_error.UpdateError.{UpdateError}
use Rattle.store_traits.specs.declared.update_error.UpdateError.TheVariants as error
use Rattle.prefs_text.specs.declared.seen.AnswerSeen.{AnswerSeen}
use Rattle.prefs_text.specs.declared.seen.AnswerSeen.TheVariants as seen
use Rattle.step_table.specs.Calls.{Failed, Gave, NotDead, Reply, Restarted, Updated}
use Rattle.step_table.specs.declared.progress.Progress.{Progress}
use Rattle.step_table.specs.declared.progress.Progress.TheVariants.{Ended}
use Rattle.script_lang.specs.declared.plan.run_line.Act.TheVariants as act
use Rattle.replay_run.specs.RunState.{Client, new_call}
use Rattle.replay_run.specs.Settings.{PrefCached, PrefCall, Value}

-- want of memory is told by no line: it ends a run without a transcript
abbrev pub error_told : UpdateError → Option AnswerSeen
error_told (error.Refused code edition) = Some (seen.Refused code edition)
error_told error.Corrupt = Some seen.Corrupt
error_told (error.FileTooLong len) = Some (seen.FileTooLong len)
error_told (error.ValueTooLong len) = Some (seen.ValueTooLong len)
error_told (error.HistoryFull entries weight) = Some (seen.HistoryFull entries weight)
error_told (error.StorageFault place) = Some (seen.StorageFault place)
error_told (error.NotDurable place) = Some (seen.NotDurable place)
error_told (error.LegacyFault place) = Some (seen.LegacyFault place)
error_told (error.Died place) = Some (seen.Died place)
error_told error.NoMemory = None

abbrev pub reply_told : Reply Value → Option AnswerSeen
reply_told (Updated edition) = Some (seen.Updated edition)
reply_told (Gave edition value) = Some (seen.Read edition value)
reply_told (Failed error) = error_told error
reply_told (Restarted place) = Some (seen.Restarted place)
reply_told NotDead = Some seen.NotDead

-- a line of the answer joins the others
abbrev pub client_answered : Client → CallId → AnswerSeen → Client
client_answered client call answer = record client { running = None; answered = client.answered ++ record { call = call; poster = None; answer = answer } ∷ [] }

-- the client behind a turn of its call: the call is answered, or goes on
abbrev pub behind_turn : Client → PrefCall → Progress (Reply Value) → Option Client
behind_turn client call (Ended reply) = option_map (client_answered client call.id) (reply_told reply)
behind_turn client call gave = Some (record client { running = Some call })

-- the client behind the look of its read: what was found answers it, or it goes on to its first turn
abbrev pub behind_look : Client → Option PrefCached → Client
behind_look client (Some kept) = client_answered client (new_call client act.Read).id (seen.Read kept.edition kept.value)
behind_look client None = record client { running = Some (new_call client act.Read) }
