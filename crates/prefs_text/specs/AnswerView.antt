-- From answers to what contracts see of them.
use Rattle.prefs_text.specs.declared.answer.Answer.{Answer}
use Rattle.prefs_text.specs.declared.answer.Answer.TheVariants as own
use Rattle.prefs_text.specs.declared.answer_line.AnswerLine.{AnswerLine}
use Rattle.prefs_text.specs.declared.seen.AnswerSeen.{AnswerSeen}
use Rattle.prefs_text.specs.declared.seen.AnswerSeen.TheVariants.{Updated, Read, Flow, Unchanged, Refused, Corrupt, FileTooLong, ValueTooLong, HistoryFull, StorageFault, NotDurable, LegacyFault, Died, Posted, Full, Restarted, NotDead, Cut}
use Rattle.prefs_text.specs.declared.seen.AnswerLineSeen.{AnswerLineSeen}

abbrev pub answer_seen : Answer → AnswerSeen
answer_seen (own.Updated edition) = Updated edition
answer_seen (own.Read given) = Read given.edition given.value.value
answer_seen (own.Flow given) = Flow given.edition given.value.value
answer_seen (own.Unchanged edition) = Unchanged edition
answer_seen (own.Refused code edition) = Refused code edition
answer_seen own.Corrupt = Corrupt
answer_seen (own.FileTooLong len) = FileTooLong len
answer_seen (own.ValueTooLong len) = ValueTooLong len
answer_seen (own.HistoryFull entries weight) = HistoryFull entries weight
answer_seen (own.StorageFault at) = StorageFault at
answer_seen (own.NotDurable at) = NotDurable at
answer_seen (own.LegacyFault at) = LegacyFault at
answer_seen (own.Died at) = Died at
answer_seen own.Posted = Posted
answer_seen own.Full = Full
answer_seen (own.Restarted at) = Restarted at
answer_seen own.NotDead = NotDead
answer_seen own.Cut = Cut

abbrev pub line_seen : AnswerLine → AnswerLineSeen
line_seen line = record { call = line.call; poster = line.poster; answer = answer_seen line.answer }
