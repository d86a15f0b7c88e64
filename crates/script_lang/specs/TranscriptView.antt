-- What contracts see of a session.
use Rattle.std.specs.Prelude.{List}
use Rattle.prefs_model.specs.declared.pref_pair.PrefPair.{PrefPair}
use Rattle.hist_journal.specs.declared.seen.BaseSeen.{BaseSeen}
use Rattle.hist_journal.specs.View.{base_seen}
use Rattle.prefs_text.specs.declared.seen.AnswerLineSeen.{AnswerLineSeen}
use Rattle.prefs_text.specs.EntryText.{PrefEntry}
use Rattle.script_lang.specs.declared.transcripts.file_seen.FileSeen.{FileSeen}
use Rattle.script_lang.specs.declared.transcripts.session.Session.{Session}

-- of its journal the entries alone
pub record SessionSeen : Type 0 where
  pub base : BaseSeen (List PrefPair)
  pub answers : List AnswerLineSeen
  pub entries : List PrefEntry
  pub file : FileSeen

abbrev pub session_seen : Session → SessionSeen
session_seen session = record { base = base_seen session.base; answers = session.answers; entries = session.journal.list; file = session.file }
