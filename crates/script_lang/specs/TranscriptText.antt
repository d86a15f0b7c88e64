-- The one text of a transcript.
use Rattle.std.specs.Prelude.{ℕ, List, [], ◌∷◌, ◌++◌, codes, map, All}
use Rattle.std.specs.List.{enumerate_from, flat_map}
use Rattle.hex.specs.Hex.{encode_lower}
use Rattle.prefs_model.specs.declared.pref_pair.PrefPair.{PrefPair}
use Rattle.hist_journal.specs.declared.seen.BaseSeen.{BaseSeen}
use Rattle.hist_journal.specs.declared.seen.BaseSeen.TheVariants.{Held, Corrupt, TooLong as BaseTooLong}
use Rattle.prefs_text.specs.declared.names.Names.{Names}
use Rattle.prefs_text.specs.AnswerText.{AnswerHasNames, answer_text, numbered}
use Rattle.prefs_text.specs.EntryText.{PrefEntry, EntryHasNames, entry_text}
use Rattle.prefs_text.specs.MapText.{map_text}
use Rattle.script_lang.specs.declared.transcripts.file_seen.FileSeen.{FileSeen}
use Rattle.script_lang.specs.declared.transcripts.file_seen.FileSeen.TheVariants.{Absent, Bytes, TooLong}
use Rattle.script_lang.specs.declared.transcripts.transcript.Transcript.{Transcript}
use Rattle.script_lang.specs.TranscriptView.{SessionSeen}

-- a line ends with a newline
abbrev pub line : List ℕ → List ℕ
line text = text ++ codes "\n"

abbrev pub lines_text : List (List ℕ) → List ℕ
lines_text texts = flat_map line texts

abbrev pub base_text : BaseSeen (List PrefPair) → List ℕ
base_text (Held map) = codes "base " ++ map_text map
base_text Corrupt = codes "base corrupt"
base_text (BaseTooLong len) = numbered (codes "base toolong") len

abbrev pub file_text : FileSeen → List ℕ
file_text Absent = codes "file none"
file_text (Bytes []) = codes "file empty"
file_text (Bytes bytes) = codes "file " ++ encode_lower bytes
file_text (TooLong len) = numbered (codes "file toolong") len

abbrev pub head_lines : ℕ → BaseSeen (List PrefPair) → List (List ℕ)
head_lines number base = numbered (codes "session") number ∷ base_text base ∷ []

-- entries are numbered from 1
abbrev pub entry_lines : Names → List PrefEntry → List (List ℕ)
entry_lines names entries = map (λ placed. entry_text names placed.0 placed.1) (enumerate_from 1 entries)

-- the entries, and behind them the file
abbrev pub end_lines : Names → SessionSeen → List (List ℕ)
end_lines names session = entry_lines names session.entries ++ file_text session.file ∷ []

-- the answers stand between the base and the entries
unfoldable pub session_lines : Names → ℕ → SessionSeen → List (List ℕ)
session_lines names number session = head_lines number session.base ++ map (answer_text names) session.answers ++ end_lines names session

abbrev pub session_text : Names → ℕ → SessionSeen → List ℕ
session_text names number session = lines_text (session_lines names number session)

-- sessions are numbered from 1
abbrev pub sessions_text : Names → List SessionSeen → List ℕ
sessions_text names sessions = flat_map (λ placed. session_text names placed.0 placed.1) (enumerate_from 1 sessions)

abbrev pub text : Transcript → List ℕ
text transcript = sessions_text transcript.names transcript.sessions

-- whoever the text of the session names has a name
pub record SessionHasNames (names : Names) (session : SessionSeen) : Type 0 where
  pub answers : All (AnswerHasNames names) session.answers
  pub entries : All (EntryHasNames names) session.entries

abbrev pub HasNames : Transcript → Type 0
HasNames transcript = All (SessionHasNames transcript.names) transcript.sessions
