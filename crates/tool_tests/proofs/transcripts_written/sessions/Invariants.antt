-- Whoever the sessions so far name has a name.
use Rattle.std.specs.Prelude.{All, map}
use Rattle.script_lang.specs.TranscriptText.{SessionHasNames}
use Rattle.script_lang.specs.TranscriptView.{session_seen}
use Rattle.tool_tests.proofs.transcripts_written.sessions.Given as goal

abbrev pub invariant-loop-which : goal.invariant-loop-which
invariant-loop-which l = All (SessionHasNames l.names) (map session_seen l.sessions.items)
