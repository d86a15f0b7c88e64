-- All texts are passed on, and what is left gathered is written last.
use Rattle.std.proofs.Common.{List, string_bytes, subst}
use Rattle.script_lang.specs.Gathering.{PassesOn}
use Rattle.script_lang.specs.TranscriptText.{sessions_text, text}
use Rattle.script_lang.specs.TranscriptView.{SessionSeen}
use Rattle.script_lang.proofs.GatheringLemmas.{all_written}
use Rattle.script_lang.proofs.transcripts.writing.write_transcript.Goals as goal

pub returns-clause-taken : goal.returns-clause-taken
returns-clause-taken g c told =
    let held = g.K.Sink.held in
    let gathered = string_bytes c.new-gathered.result in
    let behind = string_bytes c.write_sessions.new.gathered in
    let so_far = subst (λ (seen : List SessionSeen). PassesOn (sessions_text c.args.transcript.now.names seen) (held c.args.sink.now) gathered (held c.write_sessions.new.sink) behind)
    c.sessions-sessions.ensures (c.in_ok-write_sessions.ensures.taken told) in
    all_written (text c.args.transcript.now) (held c.args.sink.now) gathered (held c.write_sessions.new.sink) behind (held c.write_gathered.new.sink) (string_bytes c.write_gathered.new.gathered)
    c.write_gathered.result c.new-gathered.ensures.bytes so_far (c.write_gathered.ensures.taken told) c.write_gathered.ensures.empty
