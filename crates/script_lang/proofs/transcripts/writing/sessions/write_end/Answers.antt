-- The file's line is passed on behind those of the entries.
use Rattle.std.proofs.Common.{◌++◌, List, ℕ, string_bytes, subst}
use Rattle.std.proofs.lemmas.Result.{err_from_is_err_and}
use Rattle.byte_io.specs.Sink.{GainsPrefix}
use Rattle.script_lang.specs.Gathering.{Gathers}
use Rattle.script_lang.specs.TranscriptText.{file_text, line}
use Rattle.script_lang.specs.TranscriptView.{session_seen}
use Rattle.script_lang.proofs.GatheringLemmas.{gathers_behind, stops_inside}
use Rattle.script_lang.proofs.SessionLemmas.{entries_part, end_parts}
use Rattle.script_lang.proofs.transcripts.writing.sessions.write_end.Goals as goal

pub returns-in_err-write_entries-clause-taken : goal.returns-in_err-write_entries-clause-taken
returns-in_err-write_entries-clause-taken g c told =
    let held = g.K.Sink.held c.args.sink.now in
    let gathered = string_bytes c.args.gathered.now in
    let stopped = g.K.Sink.held c.write_entries.new.sink in
    let names = c.args.names.now in
    let session = session_seen c.args.session.now in
    let p = err_from_is_err_and c.from_residual.result c.from_residual.ensures.1 in
    rw p.1 (subst (λ (t : List ℕ). GainsPrefix (gathered ++ t) held stopped) (end_parts names session)
    (stops_inside (entries_part names session) (line (file_text session.file)) held gathered stopped (c.in_err-write_entries.ensures.taken told)))

pub returns-clause-taken : goal.returns-clause-taken
returns-clause-taken g c told =
    let held = g.K.Sink.held c.args.sink.now in
    let gathered = string_bytes c.args.gathered.now in
    let last = g.K.Sink.held c.write_file.new.sink in
    let left = string_bytes c.write_file.new.gathered in
    let names = c.args.names.now in
    let session = session_seen c.args.session.now in
    subst (λ (t : List ℕ). Gathers t held gathered c.write_file.result last left) (end_parts names session)
    (gathers_behind (entries_part names session) (line (file_text session.file)) held gathered (g.K.Sink.held c.write_entries.new.sink) (string_bytes c.write_entries.new.gathered)
    last left c.write_file.result (c.in_ok-write_entries.ensures.taken told) (c.write_file.ensures.taken told))
