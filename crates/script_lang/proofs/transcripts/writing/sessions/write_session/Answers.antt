-- The parts of the session are passed on one behind the other.
use Rattle.std.proofs.Common.{◌++◌, List, ℕ, [], Err, map, string_bytes, subst}
use Rattle.std.proofs.lemmas.Result.{err_from_is_err_and}
use Rattle.prefs_text.specs.declared.seen.AnswerLineSeen.{AnswerLineSeen}
use Rattle.prefs_text.specs.AnswerText.{answer_text}
use Rattle.byte_io.specs.Sink.{GainsPrefix}
use Rattle.script_lang.specs.Gathering.{Gathers, PassesOn}
use Rattle.script_lang.specs.TranscriptText.{lines_text}
use Rattle.script_lang.specs.TranscriptView.{session_seen}
use Rattle.script_lang.proofs.GatheringLemmas.{gathers_behind, passes_both, passes_pushed, stops_inside}
use Rattle.script_lang.proofs.SessionLemmas.{head_part, answers_part, end_part, session_parts}
use Rattle.script_lang.proofs.transcripts.writing.sessions.write_session.Goals as goal

pub returns-in_err-write_answers-clause-taken : goal.returns-in_err-write_answers-clause-taken
returns-in_err-write_answers-clause-taken g c told =
    let held = g.K.Sink.held c.args.sink.now in
    let gathered = string_bytes c.args.gathered.now in
    let pushed = string_bytes c.push_head.new.out in
    let stopped = g.K.Sink.held c.write_answers.new.sink in
    let names = c.args.names.now in
    let session = session_seen c.args.session.now in
    let head = head_part c.args.number session in
    let answers = answers_part names session in
    let stop = subst (λ (seen : List AnswerLineSeen). GainsPrefix (pushed ++ lines_text (map (answer_text names) seen)) held stopped) c.lines.ensures (c.in_err-write_answers.ensures.taken told) in
    let both : GainsPrefix (gathered ++ (head ++ answers)) held stopped =
    gathers_behind {T = ℕ} {E = ℕ} head answers held gathered held pushed stopped [] (Err 0) (passes_pushed head held gathered pushed c.in_ok-push_head.ensures) stop in
    let p = err_from_is_err_and c.from_residual-in_err-write_answers.result c.from_residual-in_err-write_answers.ensures.1 in
    rw p.1 (subst (λ (t : List ℕ). GainsPrefix (gathered ++ t) held stopped) (session_parts names c.args.number session) (stops_inside (head ++ answers) (end_part names session) held gathered stopped both))

pub returns-clause-taken : goal.returns-clause-taken
returns-clause-taken g c told =
    let held = g.K.Sink.held c.args.sink.now in
    let gathered = string_bytes c.args.gathered.now in
    let pushed = string_bytes c.push_head.new.out in
    let answered = g.K.Sink.held c.write_answers.new.sink in
    let behind = string_bytes c.write_answers.new.gathered in
    let last = g.K.Sink.held c.write_end.new.sink in
    let left = string_bytes c.write_end.new.gathered in
    let names = c.args.names.now in
    let session = session_seen c.args.session.now in
    let head = head_part c.args.number session in
    let answers = answers_part names session in
    let next = subst (λ (seen : List AnswerLineSeen). PassesOn (lines_text (map (answer_text names) seen)) held pushed answered behind) c.lines.ensures (c.in_ok-write_answers.ensures.taken told) in
    let both = passes_both head answers held gathered held pushed answered behind (passes_pushed head held gathered pushed c.in_ok-push_head.ensures) next in
    subst (λ (t : List ℕ). Gathers t held gathered c.write_end.result last left) (session_parts names c.args.number session)
    (gathers_behind (head ++ answers) (end_part names session) held gathered answered behind last left c.write_end.result both (c.write_end.ensures.taken told))
