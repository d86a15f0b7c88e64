-- Each session's text is passed on behind those before it.
use Rattle.std.proofs.Common.{◌≡◌, ◌∙◌, ◌+◌, ◌≤◌, ℕ, List, length, map, take, string_bytes, ap, subst, arith}
use Rattle.std.specs.List.{enumerate_from, flat_map}
use Rattle.std.proofs.lemmas.List.{take_all, length-map}
use Rattle.std.proofs.lemmas.List.FromFn.{length-enumerate_from}
use Rattle.std.proofs.lemmas.Result.{err_from_is_err_and}
use Rattle.prefs_text.specs.declared.names.Names.{Names}
use Rattle.script_lang.specs.declared.transcripts.session.Session.{Session}
use Rattle.script_lang.specs.Gathering.{PassesOn}
use Rattle.script_lang.specs.TranscriptText.{SessionHasNames, session_text, sessions_text}
use Rattle.script_lang.specs.TranscriptView.{SessionSeen, session_seen}
use Rattle.script_lang.proofs.ListLemmas.{StandsAt, holds_at, item_passed, item_stopped, stands_numbered, stands_seen}
use Rattle.script_lang.proofs.transcripts.writing.sessions.write_sessions.Goals as goal

abbrev text_of : Names → ℕ × SessionSeen → List ℕ
text_of names placed = session_text names placed.0 placed.1

stands : (sessions : List Session) (index : ℕ) (session : Session) → StandsAt sessions index session → StandsAt (enumerate_from 1 (map session_seen sessions)) index (index + 1, session_seen session)
stands sessions index session at = stands_numbered (map session_seen sessions) index (session_seen session) (stands_seen session_seen sessions index session at)

pub write_session-requires : goal.write_session-requires
write_session-requires g c =
    holds_at (SessionHasNames c.args.names.now) session_seen c.args.sessions.now c.loop-index.index c.index-sessions-index.result
    (record { within = c.loop-index-test.true; is = c.index-sessions-index.is }) c.requires

pub returns-in_err-write_session-clause-taken : goal.returns-in_err-write_session-clause-taken
returns-in_err-write_session-clause-taken g c told =
    let held = g.K.Sink.held in
    let sessions = c.args.sessions.now in
    let index = c.loop-index.index in
    let session = c.index-sessions-index.result in
    let p = err_from_is_err_and c.from_residual.result c.from_residual.ensures.1 in
    rw p.1 (item_stopped (text_of c.args.names.now) (enumerate_from 1 (map session_seen sessions)) index (index + 1, session_seen session) (held c.args.sink.now) (string_bytes c.args.gathered.now)
    (held c.loop-index.sink) (string_bytes c.loop-index.gathered) (held c.write_session.new.sink)
    (stands sessions index session (record { within = c.loop-index-test.true; is = c.index-sessions-index.is }))
    (c.loop-index.invariant.passed told) (c.in_err-write_session.ensures.taken told))

pub loop-index-preserved : goal.loop-index-preserved
loop-index-preserved g c =
    let held = g.K.Sink.held in
    let sessions = c.args.sessions.now in
    let index = c.loop-index.index in
    let session = c.index-sessions-index.result in
    record {
      sound = c.in_ok-write_session.ensures.faults.kept ∙ c.loop-index.invariant.sound;
      passed = λ told. item_passed (text_of c.args.names.now) (enumerate_from 1 (map session_seen sessions)) index (index + 1, session_seen session) (held c.args.sink.now) (string_bytes c.args.gathered.now)
          (held c.loop-index.sink) (string_bytes c.loop-index.gathered) (held c.write_session.new.sink) (string_bytes c.write_session.new.gathered)
          (stands sessions index session (record { within = c.loop-index-test.true; is = c.index-sessions-index.is }))
          (c.loop-index.invariant.passed told) (c.in_ok-write_session.ensures.taken told);
    }

pub returns-clause-taken : goal.returns-clause-taken
returns-clause-taken g c told =
    let held = g.K.Sink.held in
    let names = c.args.names.now in
    let seen = map session_seen c.args.sessions.now in
    let past : length (enumerate_from 1 seen) ≤ c.loop-index.index = omega (arith, length-enumerate_from 1 seen, length-map c.args.sessions.now session_seen) in
    let all : flat_map (text_of names) (take c.loop-index.index (enumerate_from 1 seen)) ≡ sessions_text names seen =
    ap (flat_map (text_of names)) (take_all c.loop-index.index (enumerate_from 1 seen) past) in
    subst (λ (t : List ℕ). PassesOn t (held c.args.sink.now) (string_bytes c.args.gathered.now) (held c.loop-index.sink) (string_bytes c.loop-index.gathered)) all
    (c.loop-index.invariant.passed told)
