use Rattle.std.proofs.Common.{rules, ◌≡◌, ◌∙◌, [], ◌∷◌, ◌++◌, map, ap}
use Rattle.script_lang.specs.declared.transcripts.transcript.Transcript.{Transcript}
use Rattle.script_lang.specs.TranscriptView.{session_seen}
use Rattle.replay_run.proofs.session.NamesTold.{names_well}
use Rattle.replay_run.proofs.session.SessionRun.{replays_well}
use Rattle.replay_run.proofs.replaying.replay.Goals as goal

one_plan : (c : goal.After-new) → c.args.script.now.sessions ≡ c.index-as_slice-0.result ∷ []
one_plan c = search rules

one_told : (c : goal.After-new) → c.new.result ≡ session_seen c.in_ok-play.field-0 ∷ []
one_told c = c.new.ensures ∙ ap (λ list. map session_seen list) (c.in_ok-push.ensures.items ∙ ap (λ list. list ++ c.in_ok-play.field-0 ∷ []) c.in_ok-sessions.ensures.items)

abbrev transcript : goal.After-new → Transcript
transcript c = record { names = c.in_ok-copy_of_names.field-0; sessions = c.new.result }

pub returns-clause-replays : goal.returns-clause-replays
returns-clause-replays c = replays_well c.args.script.now c.requires c.index-as_slice-0.result (one_plan c) (session_seen c.in_ok-play.field-0) (transcript c) c.in_ok-copy_of_names.ensures (one_told c) c.in_ok-play.ensures

pub returns-clause-names : goal.returns-clause-names
returns-clause-names c = names_well c.args.script.now c.requires c.index-as_slice-0.result (one_plan c) (session_seen c.in_ok-play.field-0) c.in_ok-play.ensures (transcript c) c.in_ok-copy_of_names.ensures (one_told c)
