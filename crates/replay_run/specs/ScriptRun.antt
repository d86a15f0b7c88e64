-- The transcript that a run of a script gives.
use Rattle.std.specs.Prelude.{◌≡◌, List, ◌++◌, map, flat_map, length, drop, None}
use Rattle.std.specs.List.{enumerate_from}
use Rattle.prefs_text.specs.declared.seen.AnswerLineSeen.{AnswerLineSeen}
use Rattle.prefs_text.specs.declared.seen.AnswerSeen.TheVariants.{Cut}
use Rattle.shelf.specs.Base.{HasItsBase}
use Rattle.shelf.specs.Each.{Each}
use Rattle.script_lang.specs.declared.plan.script.Script.{Script}
use Rattle.script_lang.specs.declared.transcripts.transcript.Transcript.{Transcript}
use Rattle.script_lang.specs.Chronicle.{Basis, Chapter, tally_of}
use Rattle.script_lang.specs.Good.{Scripted, chapters_of, file_seen}
use Rattle.script_lang.specs.TranscriptView.{SessionSeen}
use Rattle.replay_run.specs.Lines.{FollowsAll}
use Rattle.replay_run.specs.Rounds.{EndsBy}
use Rattle.replay_run.specs.RunState.{Client, RunState, call_at}
use Rattle.replay_run.specs.Start.{start_of}

-- its answers, and behind them the calls that a stop cuts off
abbrev pub lines_of : Client → List AnswerLineSeen
lines_of client =
    client.answered
    ++ map (λ placed. record { call = call_at client placed.0; poster = None; answer = Cut }) (enumerate_from (length client.answered) (drop (length client.answered) client.asked))

module _ (b : Basis) where
  -- the answers of each client in the order of its calls, the history, and main
  pub record Tells (told : SessionSeen) (end : RunState) : Type 0 where
    pub answers : told.answers ≡ flat_map lines_of end.clients
    pub entries : told.entries ≡ end.shared.world.history
    pub file : told.file ≡ file_seen b.file_limit end.shared.world.folder.main

  -- behind these chapters the clients follow the lines in a session of the store, whose base is what main reads as, and the transcript tells of the end
  pub record IsPlayed (script : Script) (before : List Chapter) (c : Chapter) : Type 0 where
    pub base : HasItsBase b.rules.reads b.rules.absent c.store
    pub between : RunState
    pub follows : FollowsAll b.rules c.store c.plan.lines (start_of (flat_map (λ c. c.asked) before) (tally_of c.store.folder.count c.plan) c.store script.homes) between
    pub end : RunState
    pub ends : EndsBy b.rules c.store c.plan.stop between end
    pub tells : Tells c.told end

  -- a run of the script gives the transcript, session by session
  pub record Runs (script : Script) (transcript : Transcript) : Type 0 where
    pub names : transcript.names ≡ script.names
    pub sessions : length transcript.sessions ≡ length script.sessions
    pub played : Each (IsPlayed script) (chapters_of b Scripted script transcript)
