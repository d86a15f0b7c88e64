-- What a replay of a script gives.
use Rattle.script_lang.specs.declared.plan.script.Script.{Script}
use Rattle.script_lang.specs.declared.transcripts.transcript.Transcript.{Transcript}
use Rattle.script_lang.specs.Chronicle.{Basis}
use Rattle.script_lang.specs.Good.{Good}
use Rattle.replay_run.specs.ScriptRun.{Runs}

-- the transcript of a run of the script, which tells the truth of it
pub record Replays (b : Basis) (script : Script) (transcript : Transcript) : Type 0 where
  pub run : Runs b script transcript
  pub good : Good b script transcript
