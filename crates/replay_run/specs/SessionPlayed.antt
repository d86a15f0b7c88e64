-- What comes of a script's session.
use Rattle.script_lang.specs.declared.plan.script.Script.{Script}
use Rattle.script_lang.specs.declared.plan.session_plan.SessionPlan.{SessionPlan}
use Rattle.script_lang.specs.Chronicle.{Basis, Chapter, chapter_of, first_beginning}
use Rattle.script_lang.specs.TranscriptView.{SessionSeen}
use Rattle.replay_run.specs.EndInvariant.{EndInvariant}
use Rattle.replay_run.specs.ScriptRun.{IsPlayed}
use Rattle.std.specs.Prelude.{[]}

-- the script's first session, by this plan, with what is told of it
abbrev pub first_chapter : Basis → Script → SessionPlan → SessionSeen → Chapter
first_chapter b script plan told = chapter_of b script (first_beginning script) [] plan told

-- what is told is the end of a run of the plan, in which is kept what is to be
pub record IsPlayedWell (b : Basis) (script : Script) (plan : SessionPlan) (told : SessionSeen) : Type 0 where
  pub played : IsPlayed b script [] (first_chapter b script plan told)
  pub ends : EndInvariant b.rules (first_chapter b script plan told).store played.end
