-- A run of a script of settings gives a transcript that tells the truth.
use Rattle.std.proofs.Common.{List, All, [], subst}
use Rattle.std.proofs.lemmas.List.Elements.{All-head}
use Rattle.script_lang.specs.declared.plan.run_line.RunLine.{RunLine}
use Rattle.script_lang.specs.declared.plan.script.Script.{Script}
use Rattle.script_lang.specs.declared.plan.session_plan.SessionPlan.{SessionPlan}
use Rattle.script_lang.specs.declared.transcripts.transcript.Transcript.{Transcript}
use Rattle.script_lang.specs.Good.{Good}
use Rattle.script_lang.specs.Keeps.{Keeps, KeepsPlan}
use Rattle.replay_run.specs.PrefsBasis.{prefs_basis}
use Rattle.replay_run.specs.ScriptRun.{Runs}
use Rattle.replay_run.specs.Typed.{IsTyped, IsTypedAct}
use Rattle.replay_run.proofs.kept.PlayedKept.{first_ends}
use Rattle.replay_run.proofs.truth.GoodRun.{good_end}

pub runs_good : (script : Script) (transcript : Transcript) → Keeps script → IsTyped script → Runs prefs_basis script transcript → Good prefs_basis script transcript
runs_good script transcript kept typed runs =
    let plan = kept.built.plan in
    let all : All (λ (line : RunLine). IsTypedAct line.act) plan.lines =
    All-head (λ (p : SessionPlan). All (λ (line : RunLine). IsTypedAct line.act) p.lines) plan [] (subst (λ (sessions : List SessionPlan). All (λ p. All (λ (line : RunLine). IsTypedAct line.act) p.lines) sessions) kept.built.only typed) in
    let faults = (All-head (KeepsPlan script) plan [] (subst (λ (sessions : List SessionPlan). All (KeepsPlan script) sessions) kept.built.only kept.sessions.plans)).faults in
    good_end prefs_basis script transcript kept runs (λ told played. first_ends script plan told faults all kept.homes.declared [] played)
