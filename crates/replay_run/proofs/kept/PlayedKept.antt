-- A session that is played leaves a lawful history, and main as it comes to, whatever the transcript tells.
use Rattle.std.proofs.Common.{◌<◌, ℕ, List, [], ◌∷◌, length, All, flat_map, Option, Some, None, refl, sym, subst, arith}
use Rattle.std.proofs.lemmas.List.Elements.{All-head, All-tail}
use Rattle.prefs_model.specs.Map.{IsMap}
use Rattle.shelf.specs.declared.store.Store.{Store}
use Rattle.script_lang.specs.Chronicle.{Basis, Chapter, tally_of}
use Rattle.script_lang.specs.Keeps.{KeepsFault}
use Rattle.script_lang.specs.TranscriptView.{SessionSeen}
use Rattle.script_lang.specs.declared.plan.run_line.Act.{Act}
use Rattle.script_lang.specs.declared.plan.run_line.Act.TheVariants.{Go}
use Rattle.script_lang.specs.declared.plan.run_line.RunLine.{RunLine}
use Rattle.script_lang.specs.declared.plan.script.Script.{Script}
use Rattle.script_lang.specs.declared.plan.session_plan.SessionPlan.{SessionPlan}
use Rattle.replay_run.specs.EndInvariant.{EndInvariant}
use Rattle.replay_run.specs.Failing.{FailsWithin}
use Rattle.replay_run.specs.Lines.{Follows, FollowsAll}
use Rattle.replay_run.specs.PrefsBasis.{prefs_basis}
use Rattle.replay_run.specs.Rounds.{EndsBy}
use Rattle.replay_run.specs.RunState.{RunState}
use Rattle.replay_run.specs.ScriptRun.{IsPlayed}
use Rattle.replay_run.specs.SessionPlayed.{first_chapter}
use Rattle.replay_run.specs.Settings.{PrefRules, Value}
use Rattle.replay_run.specs.Typed.{AreSteps, IsTypedAct}
use Rattle.replay_run.proofs.keeping.Failures.{plan_fails_within}
use Rattle.replay_run.proofs.keeping.RunKeeps.{rounds_keep, times_keep}
use Rattle.replay_run.proofs.keeping.StepsKeep.{homes_declared}
use Rattle.replay_run.proofs.kept.PlansKept.{ReadsValues}
use Rattle.replay_run.proofs.kept.RunKept.{KeptState, asks_keep_main, start_keeps_main, steps_keep_main, values_of_settings}

module _ (r : PrefRules) {M : Type 0} (s : Store Value M) (values : ReadsValues r IsMap AreSteps s) where
  follows_keep : (place : ℕ) (asked : Act) (old new : RunState) → IsTypedAct asked → Follows r s place asked old new → KeptState r s old → KeptState r s new
  follows_keep place (Go steps) old new typed it = times_keep r s (KeptState r s) (steps_keep_main r s values) place steps old new it
  follows_keep place other old new typed it = asks_keep_main r s place other old new it typed

  all_follow : (lines : List RunLine) (old new : RunState) → All (λ line. IsTypedAct line.act) lines → FollowsAll r s lines old new → KeptState r s old → KeptState r s new
  unfolding FollowsAll
  all_follow [] old new typed it k = subst (KeptState r s) (sym it) k
  all_follow (line ∷ lines) old new typed it k =
      all_follow lines it.0 new (All-tail (λ line. IsTypedAct line.act) line lines typed) it.2
      (follows_keep line.client.0 line.act old it.0 (All-head (λ line. IsTypedAct line.act) line lines typed) it.1 k)

  ends_keep : (stop : Option ℕ) (old new : RunState) → EndsBy r s stop old new → KeptState r s old → KeptState r s new
  ends_keep None old new it k = rounds_keep r s (KeptState r s) (steps_keep_main r s values) it.rounds old new it.rest k
  ends_keep (Some image) old new it k = subst (KeptState r s) (sym it) k

module _ (b : Basis) (script : Script) (before : List Chapter) (c : Chapter) (values : ReadsValues b.rules IsMap AreSteps c.store) where
  -- a session that is played keeps it to its end
  pub played_keeps_main : FailsWithin c.store (tally_of c.store.folder.count c.plan) → All (λ line. IsTypedAct line.act) c.plan.lines → All (λ home. home.0 < length c.store.nodes) script.homes → (it : IsPlayed b script before c) → KeptState b.rules c.store it.end
  played_keeps_main failing typed declared it =
      ends_keep b.rules c.store values c.plan.stop it.between it.end it.ends
      (all_follow b.rules c.store values c.plan.lines _ it.between typed it.follows (start_keeps_main b.rules c.store it.base (flat_map (λ c. c.asked) before) _ script.homes refl failing declared))

-- the first session of a script
pub first_ends : (script : Script) (plan : SessionPlan) (told : SessionSeen) → All KeepsFault plan.folder_faults → All (λ line. IsTypedAct line.act) plan.lines → All (λ home. home.0 < length script.names.nodes) script.homes → (before : List Chapter) (it : IsPlayed prefs_basis script before (first_chapter prefs_basis script plan told))
    → EndInvariant prefs_basis.rules (first_chapter prefs_basis script plan told).store it.end
first_ends script plan told faults typed declared before it =
    let c = first_chapter prefs_basis script plan told in
    let k = played_keeps_main prefs_basis script before c (values_of_settings c.store (omega arith)) (plan_fails_within c.store plan (omega arith) refl faults) typed (homes_declared script declared) it in
    record { state = k.run; history = k.main.legal; main = k.main.main }
