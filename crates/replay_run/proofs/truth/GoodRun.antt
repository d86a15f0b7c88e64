-- The transcript of a run tells the truth of its script.
use Rattle.std.proofs.Common.{◌≡◌, ◌∙◌, ◌≤◌, List, [], ◌∷◌, length, sum_by, None, refl, sym, ap, subst, arith}
use Rattle.std.proofs.lemmas.List.Sums.{sum_by-cons}
use Rattle.script_lang.specs.Chronicle.{Basis, Chapter, tally_of}
use Rattle.script_lang.specs.Good.{Good, Scripted, chapters_of}
use Rattle.script_lang.specs.Keeps.{Keeps}
use Rattle.script_lang.specs.declared.plan.script.Script.{Script}
use Rattle.script_lang.specs.declared.plan.session_plan.SessionPlan.{SessionPlan}
use Rattle.script_lang.specs.declared.transcripts.transcript.Transcript.{Transcript}
use Rattle.script_lang.specs.SessionPlans.{lines_in}
use Rattle.script_lang.specs.TranscriptView.{SessionSeen}
use Rattle.script_lang.proofs.GoodChapters.{ChapterIsGood, good_of_one, one_chapter}
use Rattle.replay_run.specs.EndInvariant.{EndInvariant}
use Rattle.replay_run.specs.Rounds.{EndsBy, Finishes}
use Rattle.replay_run.specs.ScriptRun.{IsPlayed, Runs}
use Rattle.replay_run.specs.SessionPlayed.{IsPlayedWell, first_chapter}
use Rattle.replay_run.proofs.truth.Told.{EndsWell}
use Rattle.replay_run.proofs.truth.Rules.{chapter_good, none_of_actors}
use Rattle.replay_run.proofs.truth.Underway.{run_keeps}

-- no stop ends the script's only session
module _ (script : Script) (kept : Keeps script) (plan : SessionPlan) (planned : script.sessions ≡ plan ∷ []) where
  pub one_plan : kept.built.plan ≡ plan
  one_plan = let same : kept.built.plan ∷ [] ≡ plan ∷ [] = sym kept.built.only ∙ planned in cc

  pub unstopped : plan.stop ≡ None
  unstopped = ap (λ (plan : SessionPlan). plan.stop) (sym one_plan) ∙ kept.built.unstopped

  few : length plan.folder_faults ≤ 100000
  few =
      let lines = kept.sessions.few in
      let all : sum_by lines_in (plan ∷ []) ≤ 100000 = rw planned at lines in
      omega (arith, all, sum_by-cons lines_in plan [])

  module _ (b : Basis) (told : SessionSeen) where
    abbrev c : Chapter
    c = first_chapter b script plan told

    -- so the session goes to its end
    ends_well : IsPlayedWell b script plan told → EndsWell b script c
    ends_well it =
        let played = it.played in
        let finishes : Finishes b.rules c.store played.between played.end = subst (λ stop. EndsBy b.rules c.store stop played.between played.end) unstopped played.ends in
        record {
          end = played.end;
          known = it.ends;
          over = finishes.over;
          tells = played.tells;
          underway = run_keeps script.homes plan.lines b.rules c.store (tally_of 0 plan) played.between played.end played.follows finishes;
          deaths = refl;
          folder = refl;
          few = few;
          asked = refl;
          one_each = kept.homes.one_each;
        }

    pub good_chapter : IsPlayedWell b script plan told → ChapterIsGood b script c
    good_chapter it = chapter_good b script c (ends_well it) it.played.base

    -- what is told of the script's session is the truth
    pub good_session : (transcript : Transcript) → transcript.names ≡ script.names → transcript.sessions ≡ told ∷ [] → IsPlayedWell b script plan told → Good b script transcript
    good_session transcript names tells it = good_of_one b script plan told transcript names planned unstopped tells (good_chapter it) (none_of_actors b script c (ends_well it))

-- where the end of its session keeps what it is to, a run gives a transcript that tells the truth
pub good_end : (b : Basis) (script : Script) (transcript : Transcript) → (kept : Keeps script) → Runs b script transcript
    → ((told : SessionSeen) (played : IsPlayed b script [] (first_chapter b script kept.built.plan told)) → EndInvariant b.rules (first_chapter b script kept.built.plan told).store played.end) → Good b script transcript
good_end b script transcript kept runs ends = by_told transcript.sessions refl (runs.sessions ∙ ap (λ sessions. length sessions) kept.built.only)
  where
    by_told : (sessions : List SessionSeen) → transcript.sessions ≡ sessions → length sessions ≡ 1 → Good b script transcript
    by_told [] tells one = absurd (omega (arith, one))
    by_told (told ∷ next ∷ more) tells one = absurd (omega (arith, one))
    by_told (told ∷ []) tells one =
        let plan = kept.built.plan in
        let is : chapters_of b Scripted script transcript ≡ first_chapter b script plan told ∷ [] = one_chapter b script plan told transcript runs.names kept.built.only kept.built.unstopped tells in
        let played = runs.played [] (first_chapter b script plan told) [] is in
        good_session script kept plan kept.built.only b told transcript runs.names tells (record { played = played; ends = ends told played })
