-- A transcript of one session that no stop ends tells the truth, where the session does.
use Rattle.std.proofs.Common.{◌≡◌, true, List, [], ◌∷◌, None, refl}
use Rattle.std.specs.List.{filter}
use Rattle.store_traits.specs.declared.ids.ClientId.{ClientId}
use Rattle.shelf.specs.Each.{Each}
use Rattle.shelf.proofs.EachLemmas.{each_walked}
use Rattle.script_lang.specs.declared.plan.script.Script.{Script}
use Rattle.script_lang.specs.declared.plan.session_plan.SessionPlan.{SessionPlan}
use Rattle.script_lang.specs.declared.transcripts.transcript.Transcript.{Transcript}
use Rattle.script_lang.specs.Asked.{is_actor}
use Rattle.script_lang.specs.Chronicle.{Basis, Chapter, IsLawful, chapter_of, chronicle, first_beginning}
use Rattle.script_lang.specs.Good.{Good, KeepsPlans, KeepsRules, Scripted, TellsFile, chapters_of}
use Rattle.script_lang.specs.GoodAnswers.{AnswersCalls, HasHomes, is_answer_of}
use Rattle.script_lang.specs.GoodCauses.{HasCauses}
use Rattle.script_lang.specs.GoodPosts.{DoesJobs, count_from}
use Rattle.script_lang.specs.GoodReads.{GivesValues, KeepsFresh}
use Rattle.script_lang.specs.GoodUpdates.{Acknowledges}
use Rattle.script_lang.specs.TranscriptView.{SessionSeen}

-- what the rules say of one session
pub record ChapterIsGood (b : Basis) (script : Script) (c : Chapter) : Type 0 where
  pub homes : HasHomes script c
  pub lawful : IsLawful b c
  pub answers : AnswersCalls script c
  pub updates : Acknowledges c
  pub reads : GivesValues b c
  pub fresh : KeepsFresh c
  pub causes : HasCauses b c
  pub jobs : DoesJobs c
  pub plans : KeepsPlans Scripted c
  pub file : TellsFile b c

module _ (b : Basis) (script : Script) (plan : SessionPlan) (told : SessionSeen) where
  abbrev pub only : Chapter
  only = chapter_of b script (first_beginning script) [] plan told

  module _ (transcript : Transcript) (names : transcript.names ≡ script.names) (planned : script.sessions ≡ plan ∷ []) (unstopped : plan.stop ≡ None) (tells : transcript.sessions ≡ told ∷ []) where
    pub one_chapter : chapters_of b Scripted script transcript ≡ only ∷ []
    unfolding chronicle
    one_chapter = rw (planned, tells) refl

    module _ (g : ChapterIsGood b script only) (none : (actor : ClientId) → is_actor script actor ≡ true → filter (is_answer_of actor.0) told.answers ≡ []) where
      in_one : (Holds : List Chapter → Chapter → Type 0) → Holds [] only → Each Holds (only ∷ [])
      in_one Holds here = each_walked Holds (only ∷ []) (here, tt)

      rules_hold : KeepsRules b Scripted script transcript (only ∷ [])
      unfolding count_from
      rules_hold =
          record {
            chronicle = record { sessions = rw (planned, tells) refl; stops = rw (planned, unstopped) refl; lawful = in_one (λ before c. IsLawful b c) g.lawful };
            answers = record { sessions = in_one (λ before c. AnswersCalls script c) g.answers; apart = each_walked _ (only ∷ []) (λ call is. refl, tt) };
            updates = in_one (λ before c. Acknowledges c) g.updates;
            reads = in_one (λ before c. GivesValues b c) g.reads;
            fresh = in_one (λ before c. KeepsFresh c) g.fresh;
            causes = in_one (λ before c. HasCauses b c) g.causes;
            jobs = record { sessions = in_one (λ before c. DoesJobs c) g.jobs; numbers = λ actor is. rw (none actor is) refl };
            plans = in_one (λ before c. KeepsPlans Scripted c) g.plans;
            file = in_one (λ before c. TellsFile b c) g.file;
          }

      pub good_of_one : Good b script transcript
      good_of_one = record { names = names; homes = rw one_chapter (in_one (λ before c. HasHomes script c) g.homes); rules = rw one_chapter rules_hold }
