-- Which posted jobs the actors did.
use Rattle.std.specs.Prelude.{◌≡◌, ◌<◌, ◌+◌, ℕ, zero, suc, true, List, [], ◌∷◌, map, length, Contains, Some, None, IfSome}
use Rattle.std.specs.List.{filter, flat_map}
use Rattle.store_traits.specs.declared.ids.CallId.{CallId}
use Rattle.store_traits.specs.declared.ids.ClientId.{ClientId}
use Rattle.prefs_edit.specs.declared.edit_step.EditStep.{EditStep}
use Rattle.prefs_text.specs.declared.seen.AnswerLineSeen.{AnswerLineSeen}
use Rattle.prefs_text.specs.declared.seen.AnswerSeen.TheVariants.{Posted}
use Rattle.script_lang.specs.declared.plan.run_line.Act.TheVariants as act
use Rattle.script_lang.specs.declared.plan.script.Script.{Script}
use Rattle.script_lang.specs.Asked.{is_actor}
use Rattle.script_lang.specs.Chronicle.{Chapter}
use Rattle.shelf.specs.Each.{Each}
use Rattle.script_lang.specs.GoodAnswers.{is_answer_of}

module _ (c : Chapter) where
  -- a client of the actor's node posted this job in the session
  pub record IsPosted (line : AnswerLineSeen) (poster : CallId) : Type 0 where
    pub edit : List EditStep
    pub asked : Contains c.asked (record { call = poster; act = act.Post edit })
    pub taken : Contains c.told.answers (record { call = poster; poster = None; answer = Posted })
    pub same_node : poster.node ≡ line.call.node

  -- it is behind those jobs of the same client that were done before
  abbrev pub IsBehind : List AnswerLineSeen → CallId → Type 0
  IsBehind before poster = Each (λ earlier line. IfSome line.poster (λ first. first.client ≡ poster.client → first.number < poster.number)) before

  pub record DoesJob (before : List AnswerLineSeen) (line : AnswerLineSeen) (poster : CallId) : Type 0 where
    pub posted : IsPosted line poster
    pub in_order : IsBehind before poster

  -- an actor's answer is for this job
  pub record IsDoneBy (poster : CallId) : Type 0 where
    pub line : AnswerLineSeen
    pub answered : Contains c.told.answers line
    pub own : line.poster ≡ Some poster

  pub record DoesJobs : Type 0 where
    pub jobs : Each (λ before line. IfSome line.poster (DoesJob before line)) c.told.answers
    -- a stop may leave jobs undone
    pub all : c.plan.stop ≡ None → Each (λ before line. line.answer ≡ Posted → IsDoneBy line.call) c.told.answers

-- the answers of this caller, over all sessions
abbrev pub answers_of : ℕ → List Chapter → List AnswerLineSeen
answers_of client chapters = flat_map (λ c. filter (is_answer_of client) c.told.answers) chapters

-- the numbers from this one on, so many
unfoldable pub count_from : ℕ → ℕ → List ℕ
count_from first zero = []
count_from first (suc more) = first ∷ count_from (first + 1) more

-- the actors did the jobs of each session, and number their calls from 1 over the whole script
pub record HasJobs (script : Script) (chapters : List Chapter) : Type 0 where
  pub sessions : Each (λ before c. DoesJobs c) chapters
  pub numbers : (actor : ClientId) → is_actor script actor ≡ true → map (λ line. line.call.number) (answers_of actor.0 chapters) ≡ count_from 1 (length (answers_of actor.0 chapters))
