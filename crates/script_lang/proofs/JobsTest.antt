-- The seventh rule is tested: actors do the posted jobs, each once and in order.
use Rattle.std.proofs.Common.{◌≡◌, ◌∙◌, ◌<◌, ℕ, Bool, true, false, List, [], ◌∷◌, ◌++◌, Contains, length, map, Option, Some, None, refl, sym, ap, subst}
use Rattle.std.specs.Prelude.{IfSome}
use Rattle.std.specs.List.{filter, flat_map, list_any}
use Rattle.store_traits.specs.declared.ids.CallId.{CallId}
use Rattle.store_traits.specs.declared.ids.ClientId.{ClientId}
use Rattle.prefs_text.specs.declared.seen.AnswerLineSeen.{AnswerLineSeen}
use Rattle.prefs_text.specs.declared.seen.AnswerSeen.{AnswerSeen}
use Rattle.prefs_text.specs.declared.seen.AnswerSeen.TheVariants.{Posted}
use Rattle.shelf.specs.Decided.{Decided}
use Rattle.shelf.proofs.Bools.{never}
use Rattle.shelf.proofs.ListTests.{Found, each, found, named, names}
use Rattle.shelf.proofs.Tests.{both, if_so, if_some, is_none, less, like, one_call, one_client, one_node, same_list, same_number, same_option, sure, yes}
use Rattle.script_lang.specs.declared.plan.script.Script.{Script}
use Rattle.script_lang.specs.Asked.{is_actor}
use Rattle.script_lang.specs.Chronicle.{Chapter}
use Rattle.script_lang.specs.GoodAnswers.{is_answer_of}
use Rattle.script_lang.specs.GoodCauses.{is_posted}
use Rattle.script_lang.specs.GoodPosts.{DoesJob, DoesJobs, HasJobs, IsBehind, IsDoneBy, IsPosted, answers_of, count_from}
use Rattle.script_lang.proofs.CallTests.{post_asked}

pub posted_so : (answer : AnswerSeen) → is_posted answer ≡ true → answer ≡ Posted
posted_so Posted is = refl
posted_so other is = never is

abbrev pub posted : (answer : AnswerSeen) → Decided (answer ≡ Posted)
posted answer = record { test = is_posted answer; law = (posted_so answer, λ is. ap is_posted is) }

module _ (c : Chapter) where
  module _ (poster : CallId) where
    -- the post was taken
    abbrev pub IsTaken : AnswerLineSeen → Type 0
    IsTaken line = (line.call ≡ poster) × ((line.poster ≡ None) × (line.answer ≡ Posted))

    abbrev pub taken_line : AnswerLineSeen
    taken_line = record { call = poster; poster = None; answer = Posted }

    pub line_is : (line : AnswerLineSeen) → IsTaken line → line ≡ taken_line
    line_is line is =
        ap (λ (call : CallId). let it : AnswerLineSeen = record line { call = call } in it) is.0
        ∙ ap (λ (by : Option CallId). let it : AnswerLineSeen = record line { call = poster; poster = by } in it) is.1.0
        ∙ ap (λ (answer : AnswerSeen). let it : AnswerLineSeen = record taken_line { answer = answer } in it) is.1.1

    abbrev pub taken : Decided (Contains c.told.answers taken_line)
    taken =
        like
        (λ (it : Found IsTaken c.told.answers). subst (Contains c.told.answers) (line_is it.item it.holds) it.among)
        (λ there. record { item = taken_line; among = there; holds = (refl, (refl, refl)) })
        (found IsTaken (λ line. both (one_call line.call poster) (both (same_option one_call line.poster None) (posted line.answer))) c.told.answers)

    abbrev pub done_by : Decided (IsDoneBy c poster)
    done_by =
        like
        (λ it. record { line = it.item; answered = it.among; own = it.holds })
        (λ it. record { item = it.line; among = it.answered; holds = it.own })
        (found (λ line. line.poster ≡ Some poster) (λ line. same_option one_call line.poster (Some poster)) c.told.answers)

    abbrev pub is_behind : (before : List AnswerLineSeen) → Decided (IsBehind c before poster)
    is_behind before =
        each
        (λ earlier line. IfSome line.poster (λ first. first.client ≡ poster.client → first.number < poster.number))
        (λ earlier line. if_some (λ first. first.client ≡ poster.client → first.number < poster.number) (λ first. if_so (one_client first.client poster.client) (less first.number poster.number)) line.poster)
        before

    abbrev pub posted_job : (line : AnswerLineSeen) → Decided (IsPosted c line poster)
    posted_job line =
        like
        (λ it. record { edit = it.0.edit; asked = it.0.asked; taken = it.1.0; same_node = it.1.1 })
        (λ it. (record { edit = it.edit; asked = it.asked; fits = tt }, (it.taken, it.same_node)))
        (both (post_asked c poster (λ edit. Unit {0}) (λ edit. sure tt)) (both taken (one_node poster.node line.call.node)))

  abbrev pub does_job : (before : List AnswerLineSeen) (line : AnswerLineSeen) (poster : CallId) → Decided (DoesJob c before line poster)
  does_job before line poster = like (λ it. record { posted = it.0; in_order = it.1 }) (λ it. (it.posted, it.in_order)) (both (posted_job poster line) (is_behind poster before))

  abbrev pub does_jobs : Decided (DoesJobs c)
  does_jobs =
      like
      (λ it. record { jobs = it.0; all = it.1 })
      (λ it. (it.jobs, it.all))
      (both
      (each (λ before line. IfSome line.poster (DoesJob c before line)) (λ before line. if_some (DoesJob c before line) (does_job before line) line.poster) c.told.answers)
      (if_so (is_none c.plan.stop) (each (λ before line. line.answer ≡ Posted → IsDoneBy c line.call) (λ before line. if_so (posted line.answer) (done_by line.call)) c.told.answers)))

module _ (script : Script) (chapters : List Chapter) where
  -- the answers of all sessions
  abbrev pub all_answers : List AnswerLineSeen
  all_answers = flat_map (λ c. c.told.answers) chapters

  abbrev pub Numbers : ClientId → Type 0
  Numbers actor = is_actor script actor ≡ true → map (λ line. line.call.number) (answers_of actor.0 chapters) ≡ count_from 1 (length (answers_of actor.0 chapters))

  abbrev pub numbers : (actor : ClientId) → Decided (Numbers actor)
  numbers actor = if_so (yes (is_actor script actor)) (same_list same_number (map (λ line. line.call.number) (answers_of actor.0 chapters)) (count_from 1 (length (answers_of actor.0 chapters))))

  abbrev pub Named : Type 0
  Named = (actor : ClientId) → names one_client (λ (line : AnswerLineSeen). line.call.client) Numbers numbers actor all_answers ≡ true → Numbers actor

-- who is told of nowhere has no answers
untold_session : (k : ℕ) (list more : List AnswerLineSeen) → list_any (is_answer_of k) (list ++ more) ≡ false → (filter (is_answer_of k) list ≡ []) × (list_any (is_answer_of k) more ≡ false)
untold_session k [] more none = (refl, none)
untold_session k (line ∷ lines) more none = here (is_answer_of k line) refl (untold_session k lines more)
  where
    here : (own : Bool) → is_answer_of k line ≡ own → (list_any (is_answer_of k) (lines ++ more) ≡ false → (filter (is_answer_of k) lines ≡ []) × (list_any (is_answer_of k) more ≡ false))
        → (filter (is_answer_of k) (line ∷ lines) ≡ []) × (list_any (is_answer_of k) more ≡ false)
    here true is rest = let found : true ≡ false = rw is at none in never (sym found)
    here false is rest = let later : list_any (is_answer_of k) (lines ++ more) ≡ false = rw is at none in rw is (rest later)

untold : (k : ℕ) (chapters : List Chapter) → list_any (is_answer_of k) (flat_map (λ c. c.told.answers) chapters) ≡ false → answers_of k chapters ≡ []
untold k [] none = refl
untold k (c ∷ cs) none = let split = untold_session k c.told.answers (flat_map (λ d. d.told.answers) cs) none in rw (split.0, untold k cs split.1) refl

module _ (script : Script) (chapters : List Chapter) where
  pub numbers_so : Named script chapters → (actor : ClientId) → Numbers script chapters actor
  unfolding count_from
  numbers_so all actor = of_told (list_any (is_answer_of actor.0) (all_answers script chapters)) refl
    where
      of_told : (is_told : Bool) → list_any (is_answer_of actor.0) (all_answers script chapters) ≡ is_told → Numbers script chapters actor
      of_told true is = all actor is
      of_told false is = λ acts. rw (untold actor.0 chapters is) refl

  abbrev pub has_jobs : Decided (HasJobs script chapters)
  has_jobs =
      like
      (λ it. record { sessions = it.0; numbers = numbers_so it.1 })
      (λ it. (it.sessions, λ actor told. it.numbers actor))
      (both (each (λ before c. DoesJobs c) (λ before c. does_jobs c) chapters) (named one_client (λ (line : AnswerLineSeen). line.call.client) (Numbers script chapters) (numbers script chapters) (all_answers script chapters)))
