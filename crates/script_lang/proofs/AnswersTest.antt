-- The second rule is tested: each call has one answer, of its form and in its place.
use Rattle.std.proofs.Common.{◌≡◌, ◌<◌, ◌⊎◌, inl, inr, ⊎_elim, ℕ, zero, suc, nat_lt, ◌&&◌, Bool, true, false, List, length, map, Option, Some, None, is_some, refl}
use Rattle.std.specs.Bool.{Decides}
use Rattle.std.specs.List.{filter, list_any}
use Rattle.std.specs.Option.{MatchOption}
use Rattle.std.proofs.lemmas.Bool.Decides.{Decides-below_and, Decides-or}
use Rattle.store_traits.specs.declared.ids.CallId.{CallId}
use Rattle.hist_journal.specs.Kinds.{is_call}
use Rattle.prefs_text.specs.EntryText.{PrefEntry}
use Rattle.prefs_text.specs.declared.seen.AnswerLineSeen.{AnswerLineSeen}
use Rattle.shelf.specs.Decided.{Decided}
use Rattle.shelf.proofs.ListTests.{each, named}
use Rattle.shelf.proofs.Tests.{both, either, if_so, like, no, one_call, same_list, sure, yes}
use Rattle.script_lang.specs.declared.plan.script.Script.{Script}
use Rattle.script_lang.specs.AnswerForms.{answers, answers_update, is_cut}
use Rattle.script_lang.specs.Asked.{is_actor}
use Rattle.script_lang.specs.Chronicle.{Chapter}
use Rattle.script_lang.specs.GoodAnswers.{AnswersCalls, HasForm, IsAnswered, IsAsked, is_answer_of, is_asked_of, tells_of}
use Rattle.script_lang.proofs.CallTests.{asked}

module _ (c : Chapter) where
  abbrev pub HasItsCalls : ℕ → Type 0
  HasItsCalls client = map (λ line. line.call) (filter (is_answer_of client) c.told.answers) ≡ map (λ asked. asked.call) (filter (is_asked_of client) c.asked)

  abbrev pub its_calls : (client : ℕ) → Decided (HasItsCalls client)
  its_calls client = same_list one_call (map (λ line. line.call) (filter (is_answer_of client) c.told.answers)) (map (λ asked. asked.call) (filter (is_asked_of client) c.asked))

  -- of each client below this number
  abbrev pub have_calls : ℕ → Bool
  have_calls zero = true
  have_calls (suc n) = (its_calls n).test && have_calls n

  pub have_calls_law : (n : ℕ) → Decides (have_calls n) ((client : ℕ) → client < n → HasItsCalls client)
  have_calls_law n = Decides-below_and (λ client. (its_calls client).test) HasItsCalls have_calls (λ client. (its_calls client).law) refl (λ n. refl) n

  abbrev pub their_calls : (n : ℕ) → Decided ((client : ℕ) → client < n → HasItsCalls client)
  their_calls n = record { test = have_calls n; law = have_calls_law n }

  abbrev pub formed : (line : AnswerLineSeen) (poster : Option CallId) → Decided (MatchOption poster (IsAsked c line.call (λ act. answers act line.answer ≡ true)) (λ by. answers_update line.answer ≡ true))
  formed line None = asked c line.call (λ act. answers act line.answer ≡ true) (λ act. yes (answers act line.answer))
  formed line (Some poster) = yes (answers_update line.answer)

  abbrev pub answers_calls : (script : Script) → Decided (AnswersCalls script c)
  answers_calls script =
      like
      (λ it. record { each_once = it.0; in_order = it.1.0; formed = it.1.1.0; own_entries = it.1.1.1.0; cut_by_stop = it.1.1.1.1 })
      (λ it. (it.each_once, (it.in_order, (it.formed, (it.own_entries, it.cut_by_stop)))))
      (both (their_calls (length script.names.clients))
      (both (each (λ before line. list_any (λ earlier. nat_lt line.call.client.0 earlier.call.client.0) before ≡ false) (λ before line. no (list_any (λ earlier. nat_lt line.call.client.0 earlier.call.client.0) before)) c.told.answers)
      (both (each (λ before line. HasForm c line) (λ before line. formed line line.poster) c.told.answers)
      (both (each (λ before e. (is_actor script e.who.client ≡ true) ⊎ IsAsked c e.who (λ act. Unit {0})) (λ before e. either (yes (is_actor script e.who.client)) (asked c e.who (λ act. Unit {0}) (λ act. sure tt))) c.told.entries)
      (each (λ before line. is_cut line.answer ≡ true → is_some c.plan.stop ≡ true) (λ before line. if_so (yes (is_cut line.answer)) (yes (is_some c.plan.stop))) c.told.answers)))))

module _ (before : List Chapter) where
  abbrev pub IsNew : CallId → Type 0
  IsNew call = list_any (tells_of call) before ≡ false

  abbrev pub is_new : (call : CallId) → Decided (IsNew call)
  is_new call = no (list_any (tells_of call) before)

  module _ (c : Chapter) where
    told_law : (call : CallId) → Decides (tells_of call c) ((list_any (λ line. is_call call line.call) c.told.answers ≡ true) ⊎ (list_any (λ e. is_call call e.who) c.told.entries ≡ true))
    told_law call =
        Decides-or
        (list_any (λ line. is_call call line.call) c.told.answers)
        (list_any (λ e. is_call call e.who) c.told.entries)
        (yes (list_any (λ line. is_call call line.call) c.told.answers)).law
        (yes (list_any (λ e. is_call call e.who) c.told.entries)).law

    abbrev pub NewTold : Type 0
    NewTold = ((call : CallId) → list_any (λ (line : AnswerLineSeen). is_call call line.call) c.told.answers ≡ true → IsNew call) × ((call : CallId) → list_any (λ (e : PrefEntry). is_call call e.who) c.told.entries ≡ true → IsNew call)

    pub apart_so : NewTold → (call : CallId) → tells_of call c ≡ true → IsNew call
    apart_so it call told = ⊎_elim (it.0 call) (it.1 call) ((told_law call).0 told)

    pub apart_of : ((call : CallId) → tells_of call c ≡ true → IsNew call) → NewTold
    apart_of all = (λ call is. all call ((told_law call).1 (inl is)), λ call is. all call ((told_law call).1 (inr is)))

    -- no call that is told of is told of before
    abbrev pub apart : Decided ((call : CallId) → tells_of call c ≡ true → IsNew call)
    apart = like apart_so apart_of (both (named one_call (λ (line : AnswerLineSeen). line.call) IsNew is_new c.told.answers) (named one_call (λ (e : PrefEntry). e.who) IsNew is_new c.told.entries))

abbrev pub answered : (script : Script) (chapters : List Chapter) → Decided (IsAnswered script chapters)
answered script chapters =
    like
    (λ it. record { sessions = it.0; apart = it.1 })
    (λ it. (it.sessions, it.apart))
    (both (each (λ before c. AnswersCalls script c) (λ before c. answers_calls c script) chapters) (each (λ before c. (call : CallId) → tells_of call c ≡ true → IsNew before call) apart chapters))
