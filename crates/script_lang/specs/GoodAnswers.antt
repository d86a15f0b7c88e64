-- Which calls a transcript answers, in which order, and whose entries it has.
use Rattle.std.specs.Prelude.{◌≡◌, ◌⊎◌, ◌<◌, ℕ, ◌==◌, nat_lt, Bool, true, false, ◌||◌, List, map, length, Contains, IfSome, is_some}
use Rattle.std.specs.Option.{MatchOption}
use Rattle.std.specs.List.{filter, list_any}
use Rattle.store_traits.specs.declared.ids.CallId.{CallId}
use Rattle.hist_journal.specs.Kinds.{is_call}
use Rattle.prefs_text.specs.declared.seen.AnswerLineSeen.{AnswerLineSeen}
use Rattle.prefs_text.specs.Callers.{HasCaller}
use Rattle.script_lang.specs.declared.plan.run_line.Act.{Act}
use Rattle.script_lang.specs.declared.plan.script.Script.{Script}
use Rattle.script_lang.specs.AnswerForms.{answers, answers_update, is_cut}
use Rattle.script_lang.specs.Asked.{Asked, home_of, is_actor}
use Rattle.script_lang.specs.Chronicle.{Chapter}
use Rattle.shelf.specs.Each.{Each}

-- the call is of a client or an actor of the script, and has its node
pub record IsHome (script : Script) (call : CallId) : Type 0 where
  pub known : HasCaller script.names call.client
  pub home : call.node ≡ home_of script call.client

-- exactly an actor's answer has a poster
pub record IsTold (script : Script) (line : AnswerLineSeen) : Type 0 where
  pub home : IsHome script line.call
  pub poster : is_some line.poster ≡ is_actor script line.call.client
  pub poster_home : IfSome line.poster (λ call. IsHome script call)

-- whoever is told of has its node
pub record HasHomes (script : Script) (c : Chapter) : Type 0 where
  pub answers : Each (λ before line. IsTold script line) c.told.answers
  pub entries : Each (λ before e. IsHome script e.who) c.told.entries

-- a line of the session asks for this call
pub record IsAsked (c : Chapter) (call : CallId) (Fits : Act → Type 0) : Type 0 where
  pub act : Act
  pub asked : Contains c.asked (record { call = call; act = act })
  pub fits : Fits act

-- an actor's call is an update, and any other is what its line asks for
abbrev pub HasForm : Chapter → AnswerLineSeen → Type 0
HasForm c line = MatchOption line.poster (IsAsked c line.call (λ act. answers act line.answer ≡ true)) (λ poster. answers_update line.answer ≡ true)

abbrev pub is_answer_of : ℕ → AnswerLineSeen → Bool
is_answer_of client line = client == line.call.client.0

abbrev pub is_asked_of : ℕ → Asked → Bool
is_asked_of client asked = client == asked.call.client.0

-- the answers of one session, each client's in the order of its calls, and the actors' behind
pub record AnswersCalls (script : Script) (c : Chapter) : Type 0 where
  pub each_once : (client : ℕ) → client < length script.names.clients → map (λ line. line.call) (filter (is_answer_of client) c.told.answers) ≡ map (λ asked. asked.call) (filter (is_asked_of client) c.asked)
  pub in_order : Each (λ before line. list_any (λ earlier. nat_lt line.call.client.0 earlier.call.client.0) before ≡ false) c.told.answers
  pub formed : Each (λ before line. HasForm c line) c.told.answers
  pub own_entries : Each (λ before e. (is_actor script e.who.client ≡ true) ⊎ IsAsked c e.who (λ act. Unit {0})) c.told.entries
  pub cut_by_stop : Each (λ before line. is_cut line.answer ≡ true → is_some c.plan.stop ≡ true) c.told.answers

-- the session has an answer or an entry of the call
abbrev pub tells_of : CallId → Chapter → Bool
tells_of call c = list_any (λ line. is_call call line.call) c.told.answers || list_any (λ e. is_call call e.who) c.told.entries

-- no call is told of in two sessions
pub record IsAnswered (script : Script) (chapters : List Chapter) : Type 0 where
  pub sessions : Each (λ before c. AnswersCalls script c) chapters
  pub apart : Each (λ before c. (call : CallId) → tells_of call c ≡ true → list_any (tells_of call) before ≡ false) chapters
