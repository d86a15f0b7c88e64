-- Why calls are answered by an error, and whose edits stand in a history.
use Rattle.std.specs.Prelude.{◌≡◌, ◌⊎◌, ℕ, ◌≤◌, ◌==◌, ◌&&◌, nat_lt, Bool, true, false, List, ◌++◌, Contains, count_by, IfSome}
use Rattle.std.specs.List.{list_any}
use Rattle.std.specs.Option.{MatchOption}
use Rattle.store_traits.specs.declared.ids.CallId.{CallId}
use Rattle.store_traits.specs.declared.ids.NodeId.{NodeId}
use Rattle.store_traits.specs.declared.read_error.ReadError.{ReadError}
use Rattle.store_traits.specs.declared.update_error.UpdateError.{UpdateError}
use Rattle.hist_journal.specs.Kinds.{is_node}
use Rattle.hist_journal.specs.Nodes.{is_dead}
use Rattle.prefs_edit.specs.declared.edit_step.EditStep.{EditStep}
use Rattle.prefs_text.specs.EntryText.{PrefEntry}
use Rattle.prefs_text.specs.declared.seen.AnswerLineSeen.{AnswerLineSeen}
use Rattle.prefs_text.specs.declared.seen.AnswerSeen.{AnswerSeen}
use Rattle.prefs_text.specs.declared.seen.AnswerSeen.TheVariants.{Updated, NotDurable, Died, Posted, Full, NotDead, Cut}
use Rattle.shelf.specs.Acknowledged.{Carries}
use Rattle.shelf.specs.Causes.{HasCause, HasReadCause, IsDead}
use Rattle.shelf.specs.Entries.{is_update}
use Rattle.script_lang.specs.declared.plan.run_line.Act.{Act}
use Rattle.script_lang.specs.declared.plan.run_line.Act.TheVariants as act
use Rattle.script_lang.specs.AnswerForms.{read_error, update_error}
use Rattle.script_lang.specs.Chronicle.{Basis, Chapter}
use Rattle.shelf.specs.Each.{Each}
use Rattle.script_lang.specs.GoodAnswers.{IsAsked}
use Rattle.script_lang.specs.GoodUpdates.{CarriesEdit}
use Rattle.script_lang.specs.Shown.{shown_to}

-- an entry of an earlier call of the same client
abbrev pub is_earlier : CallId → PrefEntry → Bool
is_earlier call e = (call.client.0 == e.who.client.0) && nat_lt e.who.number call.number

abbrev pub is_posted : AnswerSeen → Bool
is_posted Posted = true
is_posted other = false

-- a post to this node's actor that was taken
abbrev pub is_posted_to : NodeId → AnswerLineSeen → Bool
is_posted_to node line = is_node node line.call.node && is_posted line.answer

-- the node lives after a prefix that has all entries of the client's earlier calls
pub record IsAlive (call : CallId) (node : NodeId) (list : List PrefEntry) : Type 0 where
  pub front : List PrefEntry
  pub back : List PrefEntry
  pub is : list ≡ front ++ back
  pub alive : is_dead node front ≡ false
  pub earlier : list_any (is_earlier call) back ≡ false

-- of calls that are answered so an Edit or a Same may stand
abbrev pub may_stand : AnswerSeen → Bool
may_stand (Updated edition) = true
may_stand (NotDurable at) = true
may_stand (Died at) = true
may_stand Cut = true
may_stand other = false

module _ (b : Basis) (c : Chapter) where
  -- the edition that the client was shown before
  abbrev pub shown_before : List AnswerLineSeen → AnswerLineSeen → ℕ
  shown_before before line = shown_to line.call.client c.told.entries before

  -- an update's error, where it carries this edit
  abbrev pub HasUpdateCause : List AnswerLineSeen → AnswerLineSeen → UpdateError → List EditStep → Type 0
  HasUpdateCause before line err edit = HasCause b.rules c.store (shown_before before line) line.call edit err c.told.entries

  abbrev pub HasCauseOfRead : List AnswerLineSeen → AnswerLineSeen → ReadError → Type 0
  HasCauseOfRead before line err = HasReadCause b.rules c.store (shown_before before line) line.call err c.told.entries

  -- 16 jobs can have waited
  abbrev pub IsFullThen : AnswerLineSeen → AnswerSeen → Type 0
  IsFullThen line Full = 16 ≤ count_by (is_posted_to line.call.node) c.told.answers
  IsFullThen line other = Unit {0}

  abbrev pub HasRestartCause : CallId → NodeId → AnswerSeen → Type 0
  HasRestartCause call node NotDead = IsAlive call node c.told.entries
  HasRestartCause call node (Died at) = IsDead call at c.told.entries
  HasRestartCause call node other = Unit {0}

  -- by what the call asks for
  abbrev pub HasCauseBy : List AnswerLineSeen → AnswerLineSeen → Act → Type 0
  HasCauseBy before line (act.Update edit) = IfSome (update_error line.answer) (λ err. HasUpdateCause before line err edit)
  HasCauseBy before line act.Read = IfSome (read_error line.answer) (HasCauseOfRead before line)
  HasCauseBy before line act.Flow = IfSome (read_error line.answer) (HasCauseOfRead before line)
  HasCauseBy before line (act.Post edit) = IsFullThen line line.answer
  HasCauseBy before line (act.Restart node) = HasRestartCause line.call node line.answer
  HasCauseBy before line (act.Go steps) = Unit {0}

  -- an actor's error has its cause by the edit that was posted
  pub record HasPostedCause (before : List AnswerLineSeen) (line : AnswerLineSeen) (poster : CallId) (err : UpdateError) : Type 0 where
    pub edit : List EditStep
    pub carried : Contains c.asked (record { call = poster; act = act.Post edit })
    pub cause : HasUpdateCause before line err edit

  -- or one that needs no edit
  abbrev pub HasActorCause : List AnswerLineSeen → AnswerLineSeen → CallId → Type 0
  HasActorCause before line poster = IfSome (update_error line.answer) (λ err. HasPostedCause before line poster err ⊎ MatchOption (read_error line.answer) ⊥ (HasCauseOfRead before line))

  -- the error of a client's call, or of an actor's
  abbrev pub IsCaused : List AnswerLineSeen → AnswerLineSeen → Type 0
  IsCaused before line = MatchOption line.poster (IsAsked c line.call (HasCauseBy before line)) (HasActorCause before line)

  -- such a call was answered, and the entry carries its edit
  pub record IsOwnEdit (e : PrefEntry) : Type 0 where
    pub line : AnswerLineSeen
    pub edit : List EditStep
    pub answered : Contains c.told.answers line
    pub own : line.call ≡ e.who
    pub may : may_stand line.answer ≡ true
    pub asked : CarriesEdit c line edit
    pub carried : Carries edit e.kind

  pub record HasCauses : Type 0 where
    pub errors : Each IsCaused c.told.answers
    pub edits : Each (λ before e. is_update e.kind ≡ true → IsOwnEdit e) c.told.entries
