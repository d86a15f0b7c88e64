-- What holds of a client between the steps of a run.
use Rattle.std.specs.Prelude.{◌≡◌, ◌==◌, ◌≤◌, ℕ, Bool, true, false, All, List, [], ◌∷◌, length, Some, None, IfSome, MatchOption, slice_get}
use Rattle.std.specs.List.{list_any}
use Rattle.store_traits.specs.declared.ids.CallId.{CallId}
use Rattle.store_traits.specs.declared.ids.NodeId.{NodeId}
use Rattle.store_traits.specs.declared.step.Step.{Step}
use Rattle.store_traits.specs.declared.step.Step.TheVariants.{U1, U2, U3, U4, U6, U7}
use Rattle.prefs_text.specs.EntryText.{PrefEntry, PrefKind}
use Rattle.prefs_text.specs.declared.seen.AnswerLineSeen.{AnswerLineSeen}
use Rattle.prefs_text.specs.declared.seen.AnswerSeen.{AnswerSeen}
use Rattle.prefs_text.specs.declared.seen.AnswerSeen.TheVariants as seen
use Rattle.shelf.specs.declared.store.Store.{Store}
use Rattle.shelf.specs.Acknowledged.{Carries, IsUpdated}
use Rattle.shelf.specs.Causes.{HasCause, HasReadCause, IsDead}
use Rattle.shelf.specs.Deaths.{died_since, has_died, step_number}
use Rattle.shelf.specs.Each.{Each}
use Rattle.shelf.specs.Entries.{is_own, is_update}
use Rattle.shelf.specs.Places.{HasFront}
use Rattle.step_table.specs.Calls.{Appending, At, Changed, Creating, Kept, Raising, Read, Reading, Renaming, Restarting, Serve, SyncingFolder, SyncingScratch, Update, Writing, is_gone}
use Rattle.node_core.specs.Knows.{Knows}
use Rattle.node_core.specs.Own.{IsFor, OwnEntries}
use Rattle.node_core.specs.Silence.{IsSilent}
use Rattle.script_lang.specs.AnswerForms.{read_error, update_error}
use Rattle.script_lang.specs.GoodCauses.{IsAlive, may_stand}
use Rattle.script_lang.specs.GoodFailures.{Spares, plans}
use Rattle.script_lang.specs.GoodReads.{HasValue}
use Rattle.script_lang.specs.GoodUpdates.{IsOnlyRestart, has_restart}
use Rattle.script_lang.specs.Shown.{printed, shown_to}
use Rattle.script_lang.specs.declared.plan.run_line.Act.{Act}
use Rattle.script_lang.specs.declared.plan.run_line.Act.TheVariants as act
use Rattle.replay_run.specs.RunState.{Client, act_now, call_at}
use Rattle.replay_run.specs.Settings.{Change, PrefCall, PrefRules, PrefWorld, Value}

abbrev pub CarriesAsked : Act → PrefKind → Type 0
CarriesAsked (act.Update edit) kind = Carries edit kind
CarriesAsked other kind = ⊥

-- each Edit and each Same of the call carries the edit that it asks for
abbrev pub CarriesOwn : CallId → Act → List PrefEntry → Type 0
CarriesOwn call act list = All (λ e. is_own is_update call e ≡ true → CarriesAsked act e.kind) list

-- what is left to do is what the line asks for, or was done for it
abbrev pub IsForAct : CallId → Act → At Value Change → List PrefEntry → Type 0
IsForAct call (act.Update edit) at list = IsFor call (Update edit) at list
IsForAct call act.Read at list = IsFor call Read at list
IsForAct call (act.Restart node) at list = at ≡ Restarting node
IsForAct call other at list = ⊥

-- the call has brought a node back
abbrev pub is_restarted : AnswerSeen → Bool
is_restarted (seen.Restarted place) = true
is_restarted other = false

-- the steps that an update has gone through, by where it is; an append has as many as there are pieces
abbrev pub gone_through : At Value Change → List Step
gone_through (Reading Serve (Update edit)) = U1 ∷ []
gone_through (Raising plan) = U1 ∷ U2 ∷ []
gone_through (Writing Creating plan) = U1 ∷ U2 ∷ U3 ∷ []
gone_through (Writing Appending plan) = U1 ∷ U2 ∷ U3 ∷ U4 ∷ []
gone_through (Writing SyncingScratch plan) = U1 ∷ U2 ∷ U3 ∷ U4 ∷ []
gone_through (Writing Renaming plan) = U1 ∷ U2 ∷ U3 ∷ U4 ∷ U6 ∷ []
gone_through (SyncingFolder (Changed place)) = U1 ∷ U2 ∷ U3 ∷ U4 ∷ U6 ∷ U7 ∷ []
gone_through (SyncingFolder (Kept edit)) = U1 ∷ U2 ∷ []
gone_through other = []

abbrev pub is_behind : At Value Change → Step → Bool
is_behind at step = list_any (λ passed. step_number passed == step_number step) (gone_through at)

module _ (r : PrefRules) {M : Type 0} (s : Store Value M) where
  module _ (list : List PrefEntry) where
    -- an update that is acknowledged stands in the history, and an error has its cause there; `shown` was shown to the client before
    abbrev pub IsUpdateExplained : (shown : ℕ) → CallId → Change → AnswerSeen → Type 0
    IsUpdateExplained shown call edit (seen.Updated edition) = IsUpdated call edit edition list
    IsUpdateExplained shown call edit answer = MatchOption (update_error answer) ⊥ (λ error. HasCause r s shown call edit error list)

    -- a value that is read is that of its edition, and an error has its cause
    abbrev pub IsReadExplained : (shown : ℕ) → CallId → AnswerSeen → Type 0
    IsReadExplained shown call (seen.Read edition value) = HasFront (HasValue r s edition value) list
    IsReadExplained shown call answer = MatchOption (read_error answer) ⊥ (λ error. HasReadCause r s shown call error list)

    -- the entry is the call's only Restart, and names the node; or why there is none
    abbrev pub IsRestartExplained : CallId → NodeId → AnswerSeen → Type 0
    IsRestartExplained call node (seen.Restarted place) = IsOnlyRestart call node place list
    IsRestartExplained call node seen.NotDead = IsAlive call node list
    IsRestartExplained call node (seen.Died place) = IsDead call place list
    IsRestartExplained call node other = ⊥

    -- by what the call asks for; other calls have no answers yet
    abbrev pub IsExplained : (shown : ℕ) → CallId → Act → AnswerSeen → Type 0
    IsExplained shown call (act.Update edit) answer = IsUpdateExplained shown call edit answer
    IsExplained shown call act.Read answer = IsReadExplained shown call answer
    IsExplained shown call (act.Restart node) answer = IsRestartExplained call node answer
    IsExplained shown call other answer = ⊥

    -- the line behind these answers the client's next call, and tells the truth of it
    pub record IsTrueAnswer (client : Client) (before : List AnswerLineSeen) (line : AnswerLineSeen) : Type 0 where
      pub act : Act
      pub asked : slice_get client.asked (length before) ≡ Some act
      pub call : line.call ≡ call_at client (length before)
      pub poster : line.poster ≡ None
      pub explained : IsExplained (shown_to client.id list before) line.call act line.answer
      -- what it prints is as late as all that was shown before
      pub late : IfSome (printed line.answer) (λ edition. shown_to client.id list before ≤ edition)
      -- such an answer leaves no Edit and no Same, and any other those of what the call asks for
      pub none : may_stand line.answer ≡ false → list_any (is_own is_update line.call) list ≡ false
      pub carried : CarriesOwn line.call act list
      -- a call that restarted no node has no Restart
      pub restarts : is_restarted line.answer ≡ false → has_restart line.call list ≡ false
      -- no death was planned for a step that an acknowledged update went through
      pub spared : Spares s.deaths list line.call line.answer

  -- the call that runs is the one that the client is at, and is at work for what that asks for
  pub record CallInvariant (client : Client) (w : PrefWorld) (call : PrefCall) : Type 0 where
    pub asked : Act
    pub at_it : act_now client ≡ Some asked
    pub id : call.id ≡ call_at client (length client.answered)
    pub is_for : IsForAct call.id asked call.at w.history
    pub goes_on : is_gone call.at ≡ false
    -- which entries of it stand, also where its node has died
    pub entries : OwnEntries call.id call.at w.history
    -- what it knows, as long as its node has not died since it began; and no entry of its client stands behind the death
    pub knows : died_since call.id.node call.since w.history ≡ false → Knows r s w call
    pub silent : has_died call.id.node call.since w.history ≡ true → IsSilent call.id w.history
    -- no death is planned for a step behind it
    pub spared : plans (is_behind call.at) call.id s.deaths ≡ false

  -- the client stands at this place, counted from 0
  pub record ClientInvariant (place : ℕ) (w : PrefWorld) (client : Client) : Type 0 where
    pub id : client.id.0 ≡ place
    pub running : IfSome client.running (CallInvariant client w)
    pub answers : Each (IsTrueAnswer w.history client) client.answered
