-- Which updates are acknowledged, and which restarts are done.
use Rattle.std.specs.Prelude.{◌≡◌, ℕ, Bool, true, false, List, Contains}
use Rattle.std.specs.List.{list_any}
use Rattle.std.specs.Option.{MatchOption}
use Rattle.store_traits.specs.declared.ids.CallId.{CallId}
use Rattle.store_traits.specs.declared.ids.NodeId.{NodeId}
use Rattle.prefs_edit.specs.declared.edit_step.EditStep.{EditStep}
use Rattle.prefs_text.specs.EntryText.{PrefEntry, PrefKind}
use Rattle.prefs_text.specs.declared.seen.AnswerLineSeen.{AnswerLineSeen}
use Rattle.prefs_text.specs.declared.seen.AnswerSeen.{AnswerSeen}
use Rattle.prefs_text.specs.declared.seen.AnswerSeen.TheVariants.{Updated, Restarted}
use Rattle.hist_journal.specs.Kinds.{is_node}
use Rattle.hist_journal.specs.declared.seen.KindSeen.TheVariants.{Restart}
use Rattle.shelf.specs.Acknowledged.{IsUpdated}
use Rattle.shelf.specs.Entries.{is_own}
use Rattle.shelf.specs.Places.{StandsAt}
use Rattle.script_lang.specs.declared.plan.run_line.Act.TheVariants as act
use Rattle.script_lang.specs.Chronicle.{Chapter}
use Rattle.shelf.specs.Each.{Each}

-- the call that the line answers carries this edit: of a client by its line, of an actor by the line of the poster
abbrev pub CarriesEdit : Chapter → AnswerLineSeen → List EditStep → Type 0
CarriesEdit c line edit =
    MatchOption line.poster (Contains c.asked (record { call = line.call; act = act.Update edit })) (λ poster. Contains c.asked (record { call = poster; act = act.Post edit }))

pub record IsAcknowledged (c : Chapter) (line : AnswerLineSeen) (edition : ℕ) : Type 0 where
  pub edit : List EditStep
  pub carried : CarriesEdit c line edit
  pub updated : IsUpdated line.call edit edition c.told.entries

abbrev pub is_restart : PrefKind → Bool
is_restart (Restart node) = true
is_restart other = false

abbrev pub is_restart_of : NodeId → PrefKind → Bool
is_restart_of node (Restart alive) = is_node node alive
is_restart_of node other = false

abbrev pub has_restart : CallId → List PrefEntry → Bool
has_restart call list = list_any (is_own is_restart call) list

-- the entry at this place is the call's only Restart, and names the node
pub record IsOnlyRestart (call : CallId) (node : NodeId) (place : ℕ) (list : List PrefEntry) : Type 0 where
  pub restart : StandsAt (is_own (is_restart_of node) call) place list
  pub none_before : has_restart call restart.before ≡ false
  pub none_behind : has_restart call restart.behind ≡ false

-- the node is that of its line
pub record IsRestarted (c : Chapter) (call : CallId) (place : ℕ) : Type 0 where
  pub node : NodeId
  pub asked : Contains c.asked (record { call = call; act = act.Restart node })
  pub only : IsOnlyRestart call node place c.told.entries

-- an update is acknowledged and a restart is done where it is answered so, and no other call has a Restart
abbrev pub IsDone : Chapter → AnswerLineSeen → AnswerSeen → Type 0
IsDone c line (Updated edition) = IsAcknowledged c line edition × (has_restart line.call c.told.entries ≡ false)
IsDone c line (Restarted at) = IsRestarted c line.call at
IsDone c line other = has_restart line.call c.told.entries ≡ false

abbrev pub Acknowledges : Chapter → Type 0
Acknowledges c = Each (λ before line. IsDone c line line.answer) c.told.answers
