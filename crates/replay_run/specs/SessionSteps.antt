-- How a session is opened, and which lines it can follow.
use Rattle.std.specs.Prelude.{◌≡◌, ◌<◌, ℕ, true, List, []}
use Rattle.store_traits.specs.declared.ids.NodeId.{NodeId}
use Rattle.shelf.specs.AddsNode.{is_among}
use Rattle.script_lang.specs.declared.plan.run_line.Act.{Act}
use Rattle.script_lang.specs.declared.plan.run_line.Act.TheVariants as act
use Rattle.script_lang.specs.declared.plan.run_line.RunLine.{RunLine}
use Rattle.script_lang.specs.declared.plan.script.Script.{Script}
use Rattle.script_lang.specs.declared.plan.session_plan.SessionPlan.{SessionPlan}
use Rattle.script_lang.specs.Chronicle.{Basis, first_beginning, store_of, tally_of}
use Rattle.script_lang.specs.Keeps.{IsBuiltAct}
use Rattle.script_lang.specs.TranscriptView.{SessionSeen}
use Rattle.replay_run.specs.declared.running_session.RunningSession.{RunningSession}
use Rattle.replay_run.specs.PrefsBasis.{prefs_basis}
use Rattle.replay_run.specs.SessionInvariant.{SessionInvariant}
use Rattle.replay_run.specs.SessionView.{state_in, store_in}
use Rattle.replay_run.specs.Settings.{PrefStore}
use Rattle.replay_run.specs.Start.{start_of}

-- in the script's first session, by this plan, where its base is this store's, this is the store
abbrev pub IsStoreOf : Basis → Script → SessionPlan → PrefStore → Type 0
IsStoreOf b script plan store = (told : SessionSeen) → told.base ≡ store.base → store ≡ store_of b script (first_beginning script) plan told

-- the first session of the script starts, by this plan
pub record IsOpened (script : Script) (plan : SessionPlan) (session : RunningSession) : Type 0 where
  pub start : state_in session ≡ start_of [] (tally_of (store_in session.shelf).folder.count plan) (store_in session.shelf) script.homes
  pub store : IsStoreOf prefs_basis script plan (store_in session.shelf)
  pub keeps : SessionInvariant session

-- a restart is of one of these nodes
abbrev pub NamesNode : List NodeId → Act → Type 0
NamesNode nodes (act.Restart node) = is_among node nodes ≡ true
NamesNode nodes other = Unit {0}

-- the line asks one of so many clients for something that is built
pub record CanFollow (clients : ℕ) (nodes : List NodeId) (line : RunLine) : Type 0 where
  pub declared : line.client.0 < clients
  pub asked : IsBuiltAct line.act
  pub named : NamesNode nodes line.act
