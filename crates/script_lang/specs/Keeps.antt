-- What is asked of each script: of its names, its ids, its numbers and its limits; and which scripts are built so far.
use Rattle.std.specs.Prelude.{ℕ, ◌≡◌, ◌<◌, ◌≤◌, true, false, None, List, [], ◌∷◌, length, sum_by, All, Contains, Some, IfSome, slice_get}
use Rattle.store_traits.specs.declared.ids.NodeId.{NodeId}
use Rattle.folder_disk.specs.declared.call.Planned.{Planned}
use Rattle.prefs_edit.specs.Edit.{IsEdit}
use Rattle.prefs_text.specs.declared.names.Names.{Names}
use Rattle.script_words.specs.Names.{IsName, reserved}
use Rattle.shelf.specs.declared.store.PlannedDeath.{PlannedDeath}
use Rattle.script_lang.specs.declared.plan.run_line.Act.{Act}
use Rattle.script_lang.specs.declared.plan.run_line.Act.TheVariants.{Update, Read, Post, Restart, Go}
use Rattle.script_lang.specs.declared.plan.run_line.RunLine.{RunLine}
use Rattle.script_lang.specs.declared.plan.script.Script.{Script}
use Rattle.script_lang.specs.declared.plan.session_plan.SessionPlan.{SessionPlan}
use Rattle.script_lang.specs.DeathSteps.{can_die_at}
use Rattle.script_lang.specs.SessionPlans.{StopBetween, lines_in}

-- the word can name a node or a client
pub record CanName (word : List ℕ) : Type 0 where
  pub formed : IsName word
  pub free : ¬ Contains reserved word

-- no name stands at two places
abbrev pub StandOnce : List (List ℕ) → Type 0
StandOnce names = (i j : ℕ) (name : List ℕ) → slice_get names i ≡ Some name → slice_get names j ≡ Some name → i ≡ j

-- the names of nodes and of clients, all of them different
pub record KeepsNames (nodes clients : List (List ℕ)) : Type 0 where
  pub nodes_named : All CanName nodes
  pub clients_named : All CanName clients
  pub nodes_once : StandOnce nodes
  pub clients_once : StandOnce clients
  pub apart : (name : List ℕ) → Contains nodes name → ¬ Contains clients name
  pub few_nodes : length nodes ≤ 16
  pub few_clients : length clients ≤ 64

-- each client has a node
pub record KeepsHomes (nodes clients : List (List ℕ)) (homes : List NodeId) : Type 0 where
  pub one_each : length homes ≡ length clients
  pub declared : All (λ home. home.0 < length nodes) homes

-- what a line may ask of its client
abbrev pub KeepsAct : (nodes : List (List ℕ)) → Act → Type 0
KeepsAct nodes (Update edit) = IsEdit edit
KeepsAct nodes (Post edit) = IsEdit edit
KeepsAct nodes (Restart node) = node.0 < length nodes
KeepsAct nodes (Go steps) = steps ≤ 1000
KeepsAct nodes other = Unit {0}

pub record KeepsRun (names : Names) (line : RunLine) : Type 0 where
  pub declared : line.client.0 < length names.clients
  pub act : KeepsAct names.nodes line.act

pub record KeepsEntries (entries : ℕ) : Type 0 where
  pub some : 1 ≤ entries
  pub few : entries ≤ 100000

-- the death is of a call of a client, on its node, before a step that is a turn; the calls are counted from 1, and their numbers end at 4,294,967,295
pub record KeepsDeath (homes : List NodeId) (death : PlannedDeath) : Type 0 where
  pub home : slice_get homes death.call.client.0 ≡ Some death.call.node
  pub first : 1 ≤ death.call.number
  pub few : death.call.number ≤ 4294967295
  pub step : can_die_at death.step ≡ true

-- the calls of a kind are counted from 1, and the numbers of planned failures end at 4,294,967,295
pub record KeepsFault (planned : Planned) : Type 0 where
  pub first : 1 ≤ planned.number
  pub few : planned.number ≤ 4294967295

pub record KeepsPlan (script : Script) (plan : SessionPlan) : Type 0 where
  pub faults : All KeepsFault plan.folder_faults
  pub fuse : IfSome plan.fuse (λ left. left ≤ 4294967295)
  pub deaths : All (KeepsDeath script.homes) plan.deaths
  pub runs : All (KeepsRun script.names) plan.lines

pub record KeepsSessions (script : Script) : Type 0 where
  pub plans : All (KeepsPlan script) script.sessions
  pub stops : StopBetween script.sessions
  pub few : sum_by lines_in script.sessions ≤ 100000

-- the acts that are built so far
abbrev pub IsBuiltAct : Act → Type 0
IsBuiltAct (Update edit) = Unit {0}
IsBuiltAct Read = Unit {0}
IsBuiltAct (Restart node) = Unit {0}
IsBuiltAct (Go steps) = Unit {0}
IsBuiltAct other = ⊥

-- what lines say so far: one session, in which calls of the folder may fail and nodes die
pub record IsBuilt (script : Script) : Type 0 where
  pub plan : SessionPlan
  pub only : script.sessions ≡ plan ∷ []
  pub unstopped : plan.stop ≡ None
  pub acts : All (λ line. IsBuiltAct line.act) plan.lines
  pub unreplaced : script.start.replace ≡ false

pub record Keeps (script : Script) : Type 0 where
  pub names : KeepsNames script.names.nodes script.names.clients
  pub homes : KeepsHomes script.names.nodes script.names.clients script.homes
  pub entries : KeepsEntries script.start.entries
  pub sessions : KeepsSessions script
  pub built : IsBuilt script
