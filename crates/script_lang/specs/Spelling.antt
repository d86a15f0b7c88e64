-- How a line spells what it says.
use Rattle.std.specs.Prelude.{ℕ, ◌≡◌, List, Some, slice_get}
use Rattle.folder_disk.specs.declared.call.Planned.{Planned}
use Rattle.folder_disk.specs.declared.main_read.MainRead.{MainRead}
use Rattle.store_traits.specs.declared.ids.ClientId.{ClientId}
use Rattle.store_traits.specs.declared.ids.NodeId.{NodeId}
use Rattle.shelf.specs.declared.store.PlannedDeath.{PlannedDeath}
use Rattle.script_lang.specs.declared.parsing.draft.Draft.{Draft}
use Rattle.script_lang.specs.declared.parsing.line.Line.{Line}
use Rattle.script_lang.specs.declared.parsing.line.Line.TheVariants.{Nothing, File, History, Node, Client, Fault, Fuse, Die, Run}
use Rattle.script_lang.specs.declared.parsing.line_word.LineWord.TheVariants as word
use Rattle.script_lang.specs.declared.plan.run_line.Act.{Act}
use Rattle.script_lang.specs.declared.plan.run_line.Act.TheVariants.{Go}
use Rattle.script_lang.specs.CallWords.{CallsFor}
use Rattle.script_lang.specs.Rows.{Row, keyword, call, HasRow, IsSkipped, IsFileRow, IsHistoryRow, IsNodeRow, IsClientRow, IsFaultRow, IsFuseRow, IsDieRow, IsGoRow}

pub record SpellsFile (row : Row) (main : MainRead) : Type 0 where
  pub behind : List (List ℕ)
  pub is : row ≡ keyword word.File behind
  pub follow : IsFileRow behind main

pub record SpellsHistory (row : Row) (entries : ℕ) : Type 0 where
  pub behind : List (List ℕ)
  pub is : row ≡ keyword word.History behind
  pub follow : IsHistoryRow behind entries

pub record SpellsNode (row : Row) (name : List ℕ) : Type 0 where
  pub behind : List (List ℕ)
  pub is : row ≡ keyword word.Node behind
  pub follow : IsNodeRow behind name

-- the node is named, and stands at its place of the list
pub record SpellsClient (draft : Draft) (row : Row) (name : List ℕ) (home : NodeId) : Type 0 where
  pub behind : List (List ℕ)
  pub home_name : List ℕ
  pub is : row ≡ keyword word.Client behind
  pub follow : IsClientRow behind name home_name
  pub declared : slice_get draft.nodes home.0 ≡ Some home_name

pub record SpellsFault (row : Row) (planned : Planned) : Type 0 where
  pub behind : List (List ℕ)
  pub is : row ≡ keyword word.Fault behind
  pub follow : IsFaultRow behind planned

pub record SpellsFuse (row : Row) (left : ℕ) : Type 0 where
  pub behind : List (List ℕ)
  pub is : row ≡ keyword word.Fuse behind
  pub follow : IsFuseRow behind left

-- the call is one of the client, on its node
pub record SpellsDeath (draft : Draft) (row : Row) (death : PlannedDeath) : Type 0 where
  pub behind : List (List ℕ)
  pub name : List ℕ
  pub is : row ≡ keyword word.Die behind
  pub follow : IsDieRow behind name death.call.number death.step
  pub declared : slice_get draft.clients death.call.client.0 ≡ Some name
  pub home : slice_get draft.homes death.call.client.0 ≡ Some death.call.node

pub record SpellsGo (draft : Draft) (row : Row) (client : ClientId) (steps : ℕ) : Type 0 where
  pub behind : List (List ℕ)
  pub name : List ℕ
  pub is : row ≡ keyword word.Go behind
  pub follow : IsGoRow behind name steps
  pub declared : slice_get draft.clients client.0 ≡ Some name

pub record SpellsCall (draft : Draft) (row : Row) (client : ClientId) (act : Act) : Type 0 where
  pub name : List ℕ
  pub behind : List (List ℕ)
  pub is : row ≡ call name behind
  pub follow : CallsFor draft.nodes behind act
  pub declared : slice_get draft.clients client.0 ≡ Some name

abbrev pub SpellsAct : Draft → Row → ClientId → Act → Type 0
SpellsAct draft row client (Go steps) = SpellsGo draft row client steps
SpellsAct draft row client act = SpellsCall draft row client act

abbrev pub Spells : Draft → Row → Line → Type 0
Spells draft row Nothing = ⊥
Spells draft row (File main) = SpellsFile row main
Spells draft row (History entries) = SpellsHistory row entries
Spells draft row (Node name) = SpellsNode row name
Spells draft row (Client name home) = SpellsClient draft row name home
Spells draft row (Fault planned) = SpellsFault row planned
Spells draft row (Fuse left) = SpellsFuse row left
Spells draft row (Die death) = SpellsDeath draft row death
Spells draft row (Run line) = SpellsAct draft row line.client line.act

-- some row that the line has spells this
pub record SomeRowSpells (draft : Draft) (line : List ℕ) (said : Line) : Type 0 where
  pub read : ¬ IsSkipped line
  pub row : Row
  pub of_line : HasRow line row
  pub spells : Spells draft row said

abbrev pub LineSpells : Draft → List ℕ → Line → Type 0
LineSpells draft line Nothing = IsSkipped line
LineSpells draft line said = SomeRowSpells draft line said
