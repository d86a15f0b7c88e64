-- The words behind a client's name, and what they call for.
use Rattle.std.specs.Prelude.{ℕ, ◌≡◌, ◌⊎◌, List, [], ◌∷◌, Contains, Some, codes, slice_get, Result, MatchResult}
use Rattle.prefs_edit.specs.declared.edit_step.EditStep.{EditStep}
use Rattle.store_traits.specs.declared.ids.NodeId.{NodeId}
use Rattle.script_words.specs.EditWords.{AreEditWords, HasUnknown}
use Rattle.script_lang.specs.declared.parsing.script_error.ScriptFault.{ScriptFault}
use Rattle.script_lang.specs.declared.parsing.script_error.ScriptFault.TheVariants.{UnknownWord, BadValue, UnknownName, NoMemory}
use Rattle.script_lang.specs.declared.plan.run_line.Act.{Act}
use Rattle.script_lang.specs.declared.plan.run_line.Act.TheVariants.{Update, Read, Restart}

-- what words call for by themselves: a node is a name, whatever its form
pub data Called : Type 0 where
  to_update : List EditStep → Called
  to_read : Called
  to_restart : List ℕ → Called

-- `update EDIT`
pub record AreUpdateWords (behind : List (List ℕ)) (edit : List EditStep) : Type 0 where
  pub words : List (List ℕ)
  pub row : behind ≡ codes "update" ∷ words
  pub follow : AreEditWords words edit

-- the calls that are understood so far; nothing stands behind `read`, and nothing behind the node of `restart`
abbrev pub AreCallWords : List (List ℕ) → Called → Type 0
AreCallWords behind (to_update edit) = AreUpdateWords behind edit
AreCallWords behind to_read = behind ≡ codes "read" ∷ []
AreCallWords behind (to_restart name) = behind ≡ codes "restart" ∷ name ∷ []

abbrev pub IsCallWord : List ℕ → Type 0
IsCallWord word = (word ≡ codes "update") ⊎ ((word ≡ codes "read") ⊎ (word ≡ codes "restart"))

-- no word in the place of a call, or one that is none; or an unknown word in an edit
abbrev pub HasUnknownCall : List (List ℕ) → Type 0
HasUnknownCall [] = Unit {0}
HasUnknownCall (word ∷ words) = (¬ IsCallWord word) ⊎ ((word ≡ codes "update") × HasUnknown words)

abbrev pub AreNoCall : List (List ℕ) → Type 0
AreNoCall behind = (called : Called) → ¬ AreCallWords behind called

-- the node is named, and stands at its place of the list
pub record RestartsNode (nodes : List (List ℕ)) (name : List ℕ) (act : Act) : Type 0 where
  pub node : NodeId
  pub is : act ≡ Restart node
  pub declared : slice_get nodes node.0 ≡ Some name

-- what is called for, where the nodes have these names
abbrev pub AsksFor : List (List ℕ) → Called → Act → Type 0
AsksFor nodes (to_update edit) act = act ≡ Update edit
AsksFor nodes to_read act = act ≡ Read
AsksFor nodes (to_restart name) act = RestartsNode nodes name act

pub record CallsFor (nodes behind : List (List ℕ)) (act : Act) : Type 0 where
  pub called : Called
  pub words : AreCallWords behind called
  pub asks : AsksFor nodes called act

-- the word in the place of a node is the name of none, whatever stands behind it
pub record RestartsUnknown (nodes behind : List (List ℕ)) : Type 0 where
  pub name : List ℕ
  pub more : List (List ℕ)
  pub words : behind ≡ codes "restart" ∷ name ∷ more
  pub unknown : ¬ Contains nodes name

-- the words are a restart, but of no node
pub record IsRestartOfNone (nodes behind : List (List ℕ)) : Type 0 where
  pub name : List ℕ
  pub words : AreCallWords behind (to_restart name)
  pub unknown : ¬ Contains nodes name

-- the least fault of the words, each with its cause; or want of memory
abbrev pub IsCallFault : (nodes behind : List (List ℕ)) → ScriptFault → Type 0
IsCallFault nodes behind UnknownWord = HasUnknownCall behind
IsCallFault nodes behind BadValue = (¬ HasUnknownCall behind) × AreNoCall behind
IsCallFault nodes behind UnknownName = IsRestartOfNone nodes behind
IsCallFault nodes behind NoMemory = Unit {0}
IsCallFault nodes behind _ = ⊥

-- what the reading of the words answers: what they call for, or a fault
abbrev pub ReadsCall : (nodes behind : List (List ℕ)) → Result Act ScriptFault → Type 0
ReadsCall nodes behind answer = MatchResult answer (CallsFor nodes behind) (IsCallFault nodes behind)
