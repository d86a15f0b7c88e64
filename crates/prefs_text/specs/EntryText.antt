-- The one text of an entry of a history.
use Rattle.std.specs.Prelude.{ℕ, List, ◌++◌, codes, decimal}
use Rattle.json.specs.Print.{quoted}
use Rattle.prefs_model.specs.declared.pref_pair.PrefPair.{PrefPair}
use Rattle.prefs_edit.specs.declared.edit_step.EditStep.{EditStep}
use Rattle.hist_journal.specs.declared.device.Device.{Device}
use Rattle.hist_journal.specs.declared.device.Device.TheVariants.{Folder, Legacy}
use Rattle.hist_journal.specs.declared.seen.EntrySeen.{EntrySeen}
use Rattle.hist_journal.specs.declared.seen.KindSeen.{KindSeen}
use Rattle.hist_journal.specs.declared.seen.KindSeen.TheVariants.{Raise, Edit, Same, Replace, Migrate, Synced, Cleared, Inited, Fault, Death, Restart}
use Rattle.prefs_text.specs.declared.names.Names.{Names}
use Rattle.prefs_text.specs.Callers.{HasNode, HasCaller, node_name, call_text}
use Rattle.prefs_text.specs.EditText.{edit_text}
use Rattle.prefs_text.specs.MapText.{map_text}
use Rattle.prefs_text.specs.ValueText.{list_text}

-- a kind of entries of maps and edits
abbrev pub PrefKind : Type 0
PrefKind = KindSeen (List PrefPair) (List EditStep)

abbrev pub PrefEntry : Type 0
PrefEntry = EntrySeen (List PrefPair) (List EditStep)

abbrev pub device_name : Device → List ℕ
device_name Folder = codes "folder"
device_name Legacy = codes "legacy"

-- what the entry says
unfoldable pub kind_text : Names → PrefKind → List ℕ
kind_text names Raise = codes "raise"
kind_text names (Edit steps) = codes "edit " ++ edit_text steps
kind_text names (Same steps) = codes "same " ++ edit_text steps
kind_text names (Replace map) = codes "replace " ++ map_text map
kind_text names (Migrate sections map) = codes "migrate " ++ list_text sections ++ codes " " ++ map_text map
kind_text names Synced = codes "synced"
kind_text names (Cleared section) = codes "cleared " ++ quoted section
kind_text names (Inited node) = codes "inited " ++ node_name names node
kind_text names (Fault device count) = codes "fault " ++ device_name device ++ codes " " ++ decimal count
kind_text names (Death node) = codes "death " ++ node_name names node
kind_text names (Restart node) = codes "restart " ++ node_name names node

-- its place, counted from 1, the call that added it, and what it says
unfoldable pub entry_text : Names → ℕ → PrefEntry → List ℕ
entry_text names at entry = codes "entry " ++ decimal at ++ codes " " ++ call_text names entry.who ++ codes " " ++ kind_text names entry.kind

-- a node that the kind names has a name
abbrev pub KindHasNames : Names → PrefKind → Type 0
KindHasNames names (Inited node) = HasNode names node
KindHasNames names (Death node) = HasNode names node
KindHasNames names (Restart node) = HasNode names node
KindHasNames names _ = Unit {0}

-- whoever the text of the entry names has a name
pub record EntryHasNames (names : Names) (entry : PrefEntry) : Type 0 where
  pub caller : HasCaller names entry.who.client
  pub node : KindHasNames names entry.kind
