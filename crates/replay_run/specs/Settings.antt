-- What the calls of a script are about: maps of settings, and edits of them.
use Rattle.std.specs.Prelude.{List}
use Rattle.folder_disk.specs.declared.fuse_folder.FuseFolder.{FuseFolder}
use Rattle.folder_disk.specs.declared.mem_folder.MemFolder.{MemFolder}
use Rattle.prefs_edit.specs.declared.edit_step.EditStep.{EditStep}
use Rattle.prefs_model.specs.declared.pref_pair.PrefPair.{PrefPair}
use Rattle.shelf.specs.declared.store.Store.{Store}
use Rattle.shelf.specs.Rules.{Rules}
use Rattle.step_table.specs.Calls.{Ask, Call}
use Rattle.step_table.specs.World.{World}
use Rattle.value_cache.specs.Cached.{Cached}

abbrev pub Value : Type 0
Value = List PrefPair

abbrev pub Change : Type 0
Change = List EditStep

abbrev pub PrefCall : Type 0
PrefCall = Call Value Change

-- the folder of a script: in memory, with a fuse
abbrev pub ScriptFolder : Type 0
ScriptFolder = FuseFolder MemFolder

-- what an update asks for, or a read
abbrev pub PrefAsk : Type 0
PrefAsk = Ask Change

abbrev pub PrefWorld : Type 0
PrefWorld = World Value Change

-- a value that a cache keeps
abbrev pub PrefCached : Type 0
PrefCached = Cached Value

abbrev pub PrefRules : Type 1
PrefRules = Rules Value Change

-- a store without migrations of its own
abbrev pub PrefStore : Type 0
PrefStore = Store Value (Unit {0})
