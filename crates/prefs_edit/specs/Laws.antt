-- What laws say of the steps of an edit.
use Rattle.std.specs.Prelude.{ℕ, ◌≢◌, List}
use Rattle.std.specs.Str.{IsUtf8}
use Rattle.prefs_model.specs.Map.{IsKey}
use Rattle.prefs_model.specs.Value.{IsValue}
use Rattle.prefs_edit.specs.declared.edit_step.EditStep.{EditStep}
use Rattle.prefs_edit.specs.declared.edit_step.EditStep.TheVariants.{Set, Remove, Clear, AddInt, AddLong, Toggle, InsertText, RemoveText, Require}

-- the step is no `clear`, and none that changes this key
abbrev pub LeavesAlone : List ℕ → EditStep → Type 0
LeavesAlone key (Set other value) = key ≢ other
LeavesAlone key (Remove other) = key ≢ other
LeavesAlone key Clear = ⊥
LeavesAlone key (AddInt other amount) = key ≢ other
LeavesAlone key (AddLong other amount) = key ≢ other
LeavesAlone key (Toggle other) = key ≢ other
LeavesAlone key (InsertText other text) = key ≢ other
LeavesAlone key (RemoveText other text) = key ≢ other
LeavesAlone key (Require other value) = Unit {0}

-- what holds of each step by its type
abbrev pub IsStep : EditStep → Type 0
IsStep (Set key value) = IsKey key × IsValue value
IsStep (Remove key) = IsKey key
IsStep Clear = Unit {0}
IsStep (AddInt key amount) = IsKey key
IsStep (AddLong key amount) = IsKey key
IsStep (Toggle key) = IsKey key
IsStep (InsertText key text) = IsKey key × IsUtf8 text
IsStep (RemoveText key text) = IsKey key × IsUtf8 text
IsStep (Require key value) = IsKey key × IsValue value
