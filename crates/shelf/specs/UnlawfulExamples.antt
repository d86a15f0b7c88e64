-- Histories of the small store that are not lawful, by their last entry.
use Rattle.std.specs.Prelude.{List, [], ◌∷◌}
use Rattle.hist_journal.specs.declared.device.Device.TheVariants.{Folder, Legacy}
use Rattle.hist_journal.specs.declared.seen.KindSeen.TheVariants.{Raise, Edit, Same, Replace, Migrate, Cleared, Synced, Inited, Fault, Death, Restart}
use Rattle.shelf.specs.declared.examples.ExampleEdit.TheVariants.{Set, Add}
use Rattle.shelf.specs.ExampleStore.{Entry, a, b, c, n1, n2}

-- a call changes the value behind the Raise of another
abbrev pub another_raise : List Entry
another_raise = a 1 (Inited n1) ∷ b 1 (Inited n2) ∷ a 1 Raise ∷ b 1 Raise ∷ a 1 (Edit (Set 1)) ∷ []

-- a call changes the value without a Raise
abbrev pub no_raise : List Entry
no_raise = a 1 (Inited n1) ∷ a 1 (Edit (Set 1)) ∷ []

-- a call has two Edits
abbrev pub two_edits : List Entry
two_edits = a 1 (Inited n1) ∷ a 1 Raise ∷ a 1 (Edit (Set 1)) ∷ a 1 Raise ∷ a 1 (Edit (Set 2)) ∷ []

-- a call has two entries behind its Edit
abbrev pub two_ends : List Entry
two_ends = a 1 (Inited n1) ∷ a 1 Raise ∷ a 1 (Edit (Set 1)) ∷ a 1 Synced ∷ a 1 Synced ∷ []

-- a node that died goes on
abbrev pub dead_node : List Entry
dead_node = a 1 (Inited n1) ∷ a 1 (Death n1) ∷ a 2 Raise ∷ []

-- a call goes on behind its Fault
abbrev pub after_fault : List Entry
after_fault = a 1 (Inited n1) ∷ a 1 Raise ∷ a 1 (Fault Folder 1) ∷ a 1 Raise ∷ []

-- a Same changes the value
abbrev pub same_changes : List Entry
same_changes = a 1 (Inited n1) ∷ a 1 (Same (Set 1)) ∷ []

-- an Edit keeps the value
abbrev pub edit_keeps : List Entry
edit_keeps = a 1 (Inited n1) ∷ a 1 Raise ∷ a 1 (Edit (Set 1)) ∷ []

-- an Edit whose transform refuses
abbrev pub refused_edit : List Entry
refused_edit = a 1 (Inited n1) ∷ a 1 Raise ∷ a 1 (Edit (Set 2147483647)) ∷ a 1 Synced ∷ a 2 Raise ∷ a 2 (Edit (Add 1)) ∷ []

-- a file that is readable is replaced
abbrev pub readable_replaced : List Entry
readable_replaced = a 1 Raise ∷ a 1 (Replace 0) ∷ []

-- a node is initialised that is ready
abbrev pub ready_inited : List Entry
ready_inited = a 1 (Inited n1) ∷ a 1 (Inited n1) ∷ []

-- a node that is not ready updates
abbrev pub unready_edit : List Entry
unready_edit = a 1 Raise ∷ a 1 (Edit (Set 1)) ∷ []

-- a node updates behind its restart, before it is initialised again
abbrev pub unready_restart : List Entry
unready_restart = a 1 (Inited n1) ∷ a 1 (Death n1) ∷ b 1 (Restart n1) ∷ a 2 Raise ∷ a 2 (Edit (Set 1)) ∷ []

-- a node is brought back that lives
abbrev pub alive_restart : List Entry
alive_restart = b 1 (Restart n1) ∷ []

-- a call lets another node die
abbrev pub another_dies : List Entry
another_dies = a 1 (Inited n1) ∷ a 1 (Death n2) ∷ []

-- the numbers of a client fall
abbrev pub numbers_fall : List Entry
numbers_fall = a 2 (Inited n1) ∷ a 1 Raise ∷ []

-- the count of a device did not rise
abbrev pub count_stays : List Entry
count_stays = a 1 (Fault Folder 1) ∷ a 2 (Fault Folder 1) ∷ []

-- old settings are taken over, which is not lawful yet
abbrev pub settings_taken : List Entry
settings_taken = a 1 Raise ∷ a 1 (Migrate [] 1) ∷ []

-- a call of a node's former life changes the value
abbrev pub former_life : List Entry
former_life = a 1 (Inited n1) ∷ a 1 Raise ∷ c 1 (Death n1) ∷ b 1 (Restart n1) ∷ a 1 (Edit (Set 1)) ∷ []

-- an unreadable file is replaced by another value than the given one
abbrev pub another_replaced : List Entry
another_replaced = a 1 Raise ∷ a 1 (Replace 1) ∷ []

-- the old settings fail behind an Edit
abbrev pub settings_fault : List Entry
settings_fault = a 1 (Inited n1) ∷ a 1 Raise ∷ a 1 (Edit (Set 1)) ∷ a 1 (Fault Legacy 1) ∷ []

-- a call initialises another node
abbrev pub another_inited : List Entry
another_inited = a 1 (Inited n2) ∷ []

-- a node is initialised where there is no value
abbrev pub inited_unreadable : List Entry
inited_unreadable = a 1 (Inited n1) ∷ []

-- the count of a device is that of the start
abbrev pub count_of_start : List Entry
count_of_start = a 1 (Fault Folder 1) ∷ []

-- old settings are cleared, which is not lawful yet
abbrev pub settings_cleared : List Entry
settings_cleared = a 1 (Cleared []) ∷ []
