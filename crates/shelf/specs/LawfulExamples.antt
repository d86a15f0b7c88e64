-- Lawful histories of the small store, each as a script would leave it.
use Rattle.std.specs.Prelude.{List, [], ◌∷◌}
use Rattle.hist_journal.specs.declared.device.Device.TheVariants.{Folder}
use Rattle.hist_journal.specs.declared.seen.KindSeen.TheVariants.{Raise, Edit, Same, Replace, Synced, Inited, Fault, Death, Restart}
use Rattle.shelf.specs.declared.examples.ExampleEdit.TheVariants.{Set, Add}
use Rattle.shelf.specs.ExampleStore.{Entry, a, b, c, n1, n2}

-- two nodes add 1, one after the other
abbrev pub two_nodes : List Entry
two_nodes = a 1 (Inited n1) ∷ a 1 Raise ∷ a 1 (Edit (Add 1)) ∷ a 1 Synced ∷ b 1 (Inited n2) ∷ b 1 Raise ∷ b 1 (Edit (Add 1)) ∷ b 1 Synced ∷ []

-- a node is initialised by a read, and another updates
abbrev pub read_between : List Entry
read_between = a 1 (Inited n1) ∷ b 1 (Inited n2) ∷ a 1 Raise ∷ a 1 (Edit (Set 1)) ∷ a 1 Synced ∷ []

-- 1 is set where it is there already
abbrev pub equal_value : List Entry
equal_value = a 1 (Inited n1) ∷ a 1 (Same (Set 1)) ∷ a 1 Synced ∷ []

-- a node dies between its raise and its rename, and another updates
abbrev pub death_after_raise : List Entry
death_after_raise = a 1 (Inited n1) ∷ b 1 (Inited n2) ∷ a 1 Raise ∷ a 1 (Death n1) ∷ b 1 Raise ∷ b 1 (Edit (Set 2)) ∷ b 1 Synced ∷ []

-- a node dies behind its rename, and another sets the same number
abbrev pub death_after_rename : List Entry
death_after_rename = a 1 (Inited n1) ∷ a 1 Raise ∷ a 1 (Edit (Set 1)) ∷ a 1 (Death n1) ∷ b 1 (Inited n2) ∷ b 1 (Same (Set 1)) ∷ b 1 Synced ∷ []

-- the sync of the folder fails
abbrev pub sync_fails : List Entry
sync_fails = a 1 (Inited n1) ∷ a 1 Raise ∷ a 1 (Edit (Set 1)) ∷ a 1 (Fault Folder 1) ∷ []

-- a rename fails, and the next update goes well
abbrev pub rename_fails : List Entry
rename_fails = a 1 (Inited n1) ∷ a 1 Raise ∷ a 1 (Fault Folder 1) ∷ a 2 Raise ∷ a 2 (Edit (Set 2)) ∷ a 2 Synced ∷ []

-- a rename fails, and everything behind it
abbrev pub folder_fails : List Entry
folder_fails = a 1 (Inited n1) ∷ a 1 Raise ∷ a 1 (Fault Folder 1) ∷ a 2 (Fault Folder 2) ∷ []

-- the greatest number is set
abbrev pub greatest : List Entry
greatest = a 1 (Inited n1) ∷ a 1 Raise ∷ a 1 (Edit (Set 2147483647)) ∷ a 1 Synced ∷ []

-- an unreadable file is replaced by the first of two nodes that read
abbrev pub replaced : List Entry
replaced = a 1 Raise ∷ a 1 (Replace 0) ∷ a 1 Synced ∷ a 1 (Inited n1) ∷ b 1 (Inited n2) ∷ []

-- a node dies, is brought back by another, and updates
abbrev pub restarted : List Entry
restarted = a 1 (Inited n1) ∷ a 1 (Death n1) ∷ b 1 (Restart n1) ∷ a 2 (Inited n1) ∷ a 2 Raise ∷ a 2 (Edit (Set 2)) ∷ a 2 Synced ∷ []

-- a node dies in one call between the raise and the rename of another, and is brought back
abbrev pub former_life : List Entry
former_life = a 1 (Inited n1) ∷ a 1 Raise ∷ c 1 (Death n1) ∷ b 1 (Restart n1) ∷ []
