-- How many turns a call has left at most, where none of them is blocked: one for each byte of what it writes, and some beside.
use Rattle.std.specs.Prelude.{ℕ, ◌+◌, Bool, length, if◌then◌else◌}
use Rattle.step_table.specs.Calls.{At, First, Purpose, Initialise, Serve, ServeUnlocked, Reading, Migrating, Finishing, Raising, Writing, Stage, Creating, Appending, SyncingScratch, Renaming, SyncingFolder, Restarting, Gone, Plan}

abbrev pub behind_reading : Purpose → ℕ
behind_reading Initialise = 10
behind_reading Serve = 6
behind_reading ServeUnlocked = 6

abbrev pub writing_left : {V T : Type 0} → Stage → Plan V T → ℕ
writing_left Creating plan = length plan.text.rest + 4
writing_left Appending plan = length plan.text.rest + 3
writing_left SyncingScratch plan = 3
writing_left Renaming plan = 2

-- `limit` is how many bytes main may have; `initialised` says that the call has initialised its node
module _ {V T : Type 0} (limit : ℕ) (initialised : Bool) where
  abbrev pub steps_left : At V T → ℕ
  steps_left (First ask) = limit + (if initialised then 7 else 11)
  steps_left (Reading purpose ask) = limit + behind_reading purpose
  steps_left (Migrating ask value) = limit + 9
  steps_left (Finishing ask) = limit + 8
  steps_left (Raising plan) = length plan.text.rest + 5
  steps_left (Writing stage plan) = writing_left stage plan
  steps_left (SyncingFolder ending) = 1
  steps_left (Restarting node) = 1
  steps_left Gone = 0
