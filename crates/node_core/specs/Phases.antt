-- What each step says of its call: what it owns, and how much room it has left.
use Rattle.std.specs.Prelude.{ℕ, Bool, true, false}
use Rattle.shelf.specs.Takes.{most_entries}
use Rattle.step_table.specs.Calls.{Ask, At, First, Purpose, Initialise, Serve, ServeUnlocked, Reading, Migrating, Finishing, Raising, Writing, SyncingFolder, Restarting, Gone, Changed, Kept, initialises, want_of}

-- main is read under the lock
abbrev pub is_locked : Purpose → Bool
is_locked ServeUnlocked = false
is_locked other = true

abbrev pub room_for : {T : Type 0} → Purpose → Ask T → ℕ
room_for Initialise ask = most_entries (want_of ask) false
room_for Serve ask = most_entries (want_of ask) true
room_for ServeUnlocked ask = 0

module _ {V T : Type 0} where
  -- the call owns the lock
  abbrev pub is_holding : At V T → Bool
  is_holding (First ask) = false
  is_holding (Reading purpose ask) = is_locked purpose
  is_holding (Restarting node) = false
  is_holding Gone = false
  is_holding other = true

  -- it owns the lock to initialise its node
  abbrev pub is_initialising : At V T → Bool
  is_initialising (Reading purpose ask) = initialises purpose
  is_initialising (Migrating ask value) = true
  is_initialising (Finishing ask) = true
  is_initialising other = false

  -- its next turn tells that its node is initialised
  abbrev pub is_finishing : At V T → Bool
  is_finishing (Finishing ask) = true
  is_finishing other = false

  -- its Raise is open
  abbrev pub is_raised : At V T → Bool
  is_raised (Writing stage plan) = true
  is_raised other = false

  -- how many entries its holding may still add
  abbrev pub room_at : At V T → ℕ
  room_at (First ask) = 0
  room_at (Reading purpose ask) = room_for purpose ask
  room_at (Migrating ask value) = 1
  room_at (Finishing ask) = 1
  room_at (Raising plan) = 3
  room_at (Writing stage plan) = 2
  room_at (SyncingFolder (Changed place)) = 1
  room_at (SyncingFolder (Kept edit)) = 3
  room_at (Restarting node) = 0
  room_at Gone = 0
