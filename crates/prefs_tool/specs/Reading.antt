-- What main reads as, and what reading it as a map answers.
use Rattle.std.specs.Prelude.{ℕ, ◌≡◌, ◌<◌, ◌≤◌, Bool, IsTrue, List, [], length, Option, Some, None, Result, Ok, Err}
use Rattle.prefs_model.specs.declared.pref_pair.PrefPair.{PrefPair}
use Rattle.prefs_proto.specs.Reads.{Reads}
use Rattle.prefs_tool.specs.declared.tool_error.ToolError.{ToolError}
use Rattle.prefs_tool.specs.declared.tool_error.ToolError.TheVariants.{Storage, Corrupt, TooLong, NoMemory}

-- the limit of a file, in bytes
abbrev pub file_limit : ℕ
file_limit = 1048576

-- main reads as this map: an absent one as the empty map, and one within the limit as its bytes do
abbrev pub ReadsAs : Option (List ℕ) → List PrefPair → Type 0
ReadsAs None pairs = pairs ≡ []
ReadsAs (Some bytes) pairs = (length bytes ≤ file_limit) × Reads bytes pairs

-- main is within the limit and reads as no map
abbrev pub IsCorrupt : Option (List ℕ) → Type 0
IsCorrupt None = ⊥
IsCorrupt (Some bytes) = (length bytes ≤ file_limit) × ((pairs : List PrefPair) → Reads bytes pairs → ⊥)

-- main has this many bytes, which is past the limit
abbrev pub IsTooLong : Option (List ℕ) → ℕ → Type 0
IsTooLong None len = ⊥
IsTooLong (Some bytes) len = (length bytes ≡ len) × (file_limit < len)

-- Why no map was read: a fault of the folder, of which its count and what is due tell; what main is; or want of memory.
abbrev pub StopsReading : Bool → Option (List ℕ) → ToolError → Type 0
StopsReading told main Storage = Unit {0}
StopsReading told main Corrupt = IsTrue told → IsCorrupt main
StopsReading told main (TooLong len) = IsTrue told → IsTooLong main len
StopsReading told main NoMemory = Unit {0}
StopsReading told main _ = ⊥

abbrev pub ReadsMap : Bool → Option (List ℕ) → Result (List PrefPair) ToolError → Type 0
ReadsMap told main (Ok pairs) = IsTrue told → ReadsAs main pairs
ReadsMap told main (Err e) = StopsReading told main e

-- the same of the bytes of main
abbrev pub ReadsText : List ℕ → Result (List PrefPair) ToolError → Type 0
ReadsText bytes (Ok pairs) = Reads bytes pairs
ReadsText bytes (Err Corrupt) = (pairs : List PrefPair) → Reads bytes pairs → ⊥
ReadsText bytes (Err NoMemory) = Unit {0}
ReadsText bytes (Err _) = ⊥
