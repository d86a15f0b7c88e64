-- What a read of main gives, and why it gives nothing.
use Rattle.std.specs.Prelude.{ℕ, ◌≡◌, ◌<◌, ◌≤◌, Bool, true, false, IsTrue, List, Option, Some, None, length, Result, Ok, Err}
use Rattle.folder_disk.specs.declared.main_read.MainRead.{MainRead}
use Rattle.folder_disk.specs.declared.main_read.MainRead.TheVariants.{Absent, Bytes}
use Rattle.folder_disk.specs.declared.main_read.ReadMainError.{ReadMainError}
use Rattle.folder_disk.specs.declared.main_read.ReadMainError.TheVariants.{Failed, TooLong, NoMemory}

abbrev pub main_of : MainRead → Option (List ℕ)
main_of Absent = None
main_of (Bytes bytes) = Some bytes

abbrev pub HasLength : Option (List ℕ) → ℕ → Type 0
HasLength (Some bytes) len = length bytes ≡ len
HasLength None len = ⊥

abbrev pub FitsLimit : ℕ → Option (List ℕ) → Type 0
FitsLimit limit (Some bytes) = length bytes ≤ limit
FitsLimit limit None = Unit {0}

abbrev pub is_failed : Result MainRead ReadMainError → Bool
is_failed (Err Failed) = true
is_failed (Err (TooLong len)) = false
is_failed (Err NoMemory) = false
is_failed (Ok read) = false

-- main as it is where it is within the limit, and its length where it is not, before memory is asked for
abbrev pub ReadsMain : Bool → ℕ → Option (List ℕ) → Result MainRead ReadMainError → Type 0
ReadsMain told limit main (Ok Absent) = IsTrue told → main ≡ None
ReadsMain told limit main (Ok (Bytes bytes)) = (length bytes ≤ limit) × (IsTrue told → main ≡ Some bytes)
ReadsMain told limit main (Err Failed) = Unit {0}
ReadsMain told limit main (Err (TooLong len)) = (limit < len) × (IsTrue told → HasLength main len)
ReadsMain told limit main (Err NoMemory) = IsTrue told → FitsLimit limit main
