-- What the bytes of main say of main.
use Rattle.std.proofs.Common.{◌≡◌, ◌≤◌, ℕ, Bool, false, IsTrue, Result, Ok, Err, Option, Some, None, List, length, refl, sym, subst}
use Rattle.prefs_model.specs.declared.pref_pair.PrefPair.{PrefPair}
use Rattle.prefs_tool.specs.Folder.{is_storage}
use Rattle.prefs_tool.specs.Reading.{file_limit, ReadsAs, IsCorrupt, ReadsText, ReadsMap}
use Rattle.prefs_tool.specs.declared.tool_error.ToolError.{ToolError}
use Rattle.prefs_tool.specs.declared.tool_error.ToolError.TheVariants.{Corrupt, NoMemory}

-- what the bytes of main read as is what main reads as
pub reads_bytes : (told : Bool) (main : Option (List ℕ)) (bytes : List ℕ) (r : Result (List PrefPair) ToolError)
    → (length bytes ≤ file_limit) × (IsTrue told → main ≡ Some bytes) → ReadsText bytes r → ReadsMap told main r
reads_bytes told main bytes (Ok pairs) read text = λ is_told. subst (λ (m : Option (List ℕ)). ReadsAs m pairs) (sym (read.1 is_told)) (read.0, text)
reads_bytes told main bytes (Err Corrupt) read text = λ is_told. subst IsCorrupt (sym (read.1 is_told)) (read.0, text)
reads_bytes told main bytes (Err NoMemory) read text = tt
reads_bytes told main bytes (Err e) read text = absurd text

-- and no fault of the folder
pub no_storage_of_bytes : (bytes : List ℕ) (r : Result (List PrefPair) ToolError) → ReadsText bytes r → is_storage r ≡ false
no_storage_of_bytes bytes (Ok pairs) text = refl
no_storage_of_bytes bytes (Err Corrupt) text = refl
no_storage_of_bytes bytes (Err NoMemory) text = refl
no_storage_of_bytes bytes (Err e) text = absurd text
