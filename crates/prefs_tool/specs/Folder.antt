-- What a command asks of the folder, and what it leaves in it.
use Rattle.std.specs.Prelude.{ℕ, ◌≡◌, ◌+◌, ◌/◌, Bool, true, false, List, [], ◌∷◌, ◌++◌, replicate, Result, Err}
use Rattle.folder_disk.specs.declared.call.FolderCall.{FolderCall}
use Rattle.folder_disk.specs.declared.call.FolderCall.TheVariants.{ReadMain, Create, Append, SyncScratch, Rename, SyncFolder}
use Rattle.folder_disk.specs.Calls.{Makes}
use Rattle.folder_disk.specs.Contents.{Contents, Synced, renamed}
use Rattle.folder_disk.specs.Seen.{FolderSeen}
use Rattle.prefs_tool.specs.declared.tool_error.ToolError.{ToolError}
use Rattle.prefs_tool.specs.declared.tool_error.ToolError.TheVariants.{Storage}

-- whether the folder failed
abbrev pub is_storage : {T : Type 0} → Result T ToolError → Bool
is_storage (Err Storage) = true
is_storage _ = false

-- these calls were made of the folder, one after the other, up to the first that was due to fail; and it holds this then
pub record Leaves (contents_after : Contents) (calls : List FolderCall) (has_failed : Bool) (old new : FolderSeen) : Type 0 where
  pub contents : new.contents ≡ contents_after
  pub made : Makes calls has_failed old.tally.due new.tally.due

-- nothing was asked of the folder
abbrev pub Untouched : FolderSeen → FolderSeen → Type 0
Untouched old new = Leaves old.contents [] false old new

-- main was read or failed to be, and the folder is whole
abbrev pub OnlyReads : Bool → FolderSeen → FolderSeen → Type 0
OnlyReads has_failed old new = Leaves old.contents (ReadMain ∷ []) has_failed old new

-- only the scratch file may differ
pub record SparesMain (old new : Contents) : Type 0 where
  pub main : new.main ≡ old.main
  pub kept : new.kept ≡ old.kept
  pub first : new.first ≡ old.first
  pub alone : new.alone ≡ old.alone

-- the folder once this text was moved over main, from a scratch file that was on the disk
abbrev pub replaced : List ℕ → Contents → Contents
replaced text c = renamed (record c { scratch = Synced text })

-- ---- the calls by which a text of so many bytes becomes main

-- pieces of 4,096 bytes, but for the last, which may have less
abbrev pub append_calls : ℕ → List FolderCall
append_calls len = replicate ((len + 4095) / 4096) Append

abbrev pub fill_calls : ℕ → List FolderCall
fill_calls len = Create ∷ (append_calls len ++ (SyncScratch ∷ []))

abbrev pub write_calls : ℕ → List FolderCall
write_calls len = fill_calls len ++ (Rename ∷ SyncFolder ∷ [])
