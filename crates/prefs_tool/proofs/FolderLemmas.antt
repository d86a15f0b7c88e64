-- What was asked of the folder, one part after the other.
use Rattle.std.proofs.Common.{◌≡◌, ◌∙◌, Bool, false, List, [], ◌∷◌, refl, ap}
use Rattle.folder_disk.specs.declared.call.FolderCall.{FolderCall}
use Rattle.folder_disk.specs.declared.call.FolderCall.TheVariants.{ReadMain}
use Rattle.folder_disk.specs.Contents.{Contents, ChangesScratch, LoosensScratch, Scratch}
use Rattle.folder_disk.specs.Seen.{FolderSeen}
use Rattle.folder_disk.proofs.CallLemmas.{makes_more, makes_none}
use Rattle.prefs_tool.specs.Folder.{Leaves, OnlyReads, SparesMain, Untouched}

-- nothing was asked
pub untouched : (folder : FolderSeen) → Untouched folder folder
untouched folder = record { contents = refl; made = makes_none folder.tally.due }

-- a call that is none of the device, and left all as it was
pub untouched_by : (old new : FolderSeen) → new.contents ≡ old.contents → new.tally ≡ old.tally → Untouched old new
untouched_by old new contents tally = record { contents = contents; made = record { failed = refl; due = ap (λ t. t.due) tally } }

-- what was asked once main was read
pub behind_reading : (holds : Contents → Contents) (calls : List FolderCall) (has_failed : Bool) (old middle new : FolderSeen)
    → OnlyReads false old middle → Leaves (holds middle.contents) calls has_failed middle new → Leaves (holds old.contents) (ReadMain ∷ calls) has_failed old new
behind_reading holds calls has_failed old middle new read next = record {
  contents = next.contents ∙ ap holds read.contents;
  made = makes_more (ReadMain ∷ []) calls has_failed old.tally.due middle.tally.due new.tally.due read.made next.made;
}

-- ---- the scratch file alone

pub spares_same : (old new : Contents) → new ≡ old → SparesMain old new
spares_same old new same = record {
  main = ap (λ (c : Contents). c.main) same;
  kept = ap (λ (c : Contents). c.kept) same;
  first = ap (λ (c : Contents). c.first) same;
  alone = ap (λ (c : Contents). c.alone) same;
}

pub spares_changed : (scratch : Scratch) (old new : Contents) → ChangesScratch scratch old new → SparesMain old new
spares_changed scratch old new changes = record { main = changes.main; kept = changes.kept; first = changes.first; alone = changes.alone }

pub spares_loosened : (old new : Contents) → LoosensScratch old new → SparesMain old new
spares_loosened old new loosens = record { main = loosens.main; kept = loosens.kept; first = loosens.first; alone = loosens.alone }

pub spares_both : (old middle new : Contents) → SparesMain old middle → SparesMain middle new → SparesMain old new
spares_both old middle new one two = record {
  main = two.main ∙ one.main;
  kept = two.kept ∙ one.kept;
  first = two.first ∙ one.first;
  alone = two.alone ∙ one.alone;
}
