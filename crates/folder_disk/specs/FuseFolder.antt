-- What a folder with a fuse stands for: the folder within, whose calls fail once the fuse is used up.
use Rattle.std.specs.Prelude.{ℕ, ◌+◌, ◌-◌, ◌^◌, ◌==◌, min, Bool, false, List, ◌∷◌, Option, Some, None, option_map, if◌then◌else◌}
use Rattle.store_traits.specs.Faults.{one_more}
use Rattle.folder_disk.specs.declared.folder.Folder as folder_trait
use Rattle.folder_disk.specs.declared.fuse_folder.FuseFolder.{FuseFolder}
use Rattle.folder_disk.specs.Tally.{Tally}

-- the fuse is the outermost
abbrev pub with_fuse : Option ℕ → List ℕ → List ℕ
with_fuse None fuses = fuses
with_fuse (Some left) fuses = left ∷ fuses

abbrev pub with_faults : ℕ → ℕ → ℕ
with_faults own count = min (count + own) (2 ^ 64 - 1)

-- behind a fuse no number bounds the count
abbrev pub most_behind : Option ℕ → ℕ → Option ℕ → Option ℕ
most_behind None own most = option_map (with_faults own) most
most_behind (Some left) own most = None

-- so many calls failed by the fuse, or by one before it
abbrev pub behind_fuse : Option ℕ → ℕ → Tally → Tally
behind_fuse fuse own tally = record { count = with_faults own tally.count; most = most_behind fuse own tally.most; due = record tally.due { fuses = with_fuse fuse tally.due.fuses } }

abbrev pub fused_tally : {F : Type 0} → folder_trait.Ghosts F → FuseFolder F → Tally
fused_tally f folder = behind_fuse folder.left folder.blown (f.tally folder.inner)

abbrev pub left_behind : Option ℕ → Option ℕ
left_behind fuse = option_map (λ left. left - 1) fuse

abbrev pub blown_behind : Option ℕ → ℕ → ℕ
blown_behind None blown = blown
blown_behind (Some left) blown = if left == 0 then one_more blown else blown

abbrev pub is_used_up : Option ℕ → Bool
is_used_up None = false
is_used_up (Some left) = left == 0

-- one call less is let pass, or one more failed
abbrev pub once_used : {F : Type 0} → FuseFolder F → FuseFolder F
once_used folder = record folder { left = left_behind folder.left; blown = blown_behind folder.left folder.blown }
