-- What a folder has memory for.
use Rattle.std.specs.Prelude.{ℕ, ◌+◌, ◌≤◌}

pub record Room : Type 0 where
  pub creates : ℕ
  pub bytes : ℕ
  pub renames : ℕ

pub record HasRoomFor (len : ℕ) (room : Room) : Type 0 where
  pub create : 1 ≤ room.creates
  pub bytes : len ≤ room.bytes
  pub rename : 1 ≤ room.renames

-- at most so much was used up
pub record Uses (creates bytes renames : ℕ) (old new : Room) : Type 0 where
  pub creates_left : old.creates ≤ new.creates + creates
  pub bytes_left : old.bytes ≤ new.bytes + bytes
  pub renames_left : old.renames ≤ new.renames + renames
