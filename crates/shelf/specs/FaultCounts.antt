-- Each Fault has a count that its device had not reached.
use Rattle.std.specs.Prelude.{◌≡◌, ◌⊎◌, ◌<◌, ◌-◌, ◌^◌, ℕ, Bool, true, false, ◌&&◌, nat_le, List, [], ◌∷◌, if◌then◌else◌}
use Rattle.std.specs.List.{list_any}
use Rattle.hist_journal.specs.declared.device.Device.{Device}
use Rattle.hist_journal.specs.declared.device.Device.TheVariants.{Folder, Legacy}
use Rattle.hist_journal.specs.declared.seen.EntrySeen.{EntrySeen}
use Rattle.hist_journal.specs.declared.seen.KindSeen.{KindSeen}
use Rattle.hist_journal.specs.declared.seen.KindSeen.TheVariants.{Fault}
use Rattle.shelf.specs.declared.store.Store.{Store}

abbrev pub is_device : Device → Device → Bool
is_device Folder Folder = true
is_device Legacy Legacy = true
is_device Folder Legacy = false
is_device Legacy Folder = false

abbrev pub count_at_start : {V M : Type 0} → Store V M → Device → ℕ
count_at_start s Folder = s.folder.count
count_at_start s Legacy = s.legacy.count

-- a Fault of this device with this count, or a greater one
abbrev pub has_reached : {V T : Type 0} → Device → ℕ → KindSeen V T → Bool
has_reached device count (Fault failed reached) = is_device device failed && nat_le count reached
has_reached device count other = false

module _ {V T M : Type 0} where
  -- the count is greater than at the start, and than each count of the device before
  pub record IsNewCount (s : Store V M) (before : List (EntrySeen V T)) (device : Device) (count : ℕ) : Type 0 where
    pub start : count_at_start s device < count
    pub earlier : list_any (λ e. has_reached device count e.kind) before ≡ false

  -- a count that is at its end stays there
  abbrev pub RaisesCount : Store V M → List (EntrySeen V T) → KindSeen V T → Type 0
  RaisesCount s before (Fault device count) = IsNewCount s before device count ⊎ (count ≡ 2 ^ 64 - 1)
  RaisesCount s before other = Unit {0}

module _ {V T : Type 0} where
  -- the count that an entry tells of the device, or the count before
  abbrev pub told_count : Device → ℕ → KindSeen V T → ℕ
  told_count device count (Fault failed reached) = if is_device device failed then reached else count
  told_count device count other = count

  -- the count of the device's last Fault, or the count before
  unfoldable pub count_after : Device → ℕ → List (EntrySeen V T) → ℕ
  count_after device count [] = count
  count_after device count (e ∷ es) = count_after device (told_count device count e.kind) es
